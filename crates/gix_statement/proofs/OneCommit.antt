-- A text is read in one way, so no two commits of one id are there: what a history must have is never contradictory.
use Rattle.std.proofs.Common.{◌≡◌, ◌≢◌, ℕ, zero, suc, ℤ, pos, neg_ℤ, nat_lt, nat_le, if◌then◌else◌, ◌^◌, List, [], ◌∷◌, ◌++◌, length, take, replicate, All, AllPairs, Contains, Option, Some, None, codes, refl, sym, ap, subst, ◌∙◌, arith, ⊎_elim, inl, inr}
use Rattle.std.proofs.lemmas.List.Elements.{All-cons, Contains-append_right}
use Rattle.std.specs.Str.Parse.{AllDigits, digits_value}
use Rattle.gix_hash.proofs.Ids.Membership.{Contains-here, Contains-cons_cases, no_member}
use Rattle.gix_hash.specs.declared.ObjectId.{ObjectId}
use Rattle.gix_hash.specs.declared.ObjectId.TheVariants.{Sha1, Sha256}
use Rattle.gix_statement.specs.WholeStatement.{Object, Objects, Row, Agree, AreParentLines, Counts, digits_in, bytes_in, IsCommit, IsHex, none, byte, IsSigned, IsText, IsTime, unsigned, positive, negative, Spells}

-- two texts that begin with parts of one length
pub append_same : (xs ys zs bs : List ℕ) → length xs ≡ length ys → xs ++ zs ≡ ys ++ bs → (xs ≡ ys) × (zs ≡ bs)
append_same [] [] zs bs l e = (refl, e)
append_same [] (y ∷ ys) zs bs l e = absurd (omega (arith, l))
append_same (x ∷ xs) [] zs bs l e = absurd (omega (arith, l))
append_same (x ∷ xs) (y ∷ ys) zs bs l e =
    let head : x ≡ y = cc in
    let more : xs ++ zs ≡ ys ++ bs = cc in
    let h = append_same xs ys zs bs (omega (arith, l)) more in
    ((λ k. head k ∷ h.0 k), h.1)

-- split at the first of a byte
pub first_same : (b : ℕ) (xs ys zs bs : List ℕ) → All (λ x. x ≢ b) xs → All (λ x. x ≢ b) ys → xs ++ b ∷ zs ≡ ys ++ b ∷ bs → (xs ≡ ys) × (zs ≡ bs)
first_same b [] [] zs bs p q e = let same : zs ≡ bs = cc in (refl, same)
first_same b [] (y ∷ ys) zs bs p q e = let head : b ≡ y = cc in absurd (q 0 y (omega arith) (sym head))
first_same b (x ∷ xs) [] zs bs p q e = let head : x ≡ b = cc in absurd (p 0 x (omega arith) head)
first_same b (x ∷ xs) (y ∷ ys) zs bs p q e =
    let head : x ≡ y = cc in
    let more : xs ++ b ∷ zs ≡ ys ++ b ∷ bs = cc in
    let h = first_same b xs ys zs bs (λ k d below. p (suc k) d (omega (arith, below))) (λ k d below. q (suc k) d (omega (arith, below))) more in
    ((λ k. head k ∷ h.0 k), h.1)

not_in : (b : ℕ) (xs zs : List ℕ) → All (λ x. x ≢ b) (xs ++ b ∷ zs) → ⊥
not_in b [] zs h = h 0 b (omega arith) refl
not_in b (x ∷ xs) zs h = not_in b xs zs (λ k d below. h (suc k) d (omega (arith, below)))

-- split at the last of a byte
last_same : (b : ℕ) (xs ys zs bs : List ℕ) → All (λ x. x ≢ b) zs → All (λ x. x ≢ b) bs → xs ++ b ∷ zs ≡ ys ++ b ∷ bs → zs ≡ bs
last_same b [] [] zs bs p q e = let same : zs ≡ bs = cc in same
last_same b [] (y ∷ ys) zs bs p q e = let same : zs ≡ ys ++ b ∷ bs = cc in absurd (not_in b ys bs (subst (All (λ x. x ≢ b)) same p))
last_same b (x ∷ xs) [] zs bs p q e = let same : bs ≡ xs ++ b ∷ zs = cc in absurd (not_in b xs zs (subst (All (λ x. x ≢ b)) same q))
last_same b (x ∷ xs) (y ∷ ys) zs bs p q e = let more : xs ++ b ∷ zs ≡ ys ++ b ∷ bs = cc in last_same b xs ys zs bs p q more

-- spaces in front
spaces_same : (n m : ℕ) (zs bs : List ℕ) → take 1 zs ≢ 32 ∷ [] → take 1 bs ≢ 32 ∷ [] → replicate n 32 ++ zs ≡ replicate m 32 ++ bs → zs ≡ bs
spaces_same zero zero zs bs p q e = e
spaces_same zero (suc m) zs bs p q e = absurd (p (ap (take 1) e))
spaces_same (suc n) zero zs bs p q e = absurd (q (sym (ap (take 1) e)))
spaces_same (suc n) (suc m) zs bs p q e = let more : replicate n 32 ++ zs ≡ replicate m 32 ++ bs = cc in spaces_same n m zs bs p q more

pub hex_same : {text bytes others : List ℕ} → IsHex text bytes → IsHex text others → bytes ≡ others
hex_same none none = refl
hex_same (byte {a = a} {b = b} d h) (byte e i) = (λ k. digits_value 16 (a ∷ b ∷ []) ∷ hex_same h i k)

pub id_same : (i j : ObjectId) → digits_in i ≡ digits_in j → bytes_in i ≡ bytes_in j → i ≡ j
id_same (Sha1 x) (Sha1 y) d e = ap Sha1 e
id_same (Sha1 x) (Sha256 y) d e = absurd (omega (arith, d))
id_same (Sha256 x) (Sha1 y) d e = absurd (omega (arith, d))
id_same (Sha256 x) (Sha256 y) d e = ap Sha256 e

pub spelled_same : (width : ℕ) (text other : List ℕ) (i j : ObjectId) → text ≡ other → Spells width text i → Spells width other j → i ≡ j
spelled_same width text other i j is s t = id_same i j (s.1 ∙ sym t.1) (hex_same s.2 (subst (λ x. IsHex x (bytes_in j)) (sym is) t.2))

-- a line that says an id, and what is behind it
pub line_same : (width : ℕ) (id other more rest : List ℕ) (i j : ObjectId) → Spells width id i → Spells width other j → id ++ 10 ∷ more ≡ other ++ 10 ∷ rest → (i ≡ j) × (more ≡ rest)
line_same width id other more rest i j s t e =
    let h = append_same id other (10 ∷ more) (10 ∷ rest) (s.0 ∙ sym t.0) e in
    let behind : 10 ∷ more ≡ 10 ∷ rest = h.1 in
    let same : more ≡ rest = cc in
    (spelled_same width id other i j h.0 s t, same)

pub drop_word : (word zs bs : List ℕ) → word ++ zs ≡ word ++ bs → zs ≡ bs
drop_word word zs bs e = (append_same word word zs bs refl e).1

parents_same : (width : ℕ) (ps qs : List ObjectId) (text other rest more : List ℕ) → text ≡ other → AreParentLines width ps text rest → AreParentLines width qs other more → (ps ≡ qs) × (rest ≡ more)
parents_same width [] [] text other rest more e (is, no_line) (same, none_there) = (refl, sym is ∙ e ∙ same)
parents_same width [] (q ∷ qs) text other rest more e (is, no_line) (id, behind, s, lines, same) = absurd (no_line (ap (take 7) (sym is ∙ e ∙ same)))
parents_same width (p ∷ ps) [] text other rest more e (id, behind, s, lines, same) (is, no_line) = absurd (no_line (ap (take 7) (sym is ∙ sym e ∙ same)))
parents_same width (p ∷ ps) (q ∷ qs) text other rest more e (id, behind, s, lines, same) (number, after, t, others, is) =
    let cut = drop_word (codes "parent ") (id ++ 10 ∷ behind) (number ++ 10 ∷ after) (sym same ∙ e ∙ is) in
    let l = line_same width id number behind after p q s t cut in
    let h = parents_same width ps qs behind after rest more l.1 lines others in
    ((λ k. l.0 k ∷ h.0 k), h.1)

pub signed_same : (rest x y : List ℕ) → IsSigned rest x → IsSigned rest y → x ≡ y
signed_same rest x y (author, more, a, s, is) (other, behind, b, t, same) =
    let cut = drop_word (codes "author ") (author ++ 10 ∷ (codes "committer " ++ x ++ 10 ∷ more)) (other ++ 10 ∷ (codes "committer " ++ y ++ 10 ∷ behind)) (sym is ∙ same) in
    let lines = first_same 10 author other _ _ a b cut in
    let words = drop_word (codes "committer ") (x ++ 10 ∷ more) (y ++ 10 ∷ behind) lines.1 in
    (first_same 10 x y more behind s t words).0

counts_same : (zs bs : List ℕ) (n m : ℕ) → zs ≡ bs → Counts zs n → Counts bs m → n ≡ m
counts_same zs bs n m e (x, rest, is, digits, stops, value) (y, more, same, others, ends, counted) =
    value ∙ ap (digits_value 10) (go x y rest more digits others stops ends (sym is ∙ e ∙ same)) ∙ sym counted
  where
    go : (x y rest more : List ℕ) → AllDigits 10 x → AllDigits 10 y → (AllDigits 10 (take 1 rest) → rest ≡ []) → (AllDigits 10 (take 1 more) → more ≡ []) → x ++ rest ≡ y ++ more → x ≡ y
    go [] [] rest more d o s t e = refl
    go [] (b ∷ y) rest more d o s t e = let no : [] ≡ b ∷ (y ++ more) = sym (s (subst (λ r. AllDigits 10 (take 1 r)) (sym e) (o.0, tt))) ∙ e in cc
    go (a ∷ x) [] rest more d o s t e = let no : [] ≡ a ∷ (x ++ rest) = sym (t (subst (λ r. AllDigits 10 (take 1 r)) e (d.0, tt))) ∙ sym e in cc
    go (a ∷ x) (b ∷ y) rest more d o s t e =
        let head : a ≡ b = cc in
        let tail : x ++ rest ≡ y ++ more = cc in
        (λ k. head k ∷ go x y rest more d.1 o.1 s t tail k)

minus_is_no_space : (text : List ℕ) → take 1 (45 ∷ text) ≢ 32 ∷ []
minus_is_no_space text e = let same : ◌≡◌ {A = ℕ} 45 32 = cc in omega (arith, same)

plain_minus : (text : List ℕ) → All (λ x. x ≢ 62) text → All (λ x. x ≢ 62) (45 ∷ text)
plain_minus text h = All-cons (λ x. x ≢ 62) 45 text (λ e. omega (arith, e)) h

plain_spaces : (n : ℕ) (text : List ℕ) → All (λ x. x ≢ 62) text → All (λ x. x ≢ 62) (replicate n 32 ++ text)
plain_spaces zero text h = h
plain_spaces (suc n) text h = All-cons (λ x. x ≢ 62) 32 (replicate n 32 ++ text) (λ e. omega (arith, e)) (plain_spaces n text h)

-- what is behind the last `>` and spaces
behind_same : (rest before other text more : List ℕ) (n m : ℕ) → IsSigned rest (before ++ 62 ∷ (replicate n 32 ++ text)) → IsSigned rest (other ++ 62 ∷ (replicate m 32 ++ more))
    → All (λ x. x ≢ 62) text → All (λ x. x ≢ 62) more → take 1 text ≢ 32 ∷ [] → take 1 more ≢ 32 ∷ [] → text ≡ more
behind_same rest before other text more n m s t p q no_space none_there =
    spaces_same n m text more no_space none_there
    (last_same 62 before other (replicate n 32 ++ text) (replicate m 32 ++ more) (plain_spaces n text p) (plain_spaces m more q) (signed_same rest _ _ s t))

time_same : (rest : List ℕ) (t u : ℤ) → IsTime rest t → IsTime rest u → t ≡ u
time_same rest t u (unsigned n) (unsigned m) = refl
time_same rest t u (unsigned n) (positive before text spaces m s plain counts no_space no_minus) = absurd (n _ (Contains-append_right before _ 62 (Contains-here 62 _)) s)
time_same rest t u (unsigned n) (negative before text spaces m s plain counts) = absurd (n _ (Contains-append_right before _ 62 (Contains-here 62 _)) s)
time_same rest t u (positive before text spaces m s plain counts no_space no_minus) (unsigned n) = absurd (n _ (Contains-append_right before _ 62 (Contains-here 62 _)) s)
time_same rest t u (negative before text spaces m s plain counts) (unsigned n) = absurd (n _ (Contains-append_right before _ 62 (Contains-here 62 _)) s)
time_same rest t u (positive before text spaces n s plain counts no_space no_minus) (positive other more blanks m q bare counted unspaced plus) =
    ap (λ k. if nat_lt k (2 ^ 63) then pos k else pos 0) (counts_same text more n m (behind_same rest before other text more spaces blanks s q plain bare no_space unspaced) counts counted)
time_same rest t u (positive before text spaces n s plain counts no_space no_minus) (negative other more blanks m q bare counted) =
    absurd (no_minus (ap (take 1) (behind_same rest before other text (45 ∷ more) spaces blanks s q plain (plain_minus more bare) no_space (minus_is_no_space more))))
time_same rest t u (negative before text spaces n s plain counts) (positive other more blanks m q bare counted unspaced plus) =
    absurd (plus (sym (ap (take 1) (behind_same rest before other (45 ∷ text) more spaces blanks s q (plain_minus text plain) bare (minus_is_no_space text) unspaced))))
time_same rest t u (negative before text spaces n s plain counts) (negative other more blanks m q bare counted) =
    let both : 45 ∷ text ≡ 45 ∷ more = behind_same rest before other (45 ∷ text) (45 ∷ more) spaces blanks s q (plain_minus text plain) (plain_minus more bare) (minus_is_no_space text) (minus_is_no_space more) in
    let same : text ≡ more = cc in
    ap (λ k. if nat_le k (2 ^ 63) then neg_ℤ (pos k) else pos 0) (counts_same text more n m same counts counted)

-- what a text says of a commit
text_same : (objects : Objects) (r s : Row) → r.id ≡ s.id → IsText objects r → IsText objects s → (r.parents ≡ s.parents) × (r.time ≡ s.time)
text_same objects r s one (id, lines, rest, tree, parents, time, is) (number, others, more, t, named, timed, same) =
    let width : digits_in r.id ≡ digits_in s.id = ap digits_in one in
    let found : ◌≡◌ {A = Option Object} (Some (record { kind = codes "commit"; bytes = codes "tree " ++ id ++ 10 ∷ lines })) (Some (record { kind = codes "commit"; bytes = codes "tree " ++ number ++ 10 ∷ others })) =
    sym is ∙ ap objects one ∙ same in
    let texts : codes "tree " ++ id ++ 10 ∷ lines ≡ codes "tree " ++ number ++ 10 ∷ others = ap (λ (o : Object). o.bytes) (some_same _ _ found) in
    let cut = drop_word (codes "tree ") (id ++ 10 ∷ lines) (number ++ 10 ∷ others) texts in
    let l = line_same (digits_in r.id) id number lines others r.tree s.tree tree (subst (λ w. Spells w number s.tree) (sym width) t) cut in
    let p = parents_same (digits_in r.id) r.parents s.parents lines others rest more l.1 parents (subst (λ w. AreParentLines w s.parents others more) (sym width) named) in
    (p.0, time_same more r.time s.time (subst (λ x. IsTime x r.time) p.1 time) timed)
  where
    some_same : (a b : Object) → ◌≡◌ {A = Option Object} (Some a) (Some b) → a ≡ b
    some_same a b e = cc

row_same : (rows : List Row) → AllPairs (λ r s. r.id ≢ s.id) rows → (r s : Row) → Contains rows r → Contains rows s → r.id ≡ s.id → r ≡ s
row_same [] apart r s in_r in_s one = absurd (no_member r in_r)
row_same (x ∷ rows) apart r s in_r in_s one = ⊎_elim
    (λ e. ⊎_elim (λ f. sym e ∙ f) (λ m. absurd (later s m (ap (λ (y : Row). y.id) e ∙ one))) (Contains-cons_cases s x rows in_s))
    (λ m. ⊎_elim
    (λ f. absurd (later r m (ap (λ (y : Row). y.id) f ∙ sym one)))
    (λ n. row_same rows (λ a b d l below. apart (suc a) (suc b) d (omega (arith, l)) (omega (arith, below))) r s m n one)
    (Contains-cons_cases s x rows in_s))
    (Contains-cons_cases r x rows in_r)
  where
    later : (y : Row) → Contains rows y → x.id ≡ y.id → ⊥
    later y (k, below, is) e = apart 0 (suc k) y (omega arith) (omega (arith, below)) (e ∙ ap (λ (z : Row). z.id) (sym is))

-- ONE COMMIT: of those that are there
pub one_commit : (objects : Objects) (rows : List Row) → Agree objects rows → (r s : Row) → r.id ≡ s.id → IsCommit objects rows r → IsCommit objects rows s → (r.parents ≡ s.parents) × (r.time ≡ s.time)
one_commit objects rows agree r s one (inl a) (inl b) = text_same objects r s one a b
one_commit objects rows agree r s one (inl (id, lines, rest, tree, parents, time, is)) (inr (nothing, row)) = let no : Some _ ≡ None = sym is ∙ ap objects one ∙ nothing in cc
one_commit objects rows agree r s one (inr (nothing, row)) (inl (id, lines, rest, tree, parents, time, is)) = let no : Some _ ≡ None = sym is ∙ ap objects (sym one) ∙ nothing in cc
one_commit objects rows agree r s one (inr (nothing, a)) (inr (none_there, b)) = let e = row_same rows agree.0 r s a b one in (ap (λ (x : Row). x.parents) e, ap (λ (x : Row). x.time) e)

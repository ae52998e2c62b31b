-- There is a history: of each id it is decided whether a commit is there, and what it says.
use Rattle.std.proofs.Common.{◌≡◌, ◌≢◌, ◌⊎◌, ◌<◌, ◌≤◌, ◌+◌, ℕ, zero, suc, ℤ, pos, Bool, true, false, List, [], ◌∷◌, ◌++◌, length, take, drop, replicate, Option, Some, None, All, Contains, codes, refl, sym, ap, subst, ◌∙◌, arith, ⊎_elim, inl, inr, length-append}
use Rattle.std.proofs.lemmas.Bool.{false≢true}
use Rattle.std.proofs.lemmas.List.Elements.{All-cons, All-nil}
use Rattle.std.specs.Char.{digit_value}
use Rattle.std.specs.Str.Parse.{AllDigits, digits_value}
use Rattle.gix_hash.proofs.Ids.Membership.{Contains-here, Contains-there, Contains-cons_cases, no_member, same_is, same_from}
use Rattle.gix_hash.specs.Id.{is_same}
use Rattle.gix_hash.specs.declared.ObjectId.{ObjectId}
use Rattle.gix_hash.specs.declared.ObjectId.TheVariants.{Sha1, Sha256}
use Rattle.gix_statement.proofs.Carried.{equal_numbers, equal_lists}
use Rattle.gix_statement.proofs.OneCommit.{one_commit, drop_word, line_same, first_same, append_same, signed_same}
use Rattle.gix_statement.specs.WholeStatement.{Object, Objects, Row, AreParentLines, Counts, digits_in, bytes_in, IsCommit, IsHex, none, byte, IsSigned, IsText, IsTime, unsigned, positive, negative, Spells, HaveHistory}

pub below : (a b : ℕ) → (a < b) ⊎ (b ≤ a)
below a zero = inr (omega arith)
below zero (suc b) = inl (omega arith)
below (suc a) (suc b) = ⊎_elim (λ l. inl (omega (arith, l))) (λ l. inr (omega (arith, l))) (below a b)

-- a text begins with a word, or doesn't
strip : (word text : List ℕ) → ((more : List ℕ) × (text ≡ word ++ more)) ⊎ ((more : List ℕ) → text ≢ word ++ more)
strip [] text = inl (text, refl)
strip (b ∷ word) [] = inr (λ more e. cc)
strip (b ∷ word) (x ∷ text) = ⊎_elim
    (λ e. ⊎_elim (λ s. inl (s.0, (λ k. e k ∷ s.1 k))) (λ n. inr (λ more f. n more (let h : text ≡ word ++ more = cc in h))) (strip word text))
    (λ n. inr (λ more f. n (let h : x ≡ b = cc in h)))
    (equal_numbers x b)

-- its first line
line : (text : List ℕ) → ((front : List ℕ) × (more : List ℕ) × All (λ b. b ≢ 10) front × (text ≡ front ++ 10 ∷ more)) ⊎ ((front more : List ℕ) → text ≢ front ++ 10 ∷ more)
line [] = inr no_text
  where
    no_text : (front more : List ℕ) → [] ≢ front ++ 10 ∷ more
    no_text [] more e = cc
    no_text (x ∷ front) more e = cc
line (x ∷ text) = ⊎_elim
    (λ e. inl ([], text, All-nil (λ b. b ≢ 10), (λ k. e k ∷ text)))
    (λ n. ⊎_elim
    (λ s. inl (x ∷ s.0, s.1, All-cons (λ b. b ≢ 10) x s.0 n s.2, ap (λ xs. x ∷ xs) s.3))
    (λ m. inr (no_line n m))
    (line text))
    (equal_numbers x 10)
  where
    no_line : x ≢ 10 → ((front more : List ℕ) → text ≢ front ++ 10 ∷ more) → (front more : List ℕ) → x ∷ text ≢ front ++ 10 ∷ more
    no_line n m [] more e = n (let h : x ≡ 10 = cc in h)
    no_line n m (y ∷ front) more e = m front more (let h : text ≡ front ++ 10 ∷ more = cc in h)

-- so many bytes and a newline
cut : (n : ℕ) (text : List ℕ) → ((front : List ℕ) × (more : List ℕ) × (length front ≡ n) × (text ≡ front ++ 10 ∷ more)) ⊎ ((front more : List ℕ) → length front ≡ n → text ≢ front ++ 10 ∷ more)
cut zero [] = inr no_text
  where
    no_text : (front more : List ℕ) → length front ≡ 0 → [] ≢ front ++ 10 ∷ more
    no_text [] more l e = cc
    no_text (x ∷ front) more l e = omega (arith, l)
cut zero (x ∷ text) = ⊎_elim (λ e. inl ([], text, refl, (λ k. e k ∷ text))) (λ n. inr (no_text n)) (equal_numbers x 10)
  where
    no_text : x ≢ 10 → (front more : List ℕ) → length front ≡ 0 → x ∷ text ≢ front ++ 10 ∷ more
    no_text n [] more l e = n (let h : x ≡ 10 = cc in h)
    no_text n (y ∷ front) more l e = omega (arith, l)
cut (suc n) [] = inr no_text
  where
    no_text : (front more : List ℕ) → length front ≡ suc n → [] ≢ front ++ 10 ∷ more
    no_text [] more l e = cc
    no_text (x ∷ front) more l e = cc
cut (suc n) (x ∷ text) = ⊎_elim (λ s. inl (x ∷ s.0, s.1, omega (arith, s.2), ap (λ xs. x ∷ xs) s.3)) (λ m. inr (no_text m)) (cut n text)
  where
    no_text : ((front more : List ℕ) → length front ≡ n → text ≢ front ++ 10 ∷ more) → (front more : List ℕ) → length front ≡ suc n → x ∷ text ≢ front ++ 10 ∷ more
    no_text m [] more l e = omega (arith, l)
    no_text m (y ∷ front) more l e = m front more (omega (arith, l)) (let h : text ≡ front ++ 10 ∷ more = cc in h)

hex : (text : List ℕ) → ((bytes : List ℕ) × IsHex text bytes) ⊎ ((bytes : List ℕ) → IsHex text bytes → ⊥)
hex [] = inl ([], none)
hex (a ∷ []) = inr odd
  where
    odd : (bytes : List ℕ) → IsHex (a ∷ []) bytes → ⊥
    odd bytes h = go (a ∷ []) bytes refl h
      where
        go : (text bytes : List ℕ) → length text ≡ 1 → IsHex text bytes → ⊥
        go text bytes l none = omega (arith, l)
        go text bytes l (byte d h) = omega (arith, l)
hex (a ∷ b ∷ text) = ⊎_elim
    (λ p. ⊎_elim (λ q. ⊎_elim (λ h. inl (digits_value 16 (a ∷ b ∷ []) ∷ h.0, byte {a = a} {b = b} (p, (q, tt)) h.1)) (λ n. inr (no_more n)) (hex text)) (λ q. inr (second q)) (below (digit_value b) 16))
    (λ p. inr (lead p)) (below (digit_value a) 16)
  where
    no_more : ((bytes : List ℕ) → IsHex text bytes → ⊥) → (bytes : List ℕ) → IsHex (a ∷ b ∷ text) bytes → ⊥
    no_more n bytes (byte {bytes = rest} d h) = n rest h

    second : 16 ≤ digit_value b → (bytes : List ℕ) → IsHex (a ∷ b ∷ text) bytes → ⊥
    second l bytes (byte d h) = omega (arith, l, d.1.0)

    lead : 16 ≤ digit_value a → (bytes : List ℕ) → IsHex (a ∷ b ∷ text) bytes → ⊥
    lead l bytes (byte d h) = omega (arith, l, d.0)

-- an id of the kind of another
abbrev like : ObjectId → List ℕ → ObjectId
like (Sha1 x) bytes = Sha1 bytes
like (Sha256 x) bytes = Sha256 bytes

like_digits : (i : ObjectId) (bytes : List ℕ) → digits_in (like i bytes) ≡ digits_in i
like_digits (Sha1 x) bytes = refl
like_digits (Sha256 x) bytes = refl

like_bytes : (i : ObjectId) (bytes : List ℕ) → bytes_in (like i bytes) ≡ bytes
like_bytes (Sha1 x) bytes = refl
like_bytes (Sha256 x) bytes = refl

-- a line that says an id
abbrev SaysId : ObjectId → List ℕ → Type 0
SaysId i text = (id : List ℕ) × (more : List ℕ) × (j : ObjectId) × Spells (digits_in i) id j × (text ≡ id ++ 10 ∷ more)

says_id : (i : ObjectId) (text : List ℕ) → SaysId i text ⊎ (SaysId i text → ⊥)
says_id i text = ⊎_elim
    (λ c. ⊎_elim (λ h. inl (c.0, c.1, like i h.0, (c.2, like_digits i h.0, subst (IsHex c.0) (sym (like_bytes i h.0)) h.1), c.3))
    (λ n. inr (λ s. n (bytes_in s.2) (subst (λ x. IsHex x (bytes_in s.2)) (append_same s.0 c.0 (10 ∷ s.1) (10 ∷ c.1) (s.3.0 ∙ sym c.2) (sym s.4 ∙ c.3)).0 s.3.2))) (hex c.0))
    (λ n. inr (λ s. n s.0 s.1 s.3.0 s.4))
    (cut (digits_in i) text)

taken_back : (n : ℕ) (xs : List ℕ) → xs ≡ take n xs ++ drop n xs
taken_back zero xs = refl
taken_back (suc n) [] = refl
taken_back (suc n) (x ∷ xs) = ap (λ ys. x ∷ ys) (taken_back n xs)

abbrev HasParents : ObjectId → List ℕ → Type 0
HasParents i text = (ps : List ObjectId) × (rest : List ℕ) × AreParentLines (digits_in i) ps text rest

has_parents : (n : ℕ) (i : ObjectId) (text : List ℕ) → length text ≤ n → HasParents i text ⊎ (HasParents i text → ⊥)
has_parents zero i [] l = inl ([], [], (refl, λ e. cc))
has_parents zero i (x ∷ text) l = absurd (omega (arith, l))
has_parents (suc n) i text l = ⊎_elim
    (λ s. ⊎_elim (λ j. more_of s j (has_parents n i j.1 (shorter s j))) (λ m. inr (no_id s m)) (says_id i s.0))
    (λ m. inl ([], text, (refl, λ e. m (drop 7 text) (taken_back 7 text ∙ ap (λ w. w ++ drop 7 text) e))))
    (strip (codes "parent ") text)
  where
    shorter : (s : (more : List ℕ) × (text ≡ codes "parent " ++ more)) (j : SaysId i s.0) → length j.1 ≤ n
    shorter s j =
        let a : length text ≡ suc (suc (suc (suc (suc (suc (suc (length s.0))))))) = ap length s.1 in
        let b : length s.0 ≡ length j.0 + suc (length j.1) = ap length j.4 ∙ length-append j.0 (10 ∷ j.1) in
        omega (arith, a, b, l)

    no_id : (s : (more : List ℕ) × (text ≡ codes "parent " ++ more)) → (SaysId i s.0 → ⊥) → HasParents i text → ⊥
    no_id s m ([], rest, (is, plain)) = plain (ap (take 7) (sym is ∙ s.1))
    no_id s m (p ∷ ps, rest, (id, more, spells, lines, same)) = m (id, more, p, spells, drop_word (codes "parent ") s.0 (id ++ 10 ∷ more) (sym s.1 ∙ same))

    more_of : (s : (more : List ℕ) × (text ≡ codes "parent " ++ more)) (j : SaysId i s.0) → HasParents i j.1 ⊎ (HasParents i j.1 → ⊥) → HasParents i text ⊎ (HasParents i text → ⊥)
    more_of s j (inl (ps, rest, lines)) = inl (j.2 ∷ ps, rest, (j.0, j.1, j.3, lines, s.1 ∙ ap (λ w. codes "parent " ++ w) j.4))
    more_of s j (inr m) = inr none_there
      where
        none_there : HasParents i text → ⊥
        none_there ([], rest, (is, plain)) = plain (ap (take 7) (sym is ∙ s.1))
        none_there (p ∷ ps, rest, (id, more, spells, lines, same)) =
            let tail = line_same (digits_in i) id j.0 more j.1 p j.2 spells j.3 (sym (drop_word (codes "parent ") s.0 (id ++ 10 ∷ more) (sym s.1 ∙ same)) ∙ j.4) in
            m (ps, rest, subst (λ t. AreParentLines (digits_in i) ps t rest) tail.1 lines)

-- SIGNATURES
abbrev HasSignature : List ℕ → Type 0
HasSignature rest = (signature : List ℕ) × IsSigned rest signature

has_signature : (rest : List ℕ) → HasSignature rest ⊎ (HasSignature rest → ⊥)
has_signature rest = ⊎_elim (λ s. ⊎_elim (λ l. ⊎_elim (λ t. ⊎_elim
    (λ m. inl (m.0, (l.0, m.1, l.2, m.2, s.1 ∙ ap (λ w. codes "author " ++ w) (l.3 ∙ ap (λ w. l.0 ++ 10 ∷ w) (t.1 ∙ ap (λ w. codes "committer " ++ w) m.3)))))
    (λ n. inr (λ h. n h.0 h.1.1 (drop_word (codes "committer ") t.0 (h.0 ++ 10 ∷ h.1.1) (sym t.1 ∙ behind s l h)))) (line t.0))
    (λ n. inr (λ h. n (h.0 ++ 10 ∷ h.1.1) (behind s l h))) (strip (codes "committer ") l.1))
    (λ n. inr (λ h. n h.1.0 (codes "committer " ++ h.0 ++ 10 ∷ h.1.1) (drop_word (codes "author ") s.0 (h.1.0 ++ 10 ∷ (codes "committer " ++ h.0 ++ 10 ∷ h.1.1)) (sym s.1 ∙ h.1.4)))) (line s.0))
    (λ n. inr (λ h. n (h.1.0 ++ 10 ∷ (codes "committer " ++ h.0 ++ 10 ∷ h.1.1)) h.1.4)) (strip (codes "author ") rest)
  where
    behind : (s : (more : List ℕ) × (rest ≡ codes "author " ++ more)) (l : (front : List ℕ) × (more : List ℕ) × All (λ b. b ≢ 10) front × (s.0 ≡ front ++ 10 ∷ more)) (h : HasSignature rest)
        → l.1 ≡ codes "committer " ++ h.0 ++ 10 ∷ h.1.1
    behind s l h =
        let e = drop_word (codes "author ") s.0 (h.1.0 ++ 10 ∷ (codes "committer " ++ h.0 ++ 10 ∷ h.1.1)) (sym s.1 ∙ h.1.4) in
        (first_same 10 l.0 h.1.0 l.1 (codes "committer " ++ h.0 ++ 10 ∷ h.1.1) l.2 h.1.2 (sym l.3 ∙ e)).1

last_of : (b : ℕ) (text : List ℕ) → ((before after : List ℕ) × (text ≡ before ++ b ∷ after) × All (λ x. x ≢ b) after) ⊎ All (λ x. x ≢ b) text
last_of b [] = inr (All-nil (λ x. x ≢ b))
last_of b (x ∷ text) = ⊎_elim
    (λ s. inl (x ∷ s.0, s.1, ap (λ xs. x ∷ xs) s.2, s.3))
    (λ n. ⊎_elim (λ e. inl ([], text, (λ k. e k ∷ text), n)) (λ m. inr (All-cons (λ x. x ≢ b) x text m n)) (equal_numbers x b))
    (last_of b text)

spaces : (text : List ℕ) → (n : ℕ) × (more : List ℕ) × (text ≡ replicate n 32 ++ more) × (take 1 more ≢ 32 ∷ [])
spaces [] = (0, [], refl, λ e. cc)
spaces (x ∷ text) = ⊎_elim
    (λ e. let s = spaces text in (suc s.0, s.1, (λ k. e k ∷ s.2 k), s.3))
    (λ n. (0, x ∷ text, refl, λ e. n (let h : x ≡ 32 = cc in h)))
    (equal_numbers x 32)

count : (text : List ℕ) → (number rest : List ℕ) × (text ≡ number ++ rest) × AllDigits 10 number × (AllDigits 10 (take 1 rest) → rest ≡ [])
count [] = ([], [], refl, tt, λ d. refl)
count (x ∷ text) = ⊎_elim
    (λ l. let c = count text in (x ∷ c.0, c.1, ap (λ xs. x ∷ xs) c.2, (l, c.3), c.4))
    (λ l. ([], x ∷ text, refl, tt, λ d. absurd (omega (arith, l, d.0))))
    (below (digit_value x) 10)

counts : (text : List ℕ) → (n : ℕ) × Counts text n
counts text = let c = count text in (digits_value 10 c.0, (c.0, c.1, c.2, c.3, c.4, refl))

all_behind : (n : ℕ) (more : List ℕ) → All (λ x. x ≢ 62) (replicate n 32 ++ more) → All (λ x. x ≢ 62) more
all_behind zero more h = h
all_behind (suc n) more h = all_behind n more (λ k d l. h (suc k) d (omega (arith, l)))

rest_all : (x : ℕ) (more : List ℕ) → All (λ x. x ≢ 62) (x ∷ more) → All (λ x. x ≢ 62) more
rest_all x more h k d l = h (suc k) d (omega (arith, l))

time_behind : (rest before more : List ℕ) (n : ℕ) → IsSigned rest (before ++ 62 ∷ (replicate n 32 ++ more)) → All (λ x. x ≢ 62) more → take 1 more ≢ 32 ∷ [] → (t : ℤ) × IsTime rest t
time_behind rest before [] n s plain spaced = let c = counts [] in (_, positive before [] n c.0 s plain c.1 spaced (λ e. cc))
time_behind rest before (x ∷ more) n s plain spaced = ⊎_elim
    (λ e. let c = counts more in
    (_, negative before more n c.0 (subst (λ y. IsSigned rest (before ++ 62 ∷ (replicate n 32 ++ y ∷ more))) e s) (rest_all x more plain) c.1))
    (λ m. let c = counts (x ∷ more) in (_, positive before (x ∷ more) n c.0 s plain c.1 spaced (λ e. m (let h : x ≡ 45 = cc in h))))
    (equal_numbers x 45)

without_it : (text : List ℕ) → All (λ x. x ≢ 62) text → Contains text 62 → ⊥
without_it text h (k, l, is) = h k 62 l is

pub a_time : (rest : List ℕ) → (t : ℤ) × IsTime rest t
a_time rest = ⊎_elim
    (λ h. ⊎_elim
    (λ l. let s = spaces l.1 in time_behind rest l.0 s.1 s.0 (subst (IsSigned rest) (l.2 ∙ ap (λ w. l.0 ++ 62 ∷ w) s.2) h.1) (all_behind s.0 s.1 (subst (All (λ x. x ≢ 62)) s.2 l.3)) s.3)
    (λ n. (pos 0, unsigned (λ signature c s. without_it h.0 n (subst (λ x. Contains x 62) (signed_same rest signature h.0 s h.1) c))))
    (last_of 62 h.0))
    (λ n. (pos 0, unsigned (λ signature c s. n (signature, s))))
    (has_signature rest)

-- TEXTS
abbrev HasText : Objects → ObjectId → Type 0
HasText objects i = (r : Row) × (r.id ≡ i) × IsText objects r

has_text : (objects : Objects) (i : ObjectId) (o : Object) → objects i ≡ Some o → HasText objects i ⊎ (HasText objects i → ⊥)
has_text objects i o is = ⊎_elim (λ k. ⊎_elim (λ s. ⊎_elim (λ j. ⊎_elim
    (λ p. let t = a_time p.1 in
    inl (record { id = i; tree = j.2; parents = p.0; time = t.0 }, refl, (j.0, j.1, p.1, j.3, p.2, t.1, is ∙ ap Some (λ l. record { kind = k l; bytes = (s.1 ∙ ap (λ w. codes "tree " ++ w) j.4) l }))))
    (λ n. inr (λ h. n (let e = found h in let l = line_same (digits_in i) h.2.0 j.0 h.2.1 j.1 h.0.tree j.2 (spelled h) j.3 (sym (tree_line s h) ∙ j.4) in
    (h.0.parents, h.2.2, subst (λ w. AreParentLines (digits_in i) h.0.parents w h.2.2) l.1 (subst (λ w. AreParentLines w h.0.parents h.2.1 h.2.2) (ap digits_in h.1) h.2.4)))))
    (has_parents (length j.1) i j.1 (omega arith)))
    (λ n. inr (λ h. n (h.2.0, h.2.1, h.0.tree, spelled h, tree_line s h))) (says_id i s.0))
    (λ n. inr (λ h. n (h.2.0 ++ 10 ∷ h.2.1) (ap (λ (x : Object). x.bytes) (found h)))) (strip (codes "tree ") o.bytes))
    (λ n. inr (λ h. n (ap (λ (x : Object). x.kind) (found h)))) (equal_lists o.kind (codes "commit"))
  where
    some_same : (a b : Object) → ◌≡◌ {A = Option Object} (Some a) (Some b) → a ≡ b
    some_same a b e = cc

    found : (h : HasText objects i) → o ≡ record { kind = codes "commit"; bytes = codes "tree " ++ h.2.0 ++ 10 ∷ h.2.1 }
    found h = some_same _ _ (sym is ∙ ap objects (sym h.1) ∙ h.2.6)

    spelled : (h : HasText objects i) → Spells (digits_in i) h.2.0 h.0.tree
    spelled h = subst (λ w. Spells w h.2.0 h.0.tree) (ap digits_in h.1) h.2.3

    tree_line : (s : (more : List ℕ) × (o.bytes ≡ codes "tree " ++ more)) (h : HasText objects i) → s.0 ≡ h.2.0 ++ 10 ∷ h.2.1
    tree_line s h = drop_word (codes "tree ") s.0 (h.2.0 ++ 10 ∷ h.2.1) (sym s.1 ∙ ap (λ (x : Object). x.bytes) (found h))

abbrev HasRow : List Row → ObjectId → Type 0
HasRow rows i = (r : Row) × (r.id ≡ i) × Contains rows r

has_row : (rows : List Row) (i : ObjectId) → HasRow rows i ⊎ (HasRow rows i → ⊥)
has_row [] i = inr (λ h. no_member h.0 h.2)
has_row (r ∷ rows) i = go (is_same r.id i) refl (has_row rows i)
  where
    go : (b : Bool) → is_same r.id i ≡ b → HasRow rows i ⊎ (HasRow rows i → ⊥) → HasRow (r ∷ rows) i ⊎ (HasRow (r ∷ rows) i → ⊥)
    go true e h = inl (r, same_is r.id i e, Contains-here r rows)
    go false e (inl h) = inl (h.0, h.1, Contains-there h.0 r rows h.2)
    go false e (inr n) = inr (λ h. ⊎_elim (λ s. false≢true (sym e ∙ same_from r.id i (ap (λ (x : Row). x.id) s ∙ h.1))) (λ m. n (h.0, h.1, m)) (Contains-cons_cases h.0 r rows h.2))

abbrev HasCommit : Objects → List Row → ObjectId → Type 0
HasCommit objects rows i = (r : Row) × (r.id ≡ i) × IsCommit objects rows r

has_commit : (objects : Objects) (rows : List Row) (i : ObjectId) → HasCommit objects rows i ⊎ (HasCommit objects rows i → ⊥)
has_commit objects rows i = go (objects i) refl
  where
    go : (o : Option Object) → objects i ≡ o → HasCommit objects rows i ⊎ (HasCommit objects rows i → ⊥)
    go (Some o) e = ⊎_elim (λ h. inl (h.0, h.1, inl h.2)) (λ n. inr (no_text n)) (has_text objects i o e)
      where
        no_text : (HasText objects i → ⊥) → HasCommit objects rows i → ⊥
        no_text n (r, is, inl text) = n (r, is, text)
        no_text n (r, is, inr (nothing, row)) = let no : Some o ≡ None = sym e ∙ ap objects (sym is) ∙ nothing in cc
    go None e = ⊎_elim (λ h. inl (h.0, h.1, inr (ap objects h.1 ∙ e, h.2))) (λ n. inr (no_row n)) (has_row rows i)
      where
        no_row : (HasRow rows i → ⊥) → HasCommit objects rows i → ⊥
        no_row n (r, is, inr (nothing, row)) = n (r, is, row)
        no_row n (r, is, inl (id, lines, rest, tree, ps, time, found)) = let no : None ≡ Some _ = sym e ∙ ap objects (sym is) ∙ found in cc

pub have_history : HaveHistory
have_history objects rows agree = (λ i. parents_of (has_commit objects rows i), λ i. time_of (has_commit objects rows i), λ r c. go r c (has_commit objects rows r.id))
  where
    parents_of : {i : ObjectId} → HasCommit objects rows i ⊎ (HasCommit objects rows i → ⊥) → List ObjectId
    parents_of (inl h) = h.0.parents
    parents_of (inr n) = []

    time_of : {i : ObjectId} → HasCommit objects rows i ⊎ (HasCommit objects rows i → ⊥) → ℤ
    time_of (inl h) = h.0.time
    time_of (inr n) = pos 0

    go : (r : Row) → IsCommit objects rows r → (d : HasCommit objects rows r.id ⊎ (HasCommit objects rows r.id → ⊥)) → (parents_of d ≡ r.parents) × (time_of d ≡ r.time)
    go r c (inl h) = one_commit objects rows agree h.0 r h.1 h.2 c
    go r c (inr n) = absurd (n (r, refl, c))

-- The records, the texts of commits and the times that are read are those of the statement.
use Rattle.std.proofs.Common.{◌≡◌, ◌≢◌, ◌⊎◌, ◌==◌, ℕ, suc, List, [], ◌∷◌, ◌++◌, map, length, take, replicate, Bool, true, false, cond, Option, Some, None, All, Contains, codes, refl, sym, ap, subst, ◌∙◌, inl, inr, ⊎_elim, arith}
use Rattle.std.proofs.Common.{append_assoc, get_or, eqb-true, eq-eqb}
use Rattle.std.specs.FinMap as map_of
use Rattle.gix_commands.proofs.Common.{get, cond-true, cond-false, false≢true, All-nil, All-cons, All-contains, Contains-append_right, same_Some, none-some, ObjectId, id_cmp, is_same, id_total, same_is, same_from, Contains-here}
use Rattle.gix_commands.proofs.Common.{Contains-there, Contains-cons_cases, no_member, behind_last, without_spaces, digits_from, signed_seconds, seconds_behind, seconds_of, Object, Objects, kind_word, put_in, stored, Spells}
use Rattle.gix_hash.specs.declared.Kind.{Kind}
use Rattle.gix_object.specs.declared.Kind.{Kind as ObjectKind}
use Rattle.gix_object.specs.declared.Kind.TheVariants as kind
use Rattle.gix_object.specs.CommitText as text
use Rattle.gix_records.specs.Records as records
use Rattle.std.specs.Option.{option_map}
use Rattle.gix_records.specs.Input.{Tells}
use Rattle.gix_statement.specs.WholeStatement as page
use Rattle.gix_statement.specs.WholeStatement.{AreFed, AreRecords, IsLast, kinds}
use Rattle.gix_commands.specs.Pages.{as_page, page_objects}
use Rattle.gix_commands.proofs.TextLines.{AreParentLines, IsTime, unsigned, positive, negative}
use Rattle.gix_commands.proofs.SameNumbers.{hex_spelled, spelled, spells_again, is_decimal, counts, width_of}

-- a record, with the word of its kind
abbrev pub worded : records.Record → ObjectId × page.Object
worded r = (r.id, record { kind = kind_word r.kind; bytes = r.bytes })

is_kind : (k : ObjectKind) → Contains kinds (kind_word k)
is_kind kind.Tree = (0, omega arith, refl)
is_kind kind.Blob = (1, omega arith, refl)
is_kind kind.Commit = (2, omega arith, refl)
is_kind kind.Tag = (3, omega arith, refl)

are_records : (rs : List records.Record) (input : List ℕ) → records.AreRecords rs input → AreRecords (map worded rs) input
are_records [] input h = h
are_records (r ∷ rs) input (rest, is, more) =
    (is.id_digits, is.length_digits, rest, is_kind r.kind, hex_spelled is.id_digits r.id is.is_id, is_decimal is.length_digits (length r.bytes) is.is_length, are_records rs rest more, is.whole)

-- no record has this id
abbrev HasNone : List records.Record → ObjectId → Type 0
HasNone rs i = (o : page.Object) → Contains (map worded rs) (i, o) → ⊥

none_more : (r : records.Record) (rs : List records.Record) (i : ObjectId) → r.id ≢ i → HasNone rs i → HasNone (r ∷ rs) i
none_more r rs i other none o c = ⊎_elim (λ e. other (ap (λ p. p.0) e)) (none o) (Contains-cons_cases (i, o) (worded r) (map worded rs) c)

abbrev object_of : records.Record → Object
object_of r = record { kind = r.kind; bytes = r.bytes }

abbrev put : Objects → records.Record → Objects
put objects r = map_of.insert objects r.id (object_of r)

pub get_put : (objects : Objects) (r : records.Record) (i : ObjectId) → get (put objects r) i ≡ cond (is_same i r.id) (Some (object_of r)) (get objects i)
get_put objects r i = map_of.get-insert id_total objects r.id (object_of r) i

-- an object is that of the last record of its id, or was there before
of_record : (rs : List records.Record) (objects : Objects) (i : ObjectId) (o : Object) → get (put_in objects rs) i ≡ Some o → IsLast (map worded rs) i (Some (as_page o)) ⊎ ((get objects i ≡ Some o) × HasNone rs i)
of_record [] objects i o e = inr (e, λ q c. absurd (no_member (i, q) c))
of_record (r ∷ rs) objects i o e = ⊎_elim (λ h. inl (worded r ∷ h.0, h.1, ap (λ xs. worded r ∷ xs) h.2, h.3)) (λ h. go (is_same i r.id) refl (sym (get_put objects r i) ∙ h.0) h.1) (of_record rs (put objects r) i o e)
  where
    go : (t : Bool) → is_same i r.id ≡ t → cond t (Some (object_of r)) (get objects i) ≡ Some o → HasNone rs i → IsLast (map worded (r ∷ rs)) i (Some (as_page o)) ⊎ ((get objects i ≡ Some o) × HasNone (r ∷ rs) i)
    go true s e none =
        let same : object_of r ≡ o = same_Some (object_of r) o e in
        inl ([], map worded rs, (λ k. (sym (same_is i r.id s) k, as_page (same k)) ∷ map worded rs), none)
    go false s e none = inr (e, none_more r rs i (λ same. false≢true (sym s ∙ same_from i r.id (sym same))) none)

-- once an id has an object it keeps one
some_stays : (rs : List records.Record) (objects : Objects) (i : ObjectId) (o : Object) → get objects i ≡ Some o → (p : Object) × (get (put_in objects rs) i ≡ Some p)
some_stays [] objects i o e = (o, e)
some_stays (r ∷ rs) objects i o e = go (some_stays rs (put objects r) i) (is_same i r.id) refl
  where
    go : ((p : Object) → get (put objects r) i ≡ Some p → (q : Object) × (get (put_in (put objects r) rs) i ≡ Some q)) → (t : Bool) → is_same i r.id ≡ t → (p : Object) × (get (put_in (put objects r) rs) i ≡ Some p)
    go more true s = more (object_of r) (get_put objects r i ∙ cond-true (is_same i r.id) _ _ s)
    go more false s = more o (get_put objects r i ∙ cond-false (is_same i r.id) _ _ s ∙ e)

is_stored : (rs : List records.Record) (objects : Objects) (i : ObjectId) (o : page.Object) → Contains (map worded rs) (i, o) → (p : Object) × (get (put_in objects rs) i ≡ Some p)
is_stored [] objects i o c = absurd (no_member (i, o) c)
is_stored (r ∷ rs) objects i o c =
    ⊎_elim
    (λ e. some_stays rs (put objects r) i (object_of r) (get_put objects r i ∙ cond-true (is_same i r.id) _ _ (same_from i r.id (sym (ap (λ p. p.0) e)))))
    (is_stored rs (put objects r) i o)
    (Contains-cons_cases (i, o) (worded r) (map worded rs) c)

-- the objects of records, as the statement has them
abbrev pub fed : List records.Record → page.Objects
fed rs = page_objects (stored rs)

is_last : (rs : List records.Record) (i : ObjectId) → IsLast (map worded rs) i (fed rs i)
is_last rs i = go (get (stored rs) i) refl
  where
    go : (o : Option Object) → get (stored rs) i ≡ o → IsLast (map worded rs) i (option_map as_page o)
    go None e = λ o c. let s = is_stored rs map_of.empty i o c in none-some s.0 (sym e ∙ s.1)
    go (Some o) e = ⊎_elim (λ h. h) (λ h. let no : None ≡ Some o = sym (map_of.get-empty id_cmp i) ∙ h.0 in absurd (none-some o no)) (of_record rs map_of.empty i o e)

pub are_fed : (rs : List records.Record) (has : Option (List ℕ)) (input : List ℕ) → Tells has input → records.AreRecords rs input → AreFed has (fed rs)
are_fed rs None input h are = (input, inl refl, map worded rs, are_records rs input are, is_last rs)
are_fed rs (Some bytes) input h are = (input, inr (ap Some (sym h)), map worded rs, are_records rs input are, is_last rs)

-- the object of an id has this kind and these bytes
abbrev pub IsHeld : Objects → ObjectId → List ℕ → List ℕ → Type 0
IsHeld objects i word bytes = page_objects objects i ≡ Some (record { kind = word; bytes = bytes })

pub held : (objects : Objects) (i : ObjectId) (o : Object) → get objects i ≡ Some o → IsHeld objects i (kind_word o.kind) o.bytes
held objects i o e = ap (option_map as_page) e

-- and back: it is in the store
pub held_back : (objects : Objects) (i : ObjectId) (word bytes : List ℕ) → IsHeld objects i word bytes → (o : Object) × (get objects i ≡ Some o) × (kind_word o.kind ≡ word) × (o.bytes ≡ bytes)
held_back objects i word bytes h = go (get objects i) refl h
  where
    go : (found : Option Object) → get objects i ≡ found → option_map as_page found ≡ Some (record { kind = word; bytes = bytes }) → (o : Object) × (get objects i ≡ Some o) × (kind_word o.kind ≡ word) × (o.bytes ≡ bytes)
    go None at e = absurd (none-some _ e)
    go (Some o) at e =
        let same : as_page o ≡ record { kind = word; bytes = bytes } = same_Some _ _ e in
        (o, at, ap (λ (x : page.Object). x.kind) same, ap (λ (x : page.Object). x.bytes) same)

-- lines
one_more : (word content lines tail : List ℕ) → ((word ++ content ++ 10 ∷ []) ++ lines) ++ tail ≡ word ++ content ++ 10 ∷ (lines ++ tail)
one_more word content lines tail = simp append_assoc refl

-- what is behind parents begins with no further one
abbrev pub HasNoMore : ℕ → List ℕ → Type 0
HasNoMore width rest = (p : ObjectId) (id more : List ℕ) → Spells width id p → rest ≢ codes "parent " ++ id ++ 10 ∷ more

parent_lines : (k : Kind) (ps : List ObjectId) (lines rest : List ℕ) → HasNoMore (width_of k) rest → text.AreParentLines k ps lines → AreParentLines (width_of k) ps (lines ++ rest) rest
parent_lines k [] lines rest none h = (ap (λ xs. xs ++ rest) h, none)
parent_lines k (p ∷ ps) lines rest none (first, others, (digits, is, line), are, whole) = (
  digits,
  others ++ rest,
  (spelled k digits p is).0,
  parent_lines k ps others rest none are,
  ap (λ xs. xs ++ rest) (whole ∙ ap (λ xs. xs ++ others) line) ∙ one_more (codes "parent ") digits others rest,
)

parent_lines_back : (k : Kind) (ps : List ObjectId) (bytes rest : List ℕ) → AreParentLines (width_of k) ps bytes rest → (lines : List ℕ) × text.AreParentLines k ps lines × (bytes ≡ lines ++ rest)
parent_lines_back k [] bytes rest (same, none) = ([], refl, same)
parent_lines_back k (p ∷ ps) bytes rest (digits, more, is, are, whole) =
    let h = parent_lines_back k ps more rest are in
    let line : List ℕ = codes "parent " ++ digits ++ 10 ∷ [] in
    (line ++ h.0, (line, h.0, (digits, spells_again k digits p is, refl), h.1, refl), whole ∙ ap (λ xs. codes "parent " ++ digits ++ 10 ∷ xs) h.2 ∙ sym (one_more (codes "parent ") digits h.0 rest))

-- what is behind the parents in the text of a whole commit
abbrev pub signed_rest : List ℕ → List ℕ → List ℕ → List ℕ
signed_rest author signature rest = codes "author " ++ author ++ 10 ∷ (codes "committer " ++ signature ++ 10 ∷ rest)

no_parent : (width : ℕ) (author signature rest : List ℕ) → HasNoMore width (signed_rest author signature rest)
no_parent width author signature rest p id more spells e = absurd (omega (arith, ap (λ xs. get_or xs 0 0) e))

-- what the statement says of the text of a commit
abbrev pub IsTextOf : ObjectId → ℕ → List ℕ → List ObjectId → List ℕ → Type 0
IsTextOf tree width bytes parents signature =
    (id lines author rest : List ℕ) × Spells width id tree × All (λ b. b ≢ 10) author × All (λ b. b ≢ 10) signature
    × AreParentLines width parents lines (signed_rest author signature rest) × (bytes ≡ codes "tree " ++ id ++ 10 ∷ lines)

abbrev pub IsText : ℕ → List ℕ → List ObjectId → List ℕ → Type 0
IsText width bytes parents signature = (tree : ObjectId) × IsTextOf tree width bytes parents signature

-- four lines, one after the other
four_lines : (a b lines c d e f rest : List ℕ) → (a ++ b ++ 10 ∷ []) ++ lines ++ (c ++ d ++ 10 ∷ []) ++ (e ++ f ++ 10 ∷ []) ++ rest ≡ a ++ b ++ 10 ∷ (lines ++ (c ++ d ++ 10 ∷ (e ++ f ++ 10 ∷ rest)))
four_lines a b lines c d e f rest = simp append_assoc refl

pub commit_text : (k : Kind) (bytes : List ℕ) (tree : ObjectId) (parents : List ObjectId) (signature : List ℕ) → text.IsCommitText k bytes tree parents signature → IsTextOf tree (width_of k) bytes parents signature
commit_text k bytes tree parents signature t = (
  t.is_tree_line.0,
  t.parent_lines ++ signed_rest t.author signature t.rest,
  t.author,
  t.rest,
  (spelled k t.is_tree_line.0 tree t.is_tree_line.1).0,
  t.is_author_line.0,
  t.is_committer_line.0,
  parent_lines k parents t.parent_lines (signed_rest t.author signature t.rest) (no_parent (width_of k) t.author signature t.rest) t.are_parent_lines,
  t.whole ∙ (λ n. t.is_tree_line.2 n ++ t.parent_lines ++ t.is_author_line.1 n ++ t.is_committer_line.1 n ++ t.rest)
      ∙ four_lines (codes "tree ") t.is_tree_line.0 t.parent_lines (codes "author ") t.author (codes "committer ") signature t.rest,
)

pub commit_text_back : (k : Kind) (bytes : List ℕ) (parents : List ObjectId) (signature : List ℕ) → IsText (width_of k) bytes parents signature → (tree : ObjectId) × text.IsCommitText k bytes tree parents signature
commit_text_back k bytes parents signature (tree, (id, lines, author, rest, spells, named, signed, are, whole)) =
    let h = parent_lines_back k parents lines (signed_rest author signature rest) are in (
      tree,
      record {
        tree_line = codes "tree " ++ id ++ 10 ∷ [];
        parent_lines = h.0;
        author = author;
        author_line = codes "author " ++ author ++ 10 ∷ [];
        committer_line = codes "committer " ++ signature ++ 10 ∷ [];
        rest = rest;
        is_tree_line = (id, spells_again k id tree spells, refl);
        are_parent_lines = h.1;
        is_author_line = (named, refl);
        is_committer_line = (signed, refl);
        whole = whole ∙ ap (λ xs. codes "tree " ++ id ++ 10 ∷ xs) h.2 ∙ sym (four_lines (codes "tree ") id h.0 (codes "author ") author (codes "committer ") signature rest);
      },
    )

-- what is behind the last `>`
record Behind (signature rest : List ℕ) : Type 0 where
  before : List ℕ
  whole : signature ≡ before ++ 62 ∷ rest
  none : All (λ b. b ≢ 62) rest

abbrev IsBehind : Option (List ℕ) → List ℕ → Type 0
IsBehind found signature = (All (λ b. b ≢ 62) signature × (behind_last found signature ≡ found)) ⊎ ((rest : List ℕ) × Behind signature rest × (behind_last found signature ≡ Some rest))

behind : (found : Option (List ℕ)) (signature : List ℕ) → IsBehind found signature
behind found [] = inl (All-nil (λ b. b ≢ 62), refl)
behind found (b ∷ bs) = go (behind (cond (b == 62) (Some bs) found) bs) (b == 62) refl
  where
    go : IsBehind (cond (b == 62) (Some bs) found) bs → (t : Bool) → (b == 62) ≡ t → IsBehind found (b ∷ bs)
    go (inr (rest, is, e)) t same = inr (rest, record { before = b ∷ is.before; whole = ap (λ xs. b ∷ xs) is.whole; none = is.none }, e)
    go (inl (none, e)) true same = inr (bs, record { before = []; whole = ap (λ c. c ∷ bs) (eqb-true b 62 same); none = none }, e ∙ cond-true (b == 62) _ _ same)
    go (inl (none, e)) false same = inl (All-cons (λ c. c ≢ 62) b bs (λ s. false≢true (sym same ∙ eq-eqb b 62 s)) none, e ∙ cond-false (b == 62) _ _ same)

-- the spaces at the front
record Spaced (bytes : List ℕ) : Type 0 where
  spaces : ℕ
  whole : bytes ≡ replicate spaces 32 ++ without_spaces bytes
  stops : take 1 (without_spaces bytes) ≢ 32 ∷ []

spaced : (bytes : List ℕ) → Spaced bytes
spaced [] = record { spaces = 0; whole = refl; stops = λ e. cc }
spaced (b ∷ bs) = go (spaced bs) (b == 32) refl
  where
    go : Spaced bs → (t : Bool) → (b == 32) ≡ t → Spaced (b ∷ bs)
    go s true same =
        let left : without_spaces (b ∷ bs) ≡ without_spaces bs = cond-true (b == 32) _ _ same in
        record { spaces = suc s.spaces; whole = ap (λ c. c ∷ bs) (eqb-true b 32 same) ∙ ap (λ xs. 32 ∷ xs) (s.whole ∙ ap (λ xs. replicate s.spaces 32 ++ xs) (sym left)); stops = subst (λ xs. take 1 xs ≢ 32 ∷ []) (sym left) s.stops }
    go s false same =
        let left : without_spaces (b ∷ bs) ≡ b ∷ bs = cond-false (b == 32) _ _ same in
        record { spaces = 0; whole = sym left; stops = subst (λ xs. take 1 xs ≢ 32 ∷ []) (sym left) (λ e. let is : b ≡ 32 = cc in false≢true (sym same ∙ eq-eqb b 32 is)) }

-- a part behind others has what the whole has
behind_part : (P : ℕ → Type 0) (before rest : List ℕ) → All P (before ++ rest) → (b : ℕ) → Contains rest b → P b
behind_part P before rest all b c = All-contains P (before ++ rest) b all (Contains-append_right before rest b c)

all_of : (P : ℕ → Type 0) (bytes : List ℕ) → ((b : ℕ) → Contains bytes b → P b) → All P bytes
all_of P [] h = All-nil P
all_of P (b ∷ bytes) h = All-cons P b bytes (h b (Contains-here b bytes)) (all_of P bytes (λ c m. h c (Contains-there c b bytes m)))

signed : (signature rest bytes : List ℕ) (spaces : ℕ) → Behind signature rest → rest ≡ replicate spaces 32 ++ bytes → take 1 bytes ≢ 32 ∷ [] → IsTime signature (signed_seconds bytes)
signed signature rest [] spaces is whole stops = positive is.before [] spaces 0 (is.whole ∙ ap (λ xs. is.before ++ 62 ∷ xs) whole) (All-nil _) (counts []) (λ e. cc) (λ e. cc)
signed signature rest (b ∷ bs) spaces is whole stops = go (b == 45) refl
  where
    at : signature ≡ is.before ++ 62 ∷ (replicate spaces 32 ++ b ∷ bs)
    at = is.whole ∙ ap (λ xs. is.before ++ 62 ∷ xs) whole

    none : All (λ c. c ≢ 62) (b ∷ bs)
    none = all_of _ (b ∷ bs) (behind_part (λ c. c ≢ 62) (replicate spaces 32) (b ∷ bs) (subst (All (λ c. c ≢ 62)) whole is.none))

    go : (t : Bool) → (b == 45) ≡ t → IsTime signature (cond t (text.negative_seconds (digits_from 0 bs)) (text.positive_seconds (digits_from 0 (b ∷ bs))))
    go true same = negative is.before bs spaces (digits_from 0 bs) (at ∙ ap (λ c. is.before ++ 62 ∷ (replicate spaces 32 ++ c ∷ bs)) (eqb-true b 45 same)) (all_of _ bs (λ c m. All-contains (λ c. c ≢ 62) (b ∷ bs) c none (Contains-there c b bs m))) (counts bs)
    go false same = positive is.before (b ∷ bs) spaces (digits_from 0 (b ∷ bs)) at none (counts (b ∷ bs)) stops (λ e. let is : b ≡ 45 = cc in false≢true (sym same ∙ eq-eqb b 45 is))

pub is_time : (signature : List ℕ) → IsTime signature (seconds_of signature)
is_time signature = ⊎_elim
    (λ h. subst (IsTime signature) (sym (ap seconds_behind h.1)) (unsigned h.0))
    (λ h. let s : Spaced h.0 = spaced h.0 in subst (IsTime signature) (sym (ap seconds_behind h.2)) (signed signature h.0 (without_spaces h.0) s.spaces h.1 s.whole s.stops))
    (behind None signature)

pub is_commit_kind : (k : ObjectKind) → kind_word k ≡ codes "commit" → k ≡ kind.Commit
is_commit_kind kind.Commit e = refl
is_commit_kind kind.Tree e = cc
is_commit_kind kind.Blob e = cc
is_commit_kind kind.Tag e = cc

-- What the statement refuses: a run over empty input that ends well has written nothing of what isn't there.
use Rattle.std.proofs.Common.{◌≡◌, ◌⊎◌, ℕ, zero, suc, drop, length, ℤ, pos, List, [], ◌∷◌, ◌++◌, Option, Some, None, Ok, All, Contains, codes, refl, sym, ap, subst, ◌∙◌, arith, ⊎_elim, inl, inr}
use Rattle.std.specs.Fmt.{digits}
use Rattle.gix_hash.proofs.Ids.Membership.{no_member}
use Rattle.gix_hash.specs.declared.ObjectId.{ObjectId}
use Rattle.gix_statement.proofs.Tests.{not_among}
use Rattle.gix_statement.specs.WholeStatement.{Object, Objects, Row, AreRecords, AreFed, AreNamed, IsLast, IsCommit, IsThere, IsHistory, Promises, Serves, commits, ahead, contains, containing, bases, files, lists, Choice, Form, Lines, Reversed, Number, chosen, commit_line, written}

pub none : ObjectId → List ObjectId
none i = []

pub no_time : ObjectId → ℤ
no_time i = pos 0

-- nothing is there
abbrev pub Empty : Objects → List Row → Type 0
Empty objects rows = ((i : ObjectId) → objects i ≡ None) × (rows ≡ [])

pub no_record : (i : ObjectId) (o : Object) (before after records : List (ObjectId × Object)) → AreRecords records [] → records ≡ before ++ (i, o) ∷ after → ⊥
no_record i o [] after [] are e = cc
no_record i o (x ∷ before) after [] are e = cc
no_record i o before after ((j, p) ∷ records) (id, number, rest, kind, spells, length, more, is) e = go p.kind is
  where
    go : (kind : List ℕ) → [] ≡ kind ++ 32 ∷ (id ++ 32 ∷ (number ++ 10 ∷ (p.bytes ++ 10 ∷ rest))) → ⊥
    go [] e = cc
    go (k ∷ kind) e = cc

pub fed_nothing : (objects : Objects) → AreFed (Some []) objects → (i : ObjectId) → objects i ≡ None
fed_nothing objects (input, known, records, are, last) i = ⊎_elim (λ e. let no : Some [] ≡ None = e in cc) (λ e. let same : [] ≡ input = cc in go (objects i) refl (subst (AreRecords records) (sym same) are) (last i)) known
  where
    go : (o : Option Object) → objects i ≡ o → AreRecords records [] → IsLast records i o → objects i ≡ None
    go None e empty l = e
    go (Some o) e empty (before, after, is, l) = absurd (no_record i o before after records empty is)

pub none_chosen : {I : Type 0} (n : ℕ) → ◌≡◌ {A = List I} (drop n []) []
none_chosen zero = refl
none_chosen (suc n) = refl

-- no byte, or the number 0
abbrev pub IsNothing : List ℕ → Type 0
IsNothing out = (out ≡ []) ⊎ (out ≡ codes "0\n")

module _ (objects : Objects) (rows : List Row) (nothing : (i : ObjectId) → objects i ≡ None) (no_rows : rows ≡ []) where
  pub no_commit : (r : Row) → IsCommit objects rows r → ⊥
  no_commit r (inl (id, lines, rest, spells, parents, time, is)) = let no : None ≡ Some _ = sym (nothing r.id) ∙ is in cc
  no_commit r (inr (none, row)) = no_member r (subst (λ rs. Contains rs r) no_rows row)

  pub not_there : (i : ObjectId) → IsThere objects rows i → ⊥
  not_there i (r, is, commit) = no_commit r commit

  pub none_there : (ids : List ObjectId) → All (IsThere objects rows) ids → ids ≡ []
  none_there [] h = refl
  none_there (i ∷ ids) h = absurd (not_there i (h 0 i (omega arith)))

  pub a_history : IsHistory objects rows none no_time
  a_history r c = absurd (no_commit r c)

  -- what is written of no commits
  of_none : (line : ObjectId → List ℕ) (form : Form) → IsNothing (written line form [])
  unfolding digits
  of_none line Lines = inl refl
  of_none line Reversed = inl refl
  of_none line Number = inr refl

  written_of_none : (c : Choice) (ids : List ObjectId) → ids ≡ [] → IsNothing (written (commit_line objects none no_time c.line) c.form (chosen none no_time c ids))
  written_of_none c ids is = subst (λ xs. IsNothing (written (commit_line objects none no_time c.line) c.form xs)) (sym (none_chosen c.skip) ∙ ap (chosen none no_time c) (sym is)) (of_none (commit_line objects none no_time c.line) c.form)

  -- so no word but the name of a list is served, and of a list nothing is written, or that it has none
  pub served_nothing : (words : List (List ℕ)) (out : List ℕ) → Serves objects rows none no_time (Some []) (Some out) words → IsNothing out
  served_nothing words out (commits bytes (lists option more c ids named chooses some follows there texts begins allows ended may is_written) appends) =
      subst IsNothing (sym (appends ∙ is_written)) (written_of_none c ids (none_there ids there))
  served_nothing words out (ahead {one = one} n m a b there other ns ms appends) = absurd (not_there one there)
  served_nothing words out (contains {tip = tip} {ids = ids} are some there keeps appends) = absurd (not_there tip (there 0 tip (omega arith)))
  served_nothing words out (containing {target = target} are some there keeps appends) = absurd (not_there target (there 0 target (omega arith)))
  served_nothing words out (bases {one = one} those are some there exact rising appends) = absurd (not_there one (there 0 one (omega arith)))
  served_nothing words out (files limit bound option a {tree = t} within ends spells (text, is, entries) unfolds appends) = let no : None ≡ Some _ = sym (nothing t) ∙ is in cc

  abbrev five : List (List ℕ)
  five = codes "breadth" ∷ codes "newest" ∷ codes "oldest" ∷ codes "topo" ∷ codes "date" ∷ []

  none_of_five : Contains five (codes "contains") → ⊥
  none_of_five = not_among (codes "contains") (codes "breadth") (codes "newest" ∷ codes "oldest" ∷ codes "topo" ∷ codes "date" ∷ []) (λ e. cc) (not_among (codes "contains") (codes "newest") (codes "oldest" ∷ codes "topo" ∷ codes "date" ∷ []) (λ e. cc) (not_among (codes "contains") (codes "oldest") (codes "topo" ∷ codes "date" ∷ []) (λ e. cc) (not_among (codes "contains") (codes "topo") (codes "date" ∷ []) (λ e. cc) (not_among (codes "contains") (codes "date") ([]) (λ e. cc) (no_member (codes "contains"))))))

  not_contained : (words rest : List (List ℕ)) (out : List ℕ) → words ≡ codes "contains" ∷ rest → Serves objects rows none no_time (Some []) (Some out) words → ⊥
  not_contained words rest out is (commits bytes (lists {by = by} option more c ids named chooses some follows there texts begins allows ended may is_written) appends) =
      let same : by ≡ codes "contains" = cc in
      none_of_five (subst (Contains five) same named)
  not_contained words rest out is (ahead {one = one} n m a b there other ns ms appends) = not_there one there
  not_contained words rest out is (contains {tip = tip} {ids = ids} are some there keeps appends) = not_there tip (there 0 tip (omega arith))
  not_contained words rest out is (containing {target = target} are some there keeps appends) = not_there target (there 0 target (omega arith))
  not_contained words rest out is (bases {one = one} those are some there exact rising appends) = not_there one (there 0 one (omega arith))
  not_contained words rest out is (files limit bound option a {tree = t} within ends spells (text, e, entries) unfolds appends) = let no : None ≡ Some _ = sym (nothing t) ∙ e in cc

-- the objects of a reader, without rows
abbrev pub Read : List ℕ → Objects → List Row → Type 0
Read input objects rows = AreFed (Some input) objects × (rows ≡ [])

-- THE FIRST HOLE: `breadth 22..` over empty input writes `22..`. Whatever the words, nothing may be written but a number 0.
nothing_is_listed : {E : Type 0} (e : E) (words : List (List ℕ)) (out : List ℕ) → Promises e words (Read []) (Some []) (Ok tt) (Some out) → IsNothing out
nothing_is_listed e words out (objects, rows, (fed, no_rows), agree, right) =
    let nothing = fed_nothing objects fed in
    served_nothing objects rows nothing no_rows words out (right none no_time (a_history objects rows nothing no_rows))

missing_tip_is_not_listed : {E : Type 0} (e : E) → Promises e (codes "breadth" ∷ codes "2222222222222222222222222222222222222222" ∷ []) (Read []) (Some []) (Ok tt) (Some (codes "2222222222222222222222222222222222222222\n")) → ⊥
missing_tip_is_not_listed e p = ⊎_elim
    (λ none. let l : 41 ≡ 0 = ap length none in omega (arith, l))
    (λ zero_line. let l : 41 ≡ 2 = ap length zero_line in omega (arith, l))
    (nothing_is_listed e _ _ p)

-- THE SECOND HOLE: `contains RELEASE FIX` over empty input writes nothing, and ends well.
missing_release_is_a_fault : {E : Type 0} (e : E) (out : List ℕ) → Promises e (codes "contains" ∷ codes "2222222222222222222222222222222222222222" ∷ codes "1111111111111111111111111111111111111111" ∷ []) (Read []) (Some []) (Ok tt) (Some out) → ⊥
missing_release_is_a_fault e out (objects, rows, (fed, no_rows), agree, right) =
    let nothing = fed_nothing objects fed in
    not_contained objects rows nothing no_rows _ _ out refl (right none no_time (a_history objects rows nothing no_rows))

-- THE THIRD HOLE: over a repository that has neither, `newest 22..` writes `22..` and its parent `11..`, since some commits have these ids as
-- their hashes. What is promised is of the objects that the run has, and if it has none, nothing is listed.
abbrev Held : Objects → Objects → List Row → Type 0
Held held objects rows = AreNamed objects × (objects ≡ held) × (rows ≡ [])

nothing_else_is_listed : {E : Type 0} (e : E) (words : List (List ℕ)) (held : Objects) (out : List ℕ) → ((i : ObjectId) → held i ≡ None) → Promises e words (Held held) (Some []) (Ok tt) (Some out) → IsNothing out
nothing_else_is_listed e words held out empty (objects, rows, (named, same, no_rows), agree, right) =
    let nothing : (i : ObjectId) → objects i ≡ None = λ i. ap (λ (f : Objects). f i) same ∙ empty i in
    served_nothing objects rows nothing no_rows words out (right none no_time (a_history objects rows nothing no_rows))

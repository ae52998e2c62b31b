-- What the statement refuses: `--since` that leaves out a parent that isn't there, as if it were old.
use Rattle.std.proofs.Common.{◌≡◌, ◌≢◌, ℕ, ℤ, pos, List, [], ◌∷◌, ◌++◌, replicate, length, filter, not, int_lt, cond, Option, Some, None, Ok, All, Contains, codes, refl, sym, ap, subst, ◌∙◌, arith, ⊎_elim, inl, inr}
use Rattle.std.proofs.lemmas.List.Elements.{All-contains}
use Rattle.std.proofs.lemmas.Bool.{false≢true}
use Rattle.std.proofs.Math.ListN.{get_or}
use Rattle.std.specs.Str.Parse.{digits_value}
use Rattle.gix_hash.proofs.Ids.Membership.{Contains-cons_cases, no_member, same_from}
use Rattle.gix_hash.specs.Id.{is_same}
use Rattle.gix_hash.specs.declared.ObjectId.{ObjectId}
use Rattle.gix_hash.specs.declared.ObjectId.TheVariants.{Sha1, Sha256}
use Rattle.gix_statement.specs.WholeStatement.{Objects, Row, Allows, AreTips, digits_in, IsCommit, IsThere, IsHistory, IsShown, IsWhole, Promises, Serves, commits, ahead, contains, containing, bases, files, lists, Follows, all, first, since, Spells, Reaches, start, parent, Choice, Chooses, everything, until, merges, no_merges, skip, at_most, counted, reversed, with_time, with_parents, with_format, with_subject, zero_ended}
use Rattle.gix_statement.proofs.OneCommit.{spelled_same}
use Rattle.gix_statement.proofs.Tests.{not_among, is_hex}

heads : (a b : List ℕ) (xs ys : List (List ℕ)) → a ∷ xs ≡ b ∷ ys → a ≡ b
heads a b xs ys e = cc

abbrev child : ObjectId
child = Sha1 (replicate 20 0x22)

abbrev root : ObjectId
root = Sha1 (replicate 20 0x11)

abbrev tip : List ℕ
tip = codes "2222222222222222222222222222222222222222"

tip_spelled : Spells 40 tip child
tip_spelled = (refl, refl, is_hex tip refl)

-- a row of the child alone, which names the root
abbrev row : Row
row = record { id = child; tree = child; parents = root ∷ []; time = pos 5 }

abbrev Given : Objects → List Row → Type 0
Given objects rows = ((i : ObjectId) → objects i ≡ None) × (rows ≡ row ∷ [])

abbrev parents : ObjectId → List ObjectId
parents i = cond (is_same child i) (root ∷ []) []

-- in one history the root is as new as the child
abbrev time : ObjectId → ℤ
time i = pos 5

apart : child ≢ root
apart e = false≢true (same_from child root e)

module _ (objects : Objects) (nothing : (i : ObjectId) → objects i ≡ None) where
  only : (r : Row) → IsCommit objects (row ∷ []) r → row ≡ r
  only r (inl (id, lines, rest, tree, names, when, is)) = let no : None ≡ Some _ = sym (nothing r.id) ∙ is in cc
  only r (inr (none, c)) = ⊎_elim (λ e. e) (λ n. absurd (no_member r n)) (Contains-cons_cases r row [] c)

  history : IsHistory objects (row ∷ []) parents time
  history r c = subst (λ (s : Row). (parents s.id ≡ s.parents) × (time s.id ≡ s.time)) (only r c) (refl, refl)

  root_not_there : IsThere objects (row ∷ []) root → ⊥
  root_not_there (r, is, c) = apart (ap (λ (s : Row). s.id) (only r c) ∙ is)

  abbrev words : List (List ℕ)
  words = codes "newest" ∷ codes "--since" ∷ codes "3" ∷ tip ∷ []

  unreached : (names : ObjectId → List ObjectId) (i : ObjectId) → Reaches names [] i → ⊥
  unreached names i (start s) = no_member i s
  unreached names i (parent {child = c} r m) = unreached names c r

  -- of no time below the number
  abbrev young : ℕ → List ObjectId → List ObjectId
  young n ids = filter (λ i. not (int_lt (time i) (pos n))) ids

  abbrev Shows : ℕ → List ObjectId → List ObjectId → Type 0
  Shows n tips hidden = IsShown parents (λ i. young n (parents i)) time (young n tips) hidden root

  shown_root : (n : ℕ) (tips hidden : List ObjectId) → n ≡ 3 → tips ≡ child ∷ [] → hidden ≡ [] → Shows n tips hidden
  shown_root n tips hidden is one none = subst (λ k. Shows k tips hidden) (sym is) (subst (λ ts. Shows 3 ts hidden) (sym one) (subst (Shows 3 (child ∷ [])) (sym none)
      (parent {child = child} (start (0, omega arith, refl)) (0, omega arith, refl), unreached parents root)))

  no_since : (rest tips : List (List ℕ)) (hidden those : List ObjectId) → AreTips (codes "--since" ∷ rest) those hidden → ⊥
  no_since rest tips hidden those (inl ((Sha1 x), m, is, spells, more)) = omega (arith, spells.0)
  no_since rest tips hidden those (inl ((Sha256 x), m, is, spells, more)) = omega (arith, spells.0)
  no_since rest tips hidden those (inr (i, m, is, id, word, spells, more)) = let h : ◌≡◌ {A = ℕ} 45 94 = cc in omega (arith, h)

  one_tip : (tips hidden : List ObjectId) → AreTips (tip ∷ []) tips hidden → (tips ≡ child ∷ []) × (hidden ≡ [])
  one_tip tips hidden (inl (i, m, is, spells, (none, empty))) =
      let width : digits_in i ≡ 40 = sym spells.0 in
      let same : i ≡ child = spelled_same 40 tip tip i child refl (subst (λ w. Spells w tip i) width spells) tip_spelled in
      (is ∙ (λ k. same k ∷ none k), empty)
  one_tip tips hidden (inr (i, m, is, id, word, spells, more)) = let h : ◌≡◌ {A = ℕ} 50 94 = cc in absurd (omega (arith, h))

  -- what is chosen by the tip alone, and by nothing that begins with `--since`
  one_chosen : {tips hidden : List ObjectId} {c : Choice} {place : ℕ} (words : List (List ℕ)) → Chooses tips hidden place words c → words ≡ tip ∷ [] → AreTips words tips hidden × (c.limit ≡ None)
  one_chosen words (everything are) is = (are, refl)
  one_chosen words (until k counts late chooses) is = let l : 7 ≡ 40 = ap length (heads (codes "--until") tip _ [] is) in absurd (omega (arith, l))
  one_chosen words (merges late chooses) is = let l : 8 ≡ 40 = ap length (heads (codes "--merges") tip _ [] is) in absurd (omega (arith, l))
  one_chosen words (no_merges late chooses) is = let l : 11 ≡ 40 = ap length (heads (codes "--no-merges") tip _ [] is) in absurd (omega (arith, l))
  one_chosen words (skip k counts late chooses) is = let l : 6 ≡ 40 = ap length (heads (codes "--skip") tip _ [] is) in absurd (omega (arith, l))
  one_chosen words (at_most k counts late chooses) is = let l : 2 ≡ 40 = ap length (heads (codes "-n") tip _ [] is) in absurd (omega (arith, l))
  one_chosen words (counted late chooses) is = let l : 7 ≡ 40 = ap length (heads (codes "--count") tip _ [] is) in absurd (omega (arith, l))
  one_chosen words (reversed late chooses) is = let l : 9 ≡ 40 = ap length (heads (codes "--reverse") tip _ [] is) in absurd (omega (arith, l))
  one_chosen words (with_time late chooses) is = let l : 11 ≡ 40 = ap length (heads (codes "--timestamp") tip _ [] is) in absurd (omega (arith, l))
  one_chosen words (with_parents late chooses) is = let l : 9 ≡ 40 = ap length (heads (codes "--parents") tip _ [] is) in absurd (omega (arith, l))
  one_chosen words (with_format right short late chooses) is = let l : 8 ≡ 40 = ap length (heads (codes "--format") tip _ [] is) in absurd (omega (arith, l))
  one_chosen words (with_subject late chooses) is = let l : 9 ≡ 40 = ap length (heads (codes "--oneline") tip _ [] is) in absurd (omega (arith, l))
  one_chosen words (zero_ended late chooses) is = let l : 2 ≡ 40 = ap length (heads (codes "-z") tip _ [] is) in absurd (omega (arith, l))

  not_chosen : {tips hidden : List ObjectId} {c : Choice} {place : ℕ} (words rest : List (List ℕ)) → Chooses tips hidden place words c → words ≡ codes "--since" ∷ rest → ⊥
  not_chosen {tips} {hidden} words rest (everything are) is = no_since rest [] hidden tips (subst (λ x. AreTips x tips hidden) is are)
  not_chosen words rest (until k counts late chooses) is = let l : 117 ≡ 115 = ap (λ w. get_or w 2 0) (heads (codes "--until") (codes "--since") _ rest is) in omega (arith, l)
  not_chosen words rest (merges late chooses) is = let l : 8 ≡ 7 = ap length (heads (codes "--merges") (codes "--since") _ rest is) in omega (arith, l)
  not_chosen words rest (no_merges late chooses) is = let l : 11 ≡ 7 = ap length (heads (codes "--no-merges") (codes "--since") _ rest is) in omega (arith, l)
  not_chosen words rest (skip k counts late chooses) is = let l : 6 ≡ 7 = ap length (heads (codes "--skip") (codes "--since") _ rest is) in omega (arith, l)
  not_chosen words rest (at_most k counts late chooses) is = let l : 2 ≡ 7 = ap length (heads (codes "-n") (codes "--since") _ rest is) in omega (arith, l)
  not_chosen words rest (counted late chooses) is = let l : 99 ≡ 115 = ap (λ w. get_or w 2 0) (heads (codes "--count") (codes "--since") _ rest is) in omega (arith, l)
  not_chosen words rest (reversed late chooses) is = let l : 9 ≡ 7 = ap length (heads (codes "--reverse") (codes "--since") _ rest is) in omega (arith, l)
  not_chosen words rest (with_time late chooses) is = let l : 11 ≡ 7 = ap length (heads (codes "--timestamp") (codes "--since") _ rest is) in omega (arith, l)
  not_chosen words rest (with_parents late chooses) is = let l : 9 ≡ 7 = ap length (heads (codes "--parents") (codes "--since") _ rest is) in omega (arith, l)
  not_chosen words rest (with_format right short late chooses) is = let l : 8 ≡ 7 = ap length (heads (codes "--format") (codes "--since") _ rest is) in omega (arith, l)
  not_chosen words rest (with_subject late chooses) is = let l : 9 ≡ 7 = ap length (heads (codes "--oneline") (codes "--since") _ rest is) in omega (arith, l)
  not_chosen words rest (zero_ended late chooses) is = let l : 2 ≡ 7 = ap length (heads (codes "-z") (codes "--since") _ rest is) in omega (arith, l)

  -- whatever the option is
  by_option : {by : List ℕ} {option : List (List ℕ)} (m : ℕ) (more : List (List ℕ)) {c : Choice} {place : ℕ} {tips hidden starts ids : List ObjectId} {followed : ObjectId → List ObjectId}
      → by ≡ codes "newest" → option ++ more ≡ codes "--since" ∷ codes "3" ∷ tip ∷ [] → Chooses tips hidden place more c → Follows parents time tips by option followed starts
      → All (IsThere objects (row ∷ [])) ids → (Allows c.limit m → IsWhole parents followed time starts hidden by ids) → ⊥
  by_option m more name rest chooses all there ended = not_chosen more (codes "3" ∷ tip ∷ []) chooses rest
  by_option {by} m more name rest chooses (first named) there ended = not_among by (codes "breadth") (codes "topo" ∷ codes "date" ∷ []) (λ e. let l : 7 ≡ 6 = ap length (e ∙ name) in omega (arith, l))
      (not_among by (codes "topo") (codes "date" ∷ []) (λ e. let l : 4 ≡ 6 = ap length (e ∙ name) in omega (arith, l)) (not_among by (codes "date") [] (λ e. let l : 4 ≡ 6 = ap length (e ∙ name) in omega (arith, l)) (no_member by))) named
  by_option {by = by} m more {c = c} {tips = tips} {hidden = hidden} {ids = ids} name rest chooses (since {number = number} n named is) there ended =
      let three : number ≡ codes "3" = cc in
      let behind : more ≡ tip ∷ [] = cc in
      let o = one_chosen more chooses behind in
      let t = one_tip tips hidden (subst (λ ws. AreTips ws tips hidden) behind o.0) in
      let value : n ≡ 3 = is.3 ∙ ap (digits_value 10) three in
      let whole = ended (subst (λ l. Allows l m) (sym o.1) tt) in
      root_not_there (All-contains (IsThere objects (row ∷ [])) ids root there (whole.1 (λ down. absurd (not_down down)) root (shown_root n tips hidden value t.0 t.1)))
    where
      not_down : Contains (codes "topo" ∷ codes "date" ∷ []) by → ⊥
      not_down m = ⊎_elim
          (λ e. let l : 4 ≡ 6 = ap length (e ∙ name) in omega (arith, l))
          (λ m. ⊎_elim (λ e. let l : 4 ≡ 6 = ap length (e ∙ name) in omega (arith, l)) (no_member by) (Contains-cons_cases by (codes "date") [] m))
          (Contains-cons_cases by (codes "topo") (codes "date" ∷ []) m)

  -- whatever was written
  refused : (asked : List (List ℕ)) (out : Option (List ℕ)) → asked ≡ words → Serves objects (row ∷ []) parents time (Some []) out asked → ⊥
  refused asked out is (ahead n m a b there others ns ms w) = let h : codes "ahead" ≡ codes "newest" = cc in let l : 5 ≡ 6 = ap length h in omega (arith, l)
  refused asked out is (contains are some there keeps w) = let h : codes "contains" ≡ codes "newest" = cc in let l : 8 ≡ 6 = ap length h in omega (arith, l)
  refused asked out is (containing are some there keeps w) = let h : codes "containing" ≡ codes "newest" = cc in let l : 10 ≡ 6 = ap length h in omega (arith, l)
  refused asked out is (bases those are some there exact rising w) = let h : codes "merge-base" ≡ codes "newest" = cc in let l : 10 ≡ 6 = ap length h in omega (arith, l)
  refused asked out is (files limit bound option a within ends spells tree unfolds w) = let h : codes "files" ≡ codes "newest" = cc in let l : 5 ≡ 6 = ap length h in omega (arith, l)
  refused asked out is (commits bytes (lists {by = by} option more c ids named chooses some follows there texts begins allows ended may is_written) w) =
      let name : by ≡ codes "newest" = cc in
      let rest : option ++ more ≡ codes "--since" ∷ codes "3" ∷ tip ∷ [] = cc in
      by_option _ more name rest chooses follows there (ended refl)

-- `newest --since 3 CHILD` over that row ends well with no output at all
parent_is_not_lost : {E : Type 0} (e : E) (out : Option (List ℕ)) → Promises e (codes "newest" ∷ codes "--since" ∷ codes "3" ∷ tip ∷ []) Given (Some []) (Ok tt) out → ⊥
parent_is_not_lost e out (objects, rows, (nothing, are), agree, right) =
    let each = subst (λ rs. (ps : ObjectId → List ObjectId) (ts : ObjectId → ℤ) → IsHistory objects rs ps ts → Serves objects rs ps ts (Some []) out (codes "newest" ∷ codes "--since" ∷ codes "3" ∷ tip ∷ [])) are right in
    refused objects nothing _ out refl (each parents time (history objects nothing))

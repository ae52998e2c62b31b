-- The heads of sound rows reach each row: a row is a head, or a row of a greater generation names it.
use Rattle.std.proofs.Common.{◌≡◌, ℕ, zero, suc, ◌+◌, ◌==◌, ◌≤◌, ◌<◌, Bool, true, false, ◌||◌, List, [], ◌∷◌, length, Contains, refl, sym, subst, arith, eqb-true}
use Rattle.std.specs.Cmp.{Equal-is}
use Rattle.std.specs.List.{AllByRecursion, list_any}
use Rattle.std.proofs.lemmas.List.Elements.{All-get_or}
use Rattle.gix_hash.specs.declared.ObjectId.{ObjectId}
use Rattle.gix_hash.specs.Id.{id_cmp}
use Rattle.gix_hash.specs.Reach.{Reaches, start, step}
use Rattle.gix_hash.proofs.Ids.Membership.{Contains-here, Contains-there, same_from}
use Rattle.gix_commitgraph.specs.declared.ParentPlace.{ParentPlace}
use Rattle.gix_commitgraph.specs.declared.ParentPlace.TheVariants.{At, Fault}
use Rattle.gix_commitgraph.specs.Packed.{AreGraphRows}
use Rattle.gix_commitgraph.specs.Rows.{GraphRow, no_row, row_at}
use Rattle.gix_commitgraph.proofs.Packed.RowSearch.{row_of-found}
use Rattle.gix_graph_check.specs.Heads.{is_place_of, names, is_named, heads_from, heads_of}
use Rattle.gix_graph_check.specs.HeadsReach.{HeadsReach, ids_of_places, parents_in, parents_by_rows}
use Rattle.gix_graph_check.specs.Sound.{AreSound, IsSound, IsSoundPlace}

-- the first of some rows that passes a test which one of them passes
passes : (test : GraphRow → Bool) (rows : List GraphRow) → list_any test rows ≡ true → (m : ℕ) × (m < length rows) × (test (row_at rows m) ≡ true)
passes test [] e = cc
passes test (row ∷ rows) e = by_first (test row) refl e (passes test rows)
  where
    by_first : (b : Bool) → test row ≡ b → (b || list_any test rows) ≡ true
        → (list_any test rows ≡ true → (m : ℕ) × (m < length rows) × (test (row_at rows m) ≡ true)) → (m : ℕ) × (m < length (row ∷ rows)) × (test (row_at (row ∷ rows) m) ≡ true)
    by_first true is h more = (0, omega arith, is)
    by_first false is h more = let m = more h in (suc m.0, omega arith, m.2)

module _ (rows : List GraphRow) (n : ℕ) where
  -- a place of the row of this number has its id, and in a sound row a generation above its own
  named_id : (places : List ParentPlace) → list_any (is_place_of n) places ≡ true → Contains (ids_of_places rows places) (row_at rows n).id
  named_id [] e = cc
  named_id (Fault ∷ places) e = named_id places e
  named_id (At k ∷ places) e = by_first (k == n) refl e (named_id places)
    where
      those : List ObjectId
      those = ids_of_places rows places

      by_first : (b : Bool) → (k == n) ≡ b → (b || list_any (is_place_of n) places) ≡ true → (list_any (is_place_of n) places ≡ true → Contains those (row_at rows n).id)
          → Contains ((row_at rows k).id ∷ those) (row_at rows n).id
      by_first true is h more = subst (λ m. Contains ((row_at rows k).id ∷ those) (row_at rows m).id) (eqb-true k n is) (Contains-here (row_at rows k).id those)
      by_first false is h more = Contains-there (row_at rows n).id (row_at rows k).id those (more h)

  abbrev IsBelow : ℕ → Type 0
  IsBelow generation = (row_at rows n).generation < generation

  falls : (generation : ℕ) (places : List ParentPlace) → AllByRecursion (IsSoundPlace rows generation) places → list_any (is_place_of n) places ≡ true → IsBelow generation
  falls generation [] sound e = cc
  falls generation (Fault ∷ places) sound e = absurd sound.0
  falls generation (At k ∷ places) sound e = by_first (k == n) refl e (falls generation places sound.1)
    where
      by_first : (b : Bool) → (k == n) ≡ b → (b || list_any (is_place_of n) places) ≡ true → (list_any (is_place_of n) places ≡ true → IsBelow generation) → IsBelow generation
      by_first true is h more = subst (λ m. (row_at rows m).generation < generation) (eqb-true k n is) sound.0
      by_first false is h more = more h

-- a row that none names is a head
head_from : (rows left : List GraphRow) (k m : ℕ) → m < length left → is_named rows (k + m) ≡ false → Contains (heads_from rows k left) (row_at left m).id
head_from rows [] k m lt e = absurd (omega arith)
head_from rows (row ∷ left) k zero lt e =
    let same : k + 0 ≡ k = omega arith in
    let unnamed : is_named rows k ≡ false = subst (λ j. is_named rows j ≡ false) same e in
    rw unnamed (Contains-here row.id (heads_from rows (k + 1) left))
head_from rows (row ∷ left) k (suc m) lt e =
    let same : (k + 1) + m ≡ k + suc m = omega arith in
    by_first (is_named rows k) refl (head_from rows left (k + 1) m (omega arith) (subst (λ j. is_named rows j ≡ false) (sym same) e))
  where
    by_first : (b : Bool) → is_named rows k ≡ b → Contains (heads_from rows (k + 1) left) (row_at left m).id → Contains (heads_from rows k (row ∷ left)) (row_at left m).id
    by_first true is later = rw is later
    by_first false is later = rw is (Contains-there (row_at left m).id row.id (heads_from rows (k + 1) left) later)

head : (rows : List GraphRow) (n : ℕ) → n < length rows → is_named rows n ≡ false → Contains (heads_of rows) (row_at rows n).id
unfolding heads_of
head rows n lt e = head_from rows rows 0 n lt (let same : 0 + n ≡ n = omega arith in subst (λ j. is_named rows j ≡ false) (sym same) e)

module _ (rows : List GraphRow) (are : AreGraphRows rows) (sound : AreSound rows) where
  sound_at : (n : ℕ) → n < length rows → IsSound rows (row_at rows n)
  sound_at n lt = All-get_or (IsSound rows) rows n no_row lt sound

  abbrev HasReached : ℕ → Type 0
  HasReached n = Reaches (parents_by_rows rows) (heads_of rows) (row_at rows n).id

  -- so many generations are left above this one
  reached : (left n : ℕ) → n < length rows → 4294967295 ≤ left + (row_at rows n).generation → HasReached n
  reached zero n lt most = absurd (let finite = (sound_at n lt).finite in omega arith)
  reached (suc left) n lt most = by_name (is_named rows n) refl (reached left)
    where
      by_name : (b : Bool) → is_named rows n ≡ b → ((m : ℕ) → m < length rows → 4294967295 ≤ left + (row_at rows m).generation → HasReached m) → HasReached n
      by_name false is above = start (head rows n lt is)
      by_name true is above =
          let m = passes (names n) rows is in
          let child = row_at rows m.0 in
          let falls_to = falls rows n child.generation child.parents (sound_at m.0 m.1).parents m.2 in
          let self = (Equal-is (id_cmp child.id child.id)).0 (same_from child.id child.id refl) in
          step {c = child.id} (above m.0 m.1 (omega arith))
          (subst (λ r. Contains (parents_in rows r) (row_at rows n).id) (sym (row_of-found rows child.id m.0 are.rising m.1 self)) (named_id rows n child.parents m.2))

pub heads-reach : HeadsReach
heads-reach rows are sound n lt = reached rows are sound 4294967295 n lt (omega arith)

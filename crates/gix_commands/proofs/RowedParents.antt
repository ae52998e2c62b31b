-- The parents of a commit that a walk read by its row have rows, and a walk keeps its rows or drops them all.
use Rattle.std.proofs.Common.{◌≡◌, ◌≢◌, ℕ, List, [], ◌∷◌, Bool, true, false, cond, ◌||◌, map, Option, None, Some, Result, Ok, Contains, refl, sym, ap, subst, inl, inr, ⊎_elim, ◌∙◌}
use Rattle.std.specs.Option.{option_or}
use Rattle.gix_commands.proofs.Common.{is_among, is_same, ObjectId, Objects, GraphRow, row_of, Info, kept_either, walked_within, Contains-here, Contains-there, by_row, by_store, Takes, took, Steps, unhidden, paints, faulty_history, FirstStep, initial, later, objects_of, never_faulty, accepts_all}
use Rattle.gix_revwalk.proofs.Rows.{ids_in_rows}
use Rattle.gix_revwalk.specs.Pending.{Pending}
use Rattle.gix_simple.specs.declared.Error.{Error}
use Rattle.gix_simple.specs.Walk.{given, ended, no_memory, not_found}
use Rattle.gix_simple.proofs.Moves.{concludes, rows_then, treated_same}
use Rattle.gix_commands.specs.Checked.{first_lost, HasRows, KeepsRows}
use Rattle.gix_commands.specs.Walked.{Walk, Answers}
use Rattle.gix_commands.proofs.LostParents.{lost_by_row}

-- an id among those of rows has a row
has_row : (rows : List GraphRow) (i : ObjectId) → is_among i (map (λ row. row.id) rows) ≡ true → row_of rows i ≢ None
has_row [] i e = cc
has_row (first ∷ rows) i e = go (has_row rows i) (is_same i first.id) e
  where
    go : (is_among i (map (λ row. row.id) rows) ≡ true → row_of rows i ≢ None) → (b : Bool) → (b || is_among i (map (λ row. row.id) rows)) ≡ true → cond b (Some first) (row_of rows i) ≢ None
    go rest true e = λ n. cc
    go rest false e = rest e

-- nothing is lost of ids that have rows
none_lost : (objects : Objects) (rows : List GraphRow) (ids : List ObjectId) → ((i : ObjectId) → Contains ids i → row_of rows i ≢ None) → first_lost objects rows ids ≡ None
none_lost objects rows [] all = refl
none_lost objects rows (i ∷ ids) all =
    ap (λ o. option_or o (first_lost objects rows ids)) (sym (lost_by_row objects rows i (all i (Contains-here i ids)))) ∙ none_lost objects rows ids (λ j m. all j (Contains-there j i ids m))

-- a step leaves all rows or none
module _ where
  takes_rows : {v new : Walk} {p : Pending} {answer : Result Info Error} → Takes objects_of never_faulty accepts_all v p answer new → KeepsRows v.rows new.rows
  takes_rows (by_row r e treats c) = inl ((concludes objects_of never_faulty accepts_all c).1 ∙ ap (λ x. x.rows) (treated_same objects_of never_faulty accepts_all treats))
  takes_rows {v} {new} {p} (by_store u e treats c) =
      let same = (concludes objects_of never_faulty accepts_all c).1 ∙ ap (λ x. x.rows) (treated_same objects_of never_faulty accepts_all treats) in
      ⊎_elim (λ k. inl (same ∙ k)) (λ k. inr (same ∙ k)) (kept_either v.rows (row_of v.rows p.id))
  takes_rows {v} {new} {p} (not_found u f) = kept_either v.rows (row_of v.rows p.id)
  takes_rows {v} {new} {p} (no_memory left) = ⊎_elim inl (λ k. ⊎_elim (λ l. inl (k ∙ l)) (λ l. inr (k ∙ l)) (kept_either v.rows (row_of v.rows p.id))) left

  steps_rows : {v new : Walk} {answer : Option (Result Info Error)} → Steps objects_of never_faulty accepts_all v answer new → KeepsRows v.rows new.rows
  steps_rows (ended e) = inl refl
  steps_rows (no_memory some) = inl refl
  steps_rows (took chooses t) = takes_rows t

  first_rows : {v new : Walk} {answer : Option (Result Info Error)} → FirstStep objects_of never_faulty accepts_all v answer new → KeepsRows v.rows new.rows
  first_rows (unhidden n steps) = steps_rows steps
  first_rows (paints some tips paint steps) = rows_then paint.rows_left (steps_rows steps)
  first_rows (faulty_history some tips left fault) = left
  first_rows (no_memory some tips left) = left

  answers_rows : {v new : Walk} {answer : Option (Result Info Error)} → Answers v answer new → KeepsRows v.rows new.rows
  answers_rows (initial fresh s) = first_rows s
  answers_rows (later begun s) = steps_rows s

-- what is left of rows after one more answer
pub still_kept : {rows : List GraphRow} {v new : Walk} {answer : Option (Result Info Error)} → KeepsRows rows v.rows → Answers v answer new → KeepsRows rows new.rows
still_kept kept a = rows_then kept (answers_rows a)

-- the parents of a commit that is given with a generation have rows
module _ (generation : ℕ) where
  takes_rowed : {v new : Walk} {p : Pending} {info : Info} → Takes objects_of never_faulty accepts_all v p (Ok info) new → info.generation ≡ Some generation → (i : ObjectId) → Contains info.parent_ids.items i → row_of v.rows i ≢ None
  takes_rowed {v} (by_row {row = row} {ids = ids} r e treats (given f is)) g i m =
      has_row v.rows i (ids_in_rows v.rows row.parents ids e i (walked_within v.parents ids i (subst (λ xs. Contains xs i) is.same_parents m)))
  takes_rowed (by_store u e treats (given f is)) g i m = let no : None ≡ Some generation = sym is.same_generation ∙ g in cc

  steps_rowed : {v new : Walk} {info : Info} → Steps objects_of never_faulty accepts_all v (Some (Ok info)) new → info.generation ≡ Some generation → (i : ObjectId) → Contains info.parent_ids.items i → row_of v.rows i ≢ None
  steps_rowed (took chooses t) g i m = takes_rowed t g i m

  left_rowed : {left rows : List GraphRow} (i : ObjectId) → KeepsRows rows left → row_of left i ≢ None → row_of rows i ≢ None
  left_rowed i kept some = ⊎_elim (λ e. subst (λ rs. row_of rs i ≢ None) e some) (λ e. absurd (some (ap (λ rs. row_of rs i) e))) kept

  first_rowed : {v new : Walk} {info : Info} → FirstStep objects_of never_faulty accepts_all v (Some (Ok info)) new → info.generation ≡ Some generation → (i : ObjectId) → Contains info.parent_ids.items i → row_of v.rows i ≢ None
  first_rowed (unhidden n steps) g i m = steps_rowed steps g i m
  first_rowed (paints some tips paint steps) g i m = left_rowed i paint.rows_left (steps_rowed steps g i m)

  answers_rowed : {v new : Walk} {info : Info} → Answers v (Some (Ok info)) new → info.generation ≡ Some generation → (i : ObjectId) → Contains info.parent_ids.items i → row_of v.rows i ≢ None
  answers_rowed (initial fresh s) g i m = first_rowed s g i m
  answers_rowed (later begun s) g i m = steps_rowed s g i m

-- so nothing is found behind it
pub given_rowed : (objects : Objects) (rows : List GraphRow) {v new : Walk} (info : Info) → KeepsRows rows v.rows → Answers v (Some (Ok info)) new → HasRows objects rows info
given_rowed objects rows info kept a generation g = none_lost objects rows info.parent_ids.items (λ i m. left_rowed generation i kept (answers_rowed generation a g i m))

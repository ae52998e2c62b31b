-- Painting ends: each turn leaves less room for entries.
use Rattle.std.proofs.Common.{Bool, ◌≡◌, ◌≤◌, suc, List, [], ◌++◌, map, length, true, is_some, Option, Some, None, Contains, flat_map, refl, sym, ap, subst, ⊎_elim, ◌∙◌, arith}
use Rattle.std.proofs.lemmas.Bool.{or_left, or_right}
use Rattle.gix_paint.proofs.Common.{length_permutation, ObjectId, is_among, Object, Objects, GraphRow, QueueEntry, Painter, parents_of, commit_of_object, is_hidden, mark_of, side_at, Reads, ReadsParents, by_row, by_store, drops}
use Rattle.gix_paint.proofs.Common.{Takes, Pops, room, new_ids, among-append, among_from, no_member}
use Rattle.std.specs.FinMap as map_of
use Rattle.gix_paint.proofs.Invariant.{reads_parents, IsSafe}
use Rattle.gix_paint.proofs.Turn.{IsTurn, given}
use Rattle.gix_revwalk.proofs.NewIds.{among_flat}
use Rattle.gix_revwalk.proofs.Rows.{found_entry, ids_in_rows}

-- the ids that rows and stored commits name
abbrev pub names : Objects → List GraphRow → List ObjectId
names objects rows = map (λ row. row.id) rows ++ flat_map (λ entry. parents_of objects entry.0) (map_of.entries objects)

among_parents : (objects : Objects) (rows : List GraphRow) (c : ObjectId) (ids : List ObjectId) → Reads objects c ids → (i : ObjectId) → Contains ids i → is_among i (names objects rows) ≡ true
among_parents objects rows c ids r i m =
    among-append i (map (λ row. row.id) rows) _ ∙ or_right (is_among i (map (λ row. row.id) rows)) _ (go (map_of.get objects c) refl r.1)
  where
    go : (o : Option Object) → map_of.get objects c ≡ o → commit_of_object c (map_of.get objects c) ≡ Some r.0 → is_among i (flat_map (λ entry. parents_of objects entry.0) (map_of.entries objects)) ≡ true
    go None e f = let bad : None ≡ Some r.0 = sym (ap (commit_of_object c) e) ∙ f in cc
    go (Some o) e f =
        among_flat (λ entry. parents_of objects entry.0) (map_of.entries objects) (c, o) i (found_entry (map_of.entries objects) c o (sym (map_of.get-entries objects c) ∙ e))
        (among_from i _ (subst (λ xs. Contains xs i) (reads_parents objects c ids r) m))

module _ {F : Type 0} (objects : F → Objects) (store : F) (rows : List GraphRow) {w v : Painter F} (top : QueueEntry) (pops : Pops w top v) (safe : IsSafe objects store rows w) where
  named : {ids : List ObjectId} {in_use after : Bool} → ReadsParents (objects store) rows in_use top.1.id ids after → (i : ObjectId) → Contains ids i → is_among i (names (objects store) rows) ≡ true
  named {ids} (by_row {row = row} u e f) i m = among-append i (map (λ row. row.id) rows) _ ∙ or_left _ _ (ids_in_rows rows row.parents ids f i m)
  named {ids} (by_store n r) i m = among_parents (objects store) rows top.1.id ids r i m
  named {ids} (drops u d r) i m = among_parents (objects store) rows top.1.id ids r i m

  room_takes : {mid : Painter F} (ids : List ObjectId) → Takes v top mid → suc (room ids mid) ≡ room ids w
  room_takes {mid} ids takes =
      let met : length (new_ids (λ i. is_some (mark_of mid i)) ids) ≡ length (new_ids (λ i. is_some (mark_of w i)) ids) = ap (λ m. length (new_ids (λ i. is_some (side_at m i)) ids)) (takes.marks_stay ∙ pops.marks) in
      let hidden : length (new_ids (is_hidden mid.marks) ids) ≡ length (new_ids (is_hidden w.marks) ids) = ap (λ m. length (new_ids (is_hidden m) ids)) (takes.marks_stay ∙ pops.marks) in
      let left : length mid.queue ≡ length v.queue = ap length takes.queue_stays in
      let one : suc (length v.queue) ≡ length w.queue = length_permutation _ _ pops.queue in
      omega arith

  pub turn_less : {new : Painter F} → IsTurn objects top pops new → suc (room (names (objects store) rows) new) ≤ room (names (objects store) rows) w
  turn_less {new} t =
      let same = room_takes (names (objects store) rows) t.takes in
      let less : room (names (objects store) rows) new ≤ room (names (objects store) rows) t.mid = t.met.spends (names (objects store) rows) (λ i c. ⊎_elim (λ g. named g.1 i c) (λ n. absurd (no_member i (subst (λ xs. Contains xs i) n.1 c))) (given objects store (objects store) rows [] [] top pops safe t)) in
      omega arith

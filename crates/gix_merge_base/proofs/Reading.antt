-- How the parents of commits are read, and why they aren't.
use Rattle.std.proofs.Math.Path.{transport}
use Rattle.std.proofs.Common.{◌≡◌, ◌≢◌, List, [], ◌∷◌, ◌++◌, not, cond, Bool, Result, Err, IfErr, Contains, sym, ap, subst, ◌∙◌, append_assoc, append-nil, arith}
use Rattle.std.specs.List.{flat_map}
use Rattle.std.proofs.lemmas.List.Elements.{filter-append}
use Rattle.std.proofs.lemmas.Grind.{flat_map-append}
use Rattle.gix_hash.specs.declared.ObjectId.{ObjectId}
use Rattle.gix_hash.specs.Id.{is_same}
use Rattle.gix_object.specs.Object.{Objects}
use Rattle.gix_commitgraph.specs.Rows.{GraphRow}
use Rattle.gix_paint.specs.declared.Hidden.{Hidden}
use Rattle.gix_paint.specs.Painting.{IsFaultAt}
use Rattle.gix_paint.specs.Reading.{by_row, by_store, drops, ReadsParents}
use Rattle.gix_paint.specs.declared.Hidden.TheVariants as hidden_by
use Rattle.gix_object.specs.declared.find.existing_iter.Error.TheVariants as existing
use Rattle.gix_paint.proofs.Invariant.{reads_parents}
use Rattle.gix_contained.specs.declared.Error.{Error}
use Rattle.gix_contained.specs.declared.Error.TheVariants as error
use Rattle.gix_contained.specs.Contained.{error_of}
use Rattle.gix_merge_base.specs.Inside.Steps.{ReadFailsAmong, ReadsOthers, OthersOf, others_among}
use Rattle.gix_revwalk.specs.Agreeing.{IsAgreeing}
use Rattle.gix_revwalk.specs.Commits.{parents_of}
use Rattle.gix_revwalk.proofs.ReadsWhole.{row_parents}

module _ {F : Type 0} (objects : F → Objects) (faulty : F → ObjectId → Type 0) {store there : F} (same : there ≡ store) where
  -- the parents that are read are the commit's, where the rows agree
  pub parents_read : {graph own : List GraphRow} → graph ≡ own → {i : ObjectId} {ids : List ObjectId} {in_use after : Bool} → ReadsParents (objects there) graph in_use i ids after
      → IsAgreeing (objects store) own → ids ≡ parents_of (objects store) i
  parents_read {own = own} graph {i = i} {ids = ids} {in_use = in_use} {after = after} read agreeing = go (transport (λ k. ReadsParents (objects (same k)) (graph k) in_use i ids after) read)
    where
      go : {used later : Bool} → ReadsParents (objects store) own used i ids later → ids ≡ parents_of (objects store) i
      go (by_row {row = row} u e f) = row_parents (objects store) own agreeing i row ids e f
      go (by_store n r) = reads_parents (objects store) i ids r
      go (drops u d r) = reads_parents (objects store) i ids r

  -- one of these commits can't be read
  pub unread_among : (ids : List ObjectId) {T : Type 0} {result : Result T Error} {e : Error} {why : Hidden} {i : ObjectId} {Passed : Type 0} → Contains ids i → result ≡ Err e → e ≡ error_of why
      → (why ≢ hidden_by.Find existing.Memory → Passed × IsFaultAt (objects there) (faulty there) i why) → IfErr result (λ e. e ≢ error.Memory → ReadFailsAmong (objects store) (faulty store) ids e)
  unread_among ids {T} {why = why} {i = i} m err is fails =
      subst (λ (r : Result T Error). IfErr r (λ e. e ≢ error.Memory → ReadFailsAmong (objects store) (faulty store) ids e)) (sym err)
      (λ ne. (i, m, why, transport (λ k. IsFaultAt (objects (same k)) (faulty (same k)) i why) (fails (λ memory. ne (is ∙ ap error_of memory))).1, is))

-- one more id is looked at
pub others_more : (i : ObjectId) (ids later old mid new : List ObjectId) (j : ObjectId) → later ≡ ids ++ j ∷ [] → OthersOf i ids old mid → new ≡ cond (not (is_same j i)) (mid ++ j ∷ []) mid → OthersOf i later old new
others_more i ids later old mid new j l h n =
    let joined : others_among i (ids ++ j ∷ []) ≡ others_among i ids ++ others_among i (j ∷ []) = filter-append (λ k. not (is_same k i)) ids (j ∷ []) in
    let assoc = append_assoc old (others_among i ids) (j ∷ []) in
    let nothing = append-nil (others_among i ids) in
    let step : new ≡ old ++ others_among i (ids ++ j ∷ []) = grind arith in
    step ∙ ap (λ xs. old ++ others_among i xs) (sym l)

-- one more commit is read
pub reads_more : (objects : Objects) (rows : List GraphRow) (ids later old new named : List ObjectId) (j : ObjectId) → later ≡ ids ++ j ∷ [] → ReadsOthers objects rows ids old → (IsAgreeing objects rows → named ≡ parents_of objects j) → OthersOf j named old new → ReadsOthers objects rows later new
reads_more objects rows ids later old new named j l h p n = λ agreeing.
    n ∙ ap (λ xs. xs ++ others_among j named) (h agreeing) ∙ ap (λ xs. flat_map (λ i. others_among i (parents_of objects i)) ids ++ others_among j xs) (p agreeing)
    ∙ ap (λ xs. flat_map (λ i. others_among i (parents_of objects i)) ids ++ xs) (sym (append-nil (others_among j (parents_of objects j))))
    ∙ sym (flat_map-append (λ i. others_among i (parents_of objects i)) ids (j ∷ [])) ∙ ap (flat_map (λ i. others_among i (parents_of objects i))) (sym l)

-- of the same ids
pub others_same : (i : ObjectId) (ids those old new : List ObjectId) → ids ≡ those → OthersOf i ids old new → OthersOf i those old new
others_same i ids those old new e h = h ∙ ap (λ xs. old ++ others_among i xs) e

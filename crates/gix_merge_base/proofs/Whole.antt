-- The whole call: first common ancestors, what other parents of them reach, and what is left.
use Rattle.std.proofs.Common.{◌≡◌, ◌≢◌, List, ◌∷◌, Result, Err, IfErr, Contains, IsPermutation, sym, subst, ⊎_elim, ◌∙◌}
use Rattle.std.specs.FinSet as set
use Rattle.std.specs.List.Sorted.{IsSorted}
use Rattle.gix_hash.specs.declared.ObjectId.{ObjectId}
use Rattle.gix_hash.specs.Id.{id_cmp}
use Rattle.gix_hash.specs.Reach.{Reaches, step}
use Rattle.gix_hash.proofs.Ids.Membership.{Contains-there}
use Rattle.gix_object.specs.Object.{Objects}
use Rattle.gix_commitgraph.specs.Rows.{GraphRow}
use Rattle.gix_contained.specs.declared.Error.{Error}
use Rattle.gix_contained.specs.declared.Error.TheVariants as error
use Rattle.gix_contained.specs.Contained.{AreContained, Selects, FailsBy as ContainedFails}
use Rattle.gix_paint.proofs.Invariant.{own_history}
use Rattle.gix_merge_base.specs.Bases.{FindsBases, FailsBy}
use Rattle.gix_merge_base.specs.Inside.Steps.{MeetsFirst, ReadsOthers, ReadFailsAmong, Collects, others_among}
use Rattle.gix_merge_base.proofs.BestOfFirst.{bases_left}
use Rattle.gix_merge_base.proofs.Members.{of_some, others_within}
use Rattle.gix_revwalk.specs.Agreeing.{IsAgreeing}
use Rattle.gix_revwalk.specs.Commits.{parents_of}
use Rattle.gix_revwalk.specs.Ids.{new_ids}
use Rattle.gix_revwalk.proofs.Reached.{reach_more, reaches_from}

module _ (objects : Objects) (faulty : ObjectId → Type 0) (rows : List GraphRow) (one : ObjectId) (others common parents : List ObjectId) (met : MeetsFirst objects rows one others common) where
  -- what is left are the bases
  pub finds : (reached bases : List ObjectId) (marks : set.FinSet id_cmp) → ReadsOthers objects rows common parents → Selects objects rows parents common reached → Collects reached marks
      → IsPermutation (new_ids (set.contains marks) common) bases → IsSorted id_cmp bases → FindsBases objects rows one others bases
  finds reached bases marks reads selects collects moved up = record {
    bases_are = λ agreeing.
        bases_left (parents_of objects) one others common (met.first agreeing) reached marks bases
        (subst (λ xs. AreContained (parents_of objects) xs common reached) (reads agreeing) (selects.exact objects (own_history objects rows agreeing))) collects moved up;
    read = met.read;
  }

  common_below : IsAgreeing objects rows → (i : ObjectId) → Contains common i → Reaches (parents_of objects) (one ∷ others) i
  common_below agreeing i c = reach_more (parents_of objects) others (one ∷ others) (λ j m. Contains-there j one others m) i ((met.first agreeing).each i c).of_others

  parents_below : IsAgreeing objects rows → ReadsOthers objects rows common parents → (i : ObjectId) → Contains parents i → Reaches (parents_of objects) (one ∷ others) i
  parents_below agreeing reads i c =
      let p = of_some (λ x. others_among x (parents_of objects x)) common i (subst (λ xs. Contains xs i) (reads agreeing) c) in
      step (common_below agreeing p.0 p.1) (others_within p.0 (parents_of objects p.0) i p.2).0

  module _ {T : Type 0} (result : Result T Error) (e : Error) (same : result ≡ Err e) where
    abbrev Fails : Error → Type 0
    Fails = FailsBy objects faulty rows one others

    abbrev FailsSo : Type 0
    FailsSo = IfErr result (λ e. e ≢ error.Memory → Fails e)

    so : (e ≢ error.Memory → Fails e) → FailsSo
    so h = subst (λ (r : Result T Error). IfErr r (λ e. e ≢ error.Memory → Fails e)) (sym same) h

    -- the parents of a common ancestor couldn't be read
    pub fails_reading : (f : Error) → e ≡ f → (f ≢ error.Memory → ReadFailsAmong objects faulty common f) → FailsSo
    fails_reading f is h = so (λ ne agreeing.
        let r : ReadFailsAmong objects faulty common f = h (λ m. ne (is ∙ m)) in
        record { why = r.2; is = is ∙ r.4; id = r.0; fault = r.3; reached = common_below agreeing r.0 r.1 })

    -- what they reach couldn't be read
    pub fails_reaching : (f : Error) → e ≡ f → ReadsOthers objects rows common parents → (f ≢ error.Memory → ContainedFails objects faulty rows parents common f) → FailsSo
    fails_reaching f is reads h = so (λ ne agreeing.
        let r : ContainedFails objects faulty rows parents common f = h (λ m. ne (is ∙ m)) in
        record {
          why = r.0;
          is = is ∙ r.2;
          id = r.1.id;
          fault = r.1.fault;
          reached = ⊎_elim (common_below agreeing r.1.id) (reaches_from (parents_of objects) parents (one ∷ others) (parents_below agreeing reads) r.1.id) (r.1.reached objects (own_history objects rows agreeing));
        })

-- no common ancestor was found
pub fails_first : {T : Type 0} (objects : Objects) (faulty : ObjectId → Type 0) (rows : List GraphRow) (one : ObjectId) (others : List ObjectId) (result : Result T Error) (e f : Error) → result ≡ Err e → e ≡ f
    → (f ≢ error.Memory → FailsBy objects faulty rows one others f) → IfErr result (λ e. e ≢ error.Memory → FailsBy objects faulty rows one others e)
fails_first {T} objects faulty rows one others result e f same is h = subst (λ (r : Result T Error). IfErr r (λ e. e ≢ error.Memory → FailsBy objects faulty rows one others e)) (sym same) (λ ne. subst (FailsBy objects faulty rows one others) (sym is) (h (λ m. ne (is ∙ m))))

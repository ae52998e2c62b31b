-- The answer, and why there is none.
use Rattle.std.proofs.Common.{◌≡◌, ◌≢◌, ◌↔◌, List, [], ◌∷◌, ◌++◌, Bool, true, false, not, cond, filter, Result, Err, IfErr, Contains, refl, sym, subst, ⊎_elim, ◌∙◌, append-nil}
use Rattle.std.specs.FinSet as set
use Rattle.std.proofs.lemmas.Bool.{false≢true, not_from_false}
use Rattle.gix_hash.specs.declared.ObjectId.{ObjectId}
use Rattle.gix_hash.specs.Id.{id_cmp}
use Rattle.gix_hash.specs.Reach.{Reaches}
use Rattle.gix_hash.proofs.Ids.Membership.{Contains-here, Contains-there, Contains-cons_cases, among_from, among_is}
use Rattle.gix_hash.proofs.Lists.{only_member, filter_within}
use Rattle.gix_object.specs.Object.{Objects}
use Rattle.gix_commitgraph.specs.Rows.{GraphRow}
use Rattle.gix_containing.specs.Containing.{AreContaining, empty, contains, passed, FindsContaining, FailsBy}
use Rattle.gix_containing.specs.Inside.Steps.{MarksOnly, TellsReach}
use Rattle.gix_contained.specs.declared.Error.{Error}
use Rattle.gix_contained.specs.declared.Error.TheVariants as error
use Rattle.gix_merge_base.specs.Bases.{IsFaultOf}
use Rattle.gix_revwalk.specs.Commits.{parents_of}
use Rattle.gix_revwalk.proofs.NewIds.{among-filter}
use Rattle.gix_revwalk.proofs.Reached.{reach_more}

module _ (parents : ObjectId → List ObjectId) (target : ObjectId) where
  both : (tips those more found : List ObjectId) → AreContaining parents target tips those → AreContaining parents target more found → AreContaining parents target (tips ++ more) (those ++ found)
  both [] those more found empty b = b
  both (i ∷ tips) (j ∷ those) more found (contains r a) b = contains r (both tips those more found a b)
  both (i ∷ tips) those more found (passed n a) b = passed n (both tips those more found a b)

  one : (i : ObjectId) (any : Bool) → (any ≡ true) ↔ Reaches parents (i ∷ []) target → AreContaining parents target (i ∷ []) (cond any (i ∷ []) [])
  one i true h = contains (h.0 refl) empty
  one i false h = passed (λ r. false≢true (h.1 r)) empty

  appended : (those : List ObjectId) (i : ObjectId) (any : Bool) → cond any (those ++ i ∷ []) those ≡ those ++ cond any (i ∷ []) []
  appended those i true = refl
  appended those i false = sym (append-nil those)

  pub one_more : (tips later those now : List ObjectId) (i : ObjectId) (any : Bool) → later ≡ tips ++ i ∷ [] → AreContaining parents target tips those → (any ≡ true) ↔ Reaches parents (i ∷ []) target → now ≡ cond any (those ++ i ∷ []) those
      → AreContaining parents target later now
  one_more tips later those now i any l a h n =
      subst (λ xs. AreContaining parents target xs now) (sym l) (subst (AreContaining parents target (tips ++ i ∷ [])) (sym (n ∙ appended those i any)) (both tips those (i ∷ []) (cond any (i ∷ []) []) a (one i any h)))

  -- a test that is true of exactly those of the tips that reach the target
  kept : (test : ObjectId → Bool) (tips : List ObjectId) → ((i : ObjectId) → test i ≡ true → Reaches parents (i ∷ []) target)
      → ((i : ObjectId) → Contains tips i → test i ≡ false → Reaches parents (i ∷ []) target → ⊥) → AreContaining parents target tips (filter test tips)
  kept test [] sound whole = empty
  kept test (i ∷ tips) sound whole =
      let rest : AreContaining parents target tips (filter test tips) = kept test tips sound (λ j m. whole j (Contains-there j i tips m)) in
      elim (test i) as (λ b. test i ≡ b → AreContaining parents target (i ∷ tips) (cond b (i ∷ filter test tips) (filter test tips))) [
        | true ↦ λ e. contains (sound i e) rest
        | false ↦ λ e. passed (whole i (Contains-here i tips) e) rest
      ] refl

module _ (objects : Objects) (rows : List GraphRow) (target : ObjectId) (tips : List ObjectId) (marks : set.FinSet id_cmp) (only : MarksOnly objects rows target tips marks) where
  -- none of the tips that aren't marked reaches the target
  pub marked_are : (others those : List ObjectId) (any : Bool) → others ≡ filter (λ i. not (set.contains marks i)) tips → TellsReach objects rows others target any → any ≡ false → those ≡ filter (set.contains marks) tips
      → FindsContaining objects rows target tips those
  marked_are others those any are tells none is = record {
    exact = λ agreeing. subst (AreContaining (parents_of objects) target tips) (sym is) (kept (parents_of objects) target (set.contains marks) tips (only.sound agreeing)
        (λ i m e r. false≢true (sym none ∙ (tells agreeing).1 (reach_more (parents_of objects) (i ∷ []) others (λ j n. subst (Contains others) (only_member i j n) (left i m e)) target r))));
    read = only.read;
  }
    where
      left : (i : ObjectId) → Contains tips i → set.contains marks i ≡ false → Contains others i
      left i m e = subst (λ xs. Contains xs i) (sym are) (among_is i (filter (λ j. not (set.contains marks j)) tips)
          (among-filter i (λ j. not (set.contains marks j)) tips ∙ Rattle.std.proofs.lemmas.Bool.and_from _ _ (not_from_false _ e) (among_from i tips m)))

-- the fault of fewer tips
pub fails_among : {T : Type 0} (objects : Objects) (faulty : ObjectId → Type 0) (rows : List GraphRow) (target : ObjectId) (tips others : List ObjectId) → ((i : ObjectId) → Contains others i → Contains tips i)
    → (result : Result T Error) (e f : Error) → result ≡ Err e → e ≡ f → (f ≢ error.Memory → FailsBy objects faulty rows target others f) → IfErr result (λ e. e ≢ error.Memory → FailsBy objects faulty rows target tips e)
fails_among {T} objects faulty rows target tips others within result e f same is h = subst (λ (r : Result T Error). IfErr r (λ e. e ≢ error.Memory → FailsBy objects faulty rows target tips e)) (sym same) (λ ne agreeing.
    let r : IsFaultOf objects faulty target others f = h (λ m. ne (is ∙ m)) agreeing in
    record {
      why = r.why;
      is = is ∙ r.is;
      id = r.id;
      fault = r.fault;
      reached = reach_more (parents_of objects) (target ∷ others) (target ∷ tips)
          (λ j m. ⊎_elim (λ s. subst (Contains (target ∷ tips)) s (Contains-here target tips)) (λ n. Contains-there j target tips (within j n)) (Contains-cons_cases j target others m)) r.id r.reached;
    })

pub filtered_within : (test : ObjectId → Bool) (tips others : List ObjectId) → others ≡ filter test tips → (i : ObjectId) → Contains others i → Contains tips i
filtered_within test tips others e i m = filter_within test tips i (subst (λ xs. Contains xs i) e m)

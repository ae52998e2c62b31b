-- What is marked reaches the target, and how reaching is told.
use Rattle.std.proofs.Common.{Global, ◌≡◌, ◌≢◌, ◌↔◌, ◌==◌, List, [], ◌∷◌, length, Bool, true, not, Result, Err, IfErr, Contains, refl, sym, ap, subst, ⊎_elim, ◌∙◌}
use Rattle.std.specs.FinSet as set
use Rattle.gix_hash.specs.declared.ObjectId.{ObjectId}
use Rattle.gix_hash.specs.Id.{id_cmp}
use Rattle.gix_hash.specs.Reach.{Reaches, start, step, Tells}
use Rattle.gix_hash.proofs.Ids.Membership.{Contains-here, Contains-there}
use Rattle.gix_hash.proofs.Lists.{only_member}
use Rattle.gix_object.specs.Object.{Objects}
use Rattle.gix_commitgraph.specs.Rows.{GraphRow}
use Rattle.gix_contained.specs.declared.Error.{Error}
use Rattle.gix_contained.specs.declared.Error.TheVariants as error
use Rattle.gix_contained.specs.Contained.{AreContained, empty, reached, passed, Selects as SelectsContained, FailsBy as ContainedFails}
use Rattle.gix_containing.specs.Containing.{FailsBy}
use Rattle.gix_containing.specs.Inside.Steps.{Children, children_in, AreChildren, GathersChildren, MarksOnly, TellsReach}
use Rattle.gix_merge_base.specs.Inside.Steps.{StartsFrom}
use Rattle.gix_merge_base.proofs.BestOfFirst.{itself, onward}
use Rattle.gix_merge_base.proofs.Starting.{have, read_whole}
use Rattle.gix_paint.proofs.Invariant.{own_history}
use Rattle.gix_revwalk.specs.declared.Info.{Info}
use Rattle.gix_revwalk.specs.Asking.{AnswersBy}
use Rattle.gix_revwalk.specs.Commits.{parents_of}
use Rattle.gix_revwalk.proofs.Reached.{reach_more}
use Rattle.gix_simple.specs.Walk.{SimpleWalk, Next}

-- what is above the target, by commits that have their parents, reaches it
above : (parents : ObjectId → List ObjectId) (target : ObjectId) (infos : List Info) (children : Children Global) → AreChildren infos children
    → ((info : Info) → Contains infos info → info.parent_ids.items ≡ parents info.id) → (i : ObjectId) → Reaches (children_in children) (target ∷ []) i → Reaches parents (i ∷ []) target
above parents target infos children are whole i (start m) = subst (λ x. Reaches parents (x ∷ []) target) (only_member target i m) (itself parents target)
above parents target infos children are whole i (step {c = c} r n) =
    let k = (are c i).0 n in
    let leads : Reaches parents (i ∷ []) c = step (itself parents i) (subst (λ xs. Contains xs c) (whole k.0 k.1 ∙ ap parents k.2) k.3) in
    onward parents (i ∷ []) c target leads (above parents target infos children are whole c r)

module _ {F P : Type 0} (objects : F → Objects) (faulty : F → ObjectId → Type 0) (answers : P → ObjectId → Bool → P → Type 0) (store : F) (predicate : P) (accepting : AnswersBy answers predicate (λ i. true))
    (rows : List GraphRow) (target : ObjectId) (tips : List ObjectId) (walk : SimpleWalk F P) (starts : StartsFrom objects faulty answers store predicate rows target tips walk) where
  pub marks_only : (children : Children Global) (marks : set.FinSet id_cmp) → GathersChildren (Next objects faulty answers) walk children → Tells (set.contains marks) (Reaches (children_in children) (target ∷ [])) → MarksOnly (objects store) rows target tips marks
  marks_only children marks g tells = record {
    sound = λ agreeing i m.
        above (parents_of (objects store)) target g.infos children g.are_children (have objects faulty answers store predicate accepting rows target tips walk starts g.infos g.drawn agreeing) i ((tells i).0 m);
    read = λ agreeing some. read_whole objects faulty answers store predicate accepting rows target tips walk starts g.infos g.drawn agreeing some;
  }

-- whether a target is among what tips reach
target_met : (parents : ObjectId → List ObjectId) (tips : List ObjectId) (target : ObjectId) (met : List ObjectId) → AreContained parents tips (target ∷ []) met → (not (length met == 0) ≡ true) ↔ Reaches parents tips target
target_met parents tips target met (reached r empty) = (λ e. r, λ h. refl)
target_met parents tips target met (passed n empty) = (λ e. cc, λ r. absurd (n r))

pub tells_reach : (objects : Objects) (rows : List GraphRow) (tips : List ObjectId) (target : ObjectId) (met : List ObjectId) (any : Bool) → SelectsContained objects rows tips (target ∷ []) met → any ≡ not (length met == 0) → TellsReach objects rows tips target any
tells_reach objects rows tips target met any selects is = λ agreeing.
    subst (λ b. (b ≡ true) ↔ Reaches (parents_of objects) tips target) (sym is) (target_met (parents_of objects) tips target met (selects.exact objects (own_history objects rows agreeing)))

pub reaching_fails : {T : Type 0} (objects : Objects) (faulty : ObjectId → Type 0) (rows : List GraphRow) (tips : List ObjectId) (target : ObjectId) (result : Result T Error) (e f : Error) → result ≡ Err e → e ≡ f
    → (f ≢ error.Memory → ContainedFails objects faulty rows tips (target ∷ []) f) → IfErr result (λ e. e ≢ error.Memory → FailsBy objects faulty rows target tips e)
reaching_fails {T} objects faulty rows tips target result e f same is h = subst (λ (r : Result T Error). IfErr r (λ e. e ≢ error.Memory → FailsBy objects faulty rows target tips e)) (sym same) (λ ne agreeing.
    let r : ContainedFails objects faulty rows tips (target ∷ []) f = h (λ m. ne (is ∙ m)) in
    record {
      why = r.0;
      is = is ∙ r.2;
      id = r.1.id;
      fault = r.1.fault;
      reached = ⊎_elim (λ m. start (subst (Contains (target ∷ tips)) (only_member target r.1.id m) (Contains-here target tips)))
          (reach_more (parents_of objects) tips (target ∷ tips) (λ j m. Contains-there j target tips m) r.1.id) (r.1.reached objects (own_history objects rows agreeing));
    })

-- How the walk starts, and what its commits and its faults say.
use Rattle.std.proofs.Common.{◌≡◌, ◌≢◌, ◌↔◌, List, [], ◌∷◌, ◌++◌, length, Bool, true, false, Some, Ok, Err, Contains, refl, sym, ap, subst, ⊎_elim, ◌∙◌, map-id}
use Rattle.std.specs.FinSet as set
use Rattle.std.specs.Iterator.{Drains, YieldsThen}
use Rattle.std.specs.declared.vec.IntoIter.{IntoIter}
use Rattle.std.specs.Vec.Iter.{into_iter_items, into_iter_len, into_iter_steps}
use Rattle.std.proofs.lemmas.Iterator.{items_from_drains}
use Rattle.std.proofs.lemmas.Iterator.Adapters.{YieldsList-from_vec}
use Rattle.gix_hash.specs.declared.ObjectId.{ObjectId}
use Rattle.gix_hash.specs.Id.{id_cmp}
use Rattle.gix_hash.specs.Reach.{Reaches}
use Rattle.gix_hash.proofs.Ids.Membership.{Contains-here, Contains-cons_cases, no_member}
use Rattle.gix_hash.proofs.Lists.{filter_all}
use Rattle.gix_object.specs.Object.{Objects}
use Rattle.gix_commitgraph.specs.Rows.{GraphRow}
use Rattle.gix_simple.specs.declared.Error.{Error as WalkError}
use Rattle.gix_simple.specs.Building.{IsBuilt, made, hides, reads}
use Rattle.gix_simple.specs.Laws.{IsNewWalk, GivesDifference}
use Rattle.gix_simple.specs.Walk.{SimpleWalk, IsMade, Next}
use Rattle.gix_simple.proofs.Difference.{faultless_difference, drawn_whole}
use Rattle.gix_simple.proofs.MadeOfTips.{is_new_walk}
use Rattle.gix_simple.proofs.ReachDecided.{reach_test}
use Rattle.gix_contained.specs.declared.Error.{Error}
use Rattle.gix_contained.specs.declared.Error.TheVariants as error
use Rattle.gix_merge_base.specs.Bases.{FailsBy}
use Rattle.gix_merge_base.specs.Errors.{error_of_walk}
use Rattle.gix_revwalk.specs.Infos.{given, given_ids}
use Rattle.gix_merge_base.specs.Inside.Steps.{StartsFrom, Gathers, GatherFails, MeetsFirst, AreFirst}
use Rattle.gix_merge_base.proofs.FirstCommon.{are_first, given_by}
use Rattle.gix_merge_base.proofs.Members.{new_from, new_within}
use Rattle.gix_merge_base.proofs.Walked.{IsReady, IsFaultBelow, below_starts, have_parents, fault_below}
use Rattle.gix_revwalk.specs.declared.Info.{Info}
use Rattle.gix_revwalk.specs.Agreeing.{IsAgreeing}
use Rattle.gix_revwalk.specs.Asking.{AnswersBy}
use Rattle.gix_revwalk.specs.Commits.{ReadsWhole, parents_of}
use Rattle.gix_revwalk.specs.Ids.{ids_of, new_ids}

-- the ids that came out of a vector are the ids that it held
pub drained : {Z : Type 0} (tips ids : List ObjectId) (it : IntoIter ObjectId Z) → into_iter_items it ≡ tips → into_iter_len it ≡ length tips → Drains into_iter_steps it ids → ids ≡ tips
drained tips ids it items len d = sym (map-id ids) ∙ items_from_drains ids (d.1.0, d.1.1, λ _. (d.0, d.1.2)) (YieldsList-from_vec tips items len)

-- the walk as the calls left it
pub started : {F P : Type 0} (objects : F → Objects) (faulty : F → ObjectId → Type 0) (answers : P → ObjectId → Bool → P → Type 0) (store : F) (predicate : P) (rows copy : List GraphRow) (one : ObjectId) (others tips ids those hidden : List ObjectId) (fresh behind last : SimpleWalk F P)
    → IsMade objects faulty answers store predicate ids fresh → ids ≡ tips → tips ≡ others → behind ≡ record fresh { hidden_tips = those } → those ≡ hidden → hidden ≡ one ∷ [] → last ≡ record behind { rows = copy } → copy ≡ rows
    → StartsFrom objects faulty answers store predicate rows one others last
started objects faulty answers store predicate rows copy one others tips ids those hidden fresh behind last m i t b h a l c = record {
  made = fresh;
  makes = subst (λ xs. IsMade objects faulty answers store predicate xs fresh) (i ∙ t) m;
  is = l ∙ (λ k. record (b k) { rows = c k }) ∙ (λ k. record fresh { hidden_tips = h k; rows = rows }) ∙ (λ k. record fresh { hidden_tips = a k; rows = rows });
}

no_faults : (infos : List Info) (e : WalkError) → Contains (given infos) (Err e) → ⊥
no_faults [] e c = no_member (Err e) c
no_faults (info ∷ infos) e c = ⊎_elim (λ s. cc) (no_faults infos e) (Contains-cons_cases (Err e) (Ok info) (given infos) c)

ids_are : (infos : List Info) → given_ids {E = WalkError} (given infos) ≡ given_by infos
ids_are [] = refl
ids_are (info ∷ infos) = ap (λ xs. info.id ∷ xs) (ids_are infos)

first_tip : (ids : List ObjectId) → ids ≢ [] → (i : ObjectId) × Contains ids i
first_tip [] some = absurd (some refl)
first_tip (i ∷ ids) some = (i, Contains-here i ids)

module _ {F P : Type 0} (objects : F → Objects) (faulty : F → ObjectId → Type 0) (answers : P → ObjectId → Bool → P → Type 0) (store : F) (predicate : P) (accepting : AnswersBy answers predicate (λ i. true))
    (rows : List GraphRow) (one : ObjectId) (others : List ObjectId) (walk : SimpleWalk F P) (starts : StartsFrom objects faulty answers store predicate rows one others walk) where
  abbrev parents : ObjectId → List ObjectId
  parents = parents_of (objects store)

  abbrev opened : SimpleWalk F P
  opened = record starts.made { hidden_tips = one ∷ []; rows = rows }

  new_walk : IsNewWalk objects answers store (λ i. true) others starts.made
  new_walk = is_new_walk objects faulty answers store predicate (λ i. true) others starts.made accepting starts.makes

  pending_are : ids_of starts.made.pending ≡ new_ids (λ i. false) others
  pending_are = new_walk.pending ∙ ap (new_ids (λ i. false)) (filter_all (λ i. true) others (λ i c. refl))

  ready : IsAgreeing (objects store) rows → IsReady objects faulty answers store one others opened
  ready agreeing = record {
    same_store = new_walk.same_store;
    unbegun = new_walk.fresh.unbegun;
    rows = agreeing;
    all = new_walk.all_parents;
    hides = refl;
    tips = λ i c. subst (λ xs. Contains xs i) (sym pending_are) (new_from (λ j. false) others i c refl);
    met = λ i c. new_within (λ j. false) others i (subst (λ xs. Contains xs i) pending_are c);
  }

  built : IsBuilt objects faulty answers store predicate others opened
  built = reads (hides (made starts.makes))

  module _ (infos : List Info) (drawn : Drains (Next objects faulty answers) walk (given infos)) (agreeing : IsAgreeing (objects store) rows) where
    drawn_opened : Drains (Next objects faulty answers) opened (given infos)
    drawn_opened = subst (λ w. Drains (Next objects faulty answers) w (given infos)) starts.is drawn

    pub difference : GivesDifference (objects store) others (one ∷ []) (given infos)
    unfolding built
    difference = faultless_difference objects faulty answers store predicate others accepting opened built tt new_walk.all_parents agreeing (λ e. cc) (given infos) (no_faults infos) drawn_opened

    exact : (i : ObjectId) → Contains (given_by infos) i ↔ (Reaches parents others i × (Reaches parents (one ∷ []) i → ⊥))
    exact i = subst (λ xs. Contains xs i ↔ (Reaches parents others i × (Reaches parents (one ∷ []) i → ⊥))) (ids_are infos) (difference.exact i)

    pub have : (info : Info) → Contains infos info → info.parent_ids.items ≡ parents info.id
    have = have_parents objects faulty answers store one others opened drawn_opened.1.0 (ready agreeing) infos drawn_opened.1.1

    pub read_whole : others ≢ [] → (i : ObjectId) → Reaches parents (one ∷ others) i → ReadsWhole (objects store) i
    read_whole some i r =
        let t = first_tip others some in
        let pends : starts.made.pending ≢ [] = λ e. no_member t.0 (subst (λ ps. Contains (ids_of ps) t.0) e ((ready agreeing).tips t.0 t.1)) in
        let whole = drawn_whole objects faulty answers opened (given infos) new_walk.fresh.unbegun (subst (λ s. IsAgreeing (objects s) rows) (sym new_walk.same_store) agreeing) pends (λ e. cc) (no_faults infos) drawn_opened i
        (subst (λ s. Reaches (parents_of (objects s)) (ids_of starts.made.pending ++ one ∷ []) i) (sym new_walk.same_store) (below_starts objects faulty answers store one others opened (ready agreeing) i r)) in
        subst (λ s. ReadsWhole (objects s) i) new_walk.same_store whole

  -- what it gave and named has the first common ancestors
  pub met_first : (only : set.FinSet id_cmp) (named common : List ObjectId) → Gathers (Next objects faulty answers) others walk only named → common ≡ new_ids (set.contains only) named → MeetsFirst (objects store) rows one others common
  met_first only named common g is = record {
    first = λ agreeing.
        let test = reach_test (objects store) (one ∷ []) in
        subst (AreFirst parents one others) (sym is)
        (are_first parents one others test.0 test.1 g.infos (exact g.infos g.drawn agreeing) (have g.infos g.drawn agreeing) only g.given_are named g.named_are);
    read = λ agreeing some. read_whole g.infos g.drawn agreeing some;
  }

  -- its fault is one of a commit that one or others reach
  pub failed_first : (e : Error) → GatherFails (Next objects faulty answers) walk e → e ≢ error.Memory → FailsBy (objects store) (faulty store) rows one others e
  failed_first e g ne = λ agreeing.
      let below : IsFaultBelow objects faulty answers store one others g.fault =
      fault_below objects faulty answers store one others opened g.last (ready agreeing) g.infos g.fault (subst (λ w. YieldsThen (Next objects faulty answers) w (given g.infos) (Some (Err g.fault)) g.last) starts.is g.drawn)
      (λ m. ne (g.is ∙ ap error_of_walk m)) in
      record { why = below.why; is = g.is ∙ below.is; id = below.id; fault = below.fault; reached = below.reached }

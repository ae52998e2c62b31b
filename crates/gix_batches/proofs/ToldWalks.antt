-- What a walk over records gives with each commit: the parents that its text names, the committer's time, and no generation.
use Rattle.std.proofs.Common.{◌≡◌, ℕ, ℤ, List, [], ◌∷◌, ◌++◌, filter, true, Option, Some, None, Ok, Contains, refl, sym, ap, subst, ◌∙◌}
use Rattle.std.specs.Iterator.{Yields}
use Rattle.std.specs.List.{AllByRecursion, AllZip}
use Rattle.std.proofs.lemmas.List.Elements.{Contains-append_left}
use Rattle.gix_commitgraph.specs.Rows.{GraphRow}
use Rattle.gix_hash.specs.Reach.{Reaches}
use Rattle.gix_hash.specs.declared.ObjectId.{ObjectId}
use Rattle.gix_hash.proofs.Ids.Membership.{Contains-here, Contains-there}
use Rattle.gix_object.specs.Object.{Objects}
use Rattle.gix_revwalk.specs.Agreeing.{IsAgreeing}
use Rattle.gix_revwalk.specs.Commits.{by_mode, parents_of, time_of}
use Rattle.gix_revwalk.specs.Ids.{ids_of}
use Rattle.gix_revwalk.specs.Infos.{IsInfo, IsRowGeneration, given}
use Rattle.gix_revwalk.specs.Texts.{text_next}
use Rattle.gix_revwalk.specs.declared.CommitTimeOrder.{CommitTimeOrder}
use Rattle.gix_revwalk.specs.declared.Info.{Info}
use Rattle.gix_revwalk.specs.declared.Parents.{Parents}
use Rattle.gix_revwalk.proofs.Reached.{reach_more}
use Rattle.gix_revwalk.proofs.TextParents.{text_whole}
use Rattle.gix_simple.specs.Laws.{IsGivenBy}
use Rattle.gix_simple.specs.Walk.{time_if, time_order}
use Rattle.gix_simple.specs.declared.Sorting.{Sorting}
use Rattle.gix_simple.proofs.Corollaries.{begun_once}
use Rattle.gix_simple.proofs.Difference.{no_start}
use Rattle.gix_topo.specs.Laws.{IsTextGiven}
use Rattle.gix_topo.specs.Walk.{TopoPlan}
use Rattle.gix_topo.specs.declared.Sorting.{Sorting as TopoSorting}
use Rattle.gix_topo.proofs.Run.Theorem.{begins_text}
use Rattle.gix_commands.specs.TopoWalked as topo
use Rattle.gix_commands.specs.TopoWalked.{plan_from}
use Rattle.gix_revwalk.specs.Asking.{accepts_all}
use Rattle.gix_commands.specs.Walked.{Walk, Answers, StartsFrom, never_faulty, objects_of}
use Rattle.gix_commands.proofs.SimpleBegins.{begun, gave, met_before}
use Rattle.gix_commands.proofs.SimpleRuns.{from_pending}
use Rattle.gix_commands.proofs.TopoRuns.{no_faults}

-- the parents and the time that a commit is given with
pub record IsRead (named : ObjectId → List ObjectId) (timed : ObjectId → Option ℤ) (info : Info) : Type 0 where
  pub same_parents : info.parent_ids.items ≡ named info.id
  pub same_time : info.commit_time ≡ timed info.id
  pub same_generation : info.generation ≡ None

no_row : (i : ObjectId) (generation : Option ℕ) → IsRowGeneration [] i generation → generation ≡ None
no_row i None h = refl
no_row i (Some g) h = let no : ◌≡◌ {A = Option GraphRow} None (Some h.0) = h.1 in cc

one_read : (named : ObjectId → List ObjectId) (timed : ObjectId → Option ℤ) (info : Info) (i : ObjectId) (ids : List ObjectId) (time : Option ℤ) (generation : Option ℕ) → IsInfo info i ids generation time → IsRowGeneration [] i generation → ids ≡ named i → time ≡ timed i → IsRead named timed info
one_read named timed info i ids time generation is rowed parents times = record {
  same_parents = is.same_parents ∙ parents ∙ ap named (sym is.same_id);
  same_time = is.same_time ∙ times ∙ ap timed (sym is.same_id);
  same_generation = is.same_generation ∙ no_row i generation rowed;
}

module _ (objects : Objects) (m : Parents) (order : Option CommitTimeOrder) where
  abbrev pub named_by : ObjectId → List ObjectId
  named_by i = by_mode m (text_next objects i)

  abbrev pub timed_by : ObjectId → Option ℤ
  timed_by i = time_if order (time_of objects i)

  given_read : (named : ObjectId → List ObjectId) (infos : List Info) (ids : List ObjectId) → AllZip (IsGivenBy objects named [] m order) (given infos) ids → ((i : ObjectId) → Contains ids i → named i ≡ text_next objects i) → AllByRecursion (IsRead named_by timed_by) infos
  given_read named [] ids h same = tt
  given_read named (info ∷ infos) [] h same = absurd h
  given_read named (info ∷ infos) (i ∷ ids) h same = (
    one_read named_by timed_by info i (by_mode m (named i)) (time_if order (time_of objects i)) h.0.generation h.0.info_is h.0.by_row (ap (by_mode m) (same i (Contains-here i ids))) refl,
    given_read named infos ids h.1 (λ j c. same j (Contains-there j i ids c)),
  )

module _ (objects : Objects) (agrees : IsAgreeing objects []) (m : Parents) (by : Sorting) (tips hidden : List ObjectId) (walk : Walk) (starts : StartsFrom objects [] m by tips hidden walk) where
  pub read_simple : (infos : List Info) (last : Walk) → Yields Answers walk (given infos) last → AllByRecursion (IsRead (named_by objects m (time_order m by)) (timed_by objects m (time_order m by))) infos
  read_simple [] last drawn = tt
  read_simple (info ∷ infos) last drawn = go hidden refl
    where
      go : (hs : List ObjectId) → hidden ≡ hs → AllByRecursion (IsRead (named_by objects m (time_order m by)) (timed_by objects m (time_order m by))) (info ∷ infos)
      go [] e =
          let b = begun objects [] m by tips hidden walk starts agrees (info ∷ infos) last drawn e in
          given_read objects m (time_order m by) (text_next objects) (info ∷ infos) b.ids b.given (λ i c. refl)
      go (j ∷ hs) e =
          let met = met_before objects [] m by tips hidden walk starts agrees info drawn.0 drawn.1 (λ n. let c : [] ≡ j ∷ hs = sym n ∙ e in cc) in
          let g = gave objects [] m by tips hidden walk starts agrees (info ∷ infos) last drawn met in
          given_read objects m (time_order m by) (parents_of objects) (info ∷ infos) g.ids g.given
          (λ i c.
          let r = (begun_once (time_order m by) (time_of objects) _ _ g.ids g.begins).1 i c in
          let p : Reaches (parents_of objects) (ids_of walk.pending) i = from_pending objects [] m by tips hidden walk starts i r in
          text_whole objects i (met (λ none. no_start _ _ i p (λ k. ids_of (none k))) i (reach_more (parents_of objects) (ids_of walk.pending) (ids_of walk.pending ++ hidden) (λ x n. Contains-append_left (ids_of walk.pending) hidden x n) i p)))

module _ (objects : Objects) (agrees : IsAgreeing objects []) (m : Parents) (by : TopoSorting) (tips ends : List ObjectId) (walk : topo.Walk) (built : topo.IsBuiltFrom objects [] m by tips ends (Ok walk)) where
  abbrev pub timed_down : ObjectId → Option ℤ
  timed_down i = Some (time_of objects i)

  texts_read : (infos : List Info) (ids : List ObjectId) → AllZip (IsTextGiven objects_of (plan_from objects [] m by tips ends)) (given infos) ids → AllByRecursion (IsRead (text_next objects) timed_down) infos
  texts_read [] ids h = tt
  texts_read (info ∷ infos) [] h = absurd h
  texts_read (info ∷ infos) (i ∷ ids) h = (
    one_read (text_next objects) timed_down info i (text_next objects i) (Some (time_of objects i)) h.0.generation h.0.info_is h.0.by_row refl refl,
    texts_read infos ids h.1,
  )

  pub read_down : (infos : List Info) (last : topo.Walk) → Yields topo.Answers walk (given infos) last → AllByRecursion (IsRead (text_next objects) timed_down) infos
  read_down infos last drawn =
      let b = begins_text objects_of never_faulty accepts_all (λ i. true) walk last (given infos) (λ mid new i answer b a. a.0) built.1 (subst (λ (plan : TopoPlan Objects). IsAgreeing plan.store plan.rows) (sym built.0.plan) agrees) (no_faults infos) drawn in
      texts_read infos (filter (λ i. true) b.ids) (subst (λ (plan : TopoPlan Objects). AllZip (IsTextGiven objects_of plan) (given infos) (filter (λ i. true) b.ids)) built.0.plan b.given)

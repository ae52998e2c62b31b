-- What a topological walk over records gives up to a limit: the first commits of a list of what is reached.
use Rattle.std.proofs.Common.{List, map, true, Ok, sym, subst}
use Rattle.gix_commands.proofs.Common.{Yields, ObjectId, IsBeginningBy, Objects, GraphRow, Info, Parents, IsAgreeing, time_of, text_next, TopoPlan, IsBuiltFrom, plan_from, objects_of, never_faulty}
use Rattle.gix_commands.proofs.Common.{accepts_all}
use Rattle.gix_topo.specs.declared.Sorting.{Sorting}
use Rattle.gix_topo.specs.Laws.{BeginsTextOrder, IsNextByText}
use Rattle.gix_topo.proofs.Run.Corollaries.{each_by_text}
use Rattle.gix_topo.proofs.Run.Theorem.{begins_text}
use Rattle.gix_commands.specs.TopoWalked.{Walk, Answers}
use Rattle.gix_revwalk.specs.Infos.{given}
use Rattle.gix_commands.proofs.GoesOn.{descent_goes_on}
use Rattle.gix_commands.proofs.SimpleBegins.{AreFirstOf}
use Rattle.gix_commands.proofs.TopoRuns.{no_faults, same_read}
use Rattle.gix_commands.proofs.ListedCommits.{ListsDown, followed_down}

module _ (objects : Objects) (rows : List GraphRow) (agree : IsAgreeing objects rows) (m : Parents) (by : Sorting) (tips ends : List ObjectId) (walk : Walk) (built : IsBuiltFrom objects rows m by tips ends (Ok walk)) where
  -- what a walk gave that was drawn so far are the first commits of a list
  pub first_given_down : (infos : List Info) (last : Walk) → Yields Answers walk (given infos) last → AreFirstOf (ListsDown objects (text_next objects) (followed_down objects m) by tips ends) (map (λ info. info.id) infos)
  first_given_down infos last drawn =
      let b : BeginsTextOrder objects_of walk.plan (λ i. true) (given infos) =
      begins_text objects_of never_faulty accepts_all (λ i. true) walk last (given infos) (λ mid new i answer b a. a.0) built.1 (subst (λ (plan : TopoPlan Objects). IsAgreeing plan.store plan.rows) (sym built.0.plan) agree) (no_faults infos) drawn in
      let order : IsBeginningBy (IsNextByText objects_of (plan_from objects rows m by tips ends)) b.ids = subst (λ plan. IsBeginningBy (IsNextByText objects_of plan) b.ids) built.0.plan b.begins in
      subst (AreFirstOf (ListsDown objects (text_next objects) (followed_down objects m) by tips ends)) (sym (same_read walk.plan infos b.ids b.given)) (goes b.ids order)
    where
      goes : (ids : List ObjectId) → IsBeginningBy (IsNextByText objects_of (plan_from objects rows m by tips ends)) ids → AreFirstOf (ListsDown objects (text_next objects) (followed_down objects m) by tips ends) ids
      goes ids order =
          let on = descent_goes_on objects m tips ends by (time_of objects) ids order in
          let each = each_by_text objects_of (plan_from objects rows m by tips ends) on.0 on.1 in
          let l : ListsDown objects (text_next objects) (followed_down objects m) by tips ends on.0 =
          record {
            once = each.0;
            shown = each.1;
            all = each.2;
            in_order = on.1;
          } in
          (on.0, l, on.2)

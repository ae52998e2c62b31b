use Rattle.std.proofs.Common.{refl, sym, ap, subst, ◌∙◌, w64, to_z, of_z, Some, rules, SFits, ◌≡◌}
use Rattle.std.proofs.lemmas.Int.{to_z-of_z}
use Rattle.gix_topo.proofs.Common.{rows_of, Reads, MarksReady, LooksUpParent, err_from}
use Rattle.gix_topo.specs.Inside.Releasing.{itself, HasRowedParents}
use Rattle.gix_topo.proofs.Reading.ReadsCommit.{reads_rowed}
use Rattle.gix_topo.proofs.Reading.OnceRead.{reading_fails}
use Rattle.gix_topo.proofs.Taking.OneRelease.{fault_of_parent, reads_timed, time_told}
use Rattle.gix_topo.proofs.walk.Walk.push.Goals as goal

pub returns-in_err-info-clause-fault : goal.returns-in_err-info-clause-fault
returns-in_err-info-clause-fault g c = err_from _ c.from_residual.result c.in_err-info.field-0.0 c.from_residual.ensures.1 (itself (reading_fails _ c.in_err-info.ensures.reads))

pub look_up_parents-requires : goal.look_up_parents-requires
look_up_parents-requires g c =
    subst (λ x. HasRowedParents (g.F.Find.objects x.find) (rows_of x.graph) c.read.new.self.in_use c.in_ok-info.info) (sym c.in_ok-info.ensures.same)
    (reads_rowed (g.F.Find.objects c.args.self.now.counting.reader.find) (g.F.Find.faulty c.args.self.now.counting.reader.find) (rows_of c.args.self.now.counting.reader.graph) c.in_ok-info.ensures.reads)

pub returns-in_err-look_up_parents-clause-fault : goal.returns-in_err-look_up_parents-clause-fault
returns-in_err-look_up_parents-clause-fault g c =
    let f = c.in_err-look_up_parents.ensures.fault in
    err_from _ c.from_residual-in_err-look_up_parents.result c.in_err-look_up_parents.field-0.0 c.from_residual-in_err-look_up_parents.ensures.1
    (fault_of_parent g.F.Find.objects g.F.Find.faulty c.args.self.now c.args.id.now c.in_err-look_up_parents.field-0.0 c.in_ok-info.info c.read.new.self c.read.new.self f.0 refl
    c.in_ok-info.ensures.same c.in_ok-info.ensures.reads f.1 f.2)

fits : (g : _) (c : goal.In_ok-push g) → SFits w64 c.unwrap_or-time.result
fits g c = search rules

pub returns-clause-pushes : goal.returns-clause-pushes
returns-clause-pushes g c = (
  record { id = c.in_ok-info.info.id; parents = c.in_ok-info.info.parent_ids.items; time = to_z w64 (of_z w64 c.unwrap_or-time.result); generation = c.in_ok-info.info.generation },
  record {
    same = record {
      plan = λ k. record {
        store = (ap (λ x. x.reader.find) c.in_ok-look_up_parents.ensures.same ∙ ap (λ x. x.find) c.in_ok-info.ensures.same) k;
        rows = rows_of ((ap (λ x. x.reader.graph) c.in_ok-look_up_parents.ensures.same ∙ ap (λ x. x.graph) c.in_ok-info.ensures.same) k);
        parents = ap (λ x. x.parents) c.in_ok-look_up_parents.ensures.same k;
        sorting = c.in_ok-push.ensures.sorting k;
        tips = c.args.self.now.tips.items;
        ends = c.args.self.now.ends.items;
      };
      depth = ap (λ x. x.depth) c.in_ok-look_up_parents.ensures.same;
      expanded = ap (λ x. x.expanded) c.in_ok-look_up_parents.ensures.same;
      queue = c.in_ok-mark_ready.ensures.queue ∙ ap (λ x. x.frontier.queue) c.in_ok-look_up_parents.ensures.same;
    };
    id = (reads_timed c.in_ok-info.ensures.reads).id;
    info = c.in_ok-info.info;
    reads = subst (Reads (g.F.Find.objects c.args.self.now.counting.reader.find) (g.F.Find.faulty c.args.self.now.counting.reader.find) (rows_of c.args.self.now.counting.reader.graph) c.args.self.now.counting.reader.in_use c.args.id.now (Rattle.std.proofs.Common.Ok c.in_ok-info.info)) (sym (ap (λ x. x.reader.in_use) c.in_ok-look_up_parents.ensures.same)) c.in_ok-info.ensures.reads;
    is = record { same_id = refl; same_parents = refl; same_generation = refl; same_time = (reads_timed c.in_ok-info.ensures.reads).same_time ∙ time_told _ _ _ (reads_timed c.in_ok-info.ensures.reads).same_time c.unwrap_or-time.ensures ∙ ap Some (sym (to_z-of_z w64 c.unwrap_or-time.result (fits g c))) };
    known = λ p m. subst (λ s. LooksUpParent (g.F.Find.objects c.args.self.now.counting.reader.find) (rows_of c.args.self.now.counting.reader.graph) s c.args.self.now.counting.frontier p) (sym (ap (λ x. x.reader.in_use) c.in_ok-look_up_parents.ensures.same))
        (subst (λ x. LooksUpParent (g.F.Find.objects x.find) (rows_of x.graph) c.read.new.self.in_use c.args.self.now.counting.frontier p) c.in_ok-info.ensures.same (c.in_ok-look_up_parents.ensures.known p m));
    made = subst (λ i. MarksReady c.args.self.now.counting.frontier i c.mark_ready.new.self) (reads_timed c.in_ok-info.ensures.reads).id (subst (λ f. MarksReady f c.in_ok-info.info.id c.mark_ready.new.self) (ap (λ x. x.frontier) c.in_ok-look_up_parents.ensures.same) c.in_ok-mark_ready.ensures);
    holds = c.in_ok-push.ensures.holds;
  },
)

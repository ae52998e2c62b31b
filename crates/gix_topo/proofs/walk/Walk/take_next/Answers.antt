use Rattle.std.proofs.Common.{sym, ap, ◌∙◌, inr}
use Rattle.gix_topo.proofs.Common.{as_ready, plan_of, counted_by, taken_in, taken_of, TakesReady, IsHeld, IsNextReady, IsFault, IsLate}
use Rattle.gix_topo.specs.Inside.Steady.{ended, given, failed}
use Rattle.gix_topo.proofs.Taking.TakeNext.{popped, turned, turn_faults}
use Rattle.gix_topo.proofs.walk.Walk.take_next.Goals as goal

pub returns-in_err-commit-clause-takes : goal.returns-in_err-commit-clause-takes
returns-in_err-commit-clause-takes g c =
    rw (c.from_residual.ensures) (ended (c.in_err-commit.ensures.none.0) (λ k. record {
      plan = record { store = c.args.self.now.counting.reader.find; rows = (plan_of c.args.self.now).rows; parents = c.args.self.now.counting.parents; sorting = c.pop.ensures.sorting k; tips = c.args.self.now.tips.items; ends = c.args.self.now.ends.items };
      predicate = tt;
      counted = counted_by c.args.self.now.counting;
      ready = (c.in_err-commit.ensures.none.1 ∙ sym c.in_err-commit.ensures.none.0) k;
      taken = taken_in c.args.self.now.counting.frontier.known ((c.in_err-commit.ensures.none.1 ∙ sym c.in_err-commit.ensures.none.0) k);
    }))

pub returns-in-Err-clause-takes : goal.returns-in-Err-clause-takes
returns-in-Err-clause-takes g c =
    let f : IsFault g.F.Find.objects g.F.Find.faulty (plan_of c.args.self.now) (IsNextReady g.F.Find.objects (plan_of c.args.self.now) (taken_of c.args.self.now) (as_ready c.in_ok-commit.commit).id) c.in-Err.fault × IsLate g.F.Find.objects (plan_of c.args.self.now) (IsNextReady g.F.Find.objects (plan_of c.args.self.now) (taken_of c.args.self.now) (as_ready c.in_ok-commit.commit).id) c.in-Err.fault = turn_faults g.F.Find.objects g.F.Find.faulty c.args.self.now c.pop.new.self c.pop.ensures.sorting (as_ready c.in_ok-commit.commit) c.in_ok-commit.ensures.chosen c.requires c.in-Err.fault c.in-Err.ensures.fault in
    failed (as_ready c.in_ok-commit.commit) c.pop.new.self.commits c.in_ok-commit.ensures.chosen f.0 f.1
    ((λ k. record { store = c.take.new.self.counting.reader.find; rows = (plan_of c.take.new.self).rows; parents = c.take.new.self.counting.parents; sorting = (ap (λ s. s.sorting) c.clear.ensures) k; tips = c.take.new.self.tips.items; ends = c.take.new.self.ends.items }) ∙ c.take.ensures.same ∙ popped c.args.self.now c.pop.new.self c.pop.ensures.sorting)
    (ap (λ s. s.commits) c.clear.ensures)

both : (g : _) (c : goal.After-into_info g) → TakesReady g.F.Find.objects g.F.Find.faulty c.args.self.now (as_ready c.in_ok-commit.commit) c.take.new.self × IsHeld g.F.Find.objects g.F.Find.faulty c.take.new.self
both g c = turned g.F.Find.objects g.F.Find.faulty c.args.self.now c.pop.new.self c.pop.ensures.sorting (as_ready c.in_ok-commit.commit) c.in_ok-commit.ensures.chosen c.requires c.in_default.ensures.takes.0 c.take.new.self c.in_default.ensures.takes.1

pub returns-clause-takes : goal.returns-clause-takes
returns-clause-takes g c = given (both g c).0 c.into_info.ensures

pub returns-clause-open : goal.returns-clause-open
returns-clause-open g c = inr (both g c).1

use Rattle.std.proofs.Common.{◌≡◌, ◌∷◌, Some, refl, sym, ◌∙◌, subst, IsPermutation, slice_get, Contains, ◌+◌, ◌||◌, cond, Ok, ap}
use Rattle.gix_topo.proofs.Common.{rows_of, waiting_by, Finishes, Follows, err_from, Tips, Ends, reached, is_done, Reads}
use Rattle.gix_topo.specs.declared.Error.TheVariants as error
use Rattle.gix_topo.proofs.Counts.Frontier.{taken_from}
use Rattle.gix_topo.proofs.Counts.MeetsParents.{follows_done}
use Rattle.gix_topo.proofs.counting.Counting.step.Goals as goal

pub returns-in_err-ids-clause-fault : goal.returns-in_err-ids-clause-fault
returns-in_err-ids-clause-fault g c =
    err_from _ c.from_residual.result c.in_err-ids.field-0.0 c.from_residual.ensures.1 (record {
      entry = (c.in-Some.field-0-0, waiting_by c.waiting.inside.id c.waiting.inside.side);
      queued = subst (λ w. Contains c.args.self.now.frontier.queue (c.in-Some.field-0-0, w)) (sym c.waiting.view_is) (taken_from _ _ _ c.in-Some.ensures.rest);
      fault = c.in_err-ids.ensures.fault;
    })

pub returns-in_err-follow-clause-fault : goal.returns-in_err-follow-clause-fault
returns-in_err-follow-clause-fault g c = err_from _ c.from_residual-in_err-follow.result error.Memory c.from_residual-in_err-follow.ensures.1 (record { entry = (c.in-Some.field-0-0, c.in-Some.waiting); queued = taken_from _ _ _ c.in-Some.ensures.rest; fault = (tt, λ n. absurd (n refl)) })

pub returns-in_err-was_done-clause-fault : goal.returns-in_err-was_done-clause-fault
returns-in_err-was_done-clause-fault g c = err_from _ c.from_residual-in_err-was_done.result error.Memory c.from_residual-in_err-was_done.ensures.1 (record { entry = (c.in-Some.field-0-0, c.in-Some.waiting); queued = taken_from _ _ _ c.in-Some.ensures.rest; fault = (tt, λ n. absurd (n refl)) })

pub returns-in_err-count-clause-fault : goal.returns-in_err-count-clause-fault
returns-in_err-count-clause-fault g c = err_from _ c.from_residual-in_err-count.result error.Memory c.from_residual-in_err-count.ensures.1 (record { entry = (c.in-Some.field-0-0, c.in-Some.waiting); queued = taken_from _ _ _ c.in-Some.ensures.rest; fault = (tt, λ n. absurd (n refl)) })

pub returns-clause-steps : goal.returns-clause-steps
returns-clause-steps g c =
    let first : Some (c.in-Some.field-0-0, waiting_by c.waiting.inside.id c.waiting.inside.side) ≡ slice_get c.args.self.now.frontier.queue 0 = subst (λ w. Some (c.in-Some.field-0-0, w) ≡ slice_get c.args.self.now.frontier.queue 0) (sym c.waiting.view_is) c.in-Some.ensures.first in
    let rest : IsPermutation c.args.self.now.frontier.queue ((c.in-Some.field-0-0, waiting_by c.waiting.inside.id c.waiting.inside.side) ∷ c.pop.new.self) = subst (λ w. IsPermutation c.args.self.now.frontier.queue ((c.in-Some.field-0-0, w) ∷ c.pop.new.self)) (sym c.waiting.view_is) c.in-Some.ensures.rest in
    let is_read : c.read.new.self ≡ record c.args.self.now { reader = record c.args.self.now.reader { in_use = c.read.new.self.reader.in_use }; frontier = record c.args.self.now.frontier { queue = c.pop.new.self } } = c.in_ok-ids.ensures.same in
    let followed : c.follow.new.self ≡ record c.read.new.self { frontier = c.follow.new.self.frontier } = c.in_ok-follow.ensures.same in
    let counted : c.count.new.self ≡ record c.follow.new.self { frontier = c.finish.new.self; expanded = c.count.new.self.expanded } = c.count.ensures.same in
    let follows : Follows (rows_of c.args.self.now.reader.graph) c.waiting.inside.side (record c.args.self.now.frontier { queue = c.pop.new.self }) c.in_ok-ids.ids.items c.follow.new.self.frontier =
    subst (λ x. Follows (rows_of x.reader.graph) c.waiting.inside.side x.frontier c.in_ok-ids.ids.items c.follow.new.self.frontier) is_read
    (subst (λ ids. Follows (rows_of c.read.new.self.reader.graph) c.waiting.inside.side c.read.new.self.frontier ids c.follow.new.self.frontier) c.as_slice.ensures c.in_ok-follow.ensures.follows) in
    record {
      same = record {
        find = ap (λ x. x.reader.find) counted ∙ ap (λ x. x.reader.find) followed ∙ ap (λ x. x.reader.find) is_read;
        graph = ap (λ x. x.reader.graph) counted ∙ ap (λ x. x.reader.graph) followed ∙ ap (λ x. x.reader.graph) is_read;
        parents = ap (λ x. x.parents) counted ∙ ap (λ x. x.parents) followed ∙ ap (λ x. x.parents) is_read;
        depth = ap (λ x. x.depth) counted ∙ ap (λ x. x.depth) followed ∙ ap (λ x. x.depth) is_read;
      };
      entry = (c.in-Some.field-0-0, waiting_by c.waiting.inside.id c.waiting.inside.side);
      left = c.pop.new.self;
      first = sym first;
      taken_out = rest;
      ids = c.in_ok-ids.ids.items;
      reads = record {
        info = c.in_ok-ids.ensures.reads.info;
        reads = subst (Reads (g.F.Find.objects c.args.self.now.reader.find) (g.F.Find.faulty c.args.self.now.reader.find) (rows_of c.args.self.now.reader.graph) c.args.self.now.reader.in_use c.waiting.inside.id (Ok c.in_ok-ids.ensures.reads.info))
            (sym (ap (λ x. x.reader.in_use) counted ∙ ap (λ x. x.reader.in_use) followed)) c.in_ok-ids.ensures.reads.reads;
        named = c.in_ok-ids.ensures.reads.named;
      };
      followed = c.follow.new.self.frontier;
      follows = follows;
      finishes = subst (Finishes c.follow.new.self.frontier c.waiting.inside.id c.waiting.inside.side) (sym (ap (λ x. x.frontier) counted)) c.in_ok-was_done.ensures.finishes;
      expanded = c.in_ok-count.ensures.expanded ∙ ap (λ b. c.follow.new.self.expanded + cond b 0 1) (c.in_ok-was_done.ensures.before ∙ follows_done _ follows c.waiting.inside.id) ∙ ap (λ n. n + cond (is_done (reached c.args.self.now.frontier.known Tips c.waiting.inside.id) || is_done (reached c.args.self.now.frontier.known Ends c.waiting.inside.id)) 0 1) (ap (λ x. x.expanded) followed ∙ ap (λ x. x.expanded) is_read);
    }

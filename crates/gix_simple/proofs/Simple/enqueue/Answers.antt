use Rattle.std.proofs.Common.{◌≡◌, sym, true, ◌∙◌}
use Rattle.std.proofs.lemmas.Int.{to_z-of_z}
use Rattle.gix_simple.proofs.Common.{cutoff, is_older, dropped}
use Rattle.gix_simple.proofs.TreatsId.{enqueued_so}
use Rattle.gix_simple.proofs.Simple.enqueue.Goals as goal

pub returns-then-is_older-clause-ok : goal.returns-then-is_older-clause-ok
returns-then-is_older-clause-ok g c =
    let e : c.is_older.result ≡ is_older c.args.time (cutoff c.args.self.now.parents c.args.self.now.sorting) = simp (to_z-of_z, c.ranges.time) at c.is_older.ensures in
    dropped (sym e ∙ c.if-is_older.true)

pub returns-clause-ok : goal.returns-clause-ok
returns-clause-ok g c =
    let e : c.is_older.result ≡ is_older c.args.time (cutoff c.args.self.now.parents c.args.self.now.sorting) = simp (to_z-of_z, c.ranges.time) at c.is_older.ensures in
    let h = simp (to_z-of_z, c.ranges.time) at c.in_ok-push.ensures.ok in
    enqueued_so g.F.Find.objects g.F.Find.faulty g.P.Predicate.answers true c.args.id _ _ c.self.view_is c.args.time _ (sym e ∙ c.if-is_older.false) h

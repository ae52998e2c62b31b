use Rattle.gix_object.proofs.Commits.ItemsLeft.{taken_first, fewer_left}
use Rattle.gix_object.proofs.commit.CommitRefIterIterator.next.Goals as goal

pub returns-clause-steps : goal.returns-clause-steps
returns-clause-steps c = taken_first c.args.self.now c.take.new.self c.take.result c.take.ensures

pub returns-clause-goes : goal.returns-clause-goes
returns-clause-goes c = fewer_left _ (λ it. tt) c.args.self.now c.take.new.self c.take.result (returns-clause-steps c)

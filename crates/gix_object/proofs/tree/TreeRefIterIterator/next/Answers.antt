use Rattle.std.proofs.Common.{rules, ◌<◌, length, refl, ap, arith}
use Rattle.gix_object.specs.TreeRefIter.{entry_of}
use Rattle.gix_object.proofs.TreeText.Entries.{first_entry, entry_end}
use Rattle.gix_object.proofs.tree.TreeRefIterIterator.next.Goals as goal

pub returns-in-Ok-clause-steps : goal.returns-in-Ok-clause-steps
returns-in-Ok-clause-steps c =
    let some : 0 < length c.args.self.now.rest.now = search rules in
    record {
      item = first_entry c.args.self.now.kind c.args.self.now.rest.now (entry_of c.in-Ok.entry) c.in-Ok.rest.now some c.in-Ok.ensures;
      end = entry_end c.args.self.now.kind c.args.self.now.rest.now (entry_of c.in-Ok.entry) c.in-Ok.rest.now c.in-Ok.ensures;
      kind = refl;
      faulty = tt;
    }

pub returns-in-Ok-clause-goes : goal.returns-in-Ok-clause-goes
returns-in-Ok-clause-goes c =
    let some : 0 < length c.args.self.now.rest.now = search rules in
    let first = first_entry c.args.self.now.kind c.args.self.now.rest.now (entry_of c.in-Ok.entry) c.in-Ok.rest.now some c.in-Ok.ensures in
    record { on = λ _. (tt, tt, omega (arith, ap length first)); keeps = tt; rests = λ _. tt }

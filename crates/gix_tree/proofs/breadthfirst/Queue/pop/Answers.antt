use Rattle.std.proofs.Common.{◌≡◌, ◌<◌, ◌≤◌, [], length, get_or, refl, sym, ap, ◌∙◌}
use Rattle.gix_tree.proofs.Levels.Met.{queue_turns, queue_ends}
use Rattle.gix_tree.proofs.breadthfirst.Queue.pop.Goals as goal

pub returns-in_err-tree : goal.returns-in_err-tree
returns-in_err-tree c =
    let past : length c.self.inside.trees.items ≤ c.self.inside.turn = rw c.deref.ensures.value at c.in_err-tree.ensures.lookup.3 in
    let waiting : c.args.self.now.waiting ≡ [] = sym (ap (λ q. q.waiting) c.self.view_is) ∙ queue_ends c.self.inside.trees.items c.self.inside.turn past in
    rw c.from_residual.ensures (waiting, refl)

pub returns : goal.returns
returns c =
    let within : c.self.inside.turn < length c.self.inside.trees.items = rw c.deref.ensures.value at c.in_ok-tree.ensures.lookup.3.0 in
    let at : c.in_ok-tree.tree.now ≡ get_or c.self.inside.trees.items c.self.inside.turn c.in_ok-tree.tree.now = rw c.deref.ensures.value at c.in_ok-tree.ensures.lookup.1 in
    sym (ap (λ q. q.waiting) c.self.view_is) ∙ queue_turns c.self.inside.trees.items c.self.inside.turn c.in_ok-tree.tree.now c.self.invariant.1 within at

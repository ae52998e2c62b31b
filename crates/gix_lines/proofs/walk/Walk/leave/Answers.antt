use Rattle.std.proofs.Common.{◌-◌, arith}
use Rattle.gix_lines.proofs.Names.{shorter}
use Rattle.gix_lines.proofs.walk.Walk.leave.Goals as goal

pub overflow_sub-self-2 : goal.overflow_sub-self-2
overflow_sub-self-2 c = let s = shorter c.self.inside.above.items (c.self.inside.level - 1) _ _ _ c.self.inside.path.items c.index-upper.result.now c.self.invariant (omega (arith, c.if-self-eq0.false)) c.if-self.false c.index-upper.ensures in omega (arith, s.long)

pub overflow_sub-self-3 : goal.overflow_sub-self-3
overflow_sub-self-3 c = let s = shorter c.self.inside.above.items (c.self.inside.level - 1) _ _ _ c.self.inside.path.items c.index-upper.result.now c.self.invariant (omega (arith, c.if-self-eq0.false)) c.if-self.false c.index-upper.ensures in omega (arith, s.long)

pub invariant_of-self-2 : goal.invariant_of-self-2
invariant_of-self-2 c = (shorter c.self.inside.above.items (c.self.inside.level - 1) _ _ _ c.self.inside.path.items c.index-upper.result.now c.self.invariant (omega (arith, c.if-self-eq0.false)) c.if-self.false c.index-upper.ensures).keeps

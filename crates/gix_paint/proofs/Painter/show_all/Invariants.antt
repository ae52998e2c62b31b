use Rattle.std.specs.VecDeque.Iter.{deque_iter_rest}
use Rattle.gix_paint.specs.declared.Side.TheVariants as side
use Rattle.gix_paint.proofs.Meets.{IsLeft}
use Rattle.gix_paint.proofs.Common.{ids_of}
use Rattle.gix_paint.proofs.Painter.show_all.Given as goal

-- to meet the tips that are left is to meet them all
abbrev pub invariant-loop-tip : goal.invariant-loop-tip
invariant-loop-tip g l = IsLeft side.Visible (ids_of l.fn.tips.items) l.fn.self (ids_of (deque_iter_rest l.tip-iterator)) l.self

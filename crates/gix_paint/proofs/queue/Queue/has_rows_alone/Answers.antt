use Rattle.std.proofs.Common.{length, sym, ap, subst, ◌∙◌, ◌==◌}
use Rattle.gix_paint.proofs.Common.{AreAllTold}
use Rattle.gix_paint.proofs.Waits.{no_items, entries-told, entries-untold}
use Rattle.gix_paint.proofs.queue.Queue.has_rows_alone.Goals as goal

pub returns : goal.returns
returns c = (
  λ t. subst AreAllTold c.self.view_is (entries-told c.self.inside.unrowed.items c.self.inside.rowed (no_items c.self.inside.unrowed.items (sym (c.is_empty.ensures ∙ ap (λ n. n == 0) c.self.inside.unrowed.ok.0) ∙ t))),
  λ all. c.is_empty.ensures ∙ ap (λ n. n == 0) (c.self.inside.unrowed.ok.0 ∙ ap length (entries-untold c.self.inside.unrowed.items c.self.inside.rowed (subst AreAllTold (sym c.self.view_is) all))),
)

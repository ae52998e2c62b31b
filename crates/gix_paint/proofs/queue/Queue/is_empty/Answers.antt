use Rattle.std.proofs.Common.{◌≡◌, false, true, length, sym, ap, ◌∙◌, ◌==◌}
use Rattle.gix_paint.specs.Inside.Queue.{queue_entries}
use Rattle.gix_paint.proofs.Waits.{no_items, entries-empty, entries-none}
use Rattle.gix_paint.proofs.queue.Queue.is_empty.Goals as goal

pub returns-then-is_empty : goal.returns-then-is_empty
returns-then-is_empty c = (
  λ t.
      let unrowed = no_items c.self.inside.unrowed.items (sym (c.is_empty.ensures ∙ ap (λ n. n == 0) c.self.inside.unrowed.ok.0) ∙ c.if-is_empty.true) in
      let rowed = no_items c.self.inside.rowed (sym c.is_empty-then-is_empty.ensures ∙ t) in
      sym c.self.view_is ∙ (λ k. queue_entries (unrowed k) (rowed k)) ∙ entries-empty,
  λ none. c.is_empty-then-is_empty.ensures ∙ ap (λ items. length items == 0) (entries-none _ _ (c.self.view_is ∙ none)).1,
)

pub returns-else-is_empty : goal.returns-else-is_empty
returns-else-is_empty c = (
  λ t. let bad : false ≡ true = sym c.if-is_empty.false ∙ t in cc,
  λ none. c.is_empty.ensures ∙ ap (λ n. n == 0) (c.self.inside.unrowed.ok.0 ∙ ap length (entries-none _ _ (c.self.view_is ∙ none)).0),
)

use Rattle.std.proofs.Common.{sym, ap, ◌∙◌}
use Rattle.gix_paint.proofs.Common.{contains}
use Rattle.gix_paint.proofs.Invariant.{contains-hidden}
use Rattle.gix_paint.proofs.HiddenIds.contains.Goals as goal

pub returns : goal.returns
returns c = c.is_hidden.ensures ∙ sym (contains-hidden c.self.inside.marks c.args.id.now) ∙ ap (λ s. contains s c.args.id.now) c.self.view_is

use Rattle.std.proofs.Common.{◌≡◌, List}
use Rattle.std.specs.Iterator.{IsFinite, size}
use Rattle.gix_commands.proofs.Common.{Yields, Info, kept_in}
use Rattle.gix_commands.specs.Chosen.{HasTextIn, line_in}
use Rattle.gix_commands.specs.Output.{Takes, held_in}
use Rattle.gix_revwalk.specs.Infos.{given}
use Rattle.gix_commands.specs.Walked.{Have}
use Rattle.gix_commands.proofs.ChosenFacts.{IsAt}
use Rattle.gix_commands.proofs.output.draw.Given as goal

-- the walk gave commits, and those that are written of them were added
abbrev pub invariant-draws : goal.invariant-draws
invariant-draws g l = record {
  infos : List Info;
  drawn : Yields g.I.Iterator.next_gives l.fn.walk (given infos) l.walk;
  can : g.I.Iterator.can_next l.walk;
  finite : IsFinite (g.I.Iterator.remaining l.walk);
  form : l.sink.form ≡ l.fn.sink.form;
  have : Have (HasTextIn l.fn.chooser) infos;
  at : IsAt l.fn.chooser infos l.chooser;
  takes : Takes (line_in l.fn.chooser.objects l.fn.chooser.shown) l.fn.sink.form (g.W.Write.contents l.fn.writer) (held_in l.fn.sink) (kept_in l.fn.chooser.objects l.fn.chooser.shown infos) (g.W.Write.contents l.writer) (held_in l.sink);
}

-- how many more answers may come
abbrev pub decreases-draws : goal.decreases-draws
decreases-draws g l = size (g.I.Iterator.remaining l.walk)

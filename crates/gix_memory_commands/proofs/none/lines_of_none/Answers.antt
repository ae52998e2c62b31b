use Rattle.std.proofs.Common.{sym, ap, subst, ◌∙◌}
use Rattle.gix_memory_commands.specs.Inside.{none_of}
use Rattle.gix_memory_commands.specs.Nothing.{LinesOfNone}
use Rattle.gix_memory_commands.proofs.NoTip.{no_tip}
use Rattle.gix_memory_commands.proofs.none.lines_of_none.Goals as goal

pub returns-in-Some : goal.returns-in-Some
returns-in-Some c =
    subst (LinesOfNone c.args.words.now) (sym c.lines_of_number.ensures)
    (no_tip c.args.words.now c.in-Some.is_number (ap none_of c.in_ok-command.ensures ∙ sym c.none_of.ensures ∙ c.in-Some.is))

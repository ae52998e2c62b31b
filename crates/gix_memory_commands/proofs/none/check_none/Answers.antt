use Rattle.std.proofs.Common.{Some, false, sym, ap, ◌∙◌}
use Rattle.gix_memory_commands.specs.Inside.{none_of}
use Rattle.gix_memory_commands.proofs.NoTip.{no_tip}
use Rattle.gix_memory_commands.proofs.none.check_none.Goals as goal

pub returns-in-Some-false : goal.returns-in-Some-false
returns-in-Some-false c =
    no_tip c.args.words.now false (ap none_of c.in_ok-command.ensures ∙ sym c.none_of.ensures ∙ c.in-Some-false.is ∙ ap Some c.in-Some-false.field-0-test)

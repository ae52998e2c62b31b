use Rattle.std.proofs.Common.{ap, map, string_bytes, ◌++◌, ◌∙◌}
use Rattle.gix_words.specs.Printed.{printed}
use Rattle.gix_words.specs.Words.{request_of, request_of_command}
use Rattle.gix_words.proofs.ReadRequests.{asked_again}
use Rattle.gix_words.proofs.words.Command.words.Goals as goal

pub returns : goal.returns
returns c w =
    let r = request_of_command c.args.self.now in
    ap request_of (c.in_ok-push_command.ensures.words ∙ ap (λ words. map string_bytes words ++ printed r) c.new-words.ensures.items)
    ∙ asked_again r c.in_ok-push_command.ensures.ids w

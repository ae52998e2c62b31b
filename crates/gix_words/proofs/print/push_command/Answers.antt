use Rattle.std.proofs.Common.{List, ◌++◌, ap, sym, ◌∙◌, map, string_bytes, codes}
use Rattle.gix_hash.specs.declared.ObjectId.{ObjectId}
use Rattle.gix_words.specs.declared.words.Command.{Command}
use Rattle.gix_words.specs.Printed.{printed, several_words}
use Rattle.gix_words.specs.Words.{request_of_command}
use Rattle.gix_words.proofs.Appended.{on_ok}
use Rattle.gix_words.proofs.print.push_command.Goals as goal

pub returns-in-Ahead-clause-words : goal.returns-in-Ahead-clause-words
returns-in-Ahead-clause-words c =
    let old = map string_bytes c.args.words.now.items in
    on_ok c.push_several.result (λ e. e ∙ ap (λ (command : Command). old ++ printed (request_of_command command)) (sym c.in-Ahead.is)) c.push_several.ensures.words

pub returns-in-Containing-clause-words : goal.returns-in-Containing-clause-words
returns-in-Containing-clause-words c =
    let old = map string_bytes c.args.words.now.items in
    on_ok c.push_several-in-Containing.result
    (λ e. e ∙ ap (λ (ids : List ObjectId). old ++ several_words (codes "containing") c.in-Containing.target ids) c.as_slice-in-Containing.ensures.value
    ∙ ap (λ (command : Command). old ++ printed (request_of_command command)) (sym c.in-Containing.is))
    c.push_several-in-Containing.ensures.words

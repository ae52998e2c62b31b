use Rattle.std.proofs.Common.{rules}
use Rattle.serde_json.specs.declared.value.Value.{the_lemmas}
use Rattle.gix_output.proofs.Texts.{said_in_hex}
use Rattle.gix_output.proofs.json.text_value.Goals as goal

pub returns-in-Ok-json-2 : goal.returns-in-Ok-json-2
returns-in-Ok-json-2 c =
    let never = c.in-Err.ensures.cases in
    rw (said_in_hex c.args.text.now never.0) (search (rules, the_lemmas))

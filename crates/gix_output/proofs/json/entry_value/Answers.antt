use Rattle.std.proofs.Common.{◌≡◌, rules, ap, ◌∙◌}
use Rattle.serde_json.specs.View.{view}
use Rattle.serde_json.specs.declared.value.Value.{the_lemmas}
use Rattle.gix_output.specs.Json.{behind, part, bytes_data}
use Rattle.gix_output.proofs.json.entry_value.Goals as goal

pub returns-in-Ok-json-6 : goal.returns-in-Ok-json-6
returns-in-Ok-json-6 c =
    let line = c.args.line.now in
    let id : view c.in_ok-text_value.field-0 ≡ bytes_data (part 32 1 line) =
    c.in_ok-text_value.ensures ∙ ap bytes_data (c.cut-2.ensures.front ∙ ap (part 32 0) c.cut.ensures.behind) in
    let path : view c.in_ok-text_value-3.field-0 ≡ bytes_data (behind 32 2 line) =
    c.in_ok-text_value-3.ensures ∙ ap bytes_data (c.cut-2.ensures.behind ∙ ap (behind 32 1) c.cut.ensures.behind) in
    search (rules, the_lemmas)

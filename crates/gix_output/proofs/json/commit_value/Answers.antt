use Rattle.std.proofs.Common.{◌≡◌, ap, rules, ◌∙◌}
use Rattle.serde_json.specs.View.{view}
use Rattle.serde_json.specs.declared.value.Value.{the_lemmas}
use Rattle.gix_output.specs.Json.{behind, number_data, parents_data, part, bytes_data}
use Rattle.gix_output.proofs.json.commit_value.Goals as goal

pub returns-in-Ok-json-14 : goal.returns-in-Ok-json-14
returns-in-Ok-json-14 c =
    let line = c.args.line.now in
    let one = c.cut.ensures.behind in
    let two = c.cut-2.ensures.behind ∙ ap (behind 10 1) one in
    let three = c.cut-3.ensures.behind ∙ ap (behind 10 1) two in
    let four = c.cut-4.ensures.behind ∙ ap (behind 10 1) three in
    let five = c.cut-5.ensures.behind ∙ ap (behind 10 1) four in
    let author : view c.in_ok-text_value.field-0 ≡ bytes_data (part 10 4 line) =
    c.in_ok-text_value.ensures ∙ ap bytes_data (c.cut-5.ensures.front ∙ ap (part 10 0) four) in
    let email : view c.in_ok-text_value-2.field-0 ≡ bytes_data (part 10 5 line) =
    c.in_ok-text_value-2.ensures ∙ ap bytes_data (c.cut-6.ensures.front ∙ ap (part 10 0) five) in
    let id : view c.in_ok-text_value-3.field-0 ≡ bytes_data (part 10 0 line) = c.in_ok-text_value-3.ensures ∙ ap bytes_data c.cut.ensures.front in
    let parents : view c.in_ok-parents_value.field-0 ≡ parents_data (part 10 2 line) =
    c.in_ok-parents_value.ensures ∙ ap parents_data (c.cut-3.ensures.front ∙ ap (part 10 0) two) in
    let subject : view c.in_ok-text_value-4.field-0 ≡ bytes_data (behind 10 6 line) =
    c.in_ok-text_value-4.ensures ∙ ap bytes_data (c.cut-6.ensures.behind ∙ ap (behind 10 1) five) in
    let time : view c.in_ok-number_value.field-0 ≡ number_data (part 10 3 line) =
    c.in_ok-number_value.ensures ∙ ap number_data (c.cut-4.ensures.front ∙ ap (part 10 0) three) in
    let tree : view c.in_ok-text_value-5.field-0 ≡ bytes_data (part 10 1 line) =
    c.in_ok-text_value-5.ensures ∙ ap bytes_data (c.cut-2.ensures.front ∙ ap (part 10 0) one) in
    search (rules, the_lemmas)

use Rattle.std.proofs.Common.{◌≡◌, false, rules, sym, ap, ◌∙◌}
use Rattle.serde_json.specs.Data.{number}
use Rattle.serde_json.specs.Find.{as_number, is_float}
use Rattle.serde_json.specs.View.{view, number_view}
use Rattle.serde_json.specs.declared.value.Value.{Number, the_lemmas}
use Rattle.gix_output.specs.Json.{or_null}
use Rattle.gix_output.proofs.Texts.{integer_stays, number_read, number_unread}
use Rattle.gix_output.proofs.json.number_value.Goals as goal

pub returns-in-Ok-Number : goal.returns-in-Ok-Number
returns-in-Ok-Number c =
    let ok = c.in-Ok-Number.ensures.ok in
    let found = c.in-Ok-Number.number in
    let is : view c.in-Ok-Number.field-0 ≡ number (number_view found) = rw c.in-Ok-Number.field-0-is (search (rules, the_lemmas)) in
    let written : view (Number found) ≡ number (number_view found) = search (rules, the_lemmas) in
    let integer : is_float (number_view found) ≡ false =
    ap (λ n. is_float (number_view n)) (sym c.in-Ok-Number.number-is) ∙ sym c.is_f64.ensures ∙ c.if-is_f64.false in
    ap (λ n. view (Number n)) c.in-Ok-Number.number-is
    ∙ written
    ∙ sym (number_read c.args.text.now _ ok.0 ok.1 ∙ ap (λ d. or_null (as_number d)) is ∙ integer_stays _ integer)

pub returns : goal.returns
returns c =
    let kind = c.classify.ensures.memory in
    rw (number_unread c.args.text.now (c.in-Err.ensures.err (λ m. c.in_default.not-Memory (kind.1 m)))) (search (rules, the_lemmas))

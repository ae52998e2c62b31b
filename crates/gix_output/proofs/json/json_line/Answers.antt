use Rattle.std.proofs.Common.{◌≡◌, ◌≤◌, [], ◌∷◌, ◌++◌, Some, string_bytes, ap, subst, sym, ◌∙◌}
use Rattle.serde_json.specs.Data.{Data, depth}
use Rattle.serde_json.specs.Read.{max_depth, read}
use Rattle.serde_json.specs.Written.{compact_text, has_float}
use Rattle.gix_output.specs.Json.{json_of}
use Rattle.gix_output.proofs.Integers.{line_has_none}
use Rattle.gix_output.proofs.Nesting.{line_nests}
use Rattle.gix_output.proofs.json.json_line.Goals as goal

is_json : (c : goal.In_ok-push_str) → string_bytes c.in_ok-text.text ≡ json_of c.args.shape c.args.line.now
is_json c =
    let said = c.in_ok-value_of.ensures in
    c.in_ok-text.ensures.text (ap has_float said ∙ line_has_none c.args.shape c.args.line.now) ∙ ap compact_text said

pub returns-clause-json : goal.returns-clause-json
returns-clause-json c = c.in_ok-push_str.ensures.bytes ∙ ap (λ s. s ++ 10 ∷ []) (is_json c)

pub returns-clause-reads_back : goal.returns-clause-reads_back
returns-clause-reads_back c =
    let said = c.in_ok-value_of.ensures in
    let nests = subst (λ (d : Data). depth d ≤ max_depth) (sym said) (line_nests c.args.shape c.args.line.now) in
    ap read (sym (is_json c)) ∙ c.in_ok-text.ensures.reads_back nests ∙ ap Some said

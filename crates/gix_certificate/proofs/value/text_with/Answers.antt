use Rattle.std.proofs.Common.{◌≤◌, ◌∙◌, Some, ap, subst, sym}
use Rattle.serde_json.specs.Data.{Data, depth}
use Rattle.serde_json.specs.Read.{max_depth}
use Rattle.gix_certificate.proofs.Nesting.{certificate_nests, seal_is_flat}
use Rattle.gix_certificate.specs.Written.{seal_data}
use Rattle.gix_certificate.proofs.value.text_with.Goals as goal

pub returns : goal.returns
returns c =
    let said = c.in_ok-certificate_value.ensures in
    let nests = subst (λ (d : Data). depth d ≤ max_depth) (sym said) (certificate_nests (seal_data c.args.seal) (seal_is_flat c.args.seal) c.args.certificate.now) in
    (_, c.in_ok-push_str.ensures.bytes, c.in_ok-text.ensures.reads_back nests ∙ ap Some said)

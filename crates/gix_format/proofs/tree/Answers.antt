use Rattle.std.proofs.Common.{◌≡◌, ◌-◌, ◌*◌, List, ℕ, length, take, drop, min, ap, ◌∙◌}
use Rattle.std.proofs.lemmas.List.{drop_min, take_min, take_rest}
use Rattle.gix_hash.specs.Id.{id_len}
use Rattle.gix_format.proofs.Fields.{digits_in-is}
use Rattle.gix_format.proofs.tree.Goals as goal

pub returns : goal.returns
returns c =
    let text : List ℕ = c.args.commit.text.now in
    let n : ℕ = c.len_in_hex-digits.result in
    let behind : take (length text - c.min.result) (drop c.min.result text) ≡ drop 5 text =
    take_rest text c.min.result ∙ ap (λ k. drop k text) {x = c.min.result} {y = min 5 (length text)} c.min.ensures ∙ drop_min 5 text in
    ap (take c.min-2.result) behind
    ∙ ap (λ k. take k (drop 5 text)) (c.min-2.ensures ∙ ap (λ xs. min n (length xs)) behind)
    ∙ take_min n (drop 5 text)
    ∙ ap (λ k. take k (drop 5 text)) (c.len_in_hex-digits.ensures ∙ ap (λ k. 2 * id_len k) c.kind.ensures ∙ digits_in-is c.args.commit.id)

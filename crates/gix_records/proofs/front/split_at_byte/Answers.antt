use Rattle.std.proofs.Common.{ℕ, ◌+◌, get_or, take, Some, List, sym, ap, ◌∙◌, arith, option_map, eqb-true, eq-eqb}
use Rattle.std.proofs.lemmas.List.{take_rest}
use Rattle.gix_records.proofs.SplitFacts.{split_none, split_first}
use Rattle.gix_records.proofs.front.split_at_byte.Goals as goal

pub returns-in_err-end : goal.returns-in_err-end
returns-in_err-end c =
    ap (option_map (λ r. (r.0.now, r.1.now))) c.from_residual.ensures
    ∙ sym (split_none c.args.byte c.args.text.now (λ i l e. c.in_err-end.ensures i (omega arith) l (eq-eqb (get_or c.args.text.now i 0) c.args.byte e)))

pub returns : goal.returns
returns c =
    let text : List ℕ = c.args.text.now in
    let end : ℕ = c.in_ok-end.end in
    let found = c.in_ok-end.ensures in
    ap (λ x. Some (take end text, x)) (take_rest text (end + 1))
    ∙ sym (split_first c.args.byte text end found.0.high (eqb-true (get_or text end 0) c.args.byte found.1) (λ i l e. found.0.before i (omega arith) l (eq-eqb (get_or text i 0) c.args.byte e)))

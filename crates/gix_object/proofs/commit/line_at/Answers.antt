use Rattle.std.proofs.Common.{ℕ, ◌+◌, get_or, take, Some, List, sym, ap, ◌∙◌, arith, option_map, eqb-true, eq-eqb}
use Rattle.std.proofs.lemmas.List.{take_rest}
use Rattle.gix_object.proofs.Commits.Lines.{line_at_none, line_at_first}
use Rattle.gix_object.proofs.commit.line_at.Goals as goal

pub returns-in_err-end : goal.returns-in_err-end
returns-in_err-end c =
    ap (option_map (λ r. (r.0.now, r.1.now))) c.from_residual.ensures
    ∙ sym (line_at_none c.args.bytes.now (λ i l e. c.in_err-end.ensures i (omega arith) l (eq-eqb (get_or c.args.bytes.now i 0) 10 e)))

pub returns : goal.returns
returns c =
    let bytes : List ℕ = c.args.bytes.now in
    let end : ℕ = c.in_ok-end.end in
    let found = c.in_ok-end.ensures in
    ap (λ x. Some (take end bytes, x)) (take_rest bytes (end + 1))
    ∙ sym (line_at_first bytes end found.0.high (eqb-true (get_or bytes end 0) 10 found.1) (λ i l e. found.0.before i (omega arith) l (eq-eqb (get_or bytes i 0) 10 e)))

use Rattle.std.proofs.Common.{ℕ, ◌+◌, List, get_or, take, Some, None, sym, ap, inl, inr, ◌∙◌, arith, option_copied, eqb-true, eq-eqb}
use Rattle.std.proofs.lemmas.Bool.{cases_lt}
use Rattle.std.proofs.lemmas.List.{take_rest, get_or-take, length-take-le}
use Rattle.gix_object.proofs.Commits.Seconds.{behind_last_none, behind_last_at}
use Rattle.gix_object.proofs.commit.behind_last.Goals as goal

pub returns-in_err-end : goal.returns-in_err-end
returns-in_err-end c =
    let bytes : List ℕ = c.args.bytes.now in
    let n : ℕ = c.angles_end.result in
    let front = length-take-le n bytes c.angles_end.ensures.within in
    ap option_copied c.from_residual.ensures
    ∙ sym (behind_last_none None bytes (λ i l e. elim (cases_lt i n) [
      | inl before ↦ c.in_err-end.ensures i (omega arith) (omega (arith, front)) (eq-eqb (get_or (take n bytes) i 0) 62 (get_or-take n bytes i 0 before ∙ e))
      | inr behind ↦ c.angles_end.ensures.none i behind l (eq-eqb (get_or bytes i 0) 62 e)
    ]))

pub returns : goal.returns
returns c =
    let bytes : List ℕ = c.args.bytes.now in
    let n : ℕ = c.angles_end.result in
    let end : ℕ = c.in_ok-end.end in
    let front = length-take-le n bytes c.angles_end.ensures.within in
    let found = c.in_ok-end.ensures in
    ap Some (take_rest bytes (end + 1))
    ∙ sym (behind_last_at None bytes end (omega (arith, front, found.0.high)) (sym (get_or-take n bytes end 0 (omega (arith, front, found.0.high))) ∙ eqb-true (get_or (take n bytes) end 0) 62 found.1) (λ i l h e. elim (cases_lt i n) [
      | inl before ↦ found.0.after i (omega arith) (omega (arith, front)) (eq-eqb (get_or (take n bytes) i 0) 62 (get_or-take n bytes i 0 before ∙ e))
      | inr behind ↦ c.angles_end.ensures.none i behind h (eq-eqb (get_or bytes i 0) 62 e)
    ]))

use Rattle.std.proofs.Common.{◌≡◌, ◌-◌, ℕ, List, [], ◌++◌, Option, Result, Err, IfErr, length, refl, sym, subst, ◌∙◌, ap, take, drop, arith, append_assoc, append-nil, take-append-drop, length-drop, take_all}
use Rattle.std.proofs.lemmas.Grind.{common_steps}
use Rattle.std.proofs.KnownBytes.{Appends-trans, Appends-kept}
use Rattle.std.specs.Io.KnownBytes.{Appends, Keeps}
use Rattle.std.proofs.lemmas.Result.{err_from_is_err_and}
use Rattle.gix_lines.specs.Output.{IsCut}
use Rattle.gix_lines.specs.declared.Error.{Error}
use Rattle.gix_lines.specs.declared.Error.TheVariants as fault
use Rattle.gix_lines.proofs.writing.write_bytes.Goals as goal

all_taken : (old new : Option (List ℕ)) (bytes some rest : List ℕ) → bytes ≡ some ++ rest → Appends old new some → rest ≡ [] → Appends old new bytes
all_taken old new bytes some rest whole a none = subst (Appends old new) (sym (whole ∙ ap (λ w. some ++ w) none ∙ append-nil some)) a

none_taken : (old at new : Option (List ℕ)) (bytes some rest : List ℕ) (result : Result (Unit {0}) Error) (e : Error) → result ≡ Err e → e ≡ fault.Write → bytes ≡ some ++ rest → Appends old at some → Keeps at new → IfErr result (IsCut old new bytes)
none_taken old at new bytes some rest result e is same whole a kept = subst (λ (r : Result (Unit {0}) Error). IfErr r (IsCut old new bytes)) (sym is) (same, (some, rest, whole, Appends-kept old at new some a kept))

pub returns-then-is_empty-clause-ok : goal.returns-then-is_empty-clause-ok
returns-then-is_empty-clause-ok g c = all_taken _ _ _ _ _ c.loop-turn.invariant.whole c.loop-turn.invariant.appends (grind (arith, common_steps, c.is_empty.ensures, c.if-is_empty.true))

pub returns-in_err-taken-clause-fault : goal.returns-in_err-taken-clause-fault
returns-in_err-taken-clause-fault g c =
    let p = err_from_is_err_and c.from_residual.result c.from_residual.ensures.1 in
    none_taken _ _ _ _ _ _ _ _ (p.1 ∙ ap (λ f. Err f) p.2) c.in_err-taken.ensures.fault.0 c.loop-turn.invariant.whole c.loop-turn.invariant.appends c.in_err-taken.ensures.fault.1

pub returns-clause-fault : goal.returns-clause-fault
returns-clause-fault g c = (refl, (c.loop-turn.invariant.some, c.loop-turn.rest.now, c.loop-turn.invariant.whole, c.loop-turn.invariant.appends))

pub loop-turn-preserved : goal.loop-turn-preserved
loop-turn-preserved g c = record {
  some = c.loop-turn.invariant.some ++ take c.in_ok-taken.taken c.loop-turn.rest.now;
  whole = more_taken _ _ c.loop-turn.rest.now c.in_ok-taken.taken c.loop-turn.invariant.whole;
  appends = Appends-trans _ _ _ _ _ c.loop-turn.invariant.appends c.in_ok-taken.ensures.ok;
}
  where
    more_taken : (bytes some rest : List ℕ) (n : ℕ) → bytes ≡ some ++ rest → bytes ≡ (some ++ take n rest) ++ take (length rest - n) (drop n rest)
    more_taken bytes some rest n whole =
        whole ∙ ap (λ w. some ++ w) (sym (take-append-drop n rest) ∙ ap (λ w. take n rest ++ w) (sym (take_all (length rest - n) (drop n rest) (omega (arith, length-drop n rest))))) ∙ sym (append_assoc some (take n rest) _)

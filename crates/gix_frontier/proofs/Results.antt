-- Facts on results.
use Rattle.std.proofs.Common.{◌≡◌, Result, Ok, Err, OnOk, IfErr, IsErrAnd, sym, subst}

pub on_ok : {X E A B : Type 0} (r : Result X E) → (A → B) → OnOk r A → OnOk r B
on_ok (Ok x) f h = f h
on_ok (Err e) f h = tt

pub if_err : {X E : Type 0} {P Q : E → Type 0} (r : Result X E) → ((e : E) → P e → Q e) → IfErr r P → IfErr r Q
if_err (Ok x) f h = tt
if_err (Err e) f h = f e h

pub err_from : {X E : Type 0} (P : E → Type 0) (r : Result X E) (why : E) → IsErrAnd r (λ e. e ≡ why) → P why → IfErr r P
err_from P (Ok x) why h p = absurd h
err_from P (Err e) why h p = subst P (sym h) p

use Rattle.std.proofs.Common.{◌≡◌, SFits, rules, subst, w64}
use Rattle.std.proofs.lemmas.Int.{to_z-of_z}
use Rattle.gix_simple.proofs.Common.{time_key}
use Rattle.gix_simple.proofs.TimeKeys.{keyed_more, values_more}
use Rattle.gix_simple.proofs.pending.put.Goals as goal

pub returns-clause-items : goal.returns-clause-items
returns-clause-items c = values_more _ _ _ c.in_ok-insert.ensures.ok

pub returns-clause-keyed : goal.returns-clause-keyed
returns-clause-keyed c =
    let key : SFits w64 c.key.result = search rules in
    let time : SFits w64 c.pending.inside.time = search rules in
    let same = subst (λ p. c.key.result ≡ time_key c.args.order p.time) c.pending.view_is (simp (to_z-of_z, time) at c.key.ensures) in
    let items = simp to_z-of_z at c.in_ok-insert.ensures.ok in
    keyed_more c.args.order (c.key.result, c.args.pending) _ _ same c.requires items

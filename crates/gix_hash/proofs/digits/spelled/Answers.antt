use Rattle.std.proofs.Common.{arith, sym, ◌∙◌, ◌*◌, ◌+◌, ◌-◌}
use Rattle.std.proofs.lemmas.Bool.{false≢true}
use Rattle.std.proofs.lemmas.List.{length-replicate}
use Rattle.gix_hash.proofs.HexDigits.Spelled.{digits_on, spelled_whole, not_decoded}
use Rattle.gix_hash.proofs.digits.spelled.Goals as goal

pub loop-at-init : goal.loop-at-init
loop-at-init g c = record { len = length-replicate g.row.N 0; are = λ k from to. absurd (omega arith); spelled = λ k l. absurd (omega arith) }

pub returns-then-not-spell : goal.returns-then-not-spell
returns-then-not-spell g c = not_decoded c.args.digits.now (2 * c.loop-at.at) (2 * c.loop-at.at + 16) (omega arith) (λ h. false≢true (sym c.if-not-spell.true ∙ c.spell.ensures.are_digits.1 h))

pub loop-at-preserved : goal.loop-at-preserved
loop-at-preserved g c =
    let digits = c.args.digits.now in
    let at = c.loop-at.at in
    let here = c.spell.ensures.are_digits.0 c.if-not-spell.false in
    record {
      len = c.spell.ensures.len ∙ c.loop-at.invariant.len;
      are = λ k from to. digits_on digits 0 (2 * at) (2 * at) (2 * at + 16) (omega arith) c.loop-at.invariant.are here k from (omega arith);
      spelled = c.if-not-spell.ensures.spelled;
    }

pub spell-requires-2-clause-before : goal.spell-requires-2-clause-before
spell-requires-2-clause-before g c = λ k l. c.loop-at.invariant.spelled k (omega arith)

pub returns-then-not-spell-2 : goal.returns-then-not-spell-2
returns-then-not-spell-2 g c = not_decoded c.args.digits.now (2 * (g.row.N - 8)) (2 * (g.row.N - 8) + 16) (omega arith) (λ h. false≢true (sym c.if-not-spell-2.true ∙ c.spell-2.ensures.are_digits.1 h))

pub returns : goal.returns
returns g c =
    let digits = c.args.digits.now in
    let last = 2 * (g.row.N - 8) in
    let here = c.spell-2.ensures.are_digits.0 c.if-not-spell-2.false in
    let len = c.spell-2.ensures.len ∙ c.loop-at.invariant.len in
    spelled_whole digits c.spell-2.new.bytes (omega (arith, len)) (λ k from to. digits_on digits 0 last (2 * c.loop-at.at) (last + 16) (omega arith) c.loop-at.invariant.are here k from (omega arith)) (λ k l. c.if-not-spell-2.ensures.spelled k (omega (arith, len)))

use Rattle.std.proofs.Common.{◌<◌, sym, arith}
use Rattle.gix_commitgraph.proofs.Common.{word_at}
use Rattle.gix_commitgraph.proofs.Packed.FirstBytes.{first_less, first_greater}
use Rattle.gix_commitgraph.proofs.fields.compare.Goals as goal

pub returns-then-x-y : goal.returns-then-x-y
returns-then-x-y c =
    let lt : word_at 0 c.args.a.now < word_at 0 c.args.b.now = rw (← c.word_at-x.ensures, ← c.word_at-y.ensures) c.if-x-y.true in
    sym (first_less c.args.a.now c.args.b.now c.requires.0 c.requires.1 (λ i. omega (arith, c.type_inv.a i)) (λ i. omega (arith, c.type_inv.b i)) lt)

pub returns-then-y-x : goal.returns-then-y-x
returns-then-y-x c =
    let lt : word_at 0 c.args.b.now < word_at 0 c.args.a.now = rw (← c.word_at-x.ensures, ← c.word_at-y.ensures) c.if-y-x.true in
    sym (first_greater c.args.a.now c.args.b.now c.requires.0 c.requires.1 (λ i. omega (arith, c.type_inv.a i)) (λ i. omega (arith, c.type_inv.b i)) lt)

use Rattle.std.proofs.Common.{◌<◌, sym, ◌∙◌, arith}
use Rattle.gix_statement.specs.CommitGraph.{number_at}
use Rattle.gix_graph_pages.proofs.ChunkFound.{chunk_is, none_before, other_name}
use Rattle.gix_graph_pages.proofs.layout.chunk_of.Goals as goal

pub returns-then-starts_with : goal.returns-then-starts_with
returns-then-starts_with g c file has counted =
    let k = c.loop-number.number in
    let few : k < number_at 6 1 file = omega (arith, counted, c.loop-number-test.true) in
    chunk_is file c.in_ok-entry.entry.now c.args.letters.now k c.requires (c.in_ok-entry.ensures.1 file has) (sym c.if-starts_with.ensures.value) few (c.loop-number.invariant file has)
    c.long_at-from.result c.long_at.result c.in_ok-len.len c.long_at-from.ensures c.long_at.ensures c.in_ok-len.ensures.1

pub loop-number-preserved : goal.loop-number-preserved
loop-number-preserved g c file has =
    let k = c.loop-number.number in
    none_before file c.args.letters.now k (c.loop-number.invariant file has) (other_name file c.in_ok-entry.entry.now c.args.letters.now k c.requires (c.in_ok-entry.ensures.1 file has) (sym c.starts_with.ensures.value ∙ c.if-starts_with.false))

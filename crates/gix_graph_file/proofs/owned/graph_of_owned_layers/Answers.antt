use Rattle.std.proofs.Common.{◌≡◌, length, arith}
use Rattle.gix_graph_file.proofs.ChainOfOne.{one-owned}
use Rattle.gix_graph_file.proofs.owned.graph_of_owned_layers.Goals as goal
use Rattle.gix_graph_file.proofs.owned.graph_of_owned_layers.Goals.{in-Ok, in-Err}

pub returns-in-Some-clause-rows : goal.returns-in-Some-clause-rows
returns-in-Some-clause-rows c =
    let one : length c.args.layers.items ≡ 1 = omega (arith, c.len.ensures, c.if-len-eq1.true) in
    elim c.match-graph_of_file.branch [
      | in-Ok w ↦ rw w.result-is (one-owned c.args.layers.items _ c.in-Some.file w.in-Ok.graph one c.in-Some.ensures.items w.in-Ok.ensures.rows.0 w.in-Ok.ensures.rows.1)
      | in-Err w ↦ rw w.result-is tt
    ]

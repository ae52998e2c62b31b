use Rattle.gix_graph_file.proofs.Common.{read_chain, below_seen, files_seen}
use Rattle.gix_graph_file.proofs.ChainLayers.{more-read, more-counted, fault-read, all-read}
use Rattle.gix_graph_file.proofs.chain.rows_of.Goals as goal

pub returns-in-Err-clause-fault : goal.returns-in-Err-clause-fault
returns-in-Err-clause-fault c =
    let l = c.loop-left in
    fault-read l.number (below_seen l.below) l.left.now _ (files_seen c.args.layers.now) c.in-Err.error c.at_layer.result c.in-len1-up.len_at_least c.at_layer.ensures c.in-Err.ensures.fault l.invariant.read

pub loop-left-preserved : goal.loop-left-preserved
loop-left-preserved c =
    let l = c.loop-left in
    record {
      read = more-read l.number (below_seen l.below) (below_seen c.add_layer.new.below) l.left.now _ (read_chain (files_seen c.args.layers.now)) c.in-len1-up.len_at_least c.in-Ok.ensures.layer l.invariant.read;
      count = more-counted l.number _ l.left.now c.in-len1-up.len_at_least l.invariant.count;
    }

pub returns-clause-rows : goal.returns-clause-rows
returns-clause-rows c =
    let l = c.loop-left in
    all-read l.number (below_seen l.below) l.left.now (read_chain (files_seen c.args.layers.now)) c.in_default.len_below l.invariant.read

use Rattle.std.proofs.Common.{◌++◌, ◌∙◌, w32, flat_map}
use Rattle.gix_commitgraph.proofs.Common.{to_be_bytes, rows_bytes, overflow_words, layout_name, rows_seen, arranged}
use Rattle.gix_commitgraph.specs.Packed.{spelling}
use Rattle.gix_commitgraph.proofs.Packed.Writing.{whole_appended}
use Rattle.gix_commitgraph.proofs.pack.pack.Goals as goal

pub returns-clause-bytes : goal.returns-clause-bytes
unfolding spelling
returns-clause-bytes c =
    let graph = arranged (rows_seen c.args.rows.now) c.args.order.now c.args.numbers.now in
    let head = c.requires.head in
    whole_appended _ _ _ _ (layout_name c.args.layout.kind) (to_be_bytes w32 c.args.layout.rows) (to_be_bytes w32 c.args.layout.words) (rows_bytes 0 graph) (flat_map (to_be_bytes w32) (overflow_words graph)) c.in_ok-out.ensures.items c.in_ok-push_head.ensures c.in_ok-push_rows.ensures.bytes c.in_ok-push_lists.ensures
    ∙ (λ i. layout_name (head.kind i) ++ (to_be_bytes w32 (head.count i) ++ (to_be_bytes w32 (head.words i) ++ (rows_bytes 0 graph ++ flat_map (to_be_bytes w32) (overflow_words graph)))))

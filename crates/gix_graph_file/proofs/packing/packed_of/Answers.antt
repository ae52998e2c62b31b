use Rattle.std.proofs.Common.{◌/◌, length, w32, flat_map}
use Rattle.gix_graph_file.proofs.Common.{to_be_bytes, layout_name, kind_packed, rows_packed, words_packed}
use Rattle.gix_commitgraph.proofs.Packed.Writing.{whole_appended}
use Rattle.gix_graph_file.specs.PackedParts.{parts_packed}
use Rattle.gix_graph_file.proofs.packing.packed_of.Goals as goal

pub returns : goal.returns
unfolding parts_packed
returns c =
    let layout = c.args.layout in
    whole_appended _ _ _ _ (layout_name (kind_packed layout.kind layout.rows)) (to_be_bytes w32 layout.rows) (to_be_bytes w32 (length layout.edges.now / 4)) (rows_packed layout.kind layout.rows layout.rows layout.ids.now layout.commits.now) (flat_map (to_be_bytes w32) (words_packed layout.rows layout.edges.now))
    c.in_ok-out.ensures.items c.in_ok-push_head.ensures c.in_ok-push_rows.ensures c.in_ok-push_edges.ensures

-- What most proofs of this crate use, to import from one place: words of statements, here and below, and lemmas from below.
pub use Rattle.std.specs.Int.{cast_signed, from_be_bytes, to_be_bytes}
pub use Rattle.std.proofs.lemmas.Result.{err_from_is_err_and}
pub use Rattle.gix_commitgraph.specs.Packed.{AreBytes, AreGraphRows, fault_word, ids_of_rows, IsPlaceAmong, IsRowAmong, kind_of_rows, layout_name, most, flag}
pub use Rattle.gix_commitgraph.specs.PackedReading.{first_field, generation_field, id_field, is_above, is_sized, kind_named, list_at, long_list_at, may_have, opened, parents_at, place_of, Places, read_packed, row_len, row_of_fields, rows_at, with_row}
pub use Rattle.gix_commitgraph.specs.PackedReading.{second_at, second_field, time_field, tree_field, with_place, word_at, words_of}
pub use Rattle.gix_commitgraph.specs.Renumbering.{AreOfKind, AreOfOneKind, HasSameRows, HavePlacesWithin, IsAccepted, moved, Refuses, renumbered, row_seen, rows_seen}
pub use Rattle.gix_commitgraph.specs.Rows.{GraphRow}
pub use Rattle.gix_commitgraph.specs.declared.GraphError.{GraphError}
pub use Rattle.gix_commitgraph.specs.declared.ParentPlace.{ParentPlace}
pub use Rattle.gix_hash.specs.Id.{id_cmp, id_len, id_of, kind_of}
pub use Rattle.gix_hash.specs.declared.Kind.{Kind}
pub use Rattle.gix_hash.specs.declared.ObjectId.{ObjectId}
pub use Rattle.gix_graph_file.specs.Chain.{base_of, chain_from, HasChain, is_kind, IsOfRows, layer_rows, layer_then, Lower, nothing, read_chain, RefusesChain, with_layer, with_parts, with_rows}
pub use Rattle.gix_graph_file.specs.ChainSteps.{below_seen, files_seen, IsAtLayer, IsForRows, IsLayerFault, joined, layers_seen, prepended, row_or_fault, row_read, RowRead}
pub use Rattle.gix_graph_file.specs.FileRows.{edge_list, long_edge_list, no_parent, Parents, parents_said, place_named, read_file, row_said, row_then, rows_from, rows_of, second_said, with_parent}
pub use Rattle.gix_graph_file.specs.FileTable.{chunk_from, is_last, is_table_from, long_at, most_rows, name_at, name_of, offset_at, Parts, read_layer, read_parts, table_len, ◌>>=◌}
pub use Rattle.gix_graph_file.specs.PackedParts.{edge_packed, fault_of, first_packed, IsWhole, ReadsAs, kind_packed, parts_packed, place_packed, row_packed, rows_packed, second_packed, seen, words_packed}
pub use Rattle.gix_graph_file.specs.declared.error.ChainError.{ChainError}
pub use Rattle.gix_graph_file.specs.declared.error.Error.{Error}

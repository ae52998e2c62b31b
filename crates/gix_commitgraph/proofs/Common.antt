-- What most proofs of this crate use, to import from one place: words of statements, here and below, and lemmas from below.
pub use Rattle.std.specs.Int.{cast_signed, cast_unsigned, from_be_bytes, to_be_bytes}
pub use Rattle.std.specs.List.{AllByRecursion, IsDistinct, starts_with}
pub use Rattle.std.specs.List.Sorted.{IsStrictlySortedBy}
pub use Rattle.std.proofs.lemmas.Bool.Decides.{nat_tests}
pub use Rattle.std.proofs.lemmas.List.{drop_all, get_or-map, get_or_default, get_or_past, length-map, map-append, map_push, same_lists, take_more, take_rest}
pub use Rattle.std.proofs.lemmas.List.Elements.{All-from_recursion, recursion_from_All}
pub use Rattle.gix_hash.specs.Id.{bytes_of, id_cmp, id_len, id_of, is_same, kind_of}
pub use Rattle.gix_hash.specs.declared.Kind.{Kind}
pub use Rattle.gix_hash.specs.declared.ObjectId.{ObjectId}
pub use Rattle.gix_hash.proofs.Ids.Membership.{id_total, same_back}
pub use Rattle.gix_commitgraph.specs.Packed.{AreBytes, AreGraphRows, fault_word, first_word, flag, ids_of_rows, IsIdOf, IsPlaceAmong, IsRowAmong, kind_of_rows, layout_name, list_words, most, no_parent, overflow_of, overflow_words}
pub use Rattle.gix_commitgraph.specs.Packed.{place_word, row_bytes, rows_bytes, second_word, spelling}
pub use Rattle.gix_commitgraph.specs.PackedLayout.{BeginsWithRow, faults, id_before, IsHeadOf, IsLaidOut, IsPackedAs, rows_left}
pub use Rattle.gix_commitgraph.specs.PackedReading.{body_of, first_field, generation_field, id_field, is_above, is_sized, kind_named, list_at, long_list_at, may_have, parents_at, place_of, Places, read_packed, row_len, row_of_fields}
pub use Rattle.gix_commitgraph.specs.PackedReading.{row_then, rows_at, rows_in, second_at, second_field, time_field, tree_field, with_place, with_row, word_at, words_of}
pub use Rattle.gix_commitgraph.specs.Renumbering.{AlwaysRise, AreNumbers, AreOfKind, AreOfOneKind, arranged, CanArrange, entries_from, Entry, HasPlaces, HasSameRows, HaveDistinctIds, HavePlacesWithin, IsInRange, IsRowOf, moved, NeverFall}
pub use Rattle.gix_commitgraph.specs.Renumbering.{renumbered, row_seen, rows_seen, StopsRising}
pub use Rattle.gix_commitgraph.specs.Rows.{GraphRow, no_row, row_at, row_of}
pub use Rattle.gix_commitgraph.specs.declared.ParentPlace.{ParentPlace}
pub use Rattle.gix_commitgraph.specs.declared.ParentPlace.TheVariants.{At, Fault}
pub use Rattle.gix_commitgraph.specs.declared.Place.{Place}
pub use Rattle.gix_commitgraph.specs.declared.Row.{Row}
pub use Rattle.gix_commitgraph.specs.declared.check.Layout.{Layout}

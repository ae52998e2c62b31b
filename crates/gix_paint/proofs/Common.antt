-- What most proofs of this crate use, to import from one place: words of statements, here and below, and lemmas from below.
pub use Rattle.std.specs.FinSet.{contains, contains-insert, contains-remove}
pub use Rattle.std.proofs.lemmas.List.Elements.{Contains-append_cases, Contains-append_left, Contains-append_right}
pub use Rattle.std.proofs.lemmas.List.Sorted.{Contains-permutation, IsPermutation-sym, length_permutation}
pub use Rattle.std.proofs.lemmas.Result.{err_from_is_err_and, IfErr-weaker, IfOk-weaker}
pub use Rattle.gix_commitgraph.specs.Rows.{GraphRow, row_of}
pub use Rattle.gix_hash.specs.Id.{id_cmp, is_among, is_same, kind_of}
pub use Rattle.gix_hash.specs.Reach.{IsAtBoundary, Reaches, start, step}
pub use Rattle.gix_hash.specs.declared.ObjectId.{ObjectId}
pub use Rattle.gix_object.specs.Object.{Object, Objects}
pub use Rattle.gix_revwalk.specs.Commits.{commit_of_object, HasTime, parents_in, parents_of}
pub use Rattle.gix_revwalk.specs.Ids.{ids_of, new_ids}
pub use Rattle.gix_revwalk.specs.RowParents.{ids_at}
pub use Rattle.gix_hash.proofs.Ids.Membership.{among-append, among_from, Contains-cons_cases, Contains-here, Contains-there, id_apart, id_total, no_member, same_is, same_itself}
pub use Rattle.gix_paint.specs.Inside.Painter.{AddsMark, AllMarks, Becomes, bits_at, bits_of, covers, frontier_without, generation_told, hidden_of, hides, is_hidden, is_of_frontier, is_turn, IsQueued, IsSettled, IsTidy, IsWaiting}
pub use Rattle.gix_paint.specs.Inside.Painter.{mark_of, Meets, Pops, reads, room, shows, side_at, side_by, skips, stays, Takes, TreatsEntry, WaitsWithRow}
pub use Rattle.gix_paint.specs.Reading.{by_row, by_store, drops, IsPassed, ReadFails, Reads, ReadsParents}
pub use Rattle.gix_revwalk.specs.Reading.{rows_used}
pub use Rattle.gix_paint.specs.Inside.Queue.{AreAllTold, is_told, AreAllBelow, IsNoneAbove, QueueEntry}
pub use Rattle.gix_revwalk.specs.Infos.{generation_in}
pub use Rattle.gix_paint.specs.Painting.{DropsBy, hidden_commit, IsFaultAt, IsHiddenFault, IsHistory, IsOpenBelow, IsRead, Paints, shown_commit}
pub use Rattle.gix_paint.specs.declared.Hidden.{Hidden}
pub use Rattle.gix_paint.specs.declared.Painter.{Painter}
pub use Rattle.gix_paint.specs.declared.Side.{Side}
pub use Rattle.gix_paint.specs.declared.queue.Generation.TheVariants.{Infinite, Told}

-- What most proofs of this crate use, to import from one place: words of statements, here and below, and lemmas from below.
pub use Rattle.std.proofs.lemmas.Option.{get_or_from_slice_get, slice_get_within}
pub use Rattle.gix_commitgraph.specs.GraphCommit.{row_of_commit}
pub use Rattle.gix_commitgraph.specs.Rows.{GraphRow, no_row, row_at, row_of}
pub use Rattle.gix_commitgraph.specs.declared.ParentPlace.{ParentPlace}
pub use Rattle.gix_commitgraph.specs.declared.ParentPlace.TheVariants.{At, Fault}
pub use Rattle.gix_hash.specs.Id.{id_cmp, is_among, is_same, kind_of}
pub use Rattle.gix_hash.specs.Reach.{Reaches, start, step}
pub use Rattle.gix_hash.specs.declared.ObjectId.{ObjectId}
pub use Rattle.gix_object.specs.CommitRefIter.{commit_items_left, first_committer, signature_shown}
pub use Rattle.gix_object.specs.CommitText.{Commit, commit_of, commit_of_items, read_commit, seconds_of}
pub use Rattle.gix_object.specs.Object.{Object, Objects}
pub use Rattle.gix_hash.proofs.Ids.Membership.{among-append, among-one, among_from, among_is, Contains-cons_cases, Contains-here, Contains-there, no_member, same_back, same_from, same_is, same_itself}
pub use Rattle.gix_revwalk.specs.BreadthOrder.{first_new, IsFirstNew, named_by}
pub use Rattle.gix_revwalk.specs.Commits.{by_mode, commit_at, commit_of_kind, commit_of_object, HasTime, parents_in, parents_of, ReadsWhole, time_in, time_of}
pub use Rattle.gix_revwalk.specs.ListsByTurn.{IsBeginningBy, IsListBy}
pub use Rattle.gix_revwalk.specs.RowParents.{ids_at, IsUnrowed, kept_rows, rows_if, with_id}
pub use Rattle.gix_revwalk.specs.Texts.{next_in, scanned, text_next, with_parent}
pub use Rattle.gix_revwalk.specs.TimeOrder.{is_no_worse, IsBest, IsFirstBest, IsNextOne, IsNoWorse, IsPending}
pub use Rattle.gix_revwalk.specs.declared.CommitTimeOrder.{CommitTimeOrder}

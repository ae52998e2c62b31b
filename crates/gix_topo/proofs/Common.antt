-- What most proofs of this crate use, to import from one place: words of statements, here and below, and lemmas from below.
pub use Rattle.std.specs.Iterator.{at_most, Drains, MakesProgress, Yields}
pub use Rattle.std.proofs.lemmas.Bool.{and_from, and_parts, cases_Bool, cases_lt, cond-true, false_from_ne_true, false≢true, not-true, not_from_false, or_cases, or_from, or_left, or_parts, or_right, true_from_ne_false}
pub use Rattle.std.proofs.lemmas.Bool.Decides.{nat_tests}
pub use Rattle.std.proofs.lemmas.Int.{ints}
pub use Rattle.std.proofs.lemmas.List.Elements.{All-cons, All-contains, All-from_get_or, All-head, All-nil, All-tail, All-weaker, Contains-append_cases, Contains-append_left, Contains-append_right, Contains-get_or, Contains-push}
pub use Rattle.std.proofs.lemmas.List.Elements.{Contains-push_cases, filter-append, filter_agree, filter_passes}
pub use Rattle.std.proofs.lemmas.List.Sorted.{All-permutation, answers_always, Contains-permutation, IsPermutation-append_left, IsPermutation-cons, IsPermutation-map, IsPermutation-middle, IsPermutation-refl, IsPermutation-remove}
pub use Rattle.std.proofs.lemmas.List.Sorted.{IsPermutation-reverse, IsPermutation-sym, IsPermutation-to_front, IsPermutation-trans, length_permutation, list_any-IsPermutation, ranks_by, sorted_far, sum_by-IsPermutation}
pub use Rattle.gix_commitgraph.specs.Rows.{GraphRow, row_of}
pub use Rattle.gix_frontier.specs.Inside.Frontier.{Counts, Finishes, is_done, is_due, is_queued, is_seen, is_side, IsSearch, known_of, known_or, MarksReady, Meets, MeetsParent, progress_of, reached, seen, Uncounts, unknown, waiting}
pub use Rattle.gix_frontier.specs.Inside.Frontier.{waits_for, with_progress}
pub use Rattle.gix_frontier.specs.Inside.Known.{Known}
pub use Rattle.gix_frontier.specs.Inside.Waiting.{Waiting, waiting_by}
pub use Rattle.gix_frontier.specs.declared.Frontier.{Frontier}
pub use Rattle.gix_frontier.specs.declared.Progress.{Progress}
pub use Rattle.gix_frontier.specs.declared.Progress.TheVariants.{Done, Queued, Unseen}
pub use Rattle.gix_frontier.specs.declared.Side.{Side}
pub use Rattle.gix_frontier.specs.declared.Side.TheVariants.{Ends, Tips}
pub use Rattle.gix_hash.specs.Id.{id_cmp, is_among, is_same, kind_of}
pub use Rattle.gix_hash.specs.Reach.{IsAcyclic, IsAtBoundary, Reaches, start, step}
pub use Rattle.gix_hash.specs.declared.ObjectId.{ObjectId}
pub use Rattle.gix_object.specs.CommitItems.{after_word, AtCommitter, AtEnd, AtParents, AtRest, AtTree, Author, author_front, commit_items, Committer, committer_front, Item, items_within, Parent, parent_front, Rest, Tree, tree_front}
pub use Rattle.gix_object.specs.CommitItems.{unfolded}
pub use Rattle.gix_object.specs.CommitRefIter.{first_committer}
pub use Rattle.gix_object.specs.Object.{Object, Objects}
pub use Rattle.gix_revwalk.specs.Agreeing.{IsAgreeing}
pub use Rattle.gix_revwalk.specs.BreadthOrder.{first_new, named_by}
pub use Rattle.gix_revwalk.specs.Commits.{by_mode, commit_at, commit_of_object, parents_in, parents_of, ReadsWhole, time_in, time_of, walked_parents}
pub use Rattle.gix_revwalk.specs.Ids.{AreDistinct}
pub use Rattle.gix_revwalk.specs.ListsByTurn.{IsBeginningBy, IsListBy}
pub use Rattle.gix_revwalk.specs.Reading.{DropsRows, is_read, ReadsRow, rows_of, RowSays}
pub use Rattle.gix_revwalk.specs.declared.CommitTimeOrder.TheVariants.{NewestFirst, OldestFirst}
pub use Rattle.gix_revwalk.specs.declared.Info.{Info}
pub use Rattle.gix_revwalk.specs.declared.Parents.{Parents}
pub use Rattle.gix_frontier.proofs.Results.{err_from, if_err, on_ok}
pub use Rattle.gix_hash.proofs.Ids.Membership.{among-append, among-one, among_from, among_is, Contains-cons_cases, Contains-here, Contains-there, id_apart, id_total, no_member, same_back, same_is, same_itself}
pub use Rattle.gix_hash.proofs.Lists.{filter_all, filter_within, only_member}
pub use Rattle.gix_revwalk.proofs.NewIds.{among-filter, among_flat, among_times, fresh, fresh_agree, new_less, times-append, times-fresh, times_is_among, times_moved, times_none, times_once}
pub use Rattle.gix_revwalk.proofs.ReadsWhole.{corrupt_row, no_fault, parent_below, row_parents, row_says_time, row_stands, walked_within}
pub use Rattle.gix_revwalk.proofs.TextParents.{text_whole}
pub use Rattle.gix_topo.specs.DateOrder.{IsBestMade}
pub use Rattle.gix_topo.specs.Depth.{infinity, known_generation, least}
pub use Rattle.gix_topo.specs.Inside.Exploring.{Explores, Follows, is_pending, IsExploringFault, IsRested, IsSamePlan, side_mode, Steps}
pub use Rattle.gix_topo.specs.Inside.ReadySet.{as_ready, as_ready_by, IsTimed, ReadySet}
pub use Rattle.gix_topo.specs.Inside.Releasing.{counted_by, exploring, IsFaultAmong, IsPushFault, IsReleaseFault, IsTakingFault, LooksUpParent, lowered, parent, plan_by, plan_of, plan_over, Pushes, Releases, ReleasesAll, releasing, taken_in}
pub use Rattle.gix_topo.specs.Inside.Releasing.{taken_of, TakesOne, uncounted, unread, walk_of, with_counting, with_frontier}
pub use Rattle.gix_topo.specs.Inside.Searched.{IsBegun, IsCounted, IsExplored, IsSearched, IsTally, naming, next_by, starts_by}
pub use Rattle.gix_topo.specs.Inside.Starting.{by_rising_time, HasBegun, IsBegunWalk, IsStartFault, meets, MeetsAll, met, Starts, StartsAll}
pub use Rattle.gix_topo.specs.Inside.Steady.{AreDroppedFor, AreRead, HasCounted, IsDone, IsHeld, IsOpen, IsReadOnce, IsSteady, IsTallied, TakesNext, TakesReady, unasked, unasked_of}
pub use Rattle.gix_revwalk.specs.Infos.{given_ids, generation_in}
pub use Rattle.gix_topo.specs.Laws.{answers_left, AreApart, BeginsInOrder, BeginsTextOrder, GivesDifference, GivesInOrder, GivesTextDifference, GivesTextOrder, IsCommitInfo, IsGiven, IsNextBy, IsNextByText, IsNextTaken, IsNoRefusal}
pub use Rattle.gix_topo.specs.Laws.{IsTextGiven, IsTextInfo, IsWholeRun, left_beside}
pub use Rattle.gix_topo.specs.Reading.{by_row, by_text, HasNoRowInUse, IsReadFault, LookUpFails, ReadFails, Reads, ReadsText, time_of_committer, told_generation}
pub use Rattle.gix_topo.specs.TopoOrder.{by_time, distinct_after, first_places, insert_by_time, IsLastMade, IsMadeReady, Keeps, last_places, passed}
pub use Rattle.gix_topo.specs.Walk.{Adds, after, Chooses, Counted, DropsBy, IsBrokenRow, IsBuildFault, IsCommitRead, IsCounting, IsFault, IsFirstReady, IsFound, IsInDepth, IsKnown, IsLate, IsLeft, IsLookedUp, IsMember}
pub use Rattle.gix_topo.specs.Walk.{IsMetFault, IsNextReady, IsNumberOf, IsOtherParent, IsReached, IsSound, IsStarted, IsStored, IsTaken, IsTextMember, named_ids, Next, Ready, ready_ids, refused, row_generation, StartsWith, Takes}
pub use Rattle.gix_topo.specs.Walk.{text_walked, TakesLatest, TopoPlan, TopoWalk, walked_of}
pub use Rattle.gix_topo.specs.WalkSet.{IsAcyclicIn, IsChild, IsChildless, IsInWalk, IsReady}
pub use Rattle.gix_topo.specs.declared.Error.{Error}
pub use Rattle.gix_topo.specs.declared.Sorting.{Sorting}
pub use Rattle.gix_topo.specs.declared.counting.Counting.{Counting}
pub use Rattle.gix_topo.specs.declared.walk.Walk.{Walk}

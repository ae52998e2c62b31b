-- What most proofs of this crate use, to import from one place: words of statements, here and below, and lemmas from below.
pub use Rattle.std.specs.Iterator.{at_most, Drains, MakesProgress, Yields}
pub use Rattle.std.specs.List.{AllByRecursion, AllZip}
pub use Rattle.std.proofs.Math.Bool.{and-true, or-false, or-true, or_comm}
pub use Rattle.std.proofs.Math.Path.{transport}
pub use Rattle.std.proofs.lemmas.Bool.{and_from, and_left, and_parts, and_right, false_from_ne_true, false≢true, not-true, not_from_false, not_from_true, or_cases, or_left, or_right}
pub use Rattle.std.proofs.lemmas.List.{map-append, nil_from_length}
pub use Rattle.std.proofs.lemmas.List.Elements.{All-cons, All-from_recursion, All-head, All-nil, All-tail, All-weaker, Contains-append_cases, Contains-append_left, Contains-append_right, Contains-push_cases, filter-append, recursion_from_All}
pub use Rattle.std.proofs.lemmas.List.Sorted.{All-permutation, Contains-permutation, IsPermutation-append_left, IsPermutation-map, IsPermutation-middle, IsPermutation-sym, IsPermutation-trans, length_permutation}
pub use Rattle.gix_commitgraph.specs.Rows.{GraphRow, row_of}
pub use Rattle.gix_hash.specs.Id.{id_cmp, is_among, is_same, kind_of}
pub use Rattle.gix_hash.specs.Reach.{IsAtBoundary, Reaches, start, step, Tells}
pub use Rattle.gix_hash.specs.declared.ObjectId.{ObjectId}
pub use Rattle.gix_object.specs.CommitItems.{commit_items, Item}
pub use Rattle.gix_object.specs.Object.{Objects}
pub use Rattle.gix_paint.specs.Painting.{IsHiddenFault, IsHistory, Paints}
pub use Rattle.gix_revwalk.specs.Agreeing.{IsAgreeing}
pub use Rattle.gix_revwalk.specs.Asking.{AnswersBy, AsksAll, Becomes, further, itself}
pub use Rattle.gix_revwalk.specs.BreadthOrder.{IsFirstNew, named_by}
pub use Rattle.gix_revwalk.specs.Commits.{by_mode, commit_at, commit_of_object, HasTime, parents_in, parents_of, ReadsWhole, time_in, time_of, walked_parents}
pub use Rattle.gix_revwalk.specs.Ids.{AreDistinct, ids_of, new_ids}
pub use Rattle.gix_revwalk.specs.ListsByTurn.{IsBeginningBy, IsListBy}
pub use Rattle.gix_revwalk.specs.Pending.{Pending}
pub use Rattle.gix_revwalk.specs.PriorityQueue.{keys, values}
pub use Rattle.gix_revwalk.specs.RowParents.{ids_at, IsUnrowed, kept_rows, rows_if}
pub use Rattle.gix_revwalk.specs.Texts.{next_in, scanned, text_next, text_parents}
pub use Rattle.gix_revwalk.specs.TimeOrder.{IsNextOne}
pub use Rattle.gix_revwalk.specs.declared.CommitTimeOrder.{CommitTimeOrder}
pub use Rattle.gix_revwalk.specs.declared.Info.{Info}
pub use Rattle.gix_revwalk.specs.declared.Parents.{Parents}
pub use Rattle.gix_hash.proofs.Ids.Membership.{among-append, among-one, among_from, among_is, Contains-cons_cases, Contains-here, Contains-there, id_apart, id_total, no_member, same_from, same_is, same_itself}
pub use Rattle.gix_hash.proofs.Lists.{filter_all, filter_within, only_member}
pub use Rattle.gix_paint.proofs.Invariant.{own_history}
pub use Rattle.gix_revwalk.proofs.NewIds.{among-filter, among_flat, among_times, fresh, fresh-append, fresh_agree, fresh_head, IsHead, named-push, new_less, times-append, times-fresh, times_among, times_is_among, times_moved}
pub use Rattle.gix_revwalk.proofs.NewIds.{times_none, times_once}
pub use Rattle.gix_revwalk.proofs.ReadsWhole.{corrupt_row, no_fault, parent_has_row, row_parents, row_says_time, row_stands, scan_is, walked_within}
pub use Rattle.gix_simple.specs.Building.{FailsAtTip, IsBuilt, IsSortedByTime, IsSortedIn, IsTipFault, IsUncut, outdated, recent, SortsAll, SortsIn, timed}
pub use Rattle.gix_simple.specs.Inside.PendingQueue.{AreKeyed, IsChosen, TakesOut, time_key}
pub use Rattle.gix_simple.specs.Inside.Steps.{Hides, in_rows, Meets, nothing, TimeIs, unpainted}
pub use Rattle.gix_revwalk.specs.Infos.{given_ids}
pub use Rattle.gix_simple.specs.Laws.{accepted_parents, answers_left, BeginsTextOrder, GivesBeginning, GivesBreadthFirst, GivesDifference, GivesInOrder, GivesTextOrder, is_kept, IsBegunRun, IsFaultlessRun, IsFresh}
pub use Rattle.gix_simple.specs.Laws.{IsGiven, IsGivenBy, IsNewWalk, IsNextByText, IsNextKept, IsNoRefusal, IsPlain, IsPlainRun, IsWholeRun, kept_of, kept_parents, MeetsWhole, named_in, next_by_text, next_of, ReadsParents, recent_parents, starts_of}
pub use Rattle.gix_simple.specs.Walk.{accepted, asked, Asks, bare, best, broken, by_row, by_store, Chooses, Concludes, cutoff, dropped, ended, enqueued, Enqueues, failed, first, FirstStep, from_row, from_store, given, given_time, GoesOn}
pub use Rattle.gix_simple.specs.Walk.{hidden, how_ended, initial, is_older, IsMade, IsNew, later, Next, no_memory_after, NoMemory, not_found, painted, ReadsTime, refused, remembers, row_time, SimpleWalk, Steps, stops, store_fails, TakesBest}
pub use Rattle.gix_simple.specs.Walk.{StoreFails, Takes, time_if, time_order, took, Treated, Treats, TreatsAll, unasked, unhidden, unrowed}
pub use Rattle.gix_simple.specs.declared.Error.{Error}
pub use Rattle.gix_simple.specs.declared.Sorting.{Sorting}

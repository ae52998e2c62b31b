-- What most proofs of this crate use, to import from one place: words of statements, here and below, and lemmas from below.
pub use Rattle.std.specs.FinMap.{get, same_map}
pub use Rattle.std.specs.Fmt.{digits, format_spec, padded_integral, styled_digits_output, ◌++?◌}
pub use Rattle.std.specs.Io.KnownBytes.{Appends}
pub use Rattle.std.specs.Iterator.{Drains, Yields, YieldsThen}
pub use Rattle.std.proofs.Math.Path.{transport}
pub use Rattle.std.proofs.lemmas.Bool.{and_from, cond-false, cond-true, false_from_ne_true, false≢true, not-true, not_from_false, or_cases}
pub use Rattle.std.proofs.lemmas.List.Elements.{All-cons, All-contains, All-head, All-nil, All-tail, Contains-append_cases, Contains-append_left, Contains-append_right, Contains-get_or}
pub use Rattle.std.proofs.lemmas.Option.{none-some, same_Some}
pub use Rattle.std.proofs.lemmas.Result.{err_from_is_err_and}
pub use Rattle.gix_commitgraph.specs.Rows.{GraphRow, row_of}
pub use Rattle.gix_graph_store.specs.WithRows.{with_rows}
pub use Rattle.gix_hash.specs.Id.{bytes_of, hex_of, id_cmp, id_from_hex, id_len, id_of, id_of_decoded, id_of_hex, is_among, is_same, kind_of, or_digit}
pub use Rattle.gix_hash.specs.Reach.{step}
pub use Rattle.gix_hash.specs.declared.HexError.{HexError}
pub use Rattle.gix_hash.specs.declared.ObjectId.{ObjectId}
pub use Rattle.gix_object.specs.CommitText.{behind_last, Commit, digits_from, read_commit, seconds_behind, seconds_of, signed_seconds, without_spaces}
pub use Rattle.gix_object.specs.Find.{IsExistingFault}
pub use Rattle.gix_object.specs.Object.{Object, Objects}
pub use Rattle.gix_records.specs.Records.{bad, IsRecordFault, kind_word, put_in, stored}
pub use Rattle.gix_revwalk.specs.Agreeing.{IsAgreeing, RowAgrees, rows_in}
pub use Rattle.gix_revwalk.specs.BreadthOrder.{first_new, named_by}
pub use Rattle.gix_revwalk.specs.Commits.{by_mode, commit_at, commit_of_kind, commit_of_object, parents_in, parents_of, ReadsWhole, time_in, time_of}
pub use Rattle.gix_revwalk.specs.Ids.{AreDistinct, ids_of, new_ids}
pub use Rattle.gix_revwalk.specs.Pending.{Pending}
pub use Rattle.gix_revwalk.specs.Texts.{next_in, scanned, text_next, text_parents_of_kind}
pub use Rattle.gix_revwalk.specs.ListsByTurn.{IsBeginningBy, IsListBy}
pub use Rattle.gix_revwalk.specs.TimeOrder.{IsNextOne, IsNoWorse}
pub use Rattle.gix_revwalk.specs.declared.CommitTimeOrder.{CommitTimeOrder}
pub use Rattle.gix_revwalk.specs.declared.CommitTimeOrder.TheVariants.{NewestFirst}
pub use Rattle.gix_revwalk.specs.declared.Info.{Info}
pub use Rattle.gix_revwalk.specs.declared.Parents.{Parents}
pub use Rattle.gix_simple.specs.Laws.{GivesBeginning, IsBegunRun, IsFresh, IsGivenBy, IsNewWalk, next_of, ReadsParents}
pub use Rattle.gix_simple.specs.Walk.{accepted, broken, by_row, by_store, Chooses, Concludes, cutoff, dropped, enqueued, Enqueues, faulty_history, FirstStep, from_row, from_store, hidden, initial, is_older, known, later, more}
pub use Rattle.gix_simple.specs.Walk.{no_memory_after, NoMemory, none, paints, ReadsTime, Steps, stops, store_fails, StoreFails, Takes, time_order, took, Treated, Treats, TreatsAll, unasked, unhidden, unrowed}
pub use Rattle.gix_topo.specs.Walk.{Built, fresh_builder, IsCommitRead, IsFault, IsFirstReady, IsNextReady, IsNumberOf, IsReached, TopoBuilder, TopoPlan}
pub use Rattle.gix_topo.specs.WalkSet.{IsChild, IsChildless, IsInWalk}
pub use Rattle.gix_tree.specs.Delegate.{Action, Call, PopBack, PopFront, PopPath, PushBack, PushPath, Refused, Run, VisitNontree, VisitTree}
pub use Rattle.gix_tree.specs.Script.{breaks, cycles, DepthScript, ends_inside, enters, entries_at, entries_in, fault, found, IsDepthScript, leaves, no_memory_at_look_up, no_memory_for_descent, whole}
pub use Rattle.gix_tree.specs.Tracked.{fresh_recorder, Tracked, Tracks}
pub use Rattle.gix_tree.specs.Visits.{Broken, descent, Ending, Enters, Failed, is_broken, IsUnfailed, Items, Leaves, outcome_of, Place, Visit, visit, Whole}
pub use Rattle.gix_tree.specs.Walk.{depth_answer, DepthFirst, items_of_kind, items_of_object, LookUpFailed, LookUpFails, trees_of}
pub use Rattle.gix_words.specs.Faults.{fault_of_disagreement, fault_of_find, fault_of_records, fault_of_search, fault_of_topo_walk, fault_of_tree_walk, fault_of_walk}
pub use Rattle.gix_words.specs.Words.{Ahead, ahead_from, ahead_of, asked, Asked, Bases, begins_with_caret, begins_with_sign, by_cutoff, by_first_parents, chosen_from, chosen_of, Commits, commits_in, Contained, Containing, ended_files_of, file_of, Files, files_by, files_from, files_of, Ids, ids_from, in_order_of, is_shown, limited_files_of}
pub use Rattle.gix_words.specs.Words.{listed_of, number_in, order_named, plain_of, Ranked, recent_of, Request, request_named, request_of, several_among, several_from, several_of, since_of, until_of, with_id, with_word, without_caret}
pub use Rattle.gix_words.specs.declared.fault.Fault.{Fault}
pub use Rattle.gix_words.specs.declared.words.EntryLines.{EntryLines}
pub use Rattle.gix_words.specs.declared.words.Order.{Order}
pub use Rattle.gix_words.specs.declared.words.Order.TheVariants.{Simple, Topo}
pub use Rattle.gix_words.specs.declared.words.Shown.{Shown}
pub use Rattle.gix_commands.specs.Chosen.{Writes, kept_in, page_choice}
pub use Rattle.gix_hash.proofs.Ids.Membership.{among_from, among_is, Contains-cons_cases, Contains-here, Contains-there, id_apart, id_total, no_member, same_from, same_is}
pub use Rattle.gix_hash.proofs.Lists.{filter_all, filter_within, only_member}
pub use Rattle.gix_records.proofs.RecordFacts.{no_bad_record, only_reading}
pub use Rattle.gix_revwalk.proofs.Reached.{reach_more, reaches_from}
pub use Rattle.gix_revwalk.proofs.ReadsWhole.{no_fault, row_parents, row_stands, scan_is, walked_within}
pub use Rattle.gix_revwalk.proofs.Rows.{kept_either, none_agree}
pub use Rattle.gix_revwalk.proofs.SomeOrder.{reached_list}
pub use Rattle.gix_revwalk.proofs.TextParents.{commit_stored, text_whole}
pub use Rattle.gix_simple.proofs.Corollaries.{all_kept, begun_once, each_once}
pub use Rattle.gix_simple.proofs.Difference.{begun_whole, drawn_whole, loosened, no_start, whole_from}
pub use Rattle.gix_topo.proofs.Run.EachOnce.{named_all, reached_known}
pub use Rattle.gix_tree.proofs.Theorems.Laws.{depth_is_in_order, depth_is_recorded, depth_ok, go_on, sound_depth_succeeds}
pub use Rattle.gix_lines.specs.Files.{file_line, six_octal_digits}
pub use Rattle.gix_lines.specs.Output.{Grows}
pub use Rattle.gix_commands.specs.Files.{file_lines, RecordsTree}
pub use Rattle.gix_commands.specs.Histories.{AheadSucceeds, AreWhole, BasesSucceeds, ContainingSucceeds, ContainsSucceeds, EndsWell, IsOutside, SimpleSucceeds, TopoSucceeds}
pub use Rattle.gix_commands.specs.Output.{Adds, WritesAll}
pub use Rattle.gix_commands.specs.Run.{bad_record, counted, disagrees, joined, no_command, not_built, not_counted, not_joined, not_listed, not_reaching, not_read, not_selected, not_walked, reaching, Runs, RunsOver, selected, served, unserved, walked, walked_down}
pub use Rattle.gix_commands.specs.Run.{without_memory}
pub use Rattle.gix_commands.specs.TopoWalked.{IsBuiltFrom, plan_from}
pub use Rattle.gix_revwalk.specs.Asking.{accepts_all}
pub use Rattle.gix_commands.specs.Walked.{before, cut_short, Ends, EndsBy, EndsWithin, enough, FailsAtStart, finished, IsMadeOf, IsStartFault, line_of, lines_of, never_faulty, objects_of, StartsFrom}
pub use Rattle.gix_statement.specs.WholeStatement.{all, allowed, AreEntries, AreMadeReady, AreTips, by_bytes, bytes_in, commits, digits_in, Entry, entry_line, Follows, IsLimit, IsNumber, IsNumberShown, IsTree, since, Spells}

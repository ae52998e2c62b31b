-- What most proofs of this crate use, to import from one place: words of statements, here and below, and lemmas from below.
pub use Rattle.std.specs.List.{AllByRecursion, list_any}
pub use Rattle.std.proofs.lemmas.List.Concat.{flat_map-append}
pub use Rattle.gix_hash.specs.Id.{is_among, is_same, kind_of}
pub use Rattle.gix_hash.specs.declared.ObjectId.{ObjectId}
pub use Rattle.gix_object.specs.Object.{Object, Objects}
pub use Rattle.gix_object.specs.TreeItems.{is_tree, tree_items, TreeEntry}
pub use Rattle.gix_object.specs.TreeRefIter.{bytes_left, entry_of, id_kind, IsEndOf, items_left}
pub use Rattle.gix_hash.proofs.Ids.Equality.{eq_is_same}
pub use Rattle.gix_tree.specs.Delegate.{Action, Call, here, later, PopBack, PopFront, PopPath, PushBack, PushPath, Refused, RefusedIn, Run, takes_memory, VisitTree}
pub use Rattle.gix_tree.specs.Errors.{error_of_find}
pub use Rattle.gix_tree.specs.Inside.LevelQueue.{AreAbove, ids_or_none, known_at, LevelQueue, met_behind, queued, Waiting}
pub use Rattle.gix_tree.specs.Inside.ShowsBelow.{Descends, ShowsBelow, ShowsUpTo}
pub use Rattle.gix_tree.specs.Inside.ShowsEntry.{Queues, ShowsEntry, ShowsTree, visit_below}
pub use Rattle.gix_tree.specs.Inside.Stack.{FoundTree, ids_down, IsWithin, items_at}
pub use Rattle.gix_tree.specs.Laws.{AllEnterWhole, AreSound, BothRecordTheSame, DepthBeginsInOrder, DepthEndsAtBreak, DepthIsInOrder, DepthIsRecorded, EndsAtBreak, EntersWhole, GoesIn, GoesOnlyInto, IsWhole, IsWholeTree, LevelsAreInOrder}
pub use Rattle.gix_tree.specs.Laws.{LevelsAreRecorded, LevelsBeginInOrder, LevelsEndAtBreak, MetDepthSucceeds, MetLevelsSucceed, NoneBreaks, OkWithoutBreak, SoundDepthSucceeds, SoundLevelsSucceed, subtrees, subtrees_of}
pub use Rattle.gix_tree.specs.Paths.{HaveNames, IsName, joined, known_root, unknown_root}
pub use Rattle.gix_tree.specs.Preorder.{IsPreorder, IsPreorderBeginning}
pub use Rattle.gix_tree.specs.Recorder.{before_slash, first_path, fresh, front_from, IsRecorderAnswer, last_path, path_or_empty, Record, record_of, Recorded, recorded, recorded_all, with_name, without_first, without_last, without_name}
pub use Rattle.gix_tree.specs.Script.{breaks, cycles, depth_calls, depth_calls_behind, DepthScript, ends_inside, enters, entries_at, entries_in, fault, IsDepthScript, IsLevelScript, items_or_none, leaves, level_calls, level_calls_behind}
pub use Rattle.gix_tree.specs.Script.{LevelScript, next_of_steps, no_memory_at_look_up, no_memory_for_descent, no_memory_in_turn, not_found, one_step_more, refused, Step, tasks_behind, tasks_of, turn, whole}
pub use Rattle.gix_tree.specs.Visits.{Breaks, Broken, Cycles, Ending, Enters, Failed, Fault, inside, is_broken, IsUnfailed, Items, Leaves, Outcome, outcome, outcome_of, Place, Show, shows, Task, Turn, Visit, visit, visit_call, visit_call_of}
pub use Rattle.gix_tree.specs.Visits.{Whole}
pub use Rattle.gix_tree.specs.Walk.{BreadthFirst, depth_answer, DepthFirst, items_of_object, level_answer, LookUpFailed, LookUpFails, trees_of}
pub use Rattle.gix_tree.specs.declared.breadthfirst.Error.{Error}
pub use Rattle.gix_tree.specs.declared.depthfirst.Stop.{Stop}
pub use Rattle.gix_tree.specs.declared.recorder.Location.TheVariants.{Path}

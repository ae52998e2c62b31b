-- What a run of `files` wrote that ended well is the tree that the page has.
use Rattle.std.proofs.Common.{◌≡◌, ℕ, List, [], map, Option, Ok, flat_map, ap, subst, ◌∙◌}
use Rattle.gix_commands.proofs.Common.{Appends, ObjectId, Objects, GraphRow, IsDepthScript, entries_at, Tracks, fresh_recorder, Whole}
use Rattle.gix_commands.proofs.Common.{LookUpFails, trees_of, depth_ok, depth_is_in_order, depth_is_recorded, file_lines, never_faulty, Files}
use Rattle.gix_commands.proofs.Common.{Entry, EntryLines, IsTree, allowed, entry_line}
use Rattle.gix_tree.proofs.Theorems.SameRecords.{unbroken}
use Rattle.gix_commands.specs.Pages.{page_objects}
use Rattle.gix_commands.specs.Run.{Serves, listed}
use Rattle.gix_statement.specs.WholeStatement.{Unfolds}
use Rattle.gix_commands.proofs.FileRuns.{unfolds}
use Rattle.gix_commands.proofs.SameLists.{entry_lines}
use Rattle.gix_commands.proofs.SameTrees.{placed_by, unfolds_walk}
use Rattle.gix_commands.proofs.TreeFacts.{whole_end}

-- what `files` wrote
module _ (objects : Objects) (rows : List GraphRow) (old new : Option (List ℕ)) where
  pub tree_written : {Stored : ObjectId → Type 0} → (shown : EntryLines) (tree : ObjectId) → Serves Stored objects rows old (Files shown tree) (Ok tt) new
      → (entries : List Entry) × (placed : List (List ℕ × Entry)) × IsTree (page_objects objects) tree entries × Unfolds (page_objects objects) [] entries placed × Appends old new (flat_map (entry_line shown.ending) (allowed shown.limit placed))
  tree_written shown tree (listed recorder walk names written) =
      let u = unfolds objects shown tree recorder walk in
      let order = depth_is_in_order objects (never_faulty objects) Tracks tree fresh_recorder recorder (Ok tt) walk (depth_ok walk.end walk.answered) in
      let end : walk.end ≡ Whole = whole_end walk.end (depth_ok walk.end walk.answered) (unbroken (entries_at (trees_of objects)) order u.all) in
      let t = unfolds_walk objects (LookUpFails objects (never_faulty objects)) (subst (IsDepthScript (trees_of objects) (LookUpFails objects (never_faulty objects)) tree walk.calls walk.visits) end walk.script) u.all names in (
        t.0,
        map placed_by walk.visits,
        t.1,
        t.2,
        subst (Appends old new) (ap (file_lines shown) (depth_is_recorded objects (never_faulty objects) tree recorder (Ok tt) walk (λ e. cc) names) ∙ entry_lines shown walk.visits) written,
      )

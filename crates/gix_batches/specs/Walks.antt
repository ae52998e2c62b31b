-- Which walks fill the slices.
use Rattle.std.specs.Prelude.{◌≡◌, ◌≢◌, ℕ, List, [], Option, None, Ok}
use Rattle.gix_hash.specs.declared.ObjectId.{ObjectId}
use Rattle.gix_object.specs.Object.{Objects}
use Rattle.gix_revwalk.specs.declared.Parents.{Parents}
use Rattle.gix_simple.specs.declared.Sorting.{Sorting}
use Rattle.gix_simple.specs.declared.Sorting.TheVariants as sorting
use Rattle.gix_topo.specs.declared.Sorting.{Sorting as TopoSorting}
use Rattle.gix_words.specs.declared.fault.Fault.{Fault}
use Rattle.gix_words.specs.declared.words.Order.{Order}
use Rattle.gix_words.specs.declared.words.Order.TheVariants.{Simple, Topo}
use Rattle.gix_commands.specs.Checked.{Checks}
use Rattle.gix_commands.specs.TopoWalked as topo
use Rattle.gix_commands.specs.Walked.{Walk, Answers, IsWalkFault, StartsFrom}
use Rattle.gix_batches.specs.declared.commit.Batch.{Batch}
use Rattle.gix_batches.specs.declared.commit.Commit.{Commit}
use Rattle.gix_batches.specs.declared.commit.CommitId.{CommitId}
use Rattle.gix_batches.specs.Draws.{Fills}

-- which fault a fault of a checked walk is: itself
abbrev pub IsItself : Fault → Fault → Type 0
IsItself e f = f ≡ e

-- over these objects: breadth first a walk, by time one that goes on only where parents are there, or a topological one
pub data FillsBy (objects : Objects) (limit : Option ℕ) (tips hidden : List ObjectId) (skip : ℕ) (old new : List Commit)
    (before after : List CommitId) (batch : Batch) : Order → Type 0 where
  breadth : {m : Parents} (walk : Walk) → StartsFrom objects [] m sorting.BreadthFirst tips hidden walk
      → Fills Answers IsWalkFault limit skip walk old new before after batch
      → FillsBy objects limit tips hidden skip old new before after batch (Simple m sorting.BreadthFirst)
  timed : {m : Parents} {by : Sorting} (walk : Walk) → by ≢ sorting.BreadthFirst → StartsFrom objects [] m by tips hidden walk
      → Fills Checks IsItself limit skip (record { walk = walk; objects = objects; rows = []; lost = None }) old new before after batch
      → FillsBy objects limit tips hidden skip old new before after batch (Simple m by)
  down : {m : Parents} {by : TopoSorting} (walk : topo.Walk) → topo.IsBuiltFrom objects [] m by tips hidden (Ok walk)
      → Fills topo.Answers topo.IsWalkFault limit skip walk old new before after batch
      → FillsBy objects limit tips hidden skip old new before after batch (Topo m by)

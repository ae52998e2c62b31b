-- What a walk that was started fills.
use Rattle.std.proofs.Common.{◌≡◌, ◌≢◌, ◌∙◌, ℕ, Bool, true, false, MatchBool, List, [], Option, Some, Result, Ok, Err, IfErr, ap, sym, subst}
use Rattle.gix_hash.specs.declared.ObjectId.{ObjectId}
use Rattle.gix_object.specs.Object.{Objects}
use Rattle.gix_revwalk.specs.declared.Parents.{Parents}
use Rattle.gix_simple.specs.declared.Sorting.{Sorting}
use Rattle.gix_simple.specs.declared.Sorting.TheVariants as sorting
use Rattle.gix_words.specs.declared.fault.Fault.{Fault}
use Rattle.gix_words.specs.Words.{Commits, request_of}
use Rattle.gix_words.specs.declared.words.Shown.{Shown}
use Rattle.gix_words.specs.declared.words.Order.{Order}
use Rattle.gix_words.specs.declared.words.Order.TheVariants.{Simple}
use Rattle.gix_commands.specs.Readable.{readable, reads_all_lines}
use Rattle.gix_commands.specs.Run.{Serves}
use Rattle.gix_commands.specs.Walked.{Walk, Answers, IsWalkFault, StartsFrom}
use Rattle.gix_batches.specs.declared.commit.Batch.{Batch}
use Rattle.gix_batches.specs.declared.commit.Commit.{Commit}
use Rattle.gix_batches.specs.declared.commit.CommitId.{CommitId}
use Rattle.gix_batches.specs.Failing.{all_lines_to}
use Rattle.gix_batches.specs.Draws.{Fills}
use Rattle.gix_batches.specs.Walks.{FillsBy, breadth}

-- what the test of the lines says
pub all_if : (shown : Shown) (b : Bool) → b ≡ true → MatchBool b (shown ≡ all_lines_to shown.limit) (shown ≢ all_lines_to shown.limit) → shown ≡ all_lines_to shown.limit
all_if shown true e h = h
all_if shown false e h = cc

pub others_if : (shown : Shown) (b : Bool) → b ≡ false → MatchBool b (shown ≡ all_lines_to shown.limit) (shown ≢ all_lines_to shown.limit) → shown ≢ all_lines_to shown.limit
others_if shown true e h = cc
others_if shown false e h = h

pub if_err : {A : Type 0} (P : Fault → Type 0) (r : Result A Fault) (e : Fault) → r ≡ Err e → P e → IfErr r P
if_err {A} P r e is p = subst (λ (x : Result A Fault). IfErr x P) (sym is) p

-- a walk in this order couldn't start
pub unstarted : {A : Type 0} (Stored : ObjectId → Type 0) (objects : Objects) (limit : Option ℕ) (tips hidden : List ObjectId) (order other : Order) (result : Result A Fault) (e : Fault) → order ≡ other → result ≡ Err e
    → Serves Stored (readable (reads_all_lines (Commits other (all_lines_to limit) tips hidden)) objects) [] (Some []) (Commits other (all_lines_to limit) tips hidden) (Err e) (Some [])
    → IfErr result (λ f. Serves Stored (readable (reads_all_lines (Commits order (all_lines_to limit) tips hidden)) objects) [] (Some []) (Commits order (all_lines_to limit) tips hidden) (Err f) (Some []))
unstarted Stored objects limit tips hidden order other result e is same s =
    if_err (λ f. Serves Stored (readable (reads_all_lines (Commits order (all_lines_to limit) tips hidden)) objects) [] (Some []) (Commits order (all_lines_to limit) tips hidden) (Err f) (Some [])) result e same
    (subst (λ (o : Order). Serves Stored (readable (reads_all_lines (Commits o (all_lines_to limit) tips hidden)) objects) [] (Some []) (Commits o (all_lines_to limit) tips hidden) (Err e) (Some [])) (sym is) s)

pub breadth_by : (objects : Objects) (limit : Option ℕ) (tips hidden : List ObjectId) (skip : ℕ) (old new : List Commit) (before after : List CommitId) (batch : Batch) (m : Parents) (by : Sorting) → by ≡ sorting.BreadthFirst → (walk : Walk)
    → StartsFrom objects [] m by tips hidden walk → Fills Answers IsWalkFault limit skip walk old new before after batch → FillsBy objects limit tips hidden skip old new before after batch (Simple m by)
breadth_by objects limit tips hidden skip old new before after batch m by is walk starts f =
    subst (λ (b : Sorting). StartsFrom objects [] m b tips hidden walk → FillsBy objects limit tips hidden skip old new before after batch (Simple m b)) (sym is) (λ s. breadth walk s f) starts

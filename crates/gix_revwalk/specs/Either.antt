-- A commit, as the store or a commit-graph has it.
use Rattle.std.specs.Prelude.{◌≡◌, ℕ, ℤ, List, Some, None, Result, Ok, Err}
use Rattle.gix_hash.specs.declared.ObjectId.{ObjectId}
use Rattle.gix_object.specs.declared.decode.Error.{Error as DecodeError}
use Rattle.gix_object.specs.declared.find.existing_iter.Error.{Error as ExistingError}
use Rattle.gix_object.specs.CommitRefIter.{commit_items_left, first_tree, first_committer}
use Rattle.gix_object.specs.CommitText.{seconds_of}
use Rattle.gix_object.specs.Find.{FindsCommit}
use Rattle.gix_commitgraph.specs.GraphCommit.{row_of_commit, rows_of_commit}
use Rattle.gix_object.specs.Object.{Objects}
use Rattle.gix_commitgraph.specs.Rows.{GraphRow, row_of}
use Rattle.gix_revwalk.specs.declared.Either.{Either}
use Rattle.gix_revwalk.specs.declared.Either.TheVariants.{CommitRefIter, CachedCommit}

-- the id of its tree
abbrev pub either_tree : Either → Result ObjectId DecodeError
either_tree (CommitRefIter items) = first_tree (commit_items_left items)
either_tree (CachedCommit commit) = Ok (row_of_commit commit).tree

abbrev pub seconds_told : Result (List ℕ) DecodeError → Result ℤ DecodeError
seconds_told (Ok signature) = Ok (seconds_of signature)
seconds_told (Err fault) = Err fault

-- the committer's seconds
abbrev pub either_time : Either → Result ℤ DecodeError
either_time (CommitRefIter items) = seconds_told (first_committer (commit_items_left items))
either_time (CachedCommit commit) = Ok (row_of_commit commit).time

-- the row of the id where there is one, as a commit of these rows, else what the store has
abbrev pub FindsEither : List GraphRow → Objects → (ObjectId → Type 0) → ObjectId → Result Either ExistingError → Type 0
FindsEither rows objects faulty i (Ok (CachedCommit commit)) = (row_of rows i ≡ Some (row_of_commit commit)) × (rows_of_commit commit ≡ rows)
FindsEither rows objects faulty i (Ok (CommitRefIter items)) = (row_of rows i ≡ None) × FindsCommit objects faulty i (Ok items)
FindsEither rows objects faulty i (Err fault) = (row_of rows i ≡ None) × FindsCommit objects faulty i (Err fault)

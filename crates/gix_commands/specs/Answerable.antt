-- When a run over what is stored and over rows ends well.
use Rattle.std.specs.Prelude.{ℕ, List, [], ◌∷◌, ◌++◌, true, Option, Result}
use Rattle.gix_commitgraph.specs.Packed.{AreGraphRows}
use Rattle.gix_commitgraph.specs.Rows.{GraphRow}
use Rattle.gix_graph_check.specs.Sound.{AreSound as AreSoundRows}
use Rattle.gix_graph_store.specs.Laws.{StoredAgree}
use Rattle.gix_graph_store.specs.WithRows.{with_rows}
use Rattle.gix_hash.specs.Reach.{Reaches}
use Rattle.gix_hash.specs.declared.ObjectId.{ObjectId}
use Rattle.gix_object.specs.Object.{Objects}
use Rattle.gix_revwalk.specs.Commits.{parents_of}
use Rattle.gix_tree.specs.Laws.{AreSound}
use Rattle.gix_tree.specs.Walk.{LookUpFails, trees_of}
use Rattle.gix_words.specs.Words.{Ahead, Bases, Commits, Contained, Containing, Files, Request}
use Rattle.gix_words.specs.declared.fault.Fault.{Fault}
use Rattle.gix_commands.specs.Chosen.{HasObject, HasText}
use Rattle.gix_commands.specs.Histories.{AreWhole, EndsWell}
use Rattle.gix_commands.specs.Listings.{AreListable, AreNamed}
use Rattle.gix_commands.specs.StoredRuns.{RunsStored}
use Rattle.gix_commands.specs.Walked.{never_faulty}

-- What a request needs of a store that has a commit for each row: all that its ids reach are whole commits; and if lines have a format, each
-- commit that its tips reach is stored, since a row has no text. The trees of `files` are as for a run over records.
abbrev pub IsAnswerable : (stored : Objects) → List GraphRow → Request → Type 0
IsAnswerable stored rows (Commits order shown tips hidden) = AreWhole (with_rows rows stored) (tips ++ hidden)
    × ((i : ObjectId) → Reaches (parents_of (with_rows rows stored)) tips i → HasText (HasObject stored rows) shown i)
IsAnswerable stored rows (Files shown tree) =
    AreSound (trees_of (with_rows rows stored)) (LookUpFails (with_rows rows stored) (never_faulty (with_rows rows stored))) (λ e. true) (tree ∷ [])
    × AreNamed (with_rows rows stored) tree × AreListable (with_rows rows stored) shown tree
IsAnswerable stored rows (Ahead one other) = AreWhole (with_rows rows stored) (one ∷ other ∷ [])
IsAnswerable stored rows (Contained tip ids) = AreWhole (with_rows rows stored) (tip ∷ ids)
IsAnswerable stored rows (Containing target tips) = AreWhole (with_rows rows stored) (target ∷ tips)
IsAnswerable stored rows (Bases one others) = AreWhole (with_rows rows stored) (one ∷ others)

-- Over what is stored and over sound rows, each of which says what is stored at its id if anything is, a run of a request that has what it
-- needs ends well.
abbrev pub StoredSucceeds : Type 0
StoredSucceeds =
    (request : Request) (stored : Objects) (rows : List GraphRow) (answer : Result (Unit {0}) Fault) (old new : Option (List ℕ)) → AreGraphRows rows → AreSoundRows rows → StoredAgree rows stored → IsAnswerable stored rows request →
    RunsStored request stored rows old answer new → EndsWell answer

-- The rows of a commit-graph, as the page of what a run promises has them, and what a command reads of objects.
use Rattle.std.specs.Prelude.{◌≡◌, ◌≢◌, ℕ, List, [], map, Contains, Some, None, codes}
use Rattle.gix_commitgraph.specs.declared.ParentPlace.TheVariants.{Fault}
use Rattle.gix_commitgraph.specs.Rows.{GraphRow}
use Rattle.gix_graph_check.specs.HeadsReach.{ids_of_places}
use Rattle.gix_hash.specs.Id.{kind_of}
use Rattle.gix_hash.specs.declared.ObjectId.{ObjectId}
use Rattle.gix_object.specs.CommitItems.{commit_items}
use Rattle.gix_revwalk.specs.Texts.{scanned}
use Rattle.gix_revwalk.specs.declared.Parents.TheVariants as mode
use Rattle.gix_simple.specs.declared.Sorting.{Sorting}
use Rattle.gix_statement.specs.WholeStatement as page
pub use Rattle.gix_commands.specs.PageObjects.{as_page, page_objects}
use Rattle.gix_words.specs.Words.{Commits, Request}
use Rattle.gix_words.specs.declared.words.Order.TheVariants.{Simple}
use Rattle.gix_words.specs.declared.words.Shown.{Shown}

-- a row of these, with the ids of the rows at its places
abbrev pub page_row : List GraphRow → GraphRow → page.Row
page_row rows row = record { id = row.id; tree = row.tree; parents = ids_of_places rows row.parents; time = row.time }

abbrev pub page_rows : List GraphRow → List page.Row
page_rows rows = map (page_row rows) rows

-- these are the rows, none of whose parents is at a corrupt place
abbrev pub AreRows : List GraphRow → List page.Row → Type 0
AreRows graph rows = ((row : GraphRow) → Contains graph row → Contains row.parents Fault → ⊥) × (rows ≡ page_rows graph)

-- each object that is said to be a commit, and of which the first parent is read, has the text of one, as far as its parents
abbrev pub AreCommits : page.Objects → Type 0
AreCommits objects = (i : ObjectId) (bytes : List ℕ) → objects i ≡ Some (record { kind = codes "commit"; bytes = bytes })
    → (scanned mode.First (commit_items (kind_of i) bytes)).1 ≡ None → page.IsThere objects [] i

-- no object that is said to be a commit is empty, and where a request follows first parents each that is read has the text of one
abbrev pub HaveTexts : Request → page.Objects → Type 0
HaveTexts request objects =
    ((i : ObjectId) → objects i ≢ Some (record { kind = codes "commit"; bytes = [] }))
    × ((by : Sorting) (shown : Shown) (tips hidden : List ObjectId) → request ≡ Commits (Simple mode.First by) shown tips hidden
    → AreCommits objects)

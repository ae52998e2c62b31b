-- The text of a commit as a row writes it.
use Rattle.std.specs.Prelude.{ℕ, ℤ, List, [], ◌∷◌, ◌++◌, codes, Bool, true, false, Option, Some, None}
use Rattle.std.specs.Fmt.{signed_decimal}
use Rattle.std.specs.List.{flat_map}
use Rattle.std.specs.Option.{option_map}
use Rattle.gix_hash.specs.declared.ObjectId.{ObjectId}
use Rattle.gix_hash.specs.Id.{hex_of}
use Rattle.gix_commitgraph.specs.Rows.{GraphRow, row_of}
use Rattle.gix_revwalk.specs.RowParents.{ids_at}

-- a line that says an id
abbrev pub id_line : List ℕ → ObjectId → List ℕ
id_line word i = word ++ (hex_of i ++ 10 ∷ [])

-- a line for each parent
abbrev pub parent_lines : List ObjectId → List ℕ
parent_lines ids = flat_map (id_line (codes "parent ")) ids

-- a signature without a name, with these seconds
abbrev pub signature_of : ℤ → List ℕ
signature_of seconds = codes "<> " ++ (signed_decimal seconds ++ codes " +0000")

-- an author, and a committer with these seconds, and the end of the header
abbrev pub people_lines : ℤ → List ℕ
people_lines seconds = codes "author <> 0 +0000\ncommitter <> " ++ (signed_decimal seconds ++ codes " +0000\n\n")

-- a commit of this tree, these parents and these seconds
unfoldable pub commit_text : ObjectId → List ObjectId → ℤ → List ℕ
commit_text tree parents seconds = id_line (codes "tree ") tree ++ (parent_lines parents ++ people_lines seconds)

-- the text that a row writes, where none of its places is corrupt
abbrev pub text_of_row : List GraphRow → Option GraphRow → Option (List ℕ)
text_of_row rows None = None
text_of_row rows (Some row) = option_map (λ ids. commit_text row.tree ids row.time) (ids_at rows row.parents)

-- the text that the row of an id writes
abbrev pub text_at : List GraphRow → ObjectId → Option (List ℕ)
text_at rows i = text_of_row rows (row_of rows i)

-- what a buffer holds, where a text was written into it
abbrev pub text_if : Bool → List ℕ → Option (List ℕ)
text_if true held = Some held
text_if false held = None

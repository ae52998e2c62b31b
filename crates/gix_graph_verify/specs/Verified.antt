-- What it means that files are verified.
use Rattle.std.specs.Prelude.{◌≡◌, ℕ, IsTrue, List, take, All, Contains, None}
use Rattle.gix_object.specs.Object.{Objects}
use Rattle.gix_records.specs.NamedRecords.{AreNamed}
use Rattle.gix_commitgraph.specs.Rows.{GraphRow, row_of}
use Rattle.gix_revwalk.specs.Agreeing.{RowAgrees, IsAgreeing}
use Rattle.gix_graph_file.specs.Chain.{HasChain}
use Rattle.gix_graph_file.specs.Trailer.{has_its_hash}
use Rattle.gix_graph_check.specs.Sound.{AreSound}

-- the files are a chain whose rows agree with objects that are what their ids say, except for those that the lowest files, so many, have
pub record IsVerified (files : List (List ℕ)) (passed : ℕ) : Type 0 where
  pub rows : List GraphRow
  pub chain : HasChain files rows
  -- each file ends with its hash
  pub hashes : All (λ file. IsTrue (has_its_hash file)) files
  pub sound : AreSound rows
  -- the rows of the lowest files
  pub lower : List GraphRow
  pub below : HasChain (take passed files) lower
  pub objects : Objects
  pub named : AreNamed objects
  pub agree : (row : GraphRow) → Contains rows row → row_of lower row.id ≡ None → RowAgrees objects rows row

-- where no file has passed before, all rows agree
abbrev pub AllAgree : Type 0
AllAgree = (files : List (List ℕ)) (verified : IsVerified files 0) → IsAgreeing verified.objects verified.rows

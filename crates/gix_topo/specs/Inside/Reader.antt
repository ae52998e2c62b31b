-- What commits are read from.
use Rattle.std.specs.Prelude.{◌≡◌, List, Bool, Option, Some}
use Rattle.std.specs.FinMap as map_of
use Rattle.gix_hash.specs.declared.ObjectId.{ObjectId}
use Rattle.gix_hash.specs.Id.{id_cmp}
use Rattle.gix_object.specs.Object.{Objects}
use Rattle.gix_commitgraph.specs.Rows.{GraphRow}
use Rattle.gix_revwalk.specs.declared.read.Header.{Header}
use Rattle.gix_revwalk.specs.Reading.{ReadsHeader}

-- the text that was read last, where to look for rows, and what is kept are left out: they say nothing of what is read
pub record Reader (F : Type 0) : Type 0 where
  pub find : F
  pub graph : Option (List GraphRow)
  pub in_use : Bool

abbrev pub reader_by : {F : Type 0} → F → Option (List GraphRow) → Bool → Reader F
reader_by find graph in_use = record { find = find; graph = graph; in_use = in_use }

-- what is kept of an id is the header of its commit
abbrev pub AreKept : Objects → map_of.FinMap id_cmp Header → Type 0
AreKept objects kept = (i : ObjectId) (header : Header) → map_of.get kept i ≡ Some header → ReadsHeader objects i header

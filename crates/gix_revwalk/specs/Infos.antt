-- A commit, as a walk gives it.
use Rattle.std.specs.Prelude.{◌≡◌, ◌-◌, ◌^◌, ℕ, ℤ, List, [], ◌∷◌, map, Option, Some, None, Result, Ok, Err}
use Rattle.gix_hash.specs.declared.ObjectId.{ObjectId}
use Rattle.gix_revwalk.specs.declared.Info.{Info}
use Rattle.gix_commitgraph.specs.Rows.{GraphRow, row_of}

-- a commit as it is given
pub record IsInfo (info : Info) (id : ObjectId) (parents : List ObjectId) (generation : Option ℕ) (time : Option ℤ) : Type 0 where
  pub same_id : info.id ≡ id
  pub same_parents : info.parent_ids.items ≡ parents
  pub same_generation : info.generation ≡ generation
  pub same_time : info.commit_time ≡ time

-- a generation is that of the row
abbrev pub IsRowGeneration : List GraphRow → ObjectId → Option ℕ → Type 0
IsRowGeneration rows i None = Unit {0}
IsRowGeneration rows i (Some generation) = (row : GraphRow) × (row_of rows i ≡ Some row) × (row.generation ≡ generation)

-- by a row; one that has none is above all
abbrev pub generation_in : Option GraphRow → ℕ
generation_in None = 2 ^ 32 - 1
generation_in (Some row) = row.generation

-- answers that are commits alone
abbrev pub given : {E : Type 0} → List Info → List (Result Info E)
given infos = map Ok infos

-- the ids of the commits among the answers
abbrev pub given_ids : {E : Type 0} → List (Result Info E) → List ObjectId
given_ids [] = []
given_ids (Ok info ∷ list) = info.id ∷ given_ids list
given_ids (Err e ∷ list) = given_ids list

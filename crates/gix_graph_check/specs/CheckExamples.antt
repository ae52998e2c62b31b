-- Worked rows: what is sound, what the heads are, and which parents rows name.
use Rattle.std.specs.Prelude.{◌≡◌, ℕ, pos, List, [], ◌∷◌, replicate, refl}
use Rattle.gix_hash.specs.declared.ObjectId.TheVariants as id
use Rattle.gix_commitgraph.specs.declared.ParentPlace.{ParentPlace}
use Rattle.gix_commitgraph.specs.declared.ParentPlace.TheVariants.{At, Fault}
use Rattle.gix_commitgraph.specs.Rows.{GraphRow}
use Rattle.gix_graph_check.specs.Heads.{heads_of}
use Rattle.gix_graph_check.specs.HeadsReach.{parents_by_rows}

-- a row whose id has this byte twenty times
abbrev pub example_row : ℕ → ℕ → List ParentPlace → GraphRow
example_row byte generation parents =
    record { id = id.Sha1 (replicate 20 byte); tree = id.Sha1 (replicate 20 0x4b); parents = parents; generation = generation; time = pos 1 }

-- the second row is a merge of the first and third, and the fourth has a corrupt parent
abbrev pub four_rows : List GraphRow
four_rows = example_row 0x11 1 [] ∷ example_row 0x22 3 (At 0 ∷ At 2 ∷ []) ∷ example_row 0x33 2 (At 0 ∷ []) ∷ example_row 0x44 9 (At 0 ∷ Fault ∷ []) ∷ []

pub heads_of_four : heads_of four_rows ≡ id.Sha1 (replicate 20 0x22) ∷ id.Sha1 (replicate 20 0x44) ∷ []
unfolding heads_of
heads_of_four = refl

-- rows that name one another have no head
pub heads_of_a_circle : heads_of (example_row 0x11 1 (At 1 ∷ []) ∷ example_row 0x22 1 (At 0 ∷ []) ∷ []) ≡ []
unfolding heads_of
heads_of_a_circle = refl

pub heads_of_none : heads_of [] ≡ []
unfolding heads_of
heads_of_none = refl

pub parents_of_the_second : parents_by_rows four_rows (id.Sha1 (replicate 20 0x22)) ≡ id.Sha1 (replicate 20 0x11) ∷ id.Sha1 (replicate 20 0x33) ∷ []
parents_of_the_second = refl

pub parents_of_the_fourth : parents_by_rows four_rows (id.Sha1 (replicate 20 0x44)) ≡ id.Sha1 (replicate 20 0x11) ∷ []
parents_of_the_fourth = refl

pub parents_without_a_row : parents_by_rows four_rows (id.Sha1 (replicate 20 0x55)) ≡ []
parents_without_a_row = refl

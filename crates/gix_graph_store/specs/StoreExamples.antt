-- Worked texts: what rows write.
use Rattle.std.specs.Prelude.{◌≡◌, ℕ, ℤ, pos, negsuc, List, [], ◌∷◌, codes, replicate, Some, None, refl}
use Rattle.hex.specs.Hex.{encode_with}
use Rattle.std.specs.Fmt.{digits}
use Rattle.gix_hash.specs.declared.ObjectId.{ObjectId}
use Rattle.gix_hash.specs.declared.ObjectId.TheVariants as id
use Rattle.gix_commitgraph.specs.declared.ParentPlace.{ParentPlace}
use Rattle.gix_commitgraph.specs.declared.ParentPlace.TheVariants.{At, Fault}
use Rattle.gix_commitgraph.specs.Rows.{GraphRow}
use Rattle.gix_graph_store.specs.RowText.{commit_text, text_at}

-- an id that has this byte twenty times
abbrev pub example_id : ℕ → ObjectId
example_id byte = id.Sha1 (replicate 20 byte)

abbrev pub example_row : ℕ → List ParentPlace → ℤ → GraphRow
example_row byte parents time = record { id = example_id byte; tree = example_id 0x4b; parents = parents; generation = 1; time = time }

-- the second row has the first and the third as parents, and the third has a corrupt place
abbrev pub three_rows : List GraphRow
three_rows = example_row 0x11 [] (pos 1000000000) ∷ example_row 0x22 (At 0 ∷ At 2 ∷ []) (negsuc 6) ∷ example_row 0x33 (At 0 ∷ Fault ∷ []) (pos 5) ∷ []

pub text_of_a_root : text_at three_rows (example_id 0x11)
    ≡ Some (codes "tree 4b4b4b4b4b4b4b4b4b4b4b4b4b4b4b4b4b4b4b4b\nauthor <> 0 +0000\ncommitter <> 1000000000 +0000\n\n")
unfolding commit_text encode_with digits
text_of_a_root = refl

pub text_of_a_merge : text_at three_rows (example_id 0x22)
    ≡ Some (codes "tree 4b4b4b4b4b4b4b4b4b4b4b4b4b4b4b4b4b4b4b4b\nparent 1111111111111111111111111111111111111111\nparent 3333333333333333333333333333333333333333\nauthor <> 0 +0000\ncommitter <> -7 +0000\n\n")
unfolding commit_text encode_with digits
text_of_a_merge = refl

pub no_text_of_a_corrupt_row : text_at three_rows (example_id 0x33) ≡ None
no_text_of_a_corrupt_row = refl

pub no_text_without_a_row : text_at three_rows (example_id 0x44) ≡ None
no_text_without_a_row = refl

-- Worked rows of a commit-graph, and their packed bytes.
use Rattle.std.specs.Prelude.{◌≡◌, ℕ, pos, List, [], ◌∷◌, ◌++◌, replicate, codes, Some, Ok, Err, refl}
use Rattle.gix_hash.specs.declared.ObjectId.TheVariants as id
use Rattle.gix_commitgraph.specs.declared.ParentPlace.TheVariants.{At, Fault}
use Rattle.gix_commitgraph.specs.declared.Place.TheVariants as place
use Rattle.gix_commitgraph.specs.Rows.{GraphRow, row_of}
use Rattle.gix_commitgraph.specs.Packed.{overflow_of, second_word, row_bytes, rows_bytes, spelling}
use Rattle.gix_commitgraph.specs.PackedReading.{rows_at, read_packed}

-- the id of git's empty tree
abbrev pub empty_tree_bytes : List ℕ
empty_tree_bytes =
    0x4b ∷ 0x82 ∷ 0x5d ∷ 0xc6 ∷ 0x42 ∷ 0xcb ∷ 0x6e ∷ 0xb9 ∷ 0xa0 ∷ 0x60 ∷ 0xe5 ∷ 0x4b ∷ 0xf8 ∷ 0xd6 ∷ 0x92 ∷ 0x88 ∷ 0xfb ∷ 0xee ∷ 0x49 ∷ 0x04 ∷ []

-- a row of the id of one digit, forty times, without parents
abbrev pub first : GraphRow
first = record { id = id.Sha1 (replicate 20 0x11); tree = id.Sha1 empty_tree_bytes; parents = []; generation = 1; time = pos 1 }

-- a row whose parent is the first
abbrev pub second : GraphRow
second = record { id = id.Sha1 (replicate 20 0x22); tree = id.Sha1 empty_tree_bytes; parents = At 0 ∷ []; generation = 2; time = pos 2 }

abbrev pub first_bytes : List ℕ
first_bytes =
    replicate 20 0x11 ++ (empty_tree_bytes ++ (0x7f ∷ 0xff ∷ 0xff ∷ 0xff ∷ 0x7f ∷ 0xff ∷ 0xff ∷ 0xff ∷ 0 ∷ 0 ∷ 0 ∷ 1 ∷ 0 ∷ 0 ∷ 0 ∷ 0 ∷ 0 ∷ 0 ∷ 0 ∷ 1 ∷ []))

abbrev pub second_bytes : List ℕ
second_bytes = replicate 20 0x22 ++ (empty_tree_bytes ++ (0 ∷ 0 ∷ 0 ∷ 0 ∷ 0x7f ∷ 0xff ∷ 0xff ∷ 0xff ∷ 0 ∷ 0 ∷ 0 ∷ 2 ∷ 0 ∷ 0 ∷ 0 ∷ 0 ∷ 0 ∷ 0 ∷ 0 ∷ 2 ∷ []))

abbrev pub head_of_two : List ℕ
head_of_two = codes "GTR1" ++ (0 ∷ 0 ∷ 0 ∷ 2 ∷ 0 ∷ 0 ∷ 0 ∷ 0 ∷ [])

pub two_rows : spelling (first ∷ second ∷ []) ≡ head_of_two ++ (first_bytes ++ second_bytes)
unfolding spelling rows_bytes row_bytes
two_rows = refl

pub two_rows_read : read_packed (head_of_two ++ (first_bytes ++ second_bytes)) ≡ Ok (first ∷ second ∷ [])
unfolding read_packed rows_at
two_rows_read = refl

pub rows_exchanged : read_packed (head_of_two ++ (second_bytes ++ first_bytes)) ≡ Err (place.Order 1)
unfolding read_packed rows_at
rows_exchanged = refl

pub no_rows : spelling [] ≡ codes "GTR1" ++ (0 ∷ 0 ∷ 0 ∷ 0 ∷ 0 ∷ 0 ∷ 0 ∷ 0 ∷ [])
unfolding spelling rows_bytes
no_rows = refl

pub no_bytes : read_packed [] ≡ Err place.Head
unfolding read_packed
no_bytes = refl

pub one_byte_more : read_packed (codes "GTR1" ++ replicate 9 0) ≡ Err place.Size
unfolding read_packed
one_byte_more = refl

pub long_layout_without_rows : read_packed (codes "GTR2" ++ replicate 8 0) ≡ Err place.Size
unfolding read_packed
long_layout_without_rows = refl

-- three parents: the first is in the row, and the others in the overflow list, the last of them flagged
pub three_parents : overflow_of (At 5 ∷ At 6 ∷ At 5 ∷ []) ≡ 6 ∷ 0x80000005 ∷ []
three_parents = refl

pub fault_behind : overflow_of (At 5 ∷ At 6 ∷ Fault ∷ []) ≡ 6 ∷ 0xfffffffe ∷ []
fault_behind = refl

pub list_from_the_third_word : second_word 3 (At 5 ∷ At 6 ∷ At 5 ∷ []) ≡ 0x80000003
list_from_the_third_word = refl

pub found_by_id : row_of (first ∷ second ∷ []) (id.Sha1 (replicate 20 0x22)) ≡ Some second
found_by_id = refl

-- A commit-graph file as git writes it, of two commits, and its rows; and the name of git's empty tree.
use Rattle.std.proofs.Common.{◌≡◌, ◌≢◌, ◌<◌, ◌+◌, ◌*◌, ℕ, zero, suc, pos, drop, ap, List, [], ◌∷◌, ◌++◌, replicate, codes, Some, None, Option, slice_get, refl, subst, arith, inl, inr}
use Rattle.std.proofs.lemmas.List.Elements.{All-nil}
use Rattle.gix_statement.proofs.Tests.{other_head}
use Rattle.std.specs.Int.{w32, to_be_bytes}
use Rattle.std.specs.List.{flat_map}
use Rattle.gix_hash.specs.declared.ObjectId.TheVariants.{Sha1}
use Rattle.gix_statement.specs.WholeStatement.{Row}
use Rattle.gix_statement.specs.CommitGraph.{AreLayers, none, single, IsRow, no_parent, bytes_at}

abbrev tree : List ℕ
tree = 0x4b ∷ 0x82 ∷ 0x5d ∷ 0xc6 ∷ 0x42 ∷ 0xcb ∷ 0x6e ∷ 0xb9 ∷ 0xa0 ∷ 0x60 ∷ 0xe5 ∷ 0x4b ∷ 0xf8 ∷ 0xd6 ∷ 0x92 ∷ 0x88 ∷ 0xfb ∷ 0xee ∷ 0x49 ∷ 0x04 ∷ []

abbrev one : List ℕ
one = 0x36 ∷ 0x8b ∷ 0xfb ∷ 0x9a ∷ 0xb5 ∷ 0x62 ∷ 0x55 ∷ 0x7a ∷ 0x0c ∷ 0x83 ∷ 0xbe ∷ 0xe3 ∷ 0x8e ∷ 0x6a ∷ 0x2b ∷ 0x28 ∷ 0xe7 ∷ 0xfa ∷ 0x58 ∷ 0x40 ∷ []

abbrev two : List ℕ
two = 0x5c ∷ 0xd7 ∷ 0x5c ∷ 0xef ∷ 0x95 ∷ 0x6f ∷ 0x04 ∷ 0x51 ∷ 0x4c ∷ 0xa3 ∷ 0x58 ∷ 0x3e ∷ 0x40 ∷ 0x15 ∷ 0xbd ∷ 0xd9 ∷ 0xa2 ∷ 0x02 ∷ 0x99 ∷ 0x90 ∷ []

abbrev words : List ℕ → List ℕ
words ns = flat_map (to_be_bytes w32) ns

-- an entry of the table of chunks
abbrev entry : List ℕ → ℕ → List ℕ
entry name at = name ++ words (0 ∷ at ∷ [])

abbrev data_of : List ℕ
data_of = tree ++ words (0x70000000 ∷ 0x70000000 ∷ 4 ∷ 1000000000 ∷ []) ++ tree ++ words (0 ∷ 0x70000000 ∷ 8 ∷ 1000000001 ∷ [])

-- of which the second has the first as its parent
abbrev file : List ℕ
file =
    codes "CGPH" ++ (1 ∷ 1 ∷ 4 ∷ 0 ∷ []) ++ entry (codes "OIDF") 0x44 ++ entry (codes "OIDL") 0x444 ++ entry (codes "CDAT") 0x46c
    ++ entry (codes "GDA2") 0x4b4 ++ entry (replicate 4 0) 0x4bc
    ++ words (replicate 0x36 0 ++ replicate 0x26 1 ++ replicate 0xa4 2) ++ one ++ two ++ data_of ++ replicate 28 0

abbrev first : Row
first = record { id = Sha1 one; tree = Sha1 tree; parents = []; time = pos 1000000000 }

abbrev second : Row
second = record { id = Sha1 two; tree = Sha1 tree; parents = Sha1 one ∷ []; time = pos 1000000001 }

abbrev both : List Row
both = first ∷ second ∷ []

first_row : IsRow 20 (one ++ two) data_of [] both 0 first
first_row = ([], refl, refl, refl, refl, none refl refl, refl, refl)

zero_is_other : 0 ≢ no_parent
zero_is_other e = omega (arith, e)

second_row : IsRow 20 (one ++ two) data_of [] both 1 second
second_row = (0 ∷ [], refl, refl, refl, refl, single zero_is_other refl, refl, refl)

before_ids : (j : ℕ) → j < 1 → bytes_at (8 + 12 * j) 4 file ≢ codes "OIDL"
before_ids zero l e = other_head 70 76 [] [] refl (ap (drop 3) e)
before_ids (suc j) l e = omega (arith, l)

before_data : (j : ℕ) → j < 2 → bytes_at (8 + 12 * j) 4 file ≢ codes "CDAT"
before_data zero l e = other_head 79 67 _ _ refl e
before_data (suc zero) l e = other_head 79 67 _ _ refl e
before_data (suc (suc j)) l e = omega (arith, l)

rows_of_file : AreLayers [] (file ∷ []) [] both
rows_of_file = (both, (20, one ++ two, data_of, [], refl, inl (refl, refl), refl, All-nil _, inl refl, (1, omega arith, refl, before_ids, refl), (2, omega arith, refl, before_data, refl), inr refl, refl, refl, each), refl)
  where
    each : (k : ℕ) (r : Row) → slice_get both k ≡ Some r → IsRow 20 (one ++ two) data_of [] both k r
    each zero r e = let same : first ≡ r = cc in subst (IsRow 20 (one ++ two) data_of [] both 0) same first_row
    each (suc zero) r e = let same : second ≡ r = cc in subst (IsRow 20 (one ++ two) data_of [] both 1) same second_row
    each (suc (suc k)) r e = let no : ◌≡◌ {A = Option Row} None (Some r) = e in cc

-- Numbers and letters of a commit-graph file, as the page and as the reader have them.
use Rattle.std.proofs.Common.{◌≡◌, ◌≢◌, ℕ, zero, suc, ◌+◌, ◌<◌, ◌≤◌, List, [], ◌∷◌, length, drop, refl, sym, ap, ◌∙◌, arith, w32, w64, length-take, length-drop, slice_index}
use Rattle.std.specs.Int.{from_be_bytes, to_be_bytes}
use Rattle.std.proofs.lemmas.Nat.{be_bytes_4}
use Rattle.gix_commitgraph.specs.Packed.{AreBytes}
use Rattle.gix_commitgraph.specs.PackedReading.{word_at}
use Rattle.gix_commitgraph.proofs.Packed.RowTakes.{AreBytes-take, AreBytes-drop}
use Rattle.gix_graph_file.specs.FileTable.{long_at}
use Rattle.gix_statement.specs.CommitGraph.{number_from, number_at, bytes_at}

pub four : (bytes : List ℕ) → length bytes ≡ 4 → number_from 0 bytes ≡ from_be_bytes w32 bytes
four [] l = absurd (omega (arith, l))
four (a ∷ []) l = absurd (omega (arith, l))
four (a ∷ b ∷ []) l = absurd (omega (arith, l))
four (a ∷ b ∷ c ∷ []) l = absurd (omega (arith, l))
four (a ∷ b ∷ c ∷ d ∷ []) l = omega arith
four (a ∷ b ∷ c ∷ d ∷ e ∷ bytes) l = absurd (omega (arith, l))

eight : (bytes : List ℕ) → length bytes ≡ 8 → number_from 0 bytes ≡ from_be_bytes w64 bytes
eight [] l = absurd (omega (arith, l))
eight (a ∷ []) l = absurd (omega (arith, l))
eight (a ∷ b ∷ []) l = absurd (omega (arith, l))
eight (a ∷ b ∷ c ∷ []) l = absurd (omega (arith, l))
eight (a ∷ b ∷ c ∷ d ∷ []) l = absurd (omega (arith, l))
eight (a ∷ b ∷ c ∷ d ∷ e ∷ []) l = absurd (omega (arith, l))
eight (a ∷ b ∷ c ∷ d ∷ e ∷ f ∷ []) l = absurd (omega (arith, l))
eight (a ∷ b ∷ c ∷ d ∷ e ∷ f ∷ g ∷ []) l = absurd (omega (arith, l))
eight (a ∷ b ∷ c ∷ d ∷ e ∷ f ∷ g ∷ h ∷ []) l = omega arith
eight (a ∷ b ∷ c ∷ d ∷ e ∷ f ∷ g ∷ h ∷ i ∷ bytes) l = absurd (omega (arith, l))

pub length-bytes_at : (at n : ℕ) (bytes : List ℕ) → at + n ≤ length bytes → length (bytes_at at n bytes) ≡ n
length-bytes_at at n bytes fits = omega (arith, length-take n (drop at bytes), length-drop at bytes)

pub word_is : (at : ℕ) (bytes : List ℕ) → at + 4 ≤ length bytes → number_at at 4 bytes ≡ word_at at bytes
word_is at bytes fits = four (bytes_at at 4 bytes) (length-bytes_at at 4 bytes fits)

pub long_is : (at : ℕ) (bytes : List ℕ) → at + 8 ≤ length bytes → number_at at 8 bytes ≡ long_at at bytes
unfolding long_at
long_is at bytes fits = eight (bytes_at at 8 bytes) (length-bytes_at at 8 bytes fits)

-- one byte
one : (bytes : List ℕ) (at : ℕ) → at < length bytes → number_at at 1 bytes ≡ slice_index bytes at
one [] at l = absurd (omega (arith, l))
one (b ∷ bytes) zero l = omega arith
one (b ∷ bytes) (suc at) l = one bytes at (omega (arith, l))

pub byte_is : (at : ℕ) (bytes : List ℕ) → at < length bytes → number_at at 1 bytes ≡ slice_index bytes at
byte_is at bytes l = one bytes at l

-- four letters are the number that they spell, both ways
pub letters_from : (at n : ℕ) (bytes letters : List ℕ) → AreBytes bytes → at + 4 ≤ length bytes → to_be_bytes w32 n ≡ letters → word_at at bytes ≡ n → bytes_at at 4 bytes ≡ letters
letters_from at n bytes letters small fits spelled e =
    let part = bytes_at at 4 bytes in
    sym (be_bytes_4 part (word_at at bytes) (length-bytes_at at 4 bytes fits) (AreBytes-take 4 (drop at bytes) (AreBytes-drop at bytes small)) refl) ∙ ap (to_be_bytes w32) e ∙ spelled

pub letters_other : (at n : ℕ) (bytes letters : List ℕ) → from_be_bytes w32 letters ≡ n → word_at at bytes ≢ n → bytes_at at 4 bytes ≢ letters
letters_other at n bytes letters spelled other e = other (ap (from_be_bytes w32) e ∙ spelled)

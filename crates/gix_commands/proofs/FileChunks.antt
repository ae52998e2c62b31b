-- The chunk that the reader finds by a name is the page's.
use Rattle.std.proofs.Common.{◌≡◌, ◌≢◌, ℕ, zero, suc, ◌+◌, ◌-◌, ◌*◌, ◌<◌, ◌≤◌, false, eqb, List, take, drop, length, Option, Some, None, sym, ap, subst, ◌∙◌, arith, w32, ⊎_elim, eqb-true, eq-eqb}
use Rattle.std.proofs.lemmas.Bool.{false≢true}
use Rattle.std.specs.Int.{from_be_bytes, to_be_bytes}
use Rattle.gix_commitgraph.specs.Packed.{AreBytes}
use Rattle.gix_commitgraph.proofs.Packed.Takes.{chosen}
use Rattle.gix_graph_file.specs.FileTable.{table_len, name_at, offset_at, chunk_from}
use Rattle.gix_statement.proofs.HaveHistory.{below}
use Rattle.gix_statement.specs.CommitGraph.{number_at, bytes_at, IsChunk}
use Rattle.gix_commands.proofs.FileNumbers.{letters_from, letters_other, long_is}

pub eqb-false : (a b : ℕ) → eqb a b ≡ false → a ≢ b
eqb-false a b e same = false≢true (sym e ∙ eq-eqb a b same)

same_bytes : {a b c d : ℕ} (file : List ℕ) → a ≡ b → c ≡ d → take (c - a) (drop a file) ≡ bytes_at b (d - b) file
same_bytes file e f = λ i. bytes_at (e i) (f i - e i) file

module _ (file letters : List ℕ) (name count : ℕ) (small : AreBytes file) (fits : table_len count ≤ length file) (counted : number_at 6 1 file ≡ count)
    (spelled : to_be_bytes w32 name ≡ letters) (read : from_be_bytes w32 letters ≡ name) where
  named : (k : ℕ) → k < count → name_at file k ≡ name → bytes_at (8 + 12 * k) 4 file ≡ letters
  unfolding name_at
  named k l e = letters_from (8 + 12 * k) name file letters small (omega (arith, l, fits)) spelled e

  other : (k : ℕ) → name_at file k ≢ name → bytes_at (8 + 12 * k) 4 file ≢ letters
  unfolding name_at
  other k e = letters_other (8 + 12 * k) name file letters read e

  offset : (k : ℕ) → k ≤ count → number_at (12 + 12 * k) 8 file ≡ offset_at file k
  unfolding offset_at
  offset k l = long_is (12 + 12 * k) file (omega (arith, l, fits))

  next_offset : (k : ℕ) → k < count → number_at (24 + 12 * k) 8 file ≡ offset_at file (k + 1)
  next_offset k l = let e : 24 + 12 * k ≡ 12 + 12 * (k + 1) = omega arith in ap (λ n. number_at n 8 file) e ∙ offset (k + 1) (omega (arith, l))

  pub chunk_found : (left entry : ℕ) (bytes : List ℕ) → left + entry ≡ count → ((j : ℕ) → j < entry → bytes_at (8 + 12 * j) 4 file ≢ letters) → chunk_from file name left entry ≡ Some bytes → IsChunk file letters bytes
  unfolding chunk_from
  chunk_found zero entry bytes ends before e = absurd (let no : ◌≡◌ {A = Option (List ℕ)} None (Some bytes) = e in cc)
  chunk_found (suc left) entry bytes ends before e = ⊎_elim
      (λ h. let is : take (offset_at file (entry + 1) - offset_at file entry) (drop (offset_at file entry) file) ≡ bytes = (let s = h.1 in cc) in (
        entry,
        omega (arith, ends, counted),
        named entry (omega (arith, ends)) (eqb-true (name_at file entry) name h.0),
        before,
        sym is ∙ (same_bytes file (sym (offset entry (omega (arith, ends)))) (sym (next_offset entry (omega (arith, ends))))),
      ))
      (λ h. chunk_found left (entry + 1) bytes (omega (arith, ends)) (later (eqb-false (name_at file entry) name h.0)) h.1)
      (chosen (eqb (name_at file entry) name) (Some (take (offset_at file (entry + 1) - offset_at file entry) (drop (offset_at file entry) file))) (chunk_from file name left (entry + 1)) (Some bytes) e)
    where
      later : name_at file entry ≢ name → (j : ℕ) → j < entry + 1 → bytes_at (8 + 12 * j) 4 file ≢ letters
      later apart j l = ⊎_elim (λ m. before j m) (λ m. let same : j ≡ entry = omega (arith, l, m) in subst (λ k. bytes_at (8 + 12 * k) 4 file ≢ letters) (sym same) (other entry apart)) (below j entry)

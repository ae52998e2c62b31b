-- The chunk that a reader finds by its letters.
use Rattle.std.proofs.Common.{◌≡◌, ◌≢◌, true, false, nat_eq, ℕ, ◌+◌, ◌-◌, ◌*◌, ◌<◌, List, length, sym, ap, subst, ◌∙◌, arith, ⊎_elim}
use Rattle.std.specs.List.{starts_with}
use Rattle.gix_statement.proofs.HaveHistory.{below}
use Rattle.gix_statement.specs.CommitGraph.{IsChunk, bytes_at, number_at}
use Rattle.gix_graph_pages.proofs.Takes.{begins, begins_not, part_of, number_of}

-- an entry of the table of chunks, and where the next one's chunk begins
module _ (file entry letters : List ℕ) (k : ℕ) (four : length letters ≡ 4) (is : bytes_at (8 + 12 * k) 24 file ≡ entry) where
  name_is : bytes_at (8 + 12 * k) 4 file ≡ bytes_at 0 4 entry
  name_is = sym (part_of (8 + 12 * k) 24 0 4 (8 + 12 * k) file (omega arith) (omega arith)) ∙ ap (bytes_at 0 4) is

  from_is : number_at (12 + 12 * k) 8 file ≡ number_at 4 8 entry
  from_is = sym (number_of (8 + 12 * k) 24 4 8 (12 + 12 * k) file (omega arith) (omega arith)) ∙ ap (number_at 4 8) is

  to_is : number_at (24 + 12 * k) 8 file ≡ number_at 16 8 entry
  to_is = sym (number_of (8 + 12 * k) 24 16 8 (24 + 12 * k) file (omega arith) (omega arith)) ∙ ap (number_at 16 8) is

  pub other_name : starts_with nat_eq entry letters ≡ false → bytes_at (8 + 12 * k) 4 file ≢ letters
  other_name e same = begins_not entry letters e four (sym name_is ∙ same)

  pub chunk_is : starts_with nat_eq entry letters ≡ true → k < number_at 6 1 file → ((j : ℕ) → j < k → bytes_at (8 + 12 * j) 4 file ≢ letters)
      → (from to len : ℕ) → from ≡ number_at 4 8 entry → to ≡ number_at 16 8 entry → len ≡ to - from
      → IsChunk file letters (bytes_at from len file)
  chunk_is e few before from to len begin end long =
      let a : from ≡ number_at (12 + 12 * k) 8 file = begin ∙ sym from_is in
      let b : to ≡ number_at (24 + 12 * k) 8 file = end ∙ sym to_is in
      (k, few, name_is ∙ begins entry letters e four, before, ap (λ n. bytes_at from n file) long ∙ (λ i. bytes_at (a i) (b i - a i) file))

-- one entry more has other letters
pub none_before : (file letters : List ℕ) (k : ℕ) → ((j : ℕ) → j < k → bytes_at (8 + 12 * j) 4 file ≢ letters) → bytes_at (8 + 12 * k) 4 file ≢ letters → (j : ℕ) → j < k + 1 → bytes_at (8 + 12 * j) 4 file ≢ letters
none_before file letters k before here j l = ⊎_elim (λ m. before j m) (λ m. let same : j ≡ k = omega (arith, l, m) in subst (λ n. bytes_at (8 + 12 * n) 4 file ≢ letters) (sym same) here) (below j k)

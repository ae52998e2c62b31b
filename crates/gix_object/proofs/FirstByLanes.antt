-- The first of some bytes that passes a test, by the bits of those that do.
use Rattle.std.proofs.Common.{◌≡◌, ◌≢◌, ℕ, ◌+◌, ◌<◌, ◌≤◌, Bool, true, false, cond, List, None, Some, nat_lt, map, length, not, get_or, position, inl, inr, ap, lt-ltb, ◌∙◌, arith}
use Rattle.std.proofs.lemmas.Bool.{cases_lt}
use Rattle.std.proofs.lemmas.Simd.{length-chunk, get_or-chunk, trailing_mask_l, run_in_chunk_fails, run_in_chunk_stops}
use Rattle.std.proofs.lemmas.List.Sums.{position_or_len_is}
use Rattle.std.specs.List.{prefix_len}
use lib.Count.{count_trailing_zeros}
use lib.Lanes.{chunk, mask_l}
use Rattle.gix_hash.proofs.HexDigits.Lanes.{none_set}

-- `place` is that of the first of the first n bytes that passes the test, as the bits say
module _ (test : ℕ → Bool) (n : ℕ) (fits : n ≤ 64) (bytes : List ℕ) (bits place : ℕ) (room : 0 + n ≤ length bytes) (marked : bits ≡ mask_l (map test (chunk 0 n bytes))) (some : bits ≢ 0) (lowest : place ≡ count_trailing_zeros 64 bits) where
  long : length (chunk 0 n bytes) ≡ n
  long = length-chunk 0 n bytes room

  counted : place ≡ prefix_len (λ x. not (test x)) (chunk 0 n bytes)
  counted =
      let set : mask_l (map test (chunk 0 n bytes)) ≢ 0 = λ e. some (marked ∙ e) in
      lowest ∙ ap (count_trailing_zeros 64) marked ∙ trailing_mask_l test 64 (chunk 0 n bytes) (omega (arith, long, fits)) (omega arith)

  pub fails_before : (k : ℕ) → k < place → test (get_or bytes k 0) ≡ false
  fails_before k l = run_in_chunk_fails test bytes 0 n place 0 room counted k (omega arith) (omega arith)

  pub place_within : place < n
  place_within = elim (cases_lt place n) [
    | inl l ↦ l
    | inr far ↦ absurd (some (marked ∙ none_set test (chunk 0 n bytes) (λ k l.
        get_or-chunk_passes k (omega (arith, long)) ∙ fails_before k (omega (arith, long)))))
  ]
    where
      get_or-chunk_passes : (k : ℕ) → k < n → test (get_or (chunk 0 n bytes) k 0) ≡ test (get_or bytes k 0)
      get_or-chunk_passes k l =
          let here : 0 + k ≡ k = omega arith in
          ap test (get_or-chunk 0 n bytes k 0 l ∙ ap (λ i. get_or bytes i 0) here)

  pub passes_there : test (get_or bytes place 0) ≡ true
  passes_there =
      let here : 0 + place ≡ place = omega arith in
      let stops = run_in_chunk_stops test bytes 0 n place 0 room counted place_within in
      rw here at stops

-- the first byte that passes a test is there
pub position_is : (test : ℕ → Bool) (bytes : List ℕ) (place : ℕ) → place < length bytes → ((k : ℕ) → k < place → test (get_or bytes k 0) ≡ false) → test (get_or bytes place 0) ≡ true → position test bytes ≡ Some place
position_is test bytes place within fails passes =
    ap (λ i. cond (nat_lt i (length bytes)) (Some i) None) (position_or_len_is test bytes place 0 (omega (arith, within)) fails (λ _. passes)) ∙ ap (λ t. cond t (Some place) None) (lt-ltb place (length bytes) within)

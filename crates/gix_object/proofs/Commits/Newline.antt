-- The first newline among 64 bytes, by the bits of those that are newlines.
use Rattle.std.proofs.Common.{◌≡◌, ◌≢◌, ℕ, ◌≤◌, List, map, length, sym, ◌∙◌, arith}
use Rattle.std.proofs.lemmas.Bool.{false≢true}
use lib.Count.{count_trailing_zeros}
use lib.Lanes.{chunk, mask_l}
use Rattle.memchr.specs.Find.{NoneBefore, Passes, is_byte}
use Rattle.gix_object.proofs.FirstByLanes.{fails_before, passes_there, place_within}

pub newline_first : (bytes : List ℕ) (bits place : ℕ) → 64 ≤ length bytes → bits ≡ mask_l (map (is_byte 10) (chunk 0 64 bytes)) → bits ≢ 0 → place ≡ count_trailing_zeros 64 bits
    → NoneBefore (Passes (is_byte 10) bytes) 0 (length bytes) place × Passes (is_byte 10) bytes place
newline_first bytes bits place room marked some lowest =
    let fits : 64 ≤ 64 = omega arith in
    let near = place_within (is_byte 10) 64 fits bytes bits place room marked some lowest in (
      record {
        low = omega arith;
        high = omega (arith, near);
        before = λ k low l e. false≢true (sym (fails_before (is_byte 10) 64 fits bytes bits place room marked some lowest k l) ∙ e);
      },
      passes_there (is_byte 10) 64 fits bytes bits place room marked some lowest,
    )

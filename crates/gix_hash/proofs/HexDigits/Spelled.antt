-- Bytes that are spelled one part after another, and what the whole digits decode to.
use Rattle.std.proofs.Common.{Some, None, Result, Ok, Err, ◌≡◌, ℕ, suc, ◌+◌, ◌-◌, ◌*◌, ◌≤◌, true, List, [], ◌∷◌, length, get_or, inl, inr, refl, sym, ap, ◌∙◌, arith}
use Rattle.std.proofs.lemmas.Bool.{cases_lt}
use Rattle.std.proofs.lemmas.List.Elements.{All-get_or}
use Rattle.std.proofs.lemmas.Simd.{get_or-put_chunk_below, get_or-put_chunk_at}
use Rattle.std.specs.Result.{result_ok}
use lib.Lanes.{put_chunk}
use Rattle.hex.specs.Hex.{is_hex_digit, hex_digit_value, decode_of, decode_pairs, pair_value}
use Rattle.hex.specs.declared.error.FromHexError.{FromHexError}
use Rattle.hex.proofs.Pairs.{decode_pairs-ok_pair, cons_byte}
use Rattle.hex.proofs.HexLemmas.{decode_of-even, decode_of-ok}
use Rattle.gix_hash.specs.HexDigits.{AreDigits, AreSpelled, value_of, byte_at, decoded}

-- eight more bytes are spelled
pub spelled_next : (digits bytes more : List ℕ) (at : ℕ) → at + 8 ≤ length bytes → length more ≡ 8 → AreSpelled digits 0 bytes at → AreSpelled digits (2 * at) more 8
    → AreSpelled digits 0 (put_chunk at bytes more) (at + 8)
spelled_next digits bytes more at room long before behind k l = elim (cases_lt k at) [
  | inl early ↦ get_or-put_chunk_below at bytes more k 0 early ∙ before k early
  | inr late ↦
      let j : ℕ = k - at in
      let here : at + j ≡ k = omega arith in
      let place : 2 * at + 2 * j ≡ 0 + 2 * k = omega arith in
      ap (λ i. get_or (put_chunk at bytes more) i 0) (sym here) ∙ get_or-put_chunk_at at bytes more j 0 (omega arith) (omega arith) ∙ behind j (omega arith) ∙ ap (byte_at digits) place
]

digit_some : (c : ℕ) → is_hex_digit c ≡ true → hex_digit_value c ≡ Some (value_of c)
digit_some c h = grind (arith)

pair_spelled : (a b i : ℕ) → is_hex_digit a ≡ true → is_hex_digit b ≡ true → pair_value a b i ≡ Ok (value_of a * 16 + value_of b)
pair_spelled a b i p q = rw (digit_some a p, digit_some b q) refl

byte_behind : (a b : ℕ) (digits : List ℕ) (k : ℕ) → byte_at (a ∷ b ∷ digits) (0 + 2 * suc k) ≡ byte_at digits (0 + 2 * k)
byte_behind a b digits k =
    let high : 0 + 2 * suc k ≡ suc (suc (0 + 2 * k)) = omega arith in
    let low : 0 + 2 * suc k + 1 ≡ suc (suc (0 + 2 * k + 1)) = omega arith in
    rw (low, high) refl

pairs_spelled : (i : ℕ) (digits bytes : List ℕ) → length digits ≡ 2 * length bytes → AreDigits digits 0 (length digits) → AreSpelled digits 0 bytes (length bytes) → decode_pairs i digits ≡ Ok bytes
unfolding decode_pairs
pairs_spelled i [] [] long are h = refl
pairs_spelled i [] (y ∷ bytes) long are h = absurd (omega arith)
pairs_spelled i (a ∷ []) bytes long are h = absurd (omega arith)
pairs_spelled i (a ∷ b ∷ digits) [] long are h = absurd (omega arith)
pairs_spelled i (a ∷ b ∷ digits) (y ∷ bytes) long are h =
    let pair = pair_spelled a b i (are 0 (omega arith) (omega arith)) (are 1 (omega arith) (omega arith)) in
    let first : y ≡ value_of a * 16 + value_of b = h 0 (omega arith) in
    let rest = pairs_spelled (i + 2) digits bytes (omega arith) (λ k from to. are (suc (suc k)) (omega arith) (omega arith)) (λ k l.
    h (suc k) (omega arith) ∙ byte_behind a b digits k) in
    decode_pairs-ok_pair i a b _ digits pair ∙ ap (cons_byte (value_of a * 16 + value_of b)) rest ∙ ap (λ v. Ok (v ∷ bytes)) (sym first)

-- digits up to a place, and on from there or before
pub digits_on : (digits : List ℕ) (first from seen to : ℕ) → from ≤ seen → AreDigits digits first seen → AreDigits digits from to → AreDigits digits first to
digits_on digits first from seen to meets before behind k low high = elim (cases_lt k seen) [ inl early ↦ before k low early | inr late ↦ behind k (omega arith) high ]

-- digits of which all bytes are spelled
pub spelled_whole : (digits bytes : List ℕ) → length digits ≡ 2 * length bytes → AreDigits digits 0 (length digits) → AreSpelled digits 0 bytes (length bytes) → Some bytes ≡ decoded digits
spelled_whole digits bytes long are h = sym (ap result_ok (decode_of-even digits (omega arith) ∙ pairs_spelled 0 digits bytes long are h))

-- a text with another character among its digits
pub not_decoded : (digits : List ℕ) (from to : ℕ) → to ≤ length digits → (AreDigits digits from to → ⊥) → None ≡ decoded digits
not_decoded digits from to within bad = go (decode_of digits) refl
  where
    go : (r : Result (List ℕ) FromHexError) → decode_of digits ≡ r → None ≡ result_ok r
    go (Err e) h = refl
    go (Ok bytes) h = absurd (bad (λ k low high. All-get_or (λ c. is_hex_digit c ≡ true) digits k 0 (omega arith) (decode_of-ok digits bytes h).1))

-- What sixteen lanes compute from sixteen bytes, lane by lane. What one lane computes is compared at each of the 256 bytes.
use Rattle.std.proofs.Common.{IsTrue, ◌↔◌, ◌||◌, ◌≡◌, ℕ, zero, suc, ◌+◌, ◌-◌, ◌*◌, ◌/◌, ◌%◌, ◌^◌, ◌<◌, ◌≤◌, eqb, ltb, leb, cond, Bool, true, false, not, List, [], ◌∷◌, ◌++◌, map, length, get_or, Fits, w8, refl, sym, ap, ◌∙◌, arith}
use Rattle.std.proofs.Common.{eq-eqb, eqb-true, ltb-true}
use Rattle.std.proofs.lemmas.Bool.{agree_below, agree_below_at, not-false}
use Rattle.std.proofs.lemmas.Simd.{map-map, mask_l-mod, length-chunk, get_or-chunk, none_from_empty_mask, zip2_of_maps}
use Rattle.std.proofs.lemmas.List.{length-map, get_or-map, get_or_append_left}
use lib.Lanes.{chunk, zip2, sel_l, mask_l, top}
use Rattle.hex.specs.Hex.{is_hex_digit}
use Rattle.gix_hash.specs.HexDigits.{AreDigits, AreSpelled, value_of, byte_at}

-- what the operations on two vectors compute in a lane
abbrev pub minus : ℕ → ℕ → ℕ
minus a b = (a + (2 ^ 8 - b)) % 2 ^ 8

abbrev pub below : ℕ → ℕ → ℕ
below a b = cond (ltb a b) 255 0

abbrev pub no_more : ℕ → ℕ → ℕ
no_more a b = cond (leb a b) 255 0

abbrev pub put_together : ℕ → ℕ → ℕ
put_together a b = (a * 2 ^ 4 % 2 ^ 8 + b) % 2 ^ 8

-- an operation on two vectors that were computed lane by lane from v
pub joined : (h : ℕ → ℕ → ℕ) (f g : ℕ → ℕ) (v : List ℕ) {a b : List ℕ} → a ≡ map f v → b ≡ map g v → zip2 h a b ≡ map (λ x. h (f x) (g x)) v
joined h f g v p q = zip2_of_maps h f g v p q

chosen_map : (p : ℕ → Bool) (f g : ℕ → ℕ) (v : List ℕ) → sel_l (map p v) (map f v) (map g v) ≡ map (λ x. cond (p x) (f x) (g x)) v
chosen_map p f g [] = refl
chosen_map p f g (x ∷ v) = ap (λ r. cond (p x) (f x) (g x) ∷ r) (chosen_map p f g v)

-- a choice between two vectors by a third
pub chosen : (m f g : ℕ → ℕ) (v : List ℕ) {a b c : List ℕ} → a ≡ map m v → b ≡ map f v → c ≡ map g v → sel_l (map (top 7) a) b c ≡ map (λ x. cond (top 7 (m x)) (f x) (g x)) v
chosen m f g v p q r = rw (p, q, r, map-map (top 7) m v) (chosen_map (λ x. top 7 (m x)) f g v)

-- where no lane passes the test, no bit is set
pub none_set : (p : ℕ → Bool) (xs : List ℕ) → ((k : ℕ) → k < length xs → p (get_or xs k 0) ≡ false) → mask_l (map p xs) ≡ 0
none_set p [] h = refl
none_set p (x ∷ xs) h =
    let first : p x ≡ false = h 0 (omega arith) in
    let rest = none_set p xs (λ k l. h (suc k) (omega arith)) in
    rw (first, rest) refl

module _ (digits : List ℕ) (at : ℕ) (room : at + 16 ≤ length digits) (fits : (k : ℕ) → Fits w8 (get_or digits k 0)) where
  long : length (chunk at 16 digits) ≡ 16
  long = length-chunk at 16 digits room

  -- no lane stops just where there are digits alone
  module _ (f : ℕ → ℕ) (lanes : List ℕ) (each : lanes ≡ map f (chunk at 16 digits)) (all : agree_below (λ x. top 7 (f x)) (λ x. not (is_hex_digit x)) 256 ≡ true) where
    abbrev stops : ℕ → Bool
    stops x = top 7 (f x)

    at_lane : (k : ℕ) → stops (get_or digits k 0) ≡ not (is_hex_digit (get_or digits k 0))
    at_lane k = agree_below_at stops (λ x. not (is_hex_digit x)) 256 (get_or digits k 0) all (fits k).fits

    mask : mask_l (map (top 7) lanes) % 2 ^ 64 ≡ mask_l (map stops (chunk at 16 digits))
    mask = ap (λ l. mask_l l % 2 ^ 64) (ap (map (top 7)) each ∙ map-map (top 7) f (chunk at 16 digits)) ∙ mask_l-mod (map stops (chunk at 16 digits)) 64 (omega (arith, length-map (chunk at 16 digits) stops, long))

    digits_from_mask : mask_l (map (top 7) lanes) % 2 ^ 64 ≡ 0 → AreDigits digits at (at + 16)
    digits_from_mask e k from to = not-false _ (sym (at_lane k) ∙ none_from_empty_mask stops digits at 16 0 room (sym mask ∙ e) k from to)

    mask_from_digits : AreDigits digits at (at + 16) → mask_l (map (top 7) lanes) % 2 ^ 64 ≡ 0
    mask_from_digits h = mask ∙ none_set stops (chunk at 16 digits) (λ k l.
        ap stops (get_or-chunk at 16 digits k 0 (omega (arith, long))) ∙ at_lane (at + k) ∙ ap not (h (at + k) (omega arith) (omega (arith, long))))

    pub mask_tells : IsTrue (eqb (mask_l (map (top 7) lanes) % 2 ^ 64) 0) ↔ AreDigits digits at (at + 16)
    mask_tells = (λ e. digits_from_mask (eqb-true _ _ e), λ h. eq-eqb _ _ (mask_from_digits h))

  -- the lanes of digits are their values, and two of them are put into a byte; lanes are picked from two copies, as `swizzle` does
  module _ (hex : AreDigits digits at (at + 16)) (f : ℕ → ℕ) (lanes : List ℕ) (each : lanes ≡ map f (chunk at 16 digits))
      (all : agree_below (λ x. not (is_hex_digit x) || eqb (f x) (value_of x)) (λ x. true) 256 ≡ true)
      (h : ℕ → ℕ → ℕ) (joins : agree_below (λ n. eqb (h (n / 16) (n % 16)) n) (λ n. true) 256 ≡ true) where
    small_value : (x : ℕ) → x < 256 → value_of x < 16
    small_value x l = ltb-true _ _ (agree_below_at (λ n. ltb (value_of n) 16) (λ n. true) 256 x refl l)

    abbrev lane : ℕ → ℕ
    lane k = get_or (lanes ++ lanes) k 0

    value : (k : ℕ) → k < 16 → lane k ≡ value_of (get_or digits (at + k) 0)
    value k l =
        let b = get_or digits (at + k) 0 in
        let count = ap length each ∙ length-map (chunk at 16 digits) f ∙ long in
        let first = get_or_append_left lanes lanes 0 k (omega (arith, count)) in
        let read = ap (λ l. get_or l k 0) each ∙ get_or-map f (chunk at 16 digits) k 0 0 (omega (arith, long)) ∙ ap f (get_or-chunk at 16 digits k 0 l) in
        let agrees = agree_below_at (λ x. not (is_hex_digit x) || eqb (f x) (value_of x)) (λ x. true) 256 b all (fits (at + k)).fits in
        let digit = hex (at + k) (omega arith) (omega arith) in
        first ∙ read ∙ eqb-true _ _ (rw digit at agrees)

    pair : (a b : ℕ) → a < 16 → b < 16 → h a b ≡ a * 16 + b
    pair a b la lb =
        let high : (a * 16 + b) / 16 ≡ a = omega arith in
        let low : (a * 16 + b) % 16 ≡ b = omega arith in
        let same = eqb-true _ _ (agree_below_at (λ n. eqb (h (n / 16) (n % 16)) n) (λ n. true) 256 (a * 16 + b) joins (omega arith)) in
        rw (high, low) at same

    byte : (j : ℕ) → j < 8 → h (lane (2 * j)) (lane (2 * j + 1)) ≡ byte_at digits (at + 2 * j)
    byte j l =
        let high = value (2 * j) (omega arith) in
        let low = value (2 * j + 1) (omega arith) in
        let next : at + (2 * j + 1) ≡ at + 2 * j + 1 = omega arith in
        rw (high, low, next) (pair _ _ (small_value _ (fits (at + 2 * j)).fits) (small_value _ (fits (at + 2 * j + 1)).fits))

    abbrev at_pair : ℕ → ℕ
    at_pair j = h (lane (2 * j)) (lane (2 * j + 1))

    pub spelled : AreSpelled digits at (at_pair 0 ∷ at_pair 1 ∷ at_pair 2 ∷ at_pair 3 ∷ at_pair 4 ∷ at_pair 5 ∷ at_pair 6 ∷ at_pair 7 ∷ []) 8
    spelled zero l = byte 0 l
    spelled (suc zero) l = byte 1 l
    spelled (suc (suc zero)) l = byte 2 l
    spelled (suc (suc (suc zero))) l = byte 3 l
    spelled (suc (suc (suc (suc zero)))) l = byte 4 l
    spelled (suc (suc (suc (suc (suc zero))))) l = byte 5 l
    spelled (suc (suc (suc (suc (suc (suc zero)))))) l = byte 6 l
    spelled (suc (suc (suc (suc (suc (suc (suc zero))))))) l = byte 7 l
    spelled (suc (suc (suc (suc (suc (suc (suc (suc k)))))))) l = absurd (omega arith)

-- Hex digits as they are decoded, and as the page has them.
use Rattle.std.proofs.Common.{◌≡◌, ◌≤◌, ◌<◌, ◌+◌, ◌-◌, ◌*◌, ◌==◌, ◌%◌, nat_lt, nat_le, ◌&&◌, ℕ, List, [], ◌∷◌, length, Bool, true, false, cond, Option, Some, None, Result, Ok, Err, refl, sym, ap, ◌∙◌, arith, subst}
use Rattle.std.proofs.Common.{leb-true, ltb-true, le-leb, ltb-false, eqb-true}
use Rattle.std.proofs.lemmas.Bool.{cond-true, cond-false, lt-ltb, le-ltb, and_from}
use Rattle.std.proofs.lemmas.Option.{none-some, same_Some}
use Rattle.std.specs.Char.{digit_value}
use Rattle.std.specs.Str.Parse.{AllDigits, digits_value}
use Rattle.hex.specs.Hex.{decode_of, decode_pairs, digit_or_error, ◌>>=◌, hex_digit_value, pair_value}
use Rattle.hex.specs.declared.error.FromHexError.{FromHexError}
use Rattle.hex.specs.declared.error.FromHexError.TheVariants.{OddLength}
use Rattle.gix_statement.specs.WholeStatement.{IsHex, none, byte}

-- the range of a digit, and its value
number_value : (c : ℕ) → 48 ≤ c → c ≤ 57 → digit_value c ≡ c - 48
number_value c low high = cond-false (nat_lt c 48) _ _ (le-ltb c 48 low) ∙ cond-true (nat_lt c 58) _ _ (lt-ltb c 58 (omega (arith, high)))

upper_value : (c : ℕ) → 65 ≤ c → c ≤ 70 → digit_value c ≡ c - 55
upper_value c low high =
    cond-false (nat_lt c 48) _ _ (le-ltb c 48 (omega (arith, low))) ∙ cond-false (nat_lt c 58) _ _ (le-ltb c 58 (omega (arith, low)))
    ∙ cond-false (nat_lt c 65) _ _ (le-ltb c 65 low) ∙ cond-true (nat_lt c 91) _ _ (lt-ltb c 91 (omega (arith, high)))

lower_value : (c : ℕ) → 97 ≤ c → c ≤ 102 → digit_value c ≡ c - 87
lower_value c low high =
    cond-false (nat_lt c 48) _ _ (le-ltb c 48 (omega (arith, low))) ∙ cond-false (nat_lt c 58) _ _ (le-ltb c 58 (omega (arith, low)))
    ∙ cond-false (nat_lt c 65) _ _ (le-ltb c 65 (omega (arith, low))) ∙ cond-false (nat_lt c 91) _ _ (le-ltb c 91 (omega (arith, low)))
    ∙ cond-false (nat_lt c 97) _ _ (le-ltb c 97 low) ∙ cond-true (nat_lt c 123) _ _ (lt-ltb c 123 (omega (arith, high)))

in_range : (low high c : ℕ) → (nat_le low c && nat_le c high) ≡ true → (low ≤ c) × (c ≤ high)
in_range low high c e = go (nat_le low c) (nat_le c high) refl refl e
  where
    go : (a b : Bool) → nat_le low c ≡ a → nat_le c high ≡ b → (a && b) ≡ true → (low ≤ c) × (c ≤ high)
    go true true l h e = (leb-true low c l, leb-true c high h)
    go true false l h e = cc
    go false b l h e = cc

-- a digit that is read has the value that it writes
abbrev IsValue : ℕ → ℕ → Type 0
IsValue c v = (digit_value c ≡ v) × (v < 16)

is_value : (c v : ℕ) → hex_digit_value c ≡ Some v → IsValue c v
is_value c v e = upper (nat_le 65 c && nat_le c 70) refl e
  where
    number : (t : Bool) → (nat_le 48 c && nat_le c 57) ≡ t → cond t (Some (c - 48)) None ≡ Some v → IsValue c v
    number true r e = let h = in_range 48 57 c r in let s : c - 48 ≡ v = same_Some _ v e in (number_value c h.0 h.1 ∙ s, omega (arith, s, h.0, h.1))
    number false r e = absurd (none-some v e)

    lower : (t : Bool) → (nat_le 97 c && nat_le c 102) ≡ t → cond t (Some (c - 87)) (cond (nat_le 48 c && nat_le c 57) (Some (c - 48)) None) ≡ Some v → IsValue c v
    lower true r e = let h = in_range 97 102 c r in let s : c - 87 ≡ v = same_Some _ v e in (lower_value c h.0 h.1 ∙ s, omega (arith, s, h.0, h.1))
    lower false r e = number (nat_le 48 c && nat_le c 57) refl e

    upper : (t : Bool) → (nat_le 65 c && nat_le c 70) ≡ t → cond t (Some (c - 55)) (cond (nat_le 97 c && nat_le c 102) (Some (c - 87)) (cond (nat_le 48 c && nat_le c 57) (Some (c - 48)) None)) ≡ Some v → IsValue c v
    upper true r e = let h = in_range 65 70 c r in let s : c - 55 ≡ v = same_Some _ v e in (upper_value c h.0 h.1 ∙ s, omega (arith, s, h.0, h.1))
    upper false r e = lower (nat_le 97 c && nat_le c 102) refl e

is_out : (low high c : ℕ) → ((low ≤ c) → (c ≤ high) → ⊥) → (nat_le low c && nat_le c high) ≡ false
is_out low high c out = go (nat_le low c) (nat_le c high) refl refl
  where
    go : (a b : Bool) → nat_le low c ≡ a → nat_le c high ≡ b → (a && b) ≡ false
    go true true l h = absurd (out (leb-true low c l) (leb-true c high h))
    go true false l h = refl
    go false b l h = refl

-- and what writes a value below sixteen is read as a digit
abbrev IsRead : ℕ → Type 0
IsRead c = hex_digit_value c ≡ Some (digit_value c)

is_read : (c : ℕ) → digit_value c < 16 → hex_digit_value c ≡ Some (digit_value c)
is_read c small = below_number (nat_lt c 48) refl small
  where
    number : 48 ≤ c → c ≤ 57 → IsRead c
    number low high =
        cond-false (nat_le 65 c && nat_le c 70) _ _ (is_out 65 70 c (λ l h. omega (arith, l, high)))
        ∙ cond-false (nat_le 97 c && nat_le c 102) _ _ (is_out 97 102 c (λ l h. omega (arith, l, high)))
        ∙ cond-true (nat_le 48 c && nat_le c 57) _ _ (and_from _ _ (le-leb 48 c low) (le-leb c 57 high))
        ∙ ap Some (sym (number_value c low high))

    upper : 65 ≤ c → c ≤ 70 → IsRead c
    upper low high = cond-true (nat_le 65 c && nat_le c 70) _ _ (and_from _ _ (le-leb 65 c low) (le-leb c 70 high)) ∙ ap Some (sym (upper_value c low high))

    lower : 97 ≤ c → c ≤ 102 → IsRead c
    lower low high =
        cond-false (nat_le 65 c && nat_le c 70) _ _ (is_out 65 70 c (λ l h. omega (arith, low, h)))
        ∙ cond-true (nat_le 97 c && nat_le c 102) _ _ (and_from _ _ (le-leb 97 c low) (le-leb c 102 high))
        ∙ ap Some (sym (lower_value c low high))

    is_lower : (t : Bool) → nat_lt c 123 ≡ t → 97 ≤ c → cond t (c - 87) 36 < 16 → IsRead c
    is_lower true e low s = lower low (omega (arith, s, low))
    is_lower false e low s = absurd (omega (arith, s))

    below_lower : (t : Bool) → nat_lt c 97 ≡ t → cond t 36 (cond (nat_lt c 123) (c - 87) 36) < 16 → IsRead c
    below_lower true e s = absurd (omega (arith, s))
    below_lower false e s = is_lower (nat_lt c 123) refl (ltb-false c 97 e) s

    is_upper : (t : Bool) → nat_lt c 91 ≡ t → 65 ≤ c → cond t (c - 55) (cond (nat_lt c 97) 36 (cond (nat_lt c 123) (c - 87) 36)) < 16 → IsRead c
    is_upper true e low s = upper low (omega (arith, s, low))
    is_upper false e low s = below_lower (nat_lt c 97) refl s

    from_upper : (t : Bool) → nat_lt c 65 ≡ t → cond t 36 (cond (nat_lt c 91) (c - 55) (cond (nat_lt c 97) 36 (cond (nat_lt c 123) (c - 87) 36))) < 16 → IsRead c
    from_upper true e s = absurd (omega (arith, s))
    from_upper false e s = is_upper (nat_lt c 91) refl (ltb-false c 65 e) s

    is_number : (t : Bool) → nat_lt c 58 ≡ t → 48 ≤ c → cond t (c - 48) (cond (nat_lt c 65) 36 (cond (nat_lt c 91) (c - 55) (cond (nat_lt c 97) 36 (cond (nat_lt c 123) (c - 87) 36)))) < 16 → IsRead c
    is_number true e low s = let few : c < 58 = ltb-true c 58 e in number low (omega (arith, few))
    is_number false e low s = from_upper (nat_lt c 65) refl s

    below_number : (t : Bool) → nat_lt c 48 ≡ t → cond t 36 (cond (nat_lt c 58) (c - 48) (cond (nat_lt c 65) 36 (cond (nat_lt c 91) (c - 55) (cond (nat_lt c 97) 36 (cond (nat_lt c 123) (c - 87) 36))))) < 16 → IsRead c
    below_number true e s = absurd (omega (arith, s))
    below_number false e s = is_number (nat_lt c 58) refl (ltb-false c 48 e) s

-- the two digits of a byte
pair : (a b i v : ℕ) → pair_value a b i ≡ Ok v → AllDigits 16 (a ∷ b ∷ []) × (digits_value 16 (a ∷ b ∷ []) ≡ v)
pair a b i v e = go (hex_digit_value a) (hex_digit_value b) refl refl e
  where
    go : (x y : Option ℕ) → hex_digit_value a ≡ x → hex_digit_value b ≡ y → (digit_or_error a i x >>= (λ h. digit_or_error b (i + 1) y >>= (λ l. Ok (h * 16 + l)))) ≡ Ok v → AllDigits 16 (a ∷ b ∷ []) × (digits_value 16 (a ∷ b ∷ []) ≡ v)
    go (Some h) (Some l) p q e =
        let high = is_value a h p in let low = is_value b l q in let s : h * 16 + l ≡ v = cc in
        ((subst (λ x. x < 16) (sym high.0) high.1, (subst (λ x. x < 16) (sym low.0) low.1, tt)), omega (arith, high.0, low.0, s))
    go (Some h) None p q e = cc
    go None y p q e = cc

pair_back : (a b i : ℕ) → AllDigits 16 (a ∷ b ∷ []) → pair_value a b i ≡ Ok (digits_value 16 (a ∷ b ∷ []))
pair_back a b i all =
    ap (λ x. digit_or_error a i x >>= (λ h. digit_or_error b (i + 1) (hex_digit_value b) >>= (λ l. Ok (h * 16 + l)))) (is_read a all.0)
    ∙ ap (λ y. digit_or_error b (i + 1) y >>= (λ l. Ok (digit_value a * 16 + l))) (is_read b all.1.0)
    ∙ ap Ok (omega arith)

-- what is decoded are the bytes that the digits write
is_hex : (i : ℕ) (text bytes : List ℕ) → decode_pairs i text ≡ Ok bytes → IsHex text bytes
unfolding decode_pairs
is_hex i [] bytes e = let s : [] ≡ bytes = cc in subst (IsHex []) s none
is_hex i (a ∷ []) bytes e = cc
is_hex i (a ∷ b ∷ text) bytes e = go (pair_value a b i) refl (decode_pairs (i + 2) text) refl (λ those. is_hex (i + 2) text those) e
  where
    go : (x : Result ℕ FromHexError) → pair_value a b i ≡ x → (y : Result (List ℕ) FromHexError) → decode_pairs (i + 2) text ≡ y → ((those : List ℕ) → decode_pairs (i + 2) text ≡ Ok those → IsHex text those)
        → (x >>= (λ v. y >>= (λ those. Ok (v ∷ those)))) ≡ Ok bytes → IsHex (a ∷ b ∷ text) bytes
    go (Ok v) p (Ok those) q more e =
        let two = pair a b i v p in let s : v ∷ those ≡ bytes = cc in
        subst (IsHex (a ∷ b ∷ text)) s (subst (λ w. IsHex (a ∷ b ∷ text) (w ∷ those)) two.1 (byte two.0 (more those q)))
    go (Ok v) p (Err why) q more e = cc
    go (Err why) p y q more e = cc

hex_pairs : (i : ℕ) {text bytes : List ℕ} → IsHex text bytes → decode_pairs i text ≡ Ok bytes
unfolding decode_pairs
hex_pairs i none = refl
hex_pairs i (byte {a = a} {b = b} {text = text} {bytes = bytes} all h) =
    ap (λ x. x >>= (λ v. decode_pairs (i + 2) text >>= (λ those. Ok (v ∷ those)))) (pair_back a b i all)
    ∙ ap (λ y. y >>= (λ those. Ok (digits_value 16 (a ∷ b ∷ []) ∷ those))) (hex_pairs (i + 2) h)

pub even : {text bytes : List ℕ} → IsHex text bytes → (length text ≡ 2 * length bytes)
even none = refl
even (byte all h) = let e = even h in omega (arith, e)

pub written : (text bytes : List ℕ) → decode_of text ≡ Ok bytes → IsHex text bytes
written text bytes e = go (length text % 2 == 1) e
  where
    go : (t : Bool) → cond t (Err OddLength) (decode_pairs 0 text) ≡ Ok bytes → IsHex text bytes
    go true e = cc
    go false e = is_hex 0 text bytes e

pub decoded : (text bytes : List ℕ) → IsHex text bytes → decode_of text ≡ Ok bytes
decoded text bytes h = cond-false (length text % 2 == 1) _ _ (go (length text % 2 == 1) refl) ∙ hex_pairs 0 h
  where
    go : (t : Bool) → (length text % 2 == 1) ≡ t → t ≡ false
    go true e = let odd : length text % 2 ≡ 1 = eqb-true (length text % 2) 1 e in let two = even h in absurd (omega (arith, odd, two))
    go false e = refl

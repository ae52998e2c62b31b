-- The ids that are read of printed ids are these ids.
use Rattle.std.proofs.Common.{◌≡◌, ◌≢◌, ◌+◌, ◌/◌, ◌<◌, ◌==◌, ◌||◌, ◌&&◌, ℕ, List, [], ◌∷◌, ◌++◌, length, map, slice_index, Bool, true, false, not, Some, None, Ok, codes, refl, sym, ap, ◌∙◌, arith, eqb-true, eq-eqb}
use Rattle.std.proofs.lemmas.Bool.{cond-true, cond-false, ne_eqb}
use Rattle.std.proofs.lemmas.List.{append-nil}
use Rattle.std.specs.List.{AllByRecursion, list_all}
use Rattle.hex.specs.Hex.{IsBytes, encode_lower, encode_with, hex_digit_value, lower_digits}
use Rattle.hex.proofs.HexLemmas.{IsDigits-lower_digits, decode_of-encode_lower, length-encode_with}
use Rattle.gix_hash.specs.declared.Kind.TheVariants as kind
use Rattle.gix_hash.specs.declared.ObjectId.{ObjectId}
use Rattle.gix_hash.specs.declared.ObjectId.TheVariants as id
use Rattle.gix_hash.specs.Id.{hex_of, id_from_hex, id_of_decoded, or_digit}
use Rattle.gix_words.specs.Printed.{IsId, id_word}
use Rattle.gix_words.specs.Words.{all_lines, begins_with_caret, begins_with_dash, begins_with_sign, chosen_from, ids_from, is_shown, plain_of, with_word, without_caret}

pub id_again : (i : ObjectId) → IsId i → id_from_hex (hex_of i) ≡ Ok i
id_again (id.Sha1 bytes) h =
    let digits = encode_lower bytes in
    let long : length digits ≡ 40 = let e = length-encode_with lower_digits bytes in let l = h.long in omega (arith, e, l) in
    cond-true (length digits == 40) _ _ (eq-eqb (length digits) 40 long)
    ∙ ap or_digit (cond-true (length digits == 40) _ _ (eq-eqb (length digits) 40 long) ∙ ap (id_of_decoded kind.Sha1) (decode_of-encode_lower bytes h.bytes))
id_again (id.Sha256 bytes) h =
    let digits = encode_lower bytes in
    let long : length digits ≡ 64 = let e = length-encode_with lower_digits bytes in let l = h.long in omega (arith, e, l) in
    cond-false (length digits == 40) _ _ (ne_eqb (length digits) 40 (λ e. omega (arith, e, long)))
    ∙ cond-true (length digits == 64) _ _ (eq-eqb (length digits) 64 long)
    ∙ ap or_digit (cond-true (length digits == 64) _ _ (eq-eqb (length digits) 64 long) ∙ ap (id_of_decoded kind.Sha256) (decode_of-encode_lower bytes h.bytes))

-- a digit is no sign
digit_plain : (sign c d : ℕ) → hex_digit_value sign ≡ None → hex_digit_value c ≡ Some d → (c == sign) ≡ false
digit_plain sign c d none e = go (c == sign) refl
  where
    go : (t : Bool) → (c == sign) ≡ t → t ≡ false
    go true same = let no : None ≡ Some d = sym none ∙ ap hex_digit_value (sym (eqb-true c sign same)) ∙ e in cc
    go false same = refl

begins_plain : (bytes : List ℕ) → IsBytes bytes → (begins_with_caret (encode_lower bytes) ≡ false) × (begins_with_dash (encode_lower bytes) ≡ false)
unfolding encode_with
begins_plain [] h = (refl, refl)
begins_plain (b ∷ bytes) h =
    let fits : b < 256 = h 0 in
    let high : b / 16 < 16 = omega (arith, fits) in
    let digit = IsDigits-lower_digits (b / 16) high in
    (digit_plain 94 (slice_index lower_digits (b / 16)) (b / 16) refl digit, digit_plain 45 (slice_index lower_digits (b / 16)) (b / 16) refl digit)

pub id_plain : (i : ObjectId) → IsId i → (begins_with_caret (hex_of i) ≡ false) × (begins_with_dash (hex_of i) ≡ false)
id_plain (id.Sha1 bytes) h = begins_plain bytes h.bytes
id_plain (id.Sha256 bytes) h = begins_plain bytes h.bytes

pub no_sign : (i : ObjectId) → IsId i → begins_with_sign (hex_of i) ≡ false
no_sign i h = let p = id_plain i h in (λ k. p.0 k || p.1 k)

kept : (word : List ℕ) → begins_with_caret word ≡ false → without_caret word ≡ word
kept [] e = refl
kept (b ∷ word) e = cond-false (b == 94) _ _ e

hidden_again : (n : ℕ) (hidden : List ObjectId) → AllByRecursion IsId hidden → ids_from n (map (id_word (codes "^")) hidden) ≡ Ok ([], hidden)
hidden_again n [] h = refl
hidden_again n (i ∷ hidden) h = (λ k. with_word true n (id_again i h.0 k) (hidden_again (n + 1) hidden h.1 k))

pub ids_again : (n : ℕ) (tips hidden : List ObjectId) → AllByRecursion IsId tips → AllByRecursion IsId hidden → ids_from n (map (id_word []) tips ++ map (id_word (codes "^")) hidden) ≡ Ok (tips, hidden)
ids_again n [] hidden t h = hidden_again n hidden h
ids_again n (i ∷ tips) hidden t h =
    let plain = (id_plain i t.0).0 in
    (λ k. with_word (plain k) n (id_from_hex (kept (hex_of i) plain k)) (ids_again (n + 1) tips hidden t.1 h k))
    ∙ ap (λ r. with_word false n r (Ok (tips, hidden))) (id_again i t.0)

pub tips_again : (n : ℕ) (ids : List ObjectId) → AllByRecursion IsId ids → ids_from n (map (id_word []) ids) ≡ Ok (ids, [])
tips_again n ids h = ap (ids_from n) (sym (append-nil (map (id_word []) ids))) ∙ ids_again n ids [] h tt

-- tips and hidden ids alone ask for all lines
pub plain_again : (n : ℕ) (tips hidden : List ObjectId) → AllByRecursion IsId tips → AllByRecursion IsId hidden → tips ≢ []
    → plain_of n (map (id_word []) tips ++ map (id_word (codes "^")) hidden) ≡ Ok (record { shown = all_lines; tips = tips; hidden = hidden })
plain_again n [] hidden t h some = absurd (some refl)
plain_again n (i ∷ tips) hidden t h some =
    let words = map (id_word []) (i ∷ tips) ++ map (id_word (codes "^")) hidden in
    cond-false (list_all begins_with_caret words) _ _ (ap (λ b. b && list_all begins_with_caret (map (id_word []) tips ++ map (id_word (codes "^")) hidden)) (id_plain i t.0).0)
    ∙ ap chosen_from (ids_again n (i ∷ tips) hidden t h)

pub all_shown : (ids : List ObjectId) → AllByRecursion IsId ids → list_all is_shown (map (id_word []) ids) ≡ true
all_shown [] h = refl
all_shown (i ∷ ids) h = (λ k. not (no_sign i h.0 k) && all_shown ids h.1 k)

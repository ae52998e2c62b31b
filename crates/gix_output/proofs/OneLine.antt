-- JSON in its shortest form holds no newline.
use Rattle.std.proofs.Common.{◌≡◌, ◌≢◌, ◌/◌, ◌%◌, ◌==◌, ◌||◌, nat_lt, ℕ, zero, suc, pos, negsuc, List, [], ◌∷◌, ◌++◌, flat_map, Bool, true, false, cond, decimal, refl, arith}
use Rattle.std.proofs.lemmas.Bool.Decides.{nat_tests}
use Rattle.std.proofs.lemmas.List.Elements.{All-from_recursion}
use Rattle.std.specs.Char.{digit_char}
use Rattle.std.specs.Fmt.{digits, digits_onto, digit_glyph}
use Rattle.std.specs.List.{AllByRecursion}
use Rattle.serde_json.proofs.OnLiterals.{serde_json_on_literals}
use Rattle.serde_json.specs.Data.{Num, unsigned, negative, float, Data, null, boolean, number, string, array, object, Items, no_items, item, Members, no_members, member}
use Rattle.serde_json.specs.Written.{comma_if, compact_text, items_text, members_text, number_text}
use Rattle.gix_output.specs.Json.{EachOnOneLine, json_of, data_of}

-- no byte ends a line
abbrev NoEnd : List ℕ → Type 0
NoEnd text = AllByRecursion (λ b. b ≢ 10) text

both : (text more : List ℕ) → NoEnd text → NoEnd more → NoEnd (text ++ more)
both [] more none others = others
both (b ∷ text) more (first, none) others = (first, both text more none others)

either : (t : Bool) (text other : List ℕ) → NoEnd text → NoEnd other → NoEnd (cond t text other)
either true text other is_text is_other = is_text
either false text other is_text is_other = is_other

-- ---- numbers

digit : (n : ℕ) → digit_glyph false (n % 10) ≢ 10
digit n e = grind (arith, nat_tests)

digits_so_far : (k n : ℕ) (text : List ℕ) → NoEnd text → NoEnd (digits_onto k 10 false n text)
digits_so_far zero n text none = none
digits_so_far (suc k) n text none =
    let more = digit_glyph false (n % 10) ∷ text in
    either (n / 10 == 0) more (digits_onto k 10 false (n / 10) more) (digit n, none) (digits_so_far k (n / 10) more (digit n, none))

of_decimal : (n : ℕ) → NoEnd (decimal n)
unfolding digits
of_decimal n = digits_so_far 64 n [] tt

of_number : (n : Num) → NoEnd (number_text n)
of_number (unsigned n) = of_decimal n
of_number (negative (pos n)) = of_decimal n
of_number (negative (negsuc n)) = (omega arith, of_decimal (suc n))
of_number (float x) = tt

-- ---- strings

-- what stands in a string for a byte: an escape of two bytes, one of six, or the byte
abbrev short_escape : ℕ → ℕ
short_escape b =
    cond (b == 34 || b == 92) b (cond (b == 8) 98 (cond (b == 12) 102 (cond (b == 10) 110 (cond (b == 13) 114 (cond (b == 9) 116 0)))))

abbrev long_escape : ℕ → List ℕ
long_escape b = 92 ∷ 117 ∷ 48 ∷ 48 ∷ digit_char (b / 16) ∷ digit_char (b % 16) ∷ []

abbrev escaped : ℕ → List ℕ
escaped b = cond (nat_lt 0 (short_escape b)) (92 ∷ short_escape b ∷ []) (cond (nat_lt b 32) (long_escape b) (b ∷ []))

letter : (b : ℕ) → short_escape b ≢ 10
letter b e = grind (arith, nat_tests)

hex_digit : (d : ℕ) → digit_char d ≢ 10
hex_digit d e = grind (arith, nat_tests)

of_byte : (b : ℕ) → NoEnd (escaped b)
of_byte b = either (nat_lt 0 (short_escape b)) _ _ (omega arith, (letter b, tt)) (by_test (nat_lt b 32) refl)
  where
    by_test : (t : Bool) → nat_lt b 32 ≡ t → NoEnd (cond t (long_escape b) (b ∷ []))
    by_test true is = (omega arith, (omega arith, (omega arith, (omega arith, (hex_digit (b / 16), (hex_digit (b % 16), tt))))))
    by_test false is = (λ e. grind (arith, nat_tests), tt)

of_bytes : (text : List ℕ) → NoEnd (flat_map escaped text)
of_bytes [] = tt
of_bytes (b ∷ text) = both (escaped b) (flat_map escaped text) (of_byte b) (of_bytes text)

of_string : (text : List ℕ) → NoEnd (compact_text (string text))
unfolding serde_json_on_literals
of_string text = (omega arith, both (flat_map escaped text) (34 ∷ []) (of_bytes text) (omega arith, tt))

-- ---- values

of_comma : (later : Bool) → NoEnd (comma_if later)
of_comma true = (omega arith, tt)
of_comma false = tt

of_boolean : (t : Bool) → NoEnd (compact_text (boolean t))
of_boolean true = (omega arith, (omega arith, (omega arith, (omega arith, tt))))
of_boolean false = (omega arith, (omega arith, (omega arith, (omega arith, (omega arith, tt)))))

mutual
  of_data : (d : Data) → NoEnd (compact_text d)
  of_data null = (omega arith, (omega arith, (omega arith, (omega arith, tt))))
  of_data (boolean t) = of_boolean t
  of_data (number n) = of_number n
  of_data (string text) = of_string text
  of_data (array ds) = (omega arith, of_items false ds)
  of_data (object ms) = (omega arith, of_members false ms)

  of_items : (later : Bool) (ds : Items) → NoEnd (items_text later ds)
  of_items later no_items = (omega arith, tt)
  of_items later (item d ds) =
      both (comma_if later) (compact_text d ++ items_text true ds) (of_comma later)
      (both (compact_text d) (items_text true ds) (of_data d) (of_items true ds))

  of_members : (later : Bool) (ms : Members) → NoEnd (members_text later ms)
  of_members later no_members = (omega arith, tt)
  of_members later (member key d ms) =
      let value = compact_text d ++ members_text true ms in
      let of_value = both (compact_text d) (members_text true ms) (of_data d) (of_members true ms) in
      both (comma_if later) (compact_text (string key) ++ 58 ∷ value) (of_comma later)
      (both (compact_text (string key)) (58 ∷ value) (of_string key) (omega arith, of_value))

pub each_on_one_line : EachOnOneLine
each_on_one_line shape line = All-from_recursion (λ b. b ≢ 10) (json_of shape line) (of_data (data_of shape line))

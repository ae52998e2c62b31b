use Rattle.std.proofs.Common.{subst, sym, refl, arith, ◌≡◌, ◌<◌, List, [], ◌∷◌, ℕ, true, nat_lt, IsAscii, IsUtf8}
use Rattle.std.specs.List.{list_all}
use Rattle.std.proofs.lemmas.Bool.Decides.{nat_tests}
use Rattle.std.proofs.lemmas.Str.{IsUtf8-from_ascii}
use Rattle.std.proofs.lemmas.Str.Ascii.{IsAscii-nil, IsAscii-cons}
use Rattle.hex.specs.Hex.{lower_digits, encode_lower}
use Rattle.hex.proofs.HexLemmas.{IsAscii-encode_with}
use Rattle.gix_hash.proofs.ObjectIdDisplay.fmt.Goals as goal

first_below : (b : ℕ) (bs : List ℕ) → list_all (λ b. nat_lt b 128) (b ∷ bs) ≡ true → b < 128
first_below b bs h = grind (arith, nat_tests)

rest_below : (b : ℕ) (bs : List ℕ) → list_all (λ b. nat_lt b 128) (b ∷ bs) ≡ true → list_all (λ b. nat_lt b 128) bs ≡ true
rest_below b bs h = grind (arith, nat_tests)

all_below : (bs : List ℕ) → list_all (λ b. nat_lt b 128) bs ≡ true → IsAscii bs
all_below [] h = IsAscii-nil
all_below (b ∷ bs) h = IsAscii-cons b bs (first_below b bs h) (all_below bs (rest_below b bs h))

is_text : (bytes digits : List ℕ) → digits ≡ encode_lower bytes → IsUtf8 digits
is_text bytes digits e = subst IsUtf8 (sym e) (IsUtf8-from_ascii _ (IsAscii-encode_with lower_digits bytes (all_below lower_digits refl)))

pub unreachable-requires-in_default-from_utf8 : goal.unreachable-requires-in_default-from_utf8
unreachable-requires-in_default-from_utf8 g c =
    c.in_default-from_utf8.ensures.cases.0 (is_text _ _ c.in-Ok.ensures.written)

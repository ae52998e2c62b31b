-- What a text says, by whether it is UTF-8.
use Rattle.std.proofs.Common.{ℕ, ◌≡◌, List, Bool, true, false, codes, Some, None, option_and_then, refl, ap, ◌∙◌}
use Rattle.std.specs.Str.{is_utf8, IsUtf8}
use Rattle.std.proofs.lemmas.Bool.{cond-false, cond-true}
use Rattle.std.proofs.lemmas.Str.{is_utf8-from_IsUtf8, IsUtf8-from_is_utf8}
use Rattle.hex.specs.Hex.{encode_lower}
use Rattle.serde_json.specs.Data.{Data, Num, unsigned, negative, float, null, number, string, object, member, no_members}
use Rattle.serde_json.specs.Find.{as_number, is_float}
use Rattle.serde_json.specs.Read.{read}
use Rattle.gix_output.specs.Json.{number_data, or_null, bytes_data}

fails : (text : List ℕ) → (IsUtf8 text → ⊥) → is_utf8 text ≡ false
fails text never = other (is_utf8 text) (λ is. never (IsUtf8-from_is_utf8 text is))
  where
    other : (t : Bool) → (t ≡ true → ⊥) → t ≡ false
    other true impossible = absurd (impossible refl)
    other false impossible = refl

pub said : (text : List ℕ) → IsUtf8 text → bytes_data text ≡ string text
said text is = cond-true _ _ _ (is_utf8-from_IsUtf8 text is)

pub said_in_hex : (text : List ℕ) → (IsUtf8 text → ⊥) → bytes_data text ≡ object (member (codes "hex") (string (encode_lower text)) no_members)
said_in_hex text never = cond-false _ _ _ (fails text never)

pub integer_stays : (n : Num) → is_float n ≡ false → or_null (Some n) ≡ number n
integer_stays (unsigned n) is = refl
integer_stays (negative z) is = refl
integer_stays (float x) is = cc

pub number_read : (text : List ℕ) (d : Data) → IsUtf8 text → read text ≡ Some d → number_data text ≡ or_null (as_number d)
number_read text d is reads =
    ap or_null (cond-true _ _ _ (is_utf8-from_IsUtf8 text is)) ∙ ap (λ o. or_null (option_and_then as_number o)) reads

pub number_unread : (text : List ℕ) → (IsUtf8 text → read text ≡ None) → number_data text ≡ null
number_unread text fault = by_test (is_utf8 text) refl
  where
    by_test : (t : Bool) → is_utf8 text ≡ t → number_data text ≡ null
    by_test true is = ap or_null (cond-true _ _ _ is) ∙ ap (λ o. or_null (option_and_then as_number o)) (fault (IsUtf8-from_is_utf8 text is))
    by_test false is = ap or_null (cond-false _ _ _ is)

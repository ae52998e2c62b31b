-- Numbers and ids that are read are those that digits write.
use Rattle.std.proofs.Common.{◌≡◌, ◌≤◌, ◌<◌, ◌+◌, ◌-◌, ◌*◌, ◌==◌, nat_lt, nat_le, ◌&&◌, ℕ, List, [], ◌∷◌, ◌++◌, length, take, Bool, true, false, cond, Option, Some, None, Result, Ok, Err, refl, sym, ap, ◌∙◌, arith, eqb-true, eq-eqb}
use Rattle.std.proofs.Common.{leb-true, ltb-true, le-leb}
use Rattle.std.specs.Char.{is_ascii_digit, digit_value}
use Rattle.std.specs.Str.Parse.{AllDigits, digits_value_after}
use Rattle.gix_commands.proofs.Common.{cond-true, cond-false, and_from, false≢true, same_Some, HexError, ObjectId, id_len, kind_of, id_of_decoded, id_of_hex, id_from_hex, or_digit, digits_from, IsNumber, Spells, bytes_in, digits_in}
use Rattle.std.proofs.lemmas.Str.{digit_value_digit}
use Rattle.std.proofs.lemmas.Str.Parse.{digit_from_value}
use Rattle.hex.specs.Hex.{decode_of}
use Rattle.hex.specs.declared.error.FromHexError.{FromHexError}
use Rattle.gix_hash.specs.declared.HexError.TheVariants as hex
use Rattle.gix_hash.specs.declared.Kind.{Kind}
use Rattle.gix_hash.specs.declared.Kind.TheVariants as kind
use Rattle.gix_hash.specs.declared.ObjectId.TheVariants as id
use Rattle.gix_object.specs.TreeItems.{is_octal, octal_from, mode_of}
use Rattle.gix_records.specs.Decimal.{digits_behind, decimal}
use Rattle.gix_statement.proofs.WrittenHex.{decoded, written}
use Rattle.gix_statement.specs.WholeStatement.{Counts}

-- how many digits an id of a kind has
abbrev pub width_of : Kind → ℕ
width_of k = 2 * id_len k

decoded_id : (k : Kind) (text : List ℕ) (r : Result (List ℕ) FromHexError) (i : ObjectId) → decode_of text ≡ r → id_of_decoded k r ≡ Some i → (digits_in i ≡ width_of k) × (decode_of text ≡ Ok (bytes_in i)) × (kind_of i ≡ k)
decoded_id kind.Sha1 text (Ok bytes) i d e = let s : id.Sha1 bytes ≡ i = same_Some _ _ e in (ap digits_in (sym s), d ∙ ap (λ j. Ok (bytes_in j)) s, ap kind_of (sym s))
decoded_id kind.Sha256 text (Ok bytes) i d e = let s : id.Sha256 bytes ≡ i = same_Some _ _ e in (ap digits_in (sym s), d ∙ ap (λ j. Ok (bytes_in j)) s, ap kind_of (sym s))
decoded_id k text (Err why) i d e = cc

-- digits from which an id of a kind was read write it
pub spelled : (k : Kind) (text : List ℕ) (i : ObjectId) → id_of_hex k text ≡ Some i → Spells (width_of k) text i × (kind_of i ≡ k)
spelled k text i e = go (length text == width_of k) refl e
  where
    go : (t : Bool) → (length text == width_of k) ≡ t → cond t (id_of_decoded k (decode_of text)) None ≡ Some i → Spells (width_of k) text i × (kind_of i ≡ k)
    go true l e = let d = decoded_id k text (decode_of text) i refl e in ((eqb-true (length text) (width_of k) l, d.0, written text (bytes_in i) d.1), d.2)
    go false l e = cc

id_again : (k : Kind) (i : ObjectId) → digits_in i ≡ width_of k → id_of_decoded k (Ok (bytes_in i)) ≡ Some i
id_again kind.Sha1 (id.Sha1 bytes) e = refl
id_again kind.Sha256 (id.Sha256 bytes) e = refl
id_again kind.Sha1 (id.Sha256 bytes) e = absurd (omega (arith, e))
id_again kind.Sha256 (id.Sha1 bytes) e = absurd (omega (arith, e))

-- and back
pub spells_again : (k : Kind) (text : List ℕ) (i : ObjectId) → Spells (width_of k) text i → id_of_hex k text ≡ Some i
spells_again k text i s = cond-true (length text == width_of k) _ _ (eq-eqb (length text) (width_of k) s.0) ∙ ap (id_of_decoded k) (decoded text (bytes_in i) s.2) ∙ id_again k i s.1

from_digits : (o : Option ObjectId) (i : ObjectId) → or_digit o ≡ Ok i → o ≡ Some i
from_digits None i e = cc
from_digits (Some j) i e = ap (λ (r : Result ObjectId HexError). result_of r) e
  where
    result_of : Result ObjectId HexError → Option ObjectId
    result_of (Ok x) = Some x
    result_of (Err x) = None

-- digits that spell an id write it
pub hex_spelled : (text : List ℕ) (i : ObjectId) → id_from_hex text ≡ Ok i → Spells (digits_in i) text i
hex_spelled text i e = short (length text == 40) refl e
  where
    own : (k : Kind) → Spells (width_of k) text i → Spells (digits_in i) text i
    own k s = (s.0 ∙ sym s.1, refl, s.2)

    long : (t : Bool) → cond t (or_digit (id_of_hex kind.Sha256 text)) (Err hex.Length) ≡ Ok i → Spells (digits_in i) text i
    long true e = own kind.Sha256 (spelled kind.Sha256 text i (from_digits (id_of_hex kind.Sha256 text) i e)).0
    long false e = cc

    short : (t : Bool) → (length text == 40) ≡ t → cond t (or_digit (id_of_hex kind.Sha1 text)) (cond (length text == 64) (or_digit (id_of_hex kind.Sha256 text)) (Err hex.Length)) ≡ Ok i → Spells (digits_in i) text i
    short true l e = own kind.Sha1 (spelled kind.Sha1 text i (from_digits (id_of_hex kind.Sha1 text) i e)).0
    short false l e = long (length text == 64) e

and_first : (a b : Bool) → (a && b) ≡ true → a ≡ true
and_first true b e = refl
and_first false b e = e

and_second : (a b : Bool) → (a && b) ≡ true → b ≡ true
and_second true b e = e
and_second false b e = absurd (false≢true e)

-- a byte in the range of a base's digits
digit_is : (c top : ℕ) → (nat_le 48 c && nat_le c top) ≡ true → top < 58 → (digit_value c ≡ c - 48) × (digit_value c < top - 47)
digit_is c top e l =
    let low : 48 ≤ c = leb-true 48 c (and_first (nat_le 48 c) (nat_le c top) e) in
    let high : c ≤ top = leb-true c top (and_second (nat_le 48 c) (nat_le c top) e) in
    let value : digit_value c + 48 ≡ c = digit_value_digit c (low, omega (arith, high, l)) in
    (omega (arith, value, low), omega (arith, value, low, high, l))

-- the number of decimal digits is theirs
pub decimal_digits : (text : List ℕ) (n m : ℕ) → digits_behind n text ≡ Some m → AllDigits 10 text × (m ≡ digits_value_after 10 n text)
decimal_digits [] n m e = (tt, sym (same_Some n m e))
decimal_digits (c ∷ text) n m e = go (decimal_digits text (10 * n + (c - 48)) m) (is_ascii_digit c) refl e
  where
    go : (digits_behind (10 * n + (c - 48)) text ≡ Some m → AllDigits 10 text × (m ≡ digits_value_after 10 (10 * n + (c - 48)) text)) → (t : Bool) → is_ascii_digit c ≡ t → cond t (digits_behind (10 * n + (c - 48)) text) None ≡ Some m → AllDigits 10 (c ∷ text) × (m ≡ digits_value_after 10 n (c ∷ text))
    go more_of true d e =
        let is = digit_is c 57 d (omega arith) in
        let more = more_of e in
        let same : 10 * n + (c - 48) ≡ n * 10 + digit_value c = omega (arith, is.0) in
        ((is.1, more.0), more.1 ∙ ap (λ k. digits_value_after 10 k text) same)
    go more_of false d e = cc

pub is_decimal : (text : List ℕ) (n : ℕ) → decimal text ≡ Some n → IsNumber 10 10 text n
is_decimal text n e = go (nat_lt 0 (length text)) (nat_le (length text) 10) refl refl e
  where
    go : (s t : Bool) → nat_lt 0 (length text) ≡ s → nat_le (length text) 10 ≡ t → cond (s && t) (digits_behind 0 text) None ≡ Some n → IsNumber 10 10 text n
    go true true some few e = let d = decimal_digits text 0 n e in (ltb-true 0 (length text) some, leb-true (length text) 10 few, d.0, d.1)
    go true false some few e = cc
    go false t some few e = cc

-- the number of octal digits is theirs
octal_digits : (text : List ℕ) (n m : ℕ) → octal_from n text ≡ Some m → AllDigits 8 text × (m ≡ digits_value_after 8 n text)
octal_digits [] n m e = (tt, sym (same_Some n m e))
octal_digits (c ∷ text) n m e = go (octal_digits text (8 * n + (c - 48)) m) (is_octal c) refl e
  where
    go : (octal_from (8 * n + (c - 48)) text ≡ Some m → AllDigits 8 text × (m ≡ digits_value_after 8 (8 * n + (c - 48)) text)) → (t : Bool) → is_octal c ≡ t → cond t (octal_from (8 * n + (c - 48)) text) None ≡ Some m → AllDigits 8 (c ∷ text) × (m ≡ digits_value_after 8 n (c ∷ text))
    go more_of true d e =
        let is = digit_is c 55 d (omega arith) in
        let more = more_of e in
        let same : 8 * n + (c - 48) ≡ n * 8 + digit_value c = omega (arith, is.0) in
        ((is.1, more.0), more.1 ∙ ap (λ k. digits_value_after 8 k text) same)
    go more_of false d e = cc

pub is_octal_number : (text : List ℕ) (n : ℕ) → mode_of text ≡ Some n → IsNumber 8 6 text n
is_octal_number text n e = go (nat_le 1 (length text)) (nat_le (length text) 6) refl refl e
  where
    go : (s t : Bool) → nat_le 1 (length text) ≡ s → nat_le (length text) 6 ≡ t → cond (s && t) (octal_from 0 text) None ≡ Some n → IsNumber 8 6 text n
    go true true some few e = let d = octal_digits text 0 n e in (leb-true 1 (length text) some, leb-true (length text) 6 few, d.0, d.1)
    go true false some few e = cc
    go false t some few e = cc

-- the digits at the front of a text, and what is behind them
record Front (n : ℕ) (text : List ℕ) : Type 0 where
  number : List ℕ
  rest : List ℕ
  whole : text ≡ number ++ rest
  all : AllDigits 10 number
  stops : AllDigits 10 (take 1 rest) → rest ≡ []
  value : digits_from n text ≡ digits_value_after 10 n number

front : (n : ℕ) (text : List ℕ) → Front n text
front n [] = record { number = []; rest = []; whole = refl; all = tt; stops = λ h. refl; value = refl }
front n (b ∷ text) = go (front (10 * n + (b - 48)) text) (is_ascii_digit b) refl
  where
    go : Front (10 * n + (b - 48)) text → (t : Bool) → is_ascii_digit b ≡ t → Front n (b ∷ text)
    go f true d =
        let is = digit_is b 57 d (omega arith) in
        let same : 10 * n + (b - 48) ≡ n * 10 + digit_value b = omega (arith, is.0) in
        record {
          number = b ∷ f.number;
          rest = f.rest;
          whole = ap (λ xs. b ∷ xs) f.whole;
          all = (is.1, f.all);
          stops = f.stops;
          value = cond-true (is_ascii_digit b) _ _ d ∙ f.value ∙ ap (λ k. digits_value_after 10 k f.number) same;
        }
    go f false d = record {
      number = [];
      rest = b ∷ text;
      whole = refl;
      all = tt;
      stops = λ h. let r = digit_from_value b h.0 in absurd (false≢true (sym d ∙ and_from _ _ (le-leb 48 b r.0) (le-leb b 57 r.1)));
      value = cond-false (is_ascii_digit b) _ _ d;
    }

pub counts : (text : List ℕ) → Counts text (digits_from 0 text)
counts text = let f : Front 0 text = front 0 text in (f.number, f.rest, f.whole, f.all, f.stops, f.value)

-- an id has as many digits as its kind
pub own_width : (i : ObjectId) → width_of (kind_of i) ≡ digits_in i
own_width (id.Sha1 bytes) = refl
own_width (id.Sha256 bytes) = refl

-- Ids of objects: 20 bytes (SHA-1) or 32 (SHA-256), written as hex digits.
use Rattle.std.specs.Prelude.{ℕ, ◌+◌, ◌*◌, List, [], ◌∷◌, Bool, true, false, if◌then◌else◌, ◌==◌, length, slice_index, Option, Some, None, Result, Ok, Err, refl}
use Rattle.std.specs.Int.{w64, from_le_bytes}
use Rattle.std.specs.Ordering.{nat_cmp}
use Rattle.std.specs.declared.cmp.Ordering.{Ordering}
use Rattle.std.specs.declared.cmp.Ordering.TheVariants.{Less, Greater}
use Rattle.std.specs.Cmp.Lexicographic.{slice_cmp}
use Rattle.std.specs.Coded.{Coded, code_by, coded×, coded_ℕ, coded_bool, coded_list}
use Rattle.hex.specs.Hex.{decode_of, encode_lower}
use Rattle.hex.specs.declared.error.FromHexError.{FromHexError}
use Rattle.std.specs.FinSet.{FinSet, code}
use Rattle.std.specs.List.{list_any}
use Rattle.std.specs.Ordering.{is_eq}
use Rattle.gix_hash.specs.declared.Kind.{Kind}
use Rattle.gix_hash.specs.declared.Kind.TheVariants as kind
use Rattle.gix_hash.specs.declared.ObjectId.{ObjectId}
use Rattle.gix_hash.specs.declared.ObjectId.TheVariants as id
use Rattle.gix_hash.specs.declared.HexError.{HexError}
use Rattle.gix_hash.specs.declared.HexError.TheVariants as hex

-- how many bytes an id of this kind has
abbrev pub id_len : Kind → ℕ
id_len kind.Sha1 = 20
id_len kind.Sha256 = 32

abbrev pub kind_of : ObjectId → Kind
kind_of (id.Sha1 bytes) = kind.Sha1
kind_of (id.Sha256 bytes) = kind.Sha256

abbrev pub bytes_of : ObjectId → List ℕ
bytes_of (id.Sha1 bytes) = bytes
bytes_of (id.Sha256 bytes) = bytes

-- the id of this kind that has these bytes, which are as many as an id of the kind has
abbrev pub id_of : Kind → List ℕ → ObjectId
id_of kind.Sha1 bytes = id.Sha1 bytes
id_of kind.Sha256 bytes = id.Sha256 bytes

-- by kind, and then by bytes
abbrev pub id_cmp : ObjectId → ObjectId → Ordering
id_cmp (id.Sha1 a) (id.Sha1 b) = slice_cmp nat_cmp a b
id_cmp (id.Sha1 a) (id.Sha256 b) = Less
id_cmp (id.Sha256 a) (id.Sha1 b) = Greater
id_cmp (id.Sha256 a) (id.Sha256 b) = slice_cmp nat_cmp a b

-- the digits of an id, in lower case
abbrev pub hex_of : ObjectId → List ℕ
hex_of i = encode_lower (bytes_of i)

-- the id of this kind that these bytes, if any, are
abbrev pub id_of_decoded : Kind → Result (List ℕ) FromHexError → Option ObjectId
id_of_decoded k (Ok bytes) = Some (id_of k bytes)
id_of_decoded k (Err e) = None

-- the id of this kind that these digits, in either case, spell
abbrev pub id_of_hex : Kind → List ℕ → Option ObjectId
id_of_hex k digits = if length digits == 2 * id_len k then id_of_decoded k (decode_of digits) else None

-- the id of 20 or 32 bytes
abbrev pub id_from_bytes : List ℕ → Option ObjectId
id_from_bytes bytes =
    if length bytes == 20 then Some (id.Sha1 bytes)
    else if length bytes == 32 then Some (id.Sha256 bytes)
    else None

abbrev pub or_digit : Option ObjectId → Result ObjectId HexError
or_digit None = Err hex.Digit
or_digit (Some i) = Ok i

-- the id that a text spells in 40 or 64 digits of either case; its length is judged first
abbrev pub id_from_hex : List ℕ → Result ObjectId HexError
id_from_hex digits =
    if length digits == 40 then or_digit (id_of_hex kind.Sha1 digits)
    else if length digits == 64 then or_digit (id_of_hex kind.Sha256 digits)
    else Err hex.Length

-- the eight bytes from a place on as a number, the lowest first
abbrev pub word_at : List ℕ → ℕ → ℕ
word_at bytes i =
    from_le_bytes w64 (slice_index bytes i ∷ slice_index bytes (i + 1) ∷ slice_index bytes (i + 2) ∷ slice_index bytes (i + 3)
    ∷ slice_index bytes (i + 4) ∷ slice_index bytes (i + 5) ∷ slice_index bytes (i + 6) ∷ slice_index bytes (i + 7) ∷ [])

-- an id is stored as whether it is long, and its bytes
abbrev pub is_long : ObjectId → Bool
is_long (id.Sha1 bytes) = false
is_long (id.Sha256 bytes) = true

abbrev pub id_code : Coded ObjectId
id_code = code_by (Bool × List ℕ) (coded× coded_bool (coded_list coded_ℕ)) (λ i. (is_long i, bytes_of i))
    (λ p. if p.0 then id.Sha256 p.1 else id.Sha1 p.1) (elim [ id.Sha1 bytes ↦ refl | id.Sha256 bytes ↦ refl ])

abbrev pub id_set_code : Coded (FinSet id_cmp)
id_set_code = code id_code

-- whether two ids are one
abbrev pub is_same : ObjectId → ObjectId → Bool
is_same a b = is_eq (id_cmp a b)

-- whether an id is in a list
abbrev pub is_among : ObjectId → List ObjectId → Bool
is_among i ids = list_any (is_same i) ids

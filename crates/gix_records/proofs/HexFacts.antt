-- The hex digits of ids.
use Rattle.std.proofs.Common.{ℕ, ◌≡◌, ◌≢◌, ◌+◌, ◌*◌, ◌==◌, ◌%◌, List, [], ◌∷◌, Bool, true, false, length, Some, None, Result, Ok, Err, cond, refl, ap, subst}
use Rattle.std.specs.List.{AllByRecursion}
use Rattle.hex.specs.Hex.{decode_pairs, decode_of, pair_value, value_at, ◌>>=◌}
use Rattle.hex.specs.declared.error.FromHexError.{FromHexError}
use Rattle.hex.specs.declared.error.FromHexError.TheVariants.{OddLength}
use Rattle.gix_hash.specs.declared.ObjectId.{ObjectId}
use Rattle.gix_hash.specs.declared.HexError.TheVariants as hex_error
use Rattle.gix_hash.specs.declared.Kind.{Kind}
use Rattle.gix_hash.specs.declared.Kind.TheVariants as kind
use Rattle.gix_hash.specs.Id.{id_from_hex, id_of_hex, id_of_decoded, id_len, or_digit}

-- the digits of an id have no space among them
pair_spaceless : (high low i : ℕ) (byte : ℕ) → pair_value high low i ≡ Ok byte → (high ≢ 32) × (low ≢ 32)
pair_spaceless high low i byte e = (
  (λ at. let bad : pair_value 32 low i ≡ Ok byte = subst (λ b. pair_value b low i ≡ Ok byte) at e in cc),
  (λ at. let bad : pair_value high 32 i ≡ Ok byte = subst (λ b. pair_value high b i ≡ Ok byte) at e in second (value_at high i) bad),
)
  where
    second : (h : Result ℕ FromHexError) → (h >>= (λ x. value_at 32 (i + 1) >>= (λ y. Ok (x * 16 + y)))) ≡ Ok byte → ⊥
    second (Ok x) e = cc
    second (Err d) e = cc

pairs_spaceless : (i : ℕ) (digits bytes : List ℕ) → decode_pairs i digits ≡ Ok bytes → AllByRecursion (λ b. b ≢ 32) digits
unfolding decode_pairs
pairs_spaceless i [] bytes e = tt
pairs_spaceless i (d ∷ []) bytes e = cc
pairs_spaceless i (high ∷ low ∷ digits) bytes e = go (pair_value high low i) refl (decode_pairs (i + 2) digits) (pairs_spaceless (i + 2) digits) e
  where
    go : (pair : Result ℕ FromHexError) → pair_value high low i ≡ pair → (rest : Result (List ℕ) FromHexError) → ((others : List ℕ) → rest ≡ Ok others → AllByRecursion (λ b. b ≢ 32) digits) → (pair >>= (λ byte. rest >>= (λ others. Ok (byte ∷ others)))) ≡ Ok bytes → AllByRecursion (λ b. b ≢ 32) (high ∷ low ∷ digits)
    go (Ok byte) p (Ok others) tail e = let both : (high ≢ 32) × (low ≢ 32) = pair_spaceless high low i byte p in (both.0, (both.1, tail others refl))
    go (Ok byte) p (Err d) tail e = cc
    go (Err d) p rest tail e = cc

decoded_spaceless : (digits bytes : List ℕ) → decode_of digits ≡ Ok bytes → AllByRecursion (λ b. b ≢ 32) digits
decoded_spaceless digits bytes e = go (length digits % 2 == 1) e
  where
    go : (t : Bool) → cond t (Err OddLength) (decode_pairs 0 digits) ≡ Ok bytes → AllByRecursion (λ b. b ≢ 32) digits
    go true e = cc
    go false e = pairs_spaceless 0 digits bytes e

digits_spaceless : (k : Kind) (digits : List ℕ) (i : ObjectId) → or_digit (id_of_hex k digits) ≡ Ok i → AllByRecursion (λ b. b ≢ 32) digits
digits_spaceless k digits i e = go (length digits == 2 * id_len k) e
  where
    decoded : (r : Result (List ℕ) FromHexError) → decode_of digits ≡ r → or_digit (id_of_decoded k r) ≡ Ok i → AllByRecursion (λ b. b ≢ 32) digits
    decoded (Ok bytes) h e = decoded_spaceless digits bytes h
    decoded (Err d) h e = cc

    go : (t : Bool) → or_digit (cond t (id_of_decoded k (decode_of digits)) None) ≡ Ok i → AllByRecursion (λ b. b ≢ 32) digits
    go true e = decoded (decode_of digits) refl e
    go false e = cc

pub id_spaceless : (digits : List ℕ) (i : ObjectId) → id_from_hex digits ≡ Ok i → AllByRecursion (λ b. b ≢ 32) digits
id_spaceless digits i e = short (length digits == 40) e
  where
    long : (t : Bool) → cond t (or_digit (id_of_hex kind.Sha256 digits)) (Err hex_error.Length) ≡ Ok i → AllByRecursion (λ b. b ≢ 32) digits
    long true e = digits_spaceless kind.Sha256 digits i e
    long false e = cc

    short : (t : Bool) → cond t (or_digit (id_of_hex kind.Sha1 digits)) (cond (length digits == 64) (or_digit (id_of_hex kind.Sha256 digits)) (Err hex_error.Length)) ≡ Ok i → AllByRecursion (λ b. b ≢ 32) digits
    short true e = digits_spaceless kind.Sha1 digits i e
    short false e = long (length digits == 64) e

-- 40 digits of an id of SHA-1 are those of an id
pub short_id_from_hex : (digits : List ℕ) (i : ObjectId) → id_of_hex kind.Sha1 digits ≡ Some i → id_from_hex digits ≡ Ok i
short_id_from_hex digits i e = short (length digits == 40) e
  where
    short : (t : Bool) → cond t (id_of_decoded kind.Sha1 (decode_of digits)) None ≡ Some i → cond t (or_digit (id_of_hex kind.Sha1 digits)) (cond (length digits == 64) (or_digit (id_of_hex kind.Sha256 digits)) (Err hex_error.Length)) ≡ Ok i
    short true h = ap or_digit e
    short false h = cc

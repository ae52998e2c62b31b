-- Lines of ids are lines of one list of ids. Ids of records and of named objects are written by hex digits.
use Rattle.std.proofs.Common.{◌≡◌, ◌≢◌, ◌*◌, ℕ, zero, suc, List, [], ◌∷◌, ◌++◌, flat_map, length, slice_index, Option, Some, All, refl, sym, ap, subst, ◌∙◌, arith, append_assoc, length-append}
use Rattle.std.specs.Int.{to_be_bytes, w32}
use Rattle.std.specs.List.{AllByRecursion}
use Rattle.hex.specs.Hex.{IsBytes, encode_lower}
use Rattle.hex.proofs.HexLemmas.{decode_of-encode_lower}
use Rattle.sha1.specs.Sha1 as one
use Rattle.sha1.specs.Sha1.{sha1}
use Rattle.sha2.specs.Sha256 as two
use Rattle.sha2.specs.Sha256.{sha256}
use Rattle.gix_hash.specs.declared.ObjectId.{ObjectId}
use Rattle.gix_hash.specs.declared.ObjectId.TheVariants.{Sha1, Sha256}
use Rattle.gix_statement.proofs.FedOnce.{hex_plain}
use Rattle.gix_statement.proofs.OneCommit.{first_same, hex_same, id_same}
use Rattle.gix_statement.proofs.WrittenHex.{even, written}
use Rattle.gix_statement.specs.WholeStatement.{Object, Objects, AreFed, AreNamed, AreRecords, IsHash, IsHex, IsLast, none, byte, Spells, bytes_in, digits_in, id_line}

-- hex digits write it
abbrev pub IsSpelled : ObjectId → Type 0
IsSpelled i = (text : List ℕ) × Spells (digits_in i) text i

is_bytes : {text bytes : List ℕ} → IsHex text bytes → IsBytes bytes
is_bytes none i = omega arith
is_bytes (byte d h) zero = omega (arith, d.0, d.1.0)
is_bytes (byte d h) (suc i) = is_bytes h i

spelled_bytes : (i : ObjectId) → IsSpelled i → IsBytes (bytes_in i) × (2 * length (bytes_in i) ≡ digits_in i)
spelled_bytes i (text, s) = (is_bytes s.2, sym (even s.2) ∙ s.0)

encoded : (bytes : List ℕ) → IsBytes bytes → IsHex (encode_lower bytes) bytes
encoded bytes h = written (encode_lower bytes) bytes (decode_of-encode_lower bytes h)

bytes_spelled : (i : ObjectId) → IsBytes (bytes_in i) → 2 * length (bytes_in i) ≡ digits_in i → IsSpelled i
bytes_spelled i h long = let hex = encoded (bytes_in i) h in (encode_lower (bytes_in i), (even hex ∙ long, refl, hex))

-- LINES
line_plain : (i : ObjectId) → IsSpelled i → All (λ x. x ≢ 10) (encode_lower (bytes_in i))
line_plain i s = hex_plain 10 (λ l. omega (arith, l)) (encoded (bytes_in i) (spelled_bytes i s).0)

line_once : (i j : ObjectId) (more rest : List ℕ) → IsSpelled i → IsSpelled j → id_line i ++ more ≡ id_line j ++ rest → (i ≡ j) × (more ≡ rest)
line_once i j more rest s t e =
    let p = spelled_bytes i s in
    let q = spelled_bytes j t in
    let x = encode_lower (bytes_in i) in
    let y = encode_lower (bytes_in j) in
    let cut = first_same 10 x y more rest (line_plain i s) (line_plain j t) (sym (append_assoc x (10 ∷ []) more) ∙ e ∙ append_assoc y (10 ∷ []) rest) in
    let bytes : bytes_in i ≡ bytes_in j = hex_same (encoded (bytes_in i) p.0) (subst (λ text. IsHex text (bytes_in j)) (sym cut.0) (encoded (bytes_in j) q.0)) in
    (id_same i j (sym p.1 ∙ ap (λ xs. 2 * length xs) bytes ∙ q.1) bytes, cut.1)

no_line : (text more rest : List ℕ) → [] ≡ (text ++ 10 ∷ []) ++ more → ⊥
no_line [] more rest e = cc
no_line (c ∷ text) more rest e = cc

-- ids whose lines begin with those of others begin with these
pub lines_front : (ids others : List ObjectId) (left : List ℕ) → AllByRecursion IsSpelled ids → AllByRecursion IsSpelled others → flat_map id_line others ≡ flat_map id_line ids ++ left → (rest : List ObjectId) × (others ≡ ids ++ rest)
lines_front [] others left s t e = (others, refl)
lines_front (i ∷ ids) [] left s t e = absurd (no_line (encode_lower (bytes_in i)) (flat_map id_line ids ++ left) left (e ∙ append_assoc (id_line i) (flat_map id_line ids) left))
lines_front (i ∷ ids) (j ∷ others) left s t e =
    let l = line_once j i (flat_map id_line others) (flat_map id_line ids ++ left) t.0 s.0 (e ∙ append_assoc (id_line i) (flat_map id_line ids) left) in
    let r = lines_front ids others left s.1 t.1 l.1 in
    (r.0, (λ k. l.0 k ∷ r.1 k))

-- RECORDS
record_spelled : (i : ObjectId) (o : Object) (before after : List (ObjectId × Object)) (text : List ℕ) → AreRecords (before ++ (i, o) ∷ after) text → IsSpelled i
record_spelled i o [] after text (id, number, rest, kind, spells, counts, are, is) = (id, spells)
record_spelled i o ((j, p) ∷ before) after text (id, number, rest, kind, spells, counts, are, is) = record_spelled i o before after rest are

pub fed_spelled : (has : Option (List ℕ)) (objects : Objects) → AreFed has objects → (i : ObjectId) (o : Object) → objects i ≡ Some o → IsSpelled i
fed_spelled has objects (text, known, records, are, last) i o at =
    let l : IsLast records i (Some o) = subst (IsLast records i) at (last i) in
    record_spelled i o l.0 l.1 text (subst (λ rs. AreRecords rs text) l.2 are)

-- NAMES
bytes_append : (xs ys : List ℕ) → IsBytes xs → IsBytes ys → IsBytes (xs ++ ys)
bytes_append [] ys h k i = k i
bytes_append (x ∷ xs) ys h k zero = h zero
bytes_append (x ∷ xs) ys h k (suc i) = bytes_append xs ys (λ j. h (suc j)) k i

word_bytes : (n : ℕ) → IsBytes (to_be_bytes w32 n)
word_bytes n zero = omega arith
word_bytes n (suc zero) = omega arith
word_bytes n (suc (suc zero)) = omega arith
word_bytes n (suc (suc (suc zero))) = omega arith
word_bytes n (suc (suc (suc (suc i)))) = omega arith

one_bytes : (h : List ℕ) (n : ℕ) → IsBytes (one.digest_bytes h n) × (length (one.digest_bytes h n) ≡ n * 4)
unfolding one.digest_bytes
one_bytes h zero = ((λ i. omega arith), refl)
one_bytes h (suc n) =
    let before = one_bytes h n in
    let word = to_be_bytes w32 (slice_index h n) in
    let last : length word ≡ 4 = refl in
    let long = length-append (one.digest_bytes h n) word in
    (bytes_append (one.digest_bytes h n) word before.0 (word_bytes (slice_index h n)), omega (arith, before.1, last, long))

two_bytes : (h : List ℕ) (n : ℕ) → IsBytes (two.digest_bytes h n) × (length (two.digest_bytes h n) ≡ n * 4)
unfolding two.digest_bytes
two_bytes h zero = ((λ i. omega arith), refl)
two_bytes h (suc n) =
    let before = two_bytes h n in
    let word = to_be_bytes w32 (slice_index h n) in
    let last : length word ≡ 4 = refl in
    let long = length-append (two.digest_bytes h n) word in
    (bytes_append (two.digest_bytes h n) word before.0 (word_bytes (slice_index h n)), omega (arith, before.1, last, long))

sha1_bytes : (m : List ℕ) → IsBytes (sha1 m) × (length (sha1 m) ≡ 20)
unfolding sha1
sha1_bytes m = one_bytes _ 5

sha256_bytes : (m : List ℕ) → IsBytes (sha256 m) × (length (sha256 m) ≡ 32)
unfolding sha256
sha256_bytes m = two_bytes _ 8

hash_spelled : (i : ObjectId) (text : List ℕ) → IsHash i text → IsSpelled i
hash_spelled (Sha1 hash) text e = let s = subst (λ xs. IsBytes xs × (length xs ≡ 20)) (sym e) (sha1_bytes text) in bytes_spelled (Sha1 hash) s.0 (omega (arith, s.1))
hash_spelled (Sha256 hash) text e = let s = subst (λ xs. IsBytes xs × (length xs ≡ 32)) (sym e) (sha256_bytes text) in bytes_spelled (Sha256 hash) s.0 (omega (arith, s.1))

pub named_spelled : (objects : Objects) → AreNamed objects → (i : ObjectId) (o : Object) → objects i ≡ Some o → IsSpelled i
named_spelled objects named i o at = hash_spelled i _ (named i o at).1

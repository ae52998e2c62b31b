-- A row that is read is spelled as it was read.
use Rattle.std.proofs.Common.{◌≡◌, ℕ, suc, ◌+◌, ◌*◌, ◌^◌, ◌<◌, ◌≤◌, List, [], ◌∷◌, ◌++◌, length, take, drop, refl, sym, ap, subst, ◌∙◌, append_assoc, arith, inl, inr, w32, w64, flat_map, drop-drop, take-append-drop, length-take}
use Rattle.std.proofs.Common.{get_or-take, get_or-drop, length-drop}
use Rattle.gix_commitgraph.proofs.Common.{to_be_bytes, from_be_bytes, cast_signed, cast_unsigned, AllByRecursion, get_or_past, Kind, ParentPlace, id_len, id_of, kind_of, bytes_of, first_word, second_word, AreBytes, IsIdOf, IsPlaceAmong}
use Rattle.gix_commitgraph.proofs.Common.{IsRowAmong, words_of, row_len, first_field, second_field, row_of_fields}
use Rattle.std.proofs.lemmas.Bool.{cases_lt}
use Rattle.std.proofs.lemmas.Int.{of_z-to_z}
use Rattle.std.proofs.Math.Facts.{Fits-of_lt, sfits_to_z}
use Rattle.std.proofs.lemmas.Nat.{be_bytes_4, be_bytes_8}
use Rattle.gix_hash.specs.declared.Kind.TheVariants as kind
use Rattle.gix_commitgraph.specs.Packed.{row_bytes}
use Rattle.gix_commitgraph.proofs.Packed.Fields.{row_len-is}

pub AreBytes-drop : (n : ℕ) (bytes : List ℕ) → AreBytes bytes → AreBytes (drop n bytes)
AreBytes-drop n bytes h i = rw get_or-drop (h (n + i))

pub AreBytes-take : (n : ℕ) (bytes : List ℕ) → AreBytes bytes → AreBytes (take n bytes)
AreBytes-take n bytes h i =
    elim (cases_lt i n) [
      | inl lt ↦ rw (get_or-take n bytes i 0 lt) (h i)
      | inr le ↦ rw (get_or_past (take n bytes) i 0 (omega (arith, length-take n bytes))) (omega arith)
    ]

pub part : (at n next : ℕ) (whole : List ℕ) → next ≡ at + n → take n (drop at whole) ++ drop next whole ≡ drop at whole
part at n next whole e = rw (e, ← drop-drop n at whole) (take-append-drop n (drop at whole))

-- a row's parts and what follows them are the whole
pub six_parts : (len : ℕ) (whole : List ℕ)
    → (take len whole ++ (take len (drop len whole) ++ (take 4 (drop (2 * len) whole) ++ (take 4 (drop (2 * len + 4) whole) ++ (take 4 (drop (2 * len + 8) whole) ++ take 8 (drop (2 * len + 12) whole)))))) ++ drop (2 * len + 20) whole ≡ whole
six_parts len whole =
    simp append_assoc
    (rw (
      part (2 * len + 12) 8 (2 * len + 20) whole (omega arith),
      part (2 * len + 8) 4 (2 * len + 12) whole (omega arith),
      part (2 * len + 4) 4 (2 * len + 8) whole (omega arith),
      part (2 * len) 4 (2 * len + 4) whole (omega arith),
      part len len (2 * len) whole (omega arith),
    ) (take-append-drop len whole))

bytes_of-id_of : (k : Kind) (bytes : List ℕ) → bytes_of (id_of k bytes) ≡ bytes
bytes_of-id_of kind.Sha1 bytes = refl
bytes_of-id_of kind.Sha256 bytes = refl

kind_of-id_of : (k : Kind) (bytes : List ℕ) → kind_of (id_of k bytes) ≡ k
kind_of-id_of kind.Sha1 bytes = refl
kind_of-id_of kind.Sha256 bytes = refl

is_id_of : (k : Kind) (bytes : List ℕ) → id_len k ≤ length bytes → AreBytes bytes → IsIdOf k (id_of k (take (id_len k) bytes))
is_id_of k bytes long fits =
    record {
      kind = kind_of-id_of k (take (id_len k) bytes);
      len = ap length (bytes_of-id_of k (take (id_len k) bytes)) ∙ omega (arith, length-take (id_len k) bytes);
      bytes = subst AreBytes (sym (bytes_of-id_of k (take (id_len k) bytes))) (AreBytes-take (id_len k) bytes fits);
    }

long_below : (bytes : List ℕ) → AreBytes bytes → from_be_bytes w64 bytes < 2 ^ 64
long_below bytes fits = omega (arith, fits 0, fits 1, fits 2, fits 3, fits 4, fits 5, fits 6, fits 7)

length-part : (at n : ℕ) (whole : List ℕ) → at + n ≤ length whole → length (take n (drop at whole)) ≡ n
length-part at n whole long = simp (length-take, length-drop) (omega arith)

pub word_back : (at : ℕ) (whole : List ℕ) → at + 4 ≤ length whole → AreBytes whole → to_be_bytes w32 (from_be_bytes w32 (take 4 (drop at whole))) ≡ take 4 (drop at whole)
word_back at whole long fits = be_bytes_4 (take 4 (drop at whole)) _ (length-part at 4 whole long) (AreBytes-take 4 (drop at whole) (AreBytes-drop at whole fits)) refl

long_back : (at : ℕ) (whole : List ℕ) → at + 8 ≤ length whole → AreBytes whole → to_be_bytes w64 (cast_unsigned w64 (cast_signed w64 (from_be_bytes w64 (take 8 (drop at whole))))) ≡ take 8 (drop at whole)
long_back at whole long fits =
    let bytes = take 8 (drop at whole) in
    let are = AreBytes-take 8 (drop at whole) (AreBytes-drop at whole fits) in
    ap (to_be_bytes w64) (of_z-to_z w64 (from_be_bytes w64 bytes) (long_below bytes are)) ∙ be_bytes_8 bytes _ (length-part at 8 whole long) are refl

pub row_takes : (k : Kind) (n w : ℕ) (bytes : List ℕ) (parents : List ParentPlace) → row_len k ≤ length bytes → AreBytes bytes
    → first_field k bytes ≡ first_word parents → second_field k bytes ≡ second_word w parents
    → row_bytes w (row_of_fields k bytes parents) ++ drop (row_len k) bytes ≡ bytes
unfolding row_bytes
row_takes k n w bytes parents long fits first second =
    let len = id_len k in
    let wide : row_len k ≡ 2 * len + 20 = row_len-is k in
    let first_is = ap (to_be_bytes w32) (sym first) ∙ word_back (2 * len) bytes (omega arith) fits in
    let second_is = ap (to_be_bytes w32) (sym second) ∙ word_back (2 * len + 4) bytes (omega arith) fits in
    let generation_is = word_back (2 * len + 8) bytes (omega arith) fits in
    let time_is = long_back (2 * len + 12) bytes (omega arith) fits in
    (λ i. (bytes_of-id_of k (take len bytes) i ++ (bytes_of-id_of k (take len (drop len bytes)) i ++ (first_is i ++ (second_is i ++ (generation_is i ++ time_is i))))) ++ drop (wide i) bytes) ∙ six_parts len bytes

pub row_among : (k : Kind) (n : ℕ) (bytes : List ℕ) (parents : List ParentPlace) → row_len k ≤ length bytes → AreBytes bytes
    → AllByRecursion (IsPlaceAmong n) parents → IsRowAmong k n (row_of_fields k bytes parents)
row_among k n bytes parents long fits among =
    let len = id_len k in
    let wide : row_len k ≡ 2 * len + 20 = row_len-is k in
    let at_generation = AreBytes-take 4 (drop (2 * len + 8) bytes) (AreBytes-drop (2 * len + 8) bytes fits) in
    let at_time = AreBytes-take 8 (drop (2 * len + 12) bytes) (AreBytes-drop (2 * len + 12) bytes fits) in
    record {
      id = is_id_of k bytes (omega arith) fits;
      tree = is_id_of k (drop len bytes) (simp length-drop (omega arith)) (AreBytes-drop len bytes fits);
      parents = among;
      generation = omega (arith, at_generation 0, at_generation 1, at_generation 2, at_generation 3);
      time = sfits_to_z (Fits-of_lt (long_below (take 8 (drop (2 * len + 12) bytes)) at_time));
    }

-- bytes, four to a word, are the bytes of the words that they say
pub bytes-words_of : (bytes : List ℕ) → AreBytes bytes → length bytes ≡ 4 * length (words_of bytes) → flat_map (to_be_bytes w32) (words_of bytes) ≡ bytes
bytes-words_of [] fits len = refl
bytes-words_of (a ∷ []) fits len = absurd (omega arith)
bytes-words_of (a ∷ b ∷ []) fits len = absurd (omega arith)
bytes-words_of (a ∷ b ∷ c ∷ []) fits len = absurd (omega arith)
bytes-words_of (a ∷ b ∷ c ∷ d ∷ bytes) fits len =
    let others = bytes-words_of bytes (λ i. fits (suc (suc (suc (suc i))))) (omega arith) in
    let first : List ℕ = a ∷ b ∷ c ∷ d ∷ [] in
    let here : to_be_bytes w32 (from_be_bytes w32 first) ≡ first = be_bytes_4 first _ refl (λ i. AreBytes-take 4 (a ∷ b ∷ c ∷ d ∷ bytes) fits i) refl in
    (λ i. here i ++ others i)

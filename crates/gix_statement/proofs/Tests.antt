-- Tests of lists of numbers, by which worked examples are checked, and members of lists.
use Rattle.std.proofs.Common.{if◌then◌else◌, ◌++◌, append_assoc, inl, inr, ◌⊎◌, ℤ, Option, flat_map, ap, subst, ◌∙◌, ◌≡◌, ◌≢◌, ℕ, List, [], ◌∷◌, Bool, true, false, ◌&&◌, nat_eq, nat_lt, not, All, Contains, refl, sym, ◌∙◌, arith, ltb-true, eq-eqb, ⊎_elim}
use Rattle.std.proofs.lemmas.Bool.{false≢true}
use Rattle.std.proofs.lemmas.List.Elements.{All-cons, All-nil}
use Rattle.gix_hash.proofs.Ids.Membership.{Contains-cons_cases}
use Rattle.std.specs.Char.{digit_value}
use Rattle.std.specs.Str.Parse.{AllDigits, digits_value}
use Rattle.std.specs.Fmt.{signed_decimal}
use Rattle.std.specs.Io.KnownBytes.{Appends}
use Rattle.hex.specs.Hex.{encode_lower}
use Rattle.gix_hash.specs.declared.ObjectId.{ObjectId}
use Rattle.gix_statement.specs.Formats.{formatted}
use Rattle.gix_statement.specs.WholeStatement.{IsHex, none, byte, Objects, Row, HasBegun, lists, Choice, Chooses, everything, until, merges, no_merges, skip, at_most, counted, reversed, with_time, with_parents, with_format, with_subject, zero_ended, Lines, bytes_in, text_in, chosen, commit_line, written}

-- all of these are digits
abbrev pub are_digits : ℕ → List ℕ → Bool
are_digits base [] = true
are_digits base (c ∷ cs) = nat_lt (digit_value c) base && are_digits base cs

both_true : (a b : Bool) → a && b ≡ true → (a ≡ true) × (b ≡ true)
both_true true true e = (refl, refl)
both_true true false e = cc
both_true false b e = cc

pub all_digits : (base : ℕ) (text : List ℕ) → are_digits base text ≡ true → AllDigits base text
all_digits base [] e = tt
all_digits base (c ∷ cs) e = let b = both_true _ _ e in (ltb-true (digit_value c) base b.0, all_digits base cs b.1)

-- this one is not among them
abbrev pub is_without : ℕ → List ℕ → Bool
is_without b [] = true
is_without b (x ∷ xs) = not (nat_eq x b) && is_without b xs

pub without : (b : ℕ) (xs : List ℕ) → is_without b xs ≡ true → All (λ x. x ≢ b) xs
without b [] e = All-nil _
without b (x ∷ xs) e =
    let h = both_true _ _ e in
    All-cons (λ y. y ≢ b) x xs (λ s. false≢true (sym (λ k. not (eq-eqb x b s k)) ∙ h.0)) (without b xs h.1)

-- what is neither the first nor among the others
pub not_among : {X : Type 0} (x y : X) (xs : List X) → (y ≡ x → ⊥) → (Contains xs x → ⊥) → Contains (y ∷ xs) x → ⊥
not_among x y xs other others c = ⊎_elim other others (Contains-cons_cases x y xs c)

pub not_alone : (b : ℕ) (xs : List ℕ) → is_without b xs ≡ true → xs ≢ b ∷ []
not_alone b [] e is = cc
not_alone b (x ∷ xs) e is = let same : x ≡ b = cc in without b (x ∷ xs) e 0 x (omega arith) same

pub other_head : (a b : ℕ) (xs ys : List ℕ) → is_without b (a ∷ []) ≡ true → a ∷ xs ≢ b ∷ ys
other_head a b xs ys e is = let same : a ≡ b = cc in without b (a ∷ []) e 0 a (omega arith) same

-- the bytes that hex digits write
abbrev pub hex_bytes : List ℕ → List ℕ
hex_bytes [] = []
hex_bytes (a ∷ []) = []
hex_bytes (a ∷ b ∷ text) = digits_value 16 (a ∷ b ∷ []) ∷ hex_bytes text

-- they are digits, two for each byte
abbrev pub are_hex : List ℕ → Bool
are_hex [] = true
are_hex (a ∷ []) = false
are_hex (a ∷ b ∷ text) = are_digits 16 (a ∷ b ∷ []) && are_hex text

pub is_hex : (text : List ℕ) → are_hex text ≡ true → IsHex text (hex_bytes text)
is_hex [] e = none
is_hex (a ∷ []) e = cc
is_hex (a ∷ b ∷ text) e = let h = both_true (are_digits 16 (a ∷ b ∷ [])) (are_hex text) e in byte (all_digits 16 (a ∷ b ∷ []) h.0) (is_hex text h.1)

-- a line ends in a newline, or in a byte 0
abbrev pub IsEnding : ℕ → Type 0
IsEnding b = (b ≡ 10) ⊎ (b ≡ 0)

abbrev pub IsEnded : List ℕ → Type 0
IsEnded line = (text : List ℕ) × (b : ℕ) × IsEnding b × (line ≡ text ++ b ∷ [])

chosen_ending : {tips hidden : List ObjectId} {c : Choice} {place : ℕ} (words : List (List ℕ)) → Chooses tips hidden place words c → IsEnding c.line.ending
chosen_ending words (everything are) = inl refl
chosen_ending words (until n is late chooses) = chosen_ending _ chooses
chosen_ending words (merges late chooses) = chosen_ending _ chooses
chosen_ending words (no_merges late chooses) = chosen_ending _ chooses
chosen_ending words (skip n is late chooses) = chosen_ending _ chooses
chosen_ending words (at_most n is late chooses) = chosen_ending _ chooses
chosen_ending words (counted late chooses) = chosen_ending _ chooses
chosen_ending words (reversed late chooses) = chosen_ending _ chooses
chosen_ending words (with_time late chooses) = chosen_ending _ chooses
chosen_ending words (with_parents late chooses) = chosen_ending _ chooses
chosen_ending words (with_format is short late chooses) = chosen_ending _ chooses
chosen_ending words (with_subject late chooses) = chosen_ending _ chooses
chosen_ending words (zero_ended late chooses) = inr refl

ended_line : (a b c d : List ℕ) (e : ℕ) → IsEnding e → IsEnded (a ++ (b ++ (c ++ (d ++ e ∷ []))))
ended_line a b c d e ending = (a ++ (b ++ (c ++ d)), e, ending, simp append_assoc)

-- what has begun are lines
pub begun_lines : (objects : Objects) (rows : List Row) (parents : ObjectId → List ObjectId) (time : ObjectId → ℤ) (old new : Option (List ℕ)) (words : List (List ℕ)) → HasBegun objects rows parents time old new words
    → (line : ObjectId → List ℕ) × (ids : List ObjectId) × ((i : ObjectId) → IsEnded (line i)) × Appends old new (flat_map line ids)
begun_lines objects rows parents time old new words (bytes, lists option more c ids named chooses some follows there texts begins allows ended may is_written, appends) = (
  line,
  chosen parents time c ids,
  λ i. ended_line (if c.line.has_time then signed_decimal (time i) ++ 32 ∷ [] else []) (if c.line.has_id then encode_lower (bytes_in i) else []) (if c.line.has_parents then flat_map (λ p. 32 ∷ encode_lower (bytes_in p)) (parents i) else [])
      (formatted (record { id = i; parents = parents i; time = time i; text = text_in (objects i) }) 0 c.line.format) c.line.ending (chosen_ending more chooses),
  subst (Appends old new) (is_written ∙ ap (λ form. written line form (chosen parents time c ids)) (only_lines may)) appends,
)
  where
    line : ObjectId → List ℕ
    line = commit_line objects parents time c.line

    only_lines : (false ≡ true) ⊎ (c.form ≡ Lines) → c.form ≡ Lines
    only_lines (inl e) = cc
    only_lines (inr e) = e

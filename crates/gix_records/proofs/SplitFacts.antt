-- A text split at the first of a byte.
use Rattle.std.proofs.Common.{ℕ, ◌≡◌, ◌≢◌, ◌<◌, ◌+◌, ◌==◌, List, [], ◌∷◌, ◌++◌, Bool, true, false, length, take, drop, Option, Some, None, cond, refl, sym, ap, subst, ◌∙◌, arith, get_or, length-append, eqb-true, ne_eqb, eq-eqb}
use Rattle.std.proofs.Common.{take-append-drop, get_or-take, length-take-le}
use Rattle.std.specs.List.{AllByRecursion}
use Rattle.std.proofs.lemmas.Bool.{eqb-false, cond-false, cond-true}
use Rattle.std.proofs.lemmas.Option.{some_pair_parts}
use Rattle.std.proofs.lemmas.List.{get_or_at, drop_more}
use Rattle.std.proofs.lemmas.List.Elements.{recursion_from_All, All-from_get_or}
use Rattle.gix_object.specs.CommitItems.{with_byte}
use Rattle.gix_records.specs.RecordFront.{split_at_byte}

-- the byte isn't before the place, and is there
pub split_found : (byte : ℕ) (bytes : List ℕ) (r : List ℕ × List ℕ) → split_at_byte byte bytes ≡ Some r → AllByRecursion (λ b. b ≢ byte) r.0 × (bytes ≡ r.0 ++ byte ∷ r.1)
split_found byte [] r e = cc
split_found byte (b ∷ bytes) r e = go (b == byte) refl (split_at_byte byte bytes) (split_found byte bytes) e
  where
    go : (t : Bool) → (b == byte) ≡ t → (o : Option (List ℕ × List ℕ)) → ((s : List ℕ × List ℕ) → o ≡ Some s → AllByRecursion (λ b. b ≢ byte) s.0 × (bytes ≡ s.0 ++ byte ∷ s.1)) → cond t (Some ([], bytes)) (with_byte b o) ≡ Some r → AllByRecursion (λ b. b ≢ byte) r.0 × (b ∷ bytes ≡ r.0 ++ byte ∷ r.1)
    go true h o tail e =
        let same : ([] ≡ r.0) × (bytes ≡ r.1) = some_pair_parts [] r.0 bytes r.1 e in
        let at : b ≡ byte = eqb-true b byte h in
        (subst (AllByRecursion (λ x. x ≢ byte)) same.0 tt, ap (λ x. x ∷ bytes) at ∙ ap (λ x. byte ∷ x) same.1 ∙ ap (λ x. x ++ byte ∷ r.1) same.0)
    go false h None tail e = cc
    go false h (Some s) tail e =
        let same : (b ∷ s.0 ≡ r.0) × (s.1 ≡ r.1) = some_pair_parts (b ∷ s.0) r.0 s.1 r.1 e in
        let those : AllByRecursion (λ x. x ≢ byte) s.0 × (bytes ≡ s.0 ++ byte ∷ s.1) = tail s refl in
        (subst (AllByRecursion (λ x. x ≢ byte)) same.0 (eqb-false b byte h, those.0), ap (λ x. b ∷ x) those.1 ∙ ap (λ x. b ∷ (s.0 ++ byte ∷ x)) same.1 ∙ ap (λ x. x ++ byte ∷ r.1) same.0)

pub split-append : (byte : ℕ) (content rest : List ℕ) → AllByRecursion (λ b. b ≢ byte) content → split_at_byte byte (content ++ byte ∷ rest) ≡ Some (content, rest)
split-append byte [] rest h = cond-true (byte == byte) _ _ (eq-eqb byte byte refl)
split-append byte (b ∷ content) rest h = cond-false (b == byte) _ _ (ne_eqb b byte h.0) ∙ ap (with_byte b) (split-append byte content rest h.1)

pub split_none : (byte : ℕ) (bytes : List ℕ) → ((i : ℕ) → i < length bytes → get_or bytes i 0 ≡ byte → ⊥) → split_at_byte byte bytes ≡ None
split_none byte bytes never = go (split_at_byte byte bytes) (split_found byte bytes)
  where
    go : (o : Option (List ℕ × List ℕ)) → ((r : List ℕ × List ℕ) → o ≡ Some r → AllByRecursion (λ b. b ≢ byte) r.0 × (bytes ≡ r.0 ++ byte ∷ r.1)) → o ≡ None
    go None found = refl
    go (Some r) found =
        let whole : bytes ≡ r.0 ++ byte ∷ r.1 = (found r refl).1 in
        let at : get_or bytes (length r.0) 0 ≡ byte = ap (λ x. get_or x (length r.0) 0) whole ∙ get_or_at r.0 byte r.1 0 (length r.0) refl in
        absurd (never (length r.0) (omega (arith, ap length whole, length-append r.0 (byte ∷ r.1))) at)

pub split_first : (byte : ℕ) (bytes : List ℕ) (n : ℕ) → n < length bytes → get_or bytes n 0 ≡ byte → ((i : ℕ) → i < n → get_or bytes i 0 ≡ byte → ⊥) → split_at_byte byte bytes ≡ Some (take n bytes, drop (n + 1) bytes)
split_first byte bytes n l at before =
    let whole : bytes ≡ take n bytes ++ byte ∷ drop (n + 1) bytes = sym (take-append-drop n bytes) ∙ ap (λ x. take n bytes ++ x) (drop_more bytes n 0 l ∙ ap (λ x. x ∷ drop (n + 1) bytes) at) in
    let fits : length (take n bytes) ≡ n = length-take-le n bytes (omega arith) in
    let all : AllByRecursion (λ b. b ≢ byte) (take n bytes) = recursion_from_All (λ b. b ≢ byte) (take n bytes) (All-from_get_or (λ b. b ≢ byte) (take n bytes) 0 (λ i h e. before i (omega arith) (sym (get_or-take n bytes i 0 (omega arith)) ∙ e))) in
    ap (split_at_byte byte) whole ∙ split-append byte (take n bytes) (drop (n + 1) bytes) all

-- What is at the front of bytes: a word, a line of text, an id in hex.
use Rattle.std.proofs.Common.{ℕ, ◌≡◌, ◌≢◌, ◌<◌, ◌+◌, ◌*◌, ◌==◌, List, [], ◌∷◌, ◌++◌, Bool, true, false, length, take, drop, Option, Some, None, MatchOption, option_copied, Bor, cond, refl, sym, ap, subst, ◌∙◌, arith, get_or}
use Rattle.std.proofs.Common.{length-append, eqb-true, eq-eqb, ne_eqb, take_at, drop_at, take-append-drop, get_or-take, length-take-le}
use Rattle.std.specs.List.{AllByRecursion}
use Rattle.std.proofs.lemmas.Bool.{eqb-false, cond-true, cond-false}
use Rattle.std.proofs.lemmas.Option.{some_pair_parts}
use Rattle.std.proofs.lemmas.List.{get_or_at, drop_more}
use Rattle.std.proofs.lemmas.List.Elements.{recursion_from_All, All-from_get_or}
use Rattle.gix_hash.specs.declared.Kind.{Kind}
use Rattle.gix_hash.specs.declared.ObjectId.{ObjectId}
use Rattle.gix_hash.specs.Id.{id_len, id_of_hex, id_of_decoded}
use Rattle.gix_object.specs.CommitItems.{after_word, with_byte, line_at, id_before_newline, id_line_at}
use Rattle.hex.specs.Hex.{decode_of}

pub after_word_found : (word bytes rest : List ℕ) → after_word word bytes ≡ Some rest → bytes ≡ word ++ rest
after_word_found [] bytes rest e = cc
after_word_found (c ∷ word) [] rest e = cc
after_word_found (c ∷ word) (b ∷ bytes) rest e = go (after_word_found word bytes rest) (b == c) refl e
  where
    go : (after_word word bytes ≡ Some rest → bytes ≡ word ++ rest) → (t : Bool) → (b == c) ≡ t → cond t (after_word word bytes) None ≡ Some rest → b ∷ bytes ≡ c ∷ (word ++ rest)
    go tail true h e = let same : b ≡ c = eqb-true b c h in let those : bytes ≡ word ++ rest = tail e in cc
    go tail false h e = cc

pub after_word-append : (word rest : List ℕ) → after_word word (word ++ rest) ≡ Some rest
after_word-append [] rest = refl
after_word-append (c ∷ word) rest = cond-true (c == c) _ _ (eq-eqb c c refl) ∙ after_word-append word rest

-- a line has no newline inside, and one behind it
pub line_at_found : (bytes : List ℕ) (r : List ℕ × List ℕ) → line_at bytes ≡ Some r → AllByRecursion (λ b. b ≢ 10) r.0 × (bytes ≡ r.0 ++ 10 ∷ r.1)
line_at_found [] r e = cc
line_at_found (b ∷ bytes) r e = go (b == 10) refl (line_at bytes) (line_at_found bytes) e
  where
    go : (t : Bool) → (b == 10) ≡ t → (o : Option (List ℕ × List ℕ)) → ((s : List ℕ × List ℕ) → o ≡ Some s → AllByRecursion (λ b. b ≢ 10) s.0 × (bytes ≡ s.0 ++ 10 ∷ s.1)) → cond t (Some ([], bytes)) (with_byte b o) ≡ Some r → AllByRecursion (λ b. b ≢ 10) r.0 × (b ∷ bytes ≡ r.0 ++ 10 ∷ r.1)
    go true h o tail e =
        let same : ([] ≡ r.0) × (bytes ≡ r.1) = some_pair_parts [] r.0 bytes r.1 e in
        let at : b ≡ 10 = eqb-true b 10 h in
        (subst (AllByRecursion (λ x. x ≢ 10)) same.0 tt, ap (λ x. x ∷ bytes) at ∙ ap (λ x. 10 ∷ x) same.1 ∙ ap (λ x. x ++ 10 ∷ r.1) same.0)
    go false h None tail e = cc
    go false h (Some s) tail e =
        let same : (b ∷ s.0 ≡ r.0) × (s.1 ≡ r.1) = some_pair_parts (b ∷ s.0) r.0 s.1 r.1 e in
        let those : AllByRecursion (λ x. x ≢ 10) s.0 × (bytes ≡ s.0 ++ 10 ∷ s.1) = tail s refl in
        (subst (AllByRecursion (λ x. x ≢ 10)) same.0 (eqb-false b 10 h, those.0), ap (λ x. b ∷ x) those.1 ∙ ap (λ x. b ∷ (s.0 ++ 10 ∷ x)) same.1 ∙ ap (λ x. x ++ 10 ∷ r.1) same.0)

pub line_at-append : (content rest : List ℕ) → AllByRecursion (λ b. b ≢ 10) content → line_at (content ++ 10 ∷ rest) ≡ Some (content, rest)
line_at-append [] rest h = refl
line_at-append (b ∷ content) rest h = cond-false (b == 10) _ _ (ne_eqb b 10 h.0) ∙ ap (with_byte b) (line_at-append content rest h.1)

-- digits that spell an id are as many as an id of the kind has
pub length-digits : (k : Kind) (digits : List ℕ) (i : ObjectId) → id_of_hex k digits ≡ Some i → length digits ≡ 2 * id_len k
length-digits k digits i e = go (length digits == 2 * id_len k) refl e
  where
    go : (t : Bool) → (length digits == 2 * id_len k) ≡ t → cond t (id_of_decoded k (decode_of digits)) None ≡ Some i → length digits ≡ 2 * id_len k
    go true h e = eqb-true (length digits) (2 * id_len k) h
    go false h e = cc

pub id_line_at_found : (k : Kind) (bytes : List ℕ) (r : ObjectId × List ℕ) → id_line_at k (Some bytes) ≡ Some r → (digits : List ℕ) × (id_of_hex k digits ≡ Some r.0) × (bytes ≡ digits ++ 10 ∷ r.1)
id_line_at_found k bytes r e = go (id_of_hex k digits) refl (drop (2 * id_len k) bytes) refl e
  where
    digits : List ℕ
    digits = take (2 * id_len k) bytes

    go : (o : Option ObjectId) → id_of_hex k digits ≡ o → (rest : List ℕ) → drop (2 * id_len k) bytes ≡ rest → id_before_newline o rest ≡ Some r → (digits : List ℕ) × (id_of_hex k digits ≡ Some r.0) × (bytes ≡ digits ++ 10 ∷ r.1)
    go None h rest l e = cc
    go (Some i) h [] l e = cc
    go (Some i) h (b ∷ rest) l e = ends (b == 10) refl e
      where
        ends : (t : Bool) → (b == 10) ≡ t → cond t (Some (i, rest)) None ≡ Some r → (digits : List ℕ) × (id_of_hex k digits ≡ Some r.0) × (bytes ≡ digits ++ 10 ∷ r.1)
        ends true at e =
            let same : (i ≡ r.0) × (rest ≡ r.1) = some_pair_parts i r.0 rest r.1 e in
            let newline : b ≡ 10 = eqb-true b 10 at in
            (digits, h ∙ ap Some same.0, sym (take-append-drop (2 * id_len k) bytes) ∙ ap (λ x. digits ++ x) (l ∙ ap (λ x. x ∷ rest) newline ∙ ap (λ x. 10 ∷ x) same.1))
        ends false at e = cc

pub id_line_at-append : (k : Kind) (digits rest : List ℕ) (i : ObjectId) → id_of_hex k digits ≡ Some i → id_line_at k (Some (digits ++ 10 ∷ rest)) ≡ Some (i, rest)
id_line_at-append k digits rest i e =
    let n : length digits ≡ 2 * id_len k = length-digits k digits i e in
    let front : take (2 * id_len k) (digits ++ 10 ∷ rest) ≡ digits = take_at digits (10 ∷ rest) (2 * id_len k) n in
    let back : drop (2 * id_len k) (digits ++ 10 ∷ rest) ≡ 10 ∷ rest = drop_at digits (10 ∷ rest) (2 * id_len k) n in
    ap (λ d. id_before_newline (id_of_hex k d) (drop (2 * id_len k) (digits ++ 10 ∷ rest))) front ∙ ap (id_before_newline (id_of_hex k digits)) back ∙ ap (λ o. id_before_newline o (10 ∷ rest)) e

pub after_word_none : (word bytes : List ℕ) → ((rest : List ℕ) → bytes ≢ word ++ rest) → after_word word bytes ≡ None
after_word_none word bytes never = go (after_word word bytes) (after_word_found word bytes)
  where
    go : (o : Option (List ℕ)) → ((rest : List ℕ) → o ≡ Some rest → bytes ≡ word ++ rest) → o ≡ None
    go None found = refl
    go (Some rest) found = absurd (never rest (found rest refl))

-- what `strip_prefix` says
pub after_word_stripped : (word bytes : List ℕ) (r : Option (Bor (List ℕ))) → MatchOption r ((rest : List ℕ) → bytes ≢ word ++ rest) (λ x. bytes ≡ word ++ x.now) → option_copied r ≡ after_word word bytes
after_word_stripped word bytes None never = sym (after_word_none word bytes never)
after_word_stripped word bytes (Some x) e = sym (ap (after_word word) e ∙ after_word-append word x.now)

pub line_at_none : (bytes : List ℕ) → ((i : ℕ) → i < length bytes → get_or bytes i 0 ≡ 10 → ⊥) → line_at bytes ≡ None
line_at_none bytes never = go (line_at bytes) (line_at_found bytes)
  where
    go : (o : Option (List ℕ × List ℕ)) → ((r : List ℕ × List ℕ) → o ≡ Some r → AllByRecursion (λ b. b ≢ 10) r.0 × (bytes ≡ r.0 ++ 10 ∷ r.1)) → o ≡ None
    go None found = refl
    go (Some r) found =
        let whole : bytes ≡ r.0 ++ 10 ∷ r.1 = (found r refl).1 in
        let at : get_or bytes (length r.0) 0 ≡ 10 = ap (λ x. get_or x (length r.0) 0) whole ∙ get_or_at r.0 10 r.1 0 (length r.0) refl in
        absurd (never (length r.0) (omega (arith, ap length whole, length-append r.0 (10 ∷ r.1))) at)

pub line_at_first : (bytes : List ℕ) (n : ℕ) → n < length bytes → get_or bytes n 0 ≡ 10 → ((i : ℕ) → i < n → get_or bytes i 0 ≡ 10 → ⊥) → line_at bytes ≡ Some (take n bytes, drop (n + 1) bytes)
line_at_first bytes n l at before =
    let whole : bytes ≡ take n bytes ++ 10 ∷ drop (n + 1) bytes = sym (take-append-drop n bytes) ∙ ap (λ x. take n bytes ++ x) (drop_more bytes n 0 l ∙ ap (λ x. x ∷ drop (n + 1) bytes) at) in
    let fits : length (take n bytes) ≡ n = length-take-le n bytes (omega arith) in
    let all : AllByRecursion (λ b. b ≢ 10) (take n bytes) = recursion_from_All (λ b. b ≢ 10) (take n bytes) (All-from_get_or (λ b. b ≢ 10) (take n bytes) 0 (λ i h e. before i (omega arith) (sym (get_or-take n bytes i 0 (omega arith)) ∙ e))) in
    ap line_at whole ∙ line_at-append (take n bytes) (drop (n + 1) bytes) all

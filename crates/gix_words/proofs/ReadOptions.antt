-- The options that are read of printed options are these options.
use Rattle.std.proofs.Common.{◌≡◌, ◌+◌, ◌&&◌, ℕ, List, [], ◌∷◌, Bool, true, false, not, Option, Some, None, Ok, bytes_eq, refl, sym, ap, ◌∙◌}
use Rattle.std.proofs.lemmas.Bool.{cond-true, cond-false, and_parts}
use Rattle.std.proofs.lemmas.Slice.Eq.{bytes_eq-Decides}
use Rattle.std.specs.List.{list_all}
use Rattle.std.specs.Option.{option_map}
use Rattle.gix_words.specs.declared.words.Shown.{Shown}
use Rattle.gix_words.specs.Words.{Asked, WordReader, behind_option, begins_with_dash, changed_by, changed_by_value, either_of, option_of, value_option_of, valued_of}

abbrev pub begins_with : (name : List ℕ) → List (List ℕ) → Bool
begins_with name [] = false
begins_with name (word ∷ words) = bytes_eq word name

-- none of these names is the first word
abbrev pub no_first : (names words : List (List ℕ)) → Bool
no_first [] words = true
no_first (name ∷ names) words = not (begins_with name words) && no_first names words

-- the words ask this reader for this, and none of the names is the first of them
pub record IsRead (reader : WordReader) (names words : List (List ℕ)) (asked : Asked) : Type 0 where
  pub reads : (n : ℕ) → reader n words ≡ Ok asked
  pub absent : no_first names words ≡ true

not_true : (t : Bool) → not t ≡ true → t ≡ false
not_true true e = sym e
not_true false e = refl

pub none_first : (name : List ℕ) (names words : List (List ℕ)) → no_first (name ∷ names) words ≡ true → begins_with name words ≡ false
none_first name names words e = not_true (begins_with name words) (and_parts (not (begins_with name words)) (no_first names words) e).0

pub none_behind : (name : List ℕ) (names words : List (List ℕ)) → no_first (name ∷ names) words ≡ true → behind_option name words ≡ None
none_behind name names [] e = refl
none_behind name names (word ∷ words) e = cond-false (bytes_eq word name) _ _ (none_first name names (word ∷ words) e)

pub later_absent : (name : List ℕ) (names words : List (List ℕ)) → no_first (name ∷ names) words ≡ true → no_first names words ≡ true
later_absent name names words e = (and_parts (not (begins_with name words)) (no_first names words) e).1

-- no option is the first of words that begin with an id
pub other_word : (word name : List ℕ) → begins_with_dash word ≡ false → begins_with_dash name ≡ true → bytes_eq word name ≡ false
other_word word name plain dash = go (bytes_eq word name) refl
  where
    go : (t : Bool) → bytes_eq word name ≡ t → t ≡ false
    go true e = sym dash ∙ ap begins_with_dash (sym ((bytes_eq-Decides word name).0 e)) ∙ plain
    go false e = refl

pub plain_absent : (names : List (List ℕ)) (word : List ℕ) (words : List (List ℕ)) → list_all begins_with_dash names ≡ true → begins_with_dash word ≡ false → no_first names (word ∷ words) ≡ true
plain_absent [] word words all plain = refl
plain_absent (name ∷ names) word words all plain =
    let parts = and_parts (begins_with_dash name) (list_all begins_with_dash names) all in
    (λ k. not (other_word word name plain parts.0 k) && plain_absent names word words parts.1 plain k)

-- an option that is absent is passed by, and one that is there is taken
module _ (name : List ℕ) (change : Shown → Shown) (next other : WordReader) (names words : List (List ℕ)) where
  pub passed : no_first (name ∷ names) words ≡ true → (n : ℕ) → option_of name change next other n words ≡ other n words
  passed none n = ap (either_of change next other n words) (none_behind name names words none)

  pub taken : bytes_eq name name ≡ true → (n : ℕ) → option_of name change next other n (name ∷ words) ≡ changed_by change (next (n + 1) words)
  taken same n = ap (either_of change next other n (name ∷ words)) (cond-true (bytes_eq name name) (Some words) None same)

module _ {X : Type 0} (name : List ℕ) (read : List ℕ → Option X) (change : X → Shown → Shown) (next other : WordReader) (names words : List (List ℕ)) where
  pub passed_value : no_first (name ∷ names) words ≡ true → (n : ℕ) → value_option_of name read change next other n words ≡ other n words
  passed_value none n = ap (valued_of read change next other n words) (none_behind name names words none)

  pub taken_value : (text : List ℕ) (x : X) → bytes_eq name name ≡ true → read text ≡ Some x → (n : ℕ) → value_option_of name read change next other n (name ∷ text ∷ words) ≡ changed_by (change x) (next (n + 2) words)
  taken_value text x same is n =
      ap (valued_of read change next other n (name ∷ text ∷ words)) (cond-true (bytes_eq name name) (Some (text ∷ words)) None same)
      ∙ ap (λ (o : Option X). changed_by_value change next n (option_map (λ y. (y, words)) o)) is

-- Objects of one name.
use Rattle.std.proofs.Common.{◌≡◌, ◌≢◌, ◌⊎◌, ◌<◌, ◌^◌, ◌==◌, ℕ, Bool, true, false, List, [], ◌∷◌, ◌++◌, length, get_or, refl, sym, ◌∙◌, ap, subst, inl, inr, arith, eqb-true}
use Rattle.std.proofs.lemmas.Bool.{eqb-false}
use Rattle.std.proofs.lemmas.Fmt.{digits_decimal}
use Rattle.std.proofs.lemmas.Str.Parse.{IsNumeralModel}
use Rattle.std.specs.Fmt.{decimal}
use Rattle.std.specs.Str.Parse.{AllDigits, digits_value}
use Rattle.std.specs.Char.{digit_value}
use Rattle.std.specs.List.{AllByRecursion}
use Rattle.gix_hash.specs.Id.{kind_of, bytes_of, id_of}
use Rattle.gix_hash.specs.declared.Kind.{Kind as HashKind}
use Rattle.gix_hash.specs.declared.Kind.TheVariants as hash
use Rattle.gix_object.specs.declared.Kind.{Kind}
use Rattle.gix_object.specs.declared.Kind.TheVariants as kind
use Rattle.gix_names.specs.Named.{kind_word, name_text, hash_of, Collide, NamesAgree}

-- texts are split at the first of a byte in one way
split_same : (x : ℕ) (k l s t : List ℕ) → AllByRecursion (λ b. b ≢ x) k → AllByRecursion (λ b. b ≢ x) l → k ++ x ∷ s ≡ l ++ x ∷ t → (k ≡ l) × (s ≡ t)
split_same x [] [] s t p q e = (refl, cc)
split_same x [] (c ∷ l) s t p q e = absurd (q.0 (cc))
split_same x (c ∷ k) [] s t p q e = absurd (p.0 (cc))
split_same x (c ∷ k) (d ∷ l) s t p q e =
    let rest : (k ≡ l) × (s ≡ t) = split_same x k l s t p.1 q.1 (cc) in
    let same : k ≡ l = rest.0 in
    (cc, rest.1)

-- no digit is a byte 0
no_zero : (ds : List ℕ) → AllDigits 10 ds → AllByRecursion (λ b. b ≢ 0) ds
no_zero [] h = tt
no_zero (d ∷ ds) h = ((λ at. let no : digit_value 0 < 10 = subst (λ b. digit_value b < 10) at h.0 in omega (arith, no)), no_zero ds h.1)

own : IsNumeralModel (AllDigits 10) (digits_value 10)
own = record { to = λ ds h. h; from = λ ds h. h; same = λ ds h. refl }

same_or : (xs ys : List ℕ) → (xs ≡ ys) ⊎ (xs ≢ ys)
same_or [] [] = inl refl
same_or [] (y ∷ ys) = inr (λ e. cc)
same_or (x ∷ xs) [] = inr (λ e. cc)
same_or (x ∷ xs) (y ∷ ys) = go (x == y) refl (same_or xs ys)
  where
    go : (t : Bool) → (x == y) ≡ t → (xs ≡ ys) ⊎ (xs ≢ ys) → (x ∷ xs ≡ y ∷ ys) ⊎ (x ∷ xs ≢ y ∷ ys)
    go true h (inl e) = let at : x ≡ y = eqb-true x y h in inl cc
    go true h (inr n) = inr (λ e. n cc)
    go false h r = inr (λ e. eqb-false x y h cc)

word_spaceless : (k : Kind) → AllByRecursion (λ b. b ≢ 32) (kind_word k)
word_spaceless kind.Tree = (omega arith, (omega arith, (omega arith, (omega arith, tt))))
word_spaceless kind.Blob = (omega arith, (omega arith, (omega arith, (omega arith, tt))))
word_spaceless kind.Commit = (omega arith, (omega arith, (omega arith, (omega arith, (omega arith, (omega arith, tt))))))
word_spaceless kind.Tag = (omega arith, (omega arith, (omega arith, tt)))

abbrev second : List ℕ → ℕ
second word = get_or word 1 0

-- each kind has a word of its own
kind_back : (k l : Kind) → kind_word k ≡ kind_word l → k ≡ l
kind_back kind.Tree kind.Tree e = refl
kind_back kind.Tree kind.Blob e = absurd (omega (arith, ap second e))
kind_back kind.Tree kind.Commit e = absurd (omega (arith, ap second e))
kind_back kind.Tree kind.Tag e = absurd (omega (arith, ap second e))
kind_back kind.Blob kind.Tree e = absurd (omega (arith, ap second e))
kind_back kind.Blob kind.Blob e = refl
kind_back kind.Blob kind.Commit e = absurd (omega (arith, ap second e))
kind_back kind.Blob kind.Tag e = absurd (omega (arith, ap second e))
kind_back kind.Commit kind.Tree e = absurd (omega (arith, ap second e))
kind_back kind.Commit kind.Blob e = absurd (omega (arith, ap second e))
kind_back kind.Commit kind.Commit e = refl
kind_back kind.Commit kind.Tag e = absurd (omega (arith, ap second e))
kind_back kind.Tag kind.Tree e = absurd (omega (arith, ap second e))
kind_back kind.Tag kind.Blob e = absurd (omega (arith, ap second e))
kind_back kind.Tag kind.Commit e = absurd (omega (arith, ap second e))
kind_back kind.Tag kind.Tag e = refl

-- one text is hashed of one object
one_text : (k l : Kind) (a b : List ℕ) → length a < 2 ^ 64 → length b < 2 ^ 64 → name_text k a ≡ name_text l b → (k ≡ l) × (a ≡ b)
one_text k l a b m n e =
    let at_space : (kind_word k ≡ kind_word l) × (decimal (length a) ++ 0 ∷ a ≡ decimal (length b) ++ 0 ∷ b) = split_same 32 (kind_word k) (kind_word l) (decimal (length a) ++ 0 ∷ a) (decimal (length b) ++ 0 ∷ b) (word_spaceless k) (word_spaceless l) e in
    let at_zero : (decimal (length a) ≡ decimal (length b)) × (a ≡ b) = split_same 0 (decimal (length a)) (decimal (length b)) a b (no_zero _ (digits_decimal own (length a) m)) (no_zero _ (digits_decimal own (length b) n)) at_space.1 in
    (kind_back k l at_space.0, at_zero.1)

-- an id's bytes are the hash
hashed : (by : HashKind) (text : List ℕ) → bytes_of (id_of by (hash_of by text)) ≡ hash_of by text
hashed hash.Sha1 text = refl
hashed hash.Sha256 text = refl

pub agree : NamesAgree
agree i k l a b m n p q = go (same_or (name_text k a) (name_text l b))
  where
    go : (name_text k a ≡ name_text l b) ⊎ (name_text k a ≢ name_text l b) → ((k ≡ l) × (a ≡ b)) ⊎ Collide (kind_of i) (name_text k a) (name_text l b)
    go (inl same) = inl (one_text k l a b m n same)
    go (inr not) = inr (not, sym (hashed (kind_of i) (name_text k a)) ∙ ap bytes_of (sym p ∙ q) ∙ hashed (kind_of i) (name_text l b))

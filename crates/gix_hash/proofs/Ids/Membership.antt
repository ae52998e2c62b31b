-- Facts on ids, and on whether one is in a list.
use Rattle.std.proofs.Common.{ℕ, zero, suc, ◌≡◌, ◌<◌, ◌⊎◌, List, [], ◌∷◌, ◌++◌, true, false, ◌||◌, length, get_or, Contains, refl, sym, ap, subst, inl, inr, ⊎_elim, ◌∙◌, arith, is_eq, Less, Equal}
use Rattle.std.specs.Cmp.{IsTotalOrder, Equal-is, tied_itself}
use Rattle.std.specs.Cmp.Lexicographic.{nat_list_cmp_total}
use Rattle.std.specs.FinMap.{IsAntisymmetric, nat_cmp-IsAntisymmetric, slice_cmp-IsAntisymmetric}
use Rattle.std.proofs.lemmas.Bool.{false≢true, or_cases, or_right, or_left, false_from_ne_true}
use Rattle.std.proofs.Math.Bool.{or_assoc}
use Rattle.gix_hash.specs.declared.ObjectId.{ObjectId}
use Rattle.gix_hash.specs.declared.ObjectId.TheVariants as id
use Rattle.gix_hash.specs.Id.{id_cmp, is_same, is_among}

id_antisymm : (a b : ObjectId) → id_cmp a b ≡ Rattle.std.specs.Ordering.ordering_reverse (id_cmp b a)
id_antisymm (id.Sha1 a) (id.Sha1 b) = nat_list_cmp_total.antisymm a b
id_antisymm (id.Sha1 a) (id.Sha256 b) = refl
id_antisymm (id.Sha256 a) (id.Sha1 b) = refl
id_antisymm (id.Sha256 a) (id.Sha256 b) = nat_list_cmp_total.antisymm a b

id_trans : (a b c : ObjectId) → id_cmp a b ≡ Less → id_cmp b c ≡ Less → id_cmp a c ≡ Less
id_trans (id.Sha1 a) (id.Sha1 b) (id.Sha1 c) p q = nat_list_cmp_total.trans a b c p q
id_trans (id.Sha1 a) (id.Sha1 b) (id.Sha256 c) p q = refl
id_trans (id.Sha1 a) (id.Sha256 b) (id.Sha1 c) p q = cc
id_trans (id.Sha1 a) (id.Sha256 b) (id.Sha256 c) p q = refl
id_trans (id.Sha256 a) (id.Sha1 b) c p q = cc
id_trans (id.Sha256 a) (id.Sha256 b) (id.Sha1 c) p q = cc
id_trans (id.Sha256 a) (id.Sha256 b) (id.Sha256 c) p q = nat_list_cmp_total.trans a b c p q

id_congr : (a b c : ObjectId) → id_cmp a b ≡ Equal → id_cmp a c ≡ id_cmp b c
id_congr (id.Sha1 a) (id.Sha1 b) (id.Sha1 c) p = nat_list_cmp_total.congr a b c p
id_congr (id.Sha1 a) (id.Sha1 b) (id.Sha256 c) p = refl
id_congr (id.Sha1 a) (id.Sha256 b) c p = cc
id_congr (id.Sha256 a) (id.Sha1 b) c p = cc
id_congr (id.Sha256 a) (id.Sha256 b) (id.Sha1 c) p = refl
id_congr (id.Sha256 a) (id.Sha256 b) (id.Sha256 c) p = nat_list_cmp_total.congr a b c p

pub id_total : IsTotalOrder id_cmp
id_total = record { antisymm = id_antisymm; trans = id_trans; congr = id_congr }

pub id_apart : IsAntisymmetric id_cmp
id_apart (id.Sha1 a) (id.Sha1 b) e = ap id.Sha1 (slice_cmp-IsAntisymmetric nat_cmp-IsAntisymmetric a b e)
id_apart (id.Sha1 a) (id.Sha256 b) e = cc
id_apart (id.Sha256 a) (id.Sha1 b) e = cc
id_apart (id.Sha256 a) (id.Sha256 b) e = ap id.Sha256 (slice_cmp-IsAntisymmetric nat_cmp-IsAntisymmetric a b e)

pub same_is : (a b : ObjectId) → is_same a b ≡ true → a ≡ b
same_is a b e = id_apart a b ((Equal-is (id_cmp a b)).0 e)

pub same_itself : (a : ObjectId) → is_same a a ≡ true
same_itself a = ap is_eq (tied_itself id_total a)

pub same_from : (a b : ObjectId) → a ≡ b → is_same a b ≡ true
same_from a b e = subst (λ x. is_same a x ≡ true) e (same_itself a)

pub same_back : (a b : ObjectId) → is_same a b ≡ is_same b a
same_back a b = elim (is_same a b) as (λ t. is_same a b ≡ t → t ≡ is_same b a) [
  | true ↦ λ e. sym (same_from b a (sym (same_is a b e)))
  | false ↦ λ e. sym (false_from_ne_true _ (λ t. false≢true (sym e ∙ same_from a b (sym (same_is b a t)))))
] refl

-- membership
pub among-append : (i : ObjectId) (xs ys : List ObjectId) → is_among i (xs ++ ys) ≡ (is_among i xs || is_among i ys)
among-append i [] ys = refl
among-append i (x ∷ xs) ys = ap (λ b. is_same i x || b) (among-append i xs ys) ∙ sym (or_assoc (is_same i x) (is_among i xs) (is_among i ys))

pub among-one : (i x : ObjectId) → is_among i (x ∷ []) ≡ is_same i x
among-one i x = elim (is_same i x) as (λ t. (t || false) ≡ t) [ true ↦ refl | false ↦ refl ]

pub Contains-here : {X : Type 0} (x : X) (xs : List X) → Contains (x ∷ xs) x
Contains-here x xs = (0, (omega arith), refl)

pub Contains-there : {X : Type 0} (x y : X) (xs : List X) → Contains xs x → Contains (y ∷ xs) x
Contains-there x y xs h = (suc h.0, (let k : h.0 < length xs = h.1 in omega arith), h.2)

pub Contains-cons_cases : {X : Type 0} (x y : X) (xs : List X) → Contains (y ∷ xs) x → (y ≡ x) ⊎ Contains xs x
Contains-cons_cases {X} x y xs h = go h.0 h.1 h.2
  where
    go : (k : ℕ) → k < length (y ∷ xs) → get_or (y ∷ xs) k x ≡ x → (y ≡ x) ⊎ Contains xs x
    go zero b e = inl e
    go (suc k) b e = inr (k, (omega arith), e)

pub no_member : {X : Type 0} (x : X) → Contains [] x → ⊥
no_member x h = let k : h.0 < 0 = h.1 in omega arith

pub among_from : (i : ObjectId) (xs : List ObjectId) → Contains xs i → is_among i xs ≡ true
among_from i [] h = absurd (no_member i h)
among_from i (x ∷ xs) h = ⊎_elim (λ e. or_left _ _ (same_from i x (sym e))) (λ t. or_right (is_same i x) _ (among_from i xs t)) (Contains-cons_cases i x xs h)

pub among_is : (i : ObjectId) (xs : List ObjectId) → is_among i xs ≡ true → Contains xs i
among_is i [] e = absurd (false≢true e)
among_is i (x ∷ xs) e = ⊎_elim (λ s. subst (λ y. Contains (y ∷ xs) i) (same_is i x s) (Contains-here i xs)) (λ t. Contains-there i x xs (among_is i xs t)) (or_cases _ _ e)

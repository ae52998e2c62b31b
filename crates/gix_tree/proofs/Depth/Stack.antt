-- The trees that a walk in depth is in.
use Rattle.std.proofs.Common.{◌≡◌, ℕ, zero, suc, ◌+◌, ◌-◌, ◌<◌, ◌≤◌, Bool, true, false, ◌||◌, List, [], ◌∷◌, ◌++◌, length, drop, get_or, reverse, refl, sym, ap, ◌∙◌, subst, arith, drop-drop}
use Rattle.gix_tree.proofs.Common.{list_any, ObjectId, is_same, is_among, IsEndOf, eq_is_same, Items, IsWithin, ids_down, items_at}
use Rattle.std.proofs.lemmas.List.{drop_all, reverse-append}
use Rattle.std.proofs.lemmas.List.Folds.{list_any-append}
use Rattle.std.proofs.Math.Bool.{or-false, or-true}
use Rattle.gix_hash.specs.contracts.ObjectIdPartialEq.TheImpl.{eq-value}
use Rattle.gix_object.proofs.TreeText.Ends.{drop_end}
use Rattle.gix_tree.specs.declared.depthfirst.Tree.{Tree}

-- the next entry of each tree begins in its bytes or behind them all
abbrev pub AreWithin : List Tree → Type 0
AreWithin [] = Unit {0}
AreWithin (t ∷ trees) = IsWithin t × AreWithin trees

-- what is left of a tree above: the known ids down to it, and its items behind the entry that was gone into
abbrev pub Above : Type 0
Above = List ObjectId × Items

-- what is left of trees, the nearest first
abbrev pub left_above : List Tree → List Above
left_above [] = []
left_above (t ∷ trees) = (ids_down (t ∷ trees), items_at t) ∷ left_above trees

pub last_first : {X : Type 0} (xs : List X) (x : X) → reverse (xs ++ x ∷ []) ≡ x ∷ reverse xs
last_first xs x = reverse-append xs (x ∷ [])

-- whether the id is that of a tree among these
abbrev pub is_of : ObjectId → List Tree → Bool
is_of i trees = list_any (λ t. is_same i t.oid) trees

either : (b c : Bool) → (b || (c || false)) ≡ (c || b)
either b c = grind arith

of_back : (i : ObjectId) (trees : List Tree) → is_of i (reverse trees) ≡ is_of i trees
of_back i [] = refl
of_back i (t ∷ trees) =
    ap (λ l. is_of i l) (reverse-append (t ∷ []) trees) ∙ list_any-append (λ u. is_same i u.oid) (reverse trees) (t ∷ [])
    ∙ either (is_of i (reverse trees)) (is_same i t.oid) ∙ ap (λ b. is_same i t.oid || b) (of_back i trees)

among_ids : (i : ObjectId) (trees : List Tree) → is_among i (ids_down trees) ≡ is_of i trees
among_ids i [] = refl
among_ids i (t ∷ trees) = ap (λ b. is_same i t.oid || b) (among_ids i trees)

pub among_back : (i : ObjectId) (trees : List Tree) → is_among i (ids_down (reverse trees)) ≡ is_of i trees
among_back i trees = among_ids i (reverse trees) ∙ of_back i trees

pub told_same : (a b : ObjectId) (r : Bool) → r ≡ eq-value.it a b → is_same a b ≡ r
told_same a b r e = ap (λ f. f a b) (sym eq_is_same) ∙ sym e

first_of : (i : ObjectId) (trees : List Tree) (k : ℕ) (t : Tree) → k < length trees → t ≡ get_or trees k t → is_of i (drop k trees) ≡ (is_same i t.oid || is_of i (drop (suc k) trees))
first_of i [] k t h e = absurd (omega (arith, h))
first_of i (u ∷ trees) zero t h e = ap (λ x. is_same i x.oid || is_of i trees) (sym e)
first_of i (u ∷ trees) (suc k) t h e = first_of i trees k t (omega (arith, h)) e

-- a tree that has the id is among the trees from its place on
pub found_of : (i : ObjectId) (trees : List Tree) (k : ℕ) (t : Tree) → k < length trees → t ≡ get_or trees k t → is_same i t.oid ≡ true → is_of i (drop k trees) ≡ true
found_of i trees k t h e s = first_of i trees k t h e ∙ ap (λ b. b || is_of i (drop (suc k) trees)) s

pub others_of : (i : ObjectId) (trees : List Tree) (k : ℕ) (t : Tree) → k < length trees → t ≡ get_or trees k t → is_same i t.oid ≡ false → is_of i (drop k trees) ≡ is_of i (drop (k + 1) trees)
others_of i trees k t h e s =
    let one : suc k ≡ k + 1 = omega arith in
    first_of i trees k t h e ∙ ap (λ b. b || is_of i (drop (suc k) trees)) s ∙ ap (λ n. is_of i (drop n trees)) one

-- the id is that of one of the trees
pub known_found : (i root : ObjectId) (trees : List Tree) → is_of i trees ≡ true → true ≡ is_among i (root ∷ ids_down (reverse trees))
known_found i root trees h = sym (ap (λ b. is_same i root || b) (among_back i trees ∙ h) ∙ or-true (is_same i root))

-- no tree above has the id, and so the comparison with the last decides
pub known_last : (i root : ObjectId) (trees : List Tree) (k : ℕ) (r : Bool) → length trees ≤ k → is_of i (drop k trees) ≡ is_of i trees → r ≡ eq-value.it i root → r ≡ is_among i (root ∷ ids_down (reverse trees))
known_last i root trees k r past same e =
    let none : is_of i trees ≡ false = sym same ∙ ap (λ l. is_of i l) (drop_all k trees past) in
    sym (ap (λ b. is_same i root || b) (among_back i trees ∙ none) ∙ or-false (is_same i root) ∙ told_same i root r e)

-- an end of an end is an end
pub end_of_end : (bytes more all : List ℕ) → IsEndOf bytes more → IsEndOf more all → IsEndOf bytes all
end_of_end bytes more all h g =
    let m = length all - length more in
    let k = length more - length bytes in
    let is : drop (m + k) all ≡ bytes = sym (drop-drop k m all) ∙ ap (λ l. drop k l) g ∙ h in
    subst (λ l. IsEndOf l all) is (drop_end (m + k) all)

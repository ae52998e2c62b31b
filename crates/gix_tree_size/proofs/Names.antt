-- Which tree has the first name that is none, in the order of visits.
use Rattle.std.proofs.lemmas.Bool.{or_parts}
use Rattle.std.proofs.Common.{◌≡◌, ◌≢◌, ◌==◌, ◌||◌, not, ℕ, List, [], ◌∷◌, ◌++◌, Bool, true, false, Option, Some, None, refl, sym, ap, subst, ◌∙◌, append_assoc, eqb-true}
use Rattle.std.specs.List.{AllByRecursion, list_any}
use Rattle.gix_hash.specs.declared.ObjectId.{ObjectId}
use Rattle.gix_tree.specs.Paths.{HaveNames, IsName}
use Rattle.gix_tree.specs.Visits.{Visit}
use Rattle.gix_tree.proofs.All.{all_both}
use Rattle.gix_tree_size.specs.Survey.{IsFirstMisnamed, is_name}
use Rattle.gix_tree_size.specs.Inside.Surveyor.{misnamed_by}

no_slash : (name : List ℕ) → list_any (λ c. c == 47) name ≡ false → AllByRecursion (λ c. c ≢ 47) name
no_slash [] e = tt
no_slash (b ∷ name) e = let both = or_parts (b == 47) (list_any (λ c. c == 47) name) e in (λ is. differs b both.0 is, no_slash name both.1)
  where
    differs : (b : ℕ) → (b == 47) ≡ false → b ≡ 47 → ⊥
    differs b e is = let no : (47 == 47) ≡ false = subst (λ c. (c == 47) ≡ false) is e in cc

some_slash : (name : List ℕ) → list_any (λ c. c == 47) name ≡ true → AllByRecursion (λ c. c ≢ 47) name → ⊥
some_slash [] e h = cc
some_slash (b ∷ name) e h = go (some_slash name) (b == 47) refl e
  where
    go : (list_any (λ c. c == 47) name ≡ true → AllByRecursion (λ c. c ≢ 47) name → ⊥) → (t : Bool) → (b == 47) ≡ t → t || list_any (λ c. c == 47) name ≡ true → ⊥
    go rest true is e = h.0 (eqb-true b 47 is)
    go rest false is e = rest e h.1

not_is : (t u : Bool) → not t ≡ u → t ≡ not u
not_is true u e = cc
not_is false u e = cc

pub is_named : (name : List ℕ) → is_name name ≡ true → IsName name
is_named [] e = cc
is_named (b ∷ name) e = no_slash (b ∷ name) (not_is (list_any (λ c. c == 47) (b ∷ name)) true e)

is_unnamed : (name : List ℕ) → is_name name ≡ false → IsName name → ⊥
is_unnamed [] e h = h
is_unnamed (b ∷ name) e h = some_slash (b ∷ name) (not_is (list_any (λ c. c == 47) (b ∷ name)) false e) h

-- what is found of these visits, where this was found before
abbrev pub Tells : Option ObjectId → List Visit → Option ObjectId → Type 0
Tells (Some j) visits found = found ≡ Some j
Tells None visits found = IsFirstMisnamed visits found

pub tells_none : (m : Option ObjectId) → Tells m [] m
tells_none (Some j) = refl
tells_none None = tt

pub tells_names : (m : Option ObjectId) (visits : List Visit) → (m ≡ None → HaveNames visits) → Tells m visits m
tells_names (Some j) visits h = refl
tells_names None visits h = h refl

pub tells_one : (v : Visit) (i : ObjectId) (up : List ObjectId) → v.place.ids ≡ i ∷ up → (m : Option ObjectId) → Tells m (v ∷ []) (misnamed_by (is_name v.entry.name) m i)
tells_one v i up k (Some j) = refl
tells_one v i up k None = go (is_name v.entry.name) refl
  where
    go : (b : Bool) → is_name v.entry.name ≡ b → Tells None (v ∷ []) (misnamed_by b None i)
    go true e = (is_named v.entry.name e, tt)
    go false e = ([], [], v, up, refl, tt, is_unnamed v.entry.name e, k)

pub tells_both : (m f g : Option ObjectId) (xs ys : List Visit) → Tells m xs f → Tells f ys g → Tells m (xs ++ ys) g
tells_both (Some j) f g xs ys a b = subst (λ x. Tells x ys g) a b
tells_both None None None xs ys a b = all_both (λ v. IsName v.entry.name) xs ys a b
tells_both None None (Some j) xs ys a b =
    (xs ++ b.0, b.1, b.2, b.3, ap (λ l. xs ++ l) b.4 ∙ sym (append_assoc xs b.0 (b.2 ∷ b.1)), all_both (λ v. IsName v.entry.name) xs b.0 a b.5, b.6, b.7)
tells_both None (Some k) g xs ys a b =
    subst (λ x. Tells None (xs ++ ys) x) (sym b) (a.0, a.1 ++ ys, a.2, a.3, ap (λ l. l ++ ys) a.4 ∙ append_assoc a.0 (a.2 ∷ a.1) ys, a.5, a.6, a.7)

-- what none is found of has names
pub tells_all : (m : Option ObjectId) (visits : List Visit) (found : Option ObjectId) → Tells m visits found → found ≡ None → (m ≡ None) × HaveNames visits
tells_all (Some j) visits found t none = let no : Some j ≡ None = sym t ∙ none in cc
tells_all None visits None t none = (refl, t)
tells_all None visits (Some j) t none = cc

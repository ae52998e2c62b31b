-- Trees that wait or were left, each with its place, seen by their ids alone: the first of them, and the others.
use Rattle.std.proofs.Common.{◌≡◌, List, [], ◌∷◌, map, refl, sym, ap, ◌∙◌}
use Rattle.gix_tree.proofs.Common.{ObjectId, Place}

-- each has something more than its place, `what` of what is seen; `ids` of it are the known ids down to the tree
module _ {B Y : Type 0} (seen : Place × B → Y) (ids : Y → List ObjectId) (what : Y → B) where
  pub record First (trees : List (Place × B)) (y : Y) (ys : List Y) : Type 0 where
    pub place : Place
    pub others : List (Place × B)
    pub is : trees ≡ (place, what y) ∷ others
    pub known : place.ids ≡ ids y
    pub same : map seen others ≡ ys

  pub first_seen : ((t : Place × B) → ids (seen t) ≡ t.0.ids) → ((t : Place × B) → what (seen t) ≡ t.1) → (trees : List (Place × B)) (y : Y) (ys : List Y) → map seen trees ≡ y ∷ ys → First trees y ys
  first_seen of_ids of_what [] y ys e = cc
  first_seen of_ids of_what (t ∷ trees) y ys e =
      let front : seen t ≡ y = cc in
      let rest : map seen trees ≡ ys = cc in
      let w : t.1 ≡ what y = sym (of_what t) ∙ ap what front in
      record { place = t.0; others = trees; is = λ j. (t.0, w j) ∷ trees; known = sym (of_ids t) ∙ ap ids front; same = rest }

pub none_seen : {X Y : Type 0} (seen : X → Y) (xs : List X) → map seen xs ≡ [] → xs ≡ []
none_seen seen [] e = refl
none_seen seen (x ∷ xs) e = cc

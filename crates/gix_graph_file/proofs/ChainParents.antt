-- Parents that are read one after the other.
use Rattle.std.proofs.Common.{◌≡◌, ◌≢◌, ℕ, List, [], ◌∷◌, ◌++◌, Option, Some, None, refl, sym, ap, ◌∙◌, append_assoc, ne_eqb}
use Rattle.gix_graph_file.proofs.Common.{ParentPlace, Parents, no_parent, place_named, with_parent, second_said, parents_said, joined}

-- one more parent is read
pub joined-more : (read next : List ParentPlace) (p : ParentPlace) (said : Option Parents) → next ≡ read ++ (p ∷ []) → joined next said ≡ joined read (with_parent p said)
joined-more read next p None next_is = refl
joined-more read next p (Some more) next_is = ap (λ (x : List ParentPlace). Some (x, more.1)) (ap (λ (x : List ParentPlace). x ++ more.0) next_is ∙ append_assoc read (p ∷ []) more.0)

-- the first parent is read
pub parents-second : (n at first second : ℕ) (words : List ℕ) (read next : List ParentPlace) → first ≢ no_parent → next ≡ read ++ (place_named n first ∷ [])
    → joined read (parents_said n at first second words) ≡ joined next (second_said n at second words)
parents-second n at first second words read next some next_is = rw (ne_eqb first no_parent some) (sym (joined-more read next (place_named n first) (second_said n at second words) next_is))

-- What revisions stand for, so far.
use Rattle.std.proofs.Common.{◌≡◌, ◌++◌, ◌∷◌, List, [], flat_map, sym, ap, ◌∙◌, append-nil}
use Rattle.std.proofs.lemmas.Grind.{flat_map-append}

-- what one more element gives comes behind what those before gave
pub one_more : {X A : Type 0} (f : X → List A) (xs more : List X) (x : X) (old new : List A) → more ≡ xs ++ x ∷ [] → old ≡ flat_map f xs → new ≡ old ++ f x → new ≡ flat_map f more
one_more f xs more x old new m o n =
    n ∙ ap (λ l. l ++ f x) o ∙ ap (λ l. flat_map f xs ++ l) (sym (append-nil (f x))) ∙ sym (flat_map-append f xs (x ∷ [])) ∙ ap (flat_map f) (sym m)

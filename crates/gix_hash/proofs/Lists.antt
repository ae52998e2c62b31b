-- Facts on lists of anything.
use Rattle.std.proofs.Common.{◌≡◌, List, [], ◌∷◌, length, slice_get, Bool, true, cond, filter, None, Contains, refl, ap, ⊎_elim, ◌∙◌}
use Rattle.std.proofs.lemmas.List.Elements.{All-contains, All-contains_itself, All-filter}
use Rattle.gix_hash.proofs.Ids.Membership.{Contains-here, Contains-there, Contains-cons_cases, no_member}

-- a list of one has one member
pub only_member : {X : Type 0} (x y : X) → Contains (x ∷ []) y → x ≡ y
only_member x y h = ⊎_elim (λ e. e) (λ t. absurd (no_member y t)) (Contains-cons_cases y x [] h)

pub past_end : {X : Type 0} (xs : List X) → slice_get xs (length xs) ≡ None
past_end [] = refl
past_end (x ∷ xs) = past_end xs

pub filter_within : {X : Type 0} (p : X → Bool) (xs : List X) (x : X) → Contains (filter p xs) x → Contains xs x
filter_within p xs x h = All-contains (Contains xs) (filter p xs) x (All-filter p (Contains xs) xs (All-contains_itself xs)) h

pub filter_all : {X : Type 0} (p : X → Bool) (xs : List X) → ((x : X) → Contains xs x → p x ≡ true) → filter p xs ≡ xs
filter_all p [] h = refl
filter_all p (x ∷ xs) h = ap (λ b. cond b (x ∷ filter p xs) (filter p xs)) (h x (Contains-here x xs)) ∙ ap (λ ys. x ∷ ys) (filter_all p xs (λ y c. h y (Contains-there y x xs c)))

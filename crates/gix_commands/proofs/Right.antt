-- What a run may have written by the page of given objects and rows, in each history of the objects that were read; and so has a run of
-- which a beginning was written.
use Rattle.std.proofs.Common.{◌≡◌, ℕ, List, [], ◌∷◌, ◌++◌, length, Option, Some, None, Result, Ok, Err, refl, ap, subst, ⊎_elim, inl, inr, ◌⊎◌, ◌∙◌, arith, append_assoc, append-nil, length-append}
use Rattle.gix_commands.proofs.Common.{Appends, Fault}
use Rattle.gix_words.specs.declared.fault.Fault.TheVariants as fault
use Rattle.gix_statement.specs.WholeStatement.{Objects, Row, InEach, HasBegun, IsCutOff, Serves}

none_left : (xs : List ℕ) → length xs ≡ 0 → xs ≡ []
none_left [] e = refl
none_left (x ∷ xs) e = absurd (omega (arith, e))

-- what is between the old bytes and the old bytes is nothing
nothing_more : (old new : Option (List ℕ)) (some more : List ℕ) → Appends old new some → Appends new old more → new ≡ old
nothing_more None None some more a b = refl
nothing_more None (Some new) some more a b = absurd b
nothing_more (Some old) None some more a b = absurd a
nothing_more (Some old) (Some new) some more a b =
    let none : some ≡ [] = none_left some (omega (arith, ap length a, ap length b, length-append old some, length-append new more)) in
    ap (λ xs. Some xs) (a ∙ ap (λ xs. old ++ xs) none ∙ append-nil old)

then : (old new full : Option (List ℕ)) (some more : List ℕ) → Appends old new some → Appends new full more → Appends old full (some ++ more)
then None new full some more a b = tt
then (Some old) None full some more a b = absurd a
then (Some old) (Some new) None some more a b = absurd b
then (Some old) (Some new) (Some full) some more a b = b ∙ ap (λ xs. xs ++ more) a ∙ append_assoc old some more

-- by the page: what words ask for was written; or after a failure nothing, or a beginning of it, in whole lines unless the writer failed
abbrev pub IsRight : (read given : Objects) → List Row → List (List ℕ) → (old : Option (List ℕ)) → Result (Unit {0}) Fault → (new : Option (List ℕ)) → Type 0
IsRight read given rows words old (Ok done) new = InEach read [] (λ ps ts. Serves given rows ps ts old new words)
IsRight read given rows words old (Err e) new =
    (new ≡ old) ⊎ InEach read [] (λ ps ts. HasBegun given rows ps ts old new words ⊎ ((e ≡ fault.Write) × IsCutOff given rows ps ts old new words))

module _ (read given : Objects) (rows : List Row) (words : List (List ℕ)) (old : Option (List ℕ)) where
  abbrev RightSo : Result (Unit {0}) Fault → Option (List ℕ) → Type 0
  RightSo = IsRight read given rows words old

  pub begun_right : (e : Fault) (new : Option (List ℕ)) → InEach read [] (λ ps ts. HasBegun given rows ps ts old new words) → RightSo (Err e) new
  begun_right e new each = inr (λ ps ts h. inl (each ps ts h))

  -- a beginning of what is right
  pub cut_right : (answer : Result (Unit {0}) Fault) (full new : Option (List ℕ)) (some more : List ℕ) → RightSo answer full → Appends old new some → Appends new full more → RightSo (Err fault.Write) new
  cut_right (Ok done) full new some more each a b = inr (λ ps ts h. inr (refl, (full, some, more, a, b, inl (each ps ts h))))
  cut_right (Err e) full new some more (inl same) a b = inl (nothing_more old new some more a (subst (λ o. Appends new o more) same b))
  cut_right (Err e) full new some more (inr each) a b = inr (λ ps ts h. inr (
    refl,
    ⊎_elim
        (λ begun. (full, some, more, a, b, inr begun))
        (λ cut. (cut.1.0, some, more ++ cut.1.2, a, then new full cut.1.0 more cut.1.2 b cut.1.4, cut.1.5))
        (each ps ts h),
  ))

-- What holds along a list in which each comes in its turn, whatever relation says what comes next.
use Rattle.std.proofs.Common.{◌≡◌, ◌≤◌, ◌⊎◌, List, [], ◌∷◌, ◌++◌, length, take, Contains, refl, sym, ap, subst, inl, inr, ⊎_elim, ◌∙◌, arith, append_assoc, append-nil, length-take, take_all}
use Rattle.std.proofs.lemmas.List.Elements.{Contains-append_left, Contains-push}
use Rattle.gix_revwalk.proofs.Common.{ObjectId, IsBeginningBy, IsListBy, Contains-cons_cases, no_member}
use Rattle.gix_revwalk.specs.Ids.{AreDistinct}

-- a cut of a list and one more is at the last, or before it
cut_more : {X : Type 0} (ids : List X) (i : X) (taken rest : List X) (j : X) → ids ++ i ∷ [] ≡ taken ++ j ∷ rest → ((ids ≡ taken) × (i ≡ j)) ⊎ ((more : List X) × (ids ≡ taken ++ j ∷ more))
cut_more [] i [] rest j e = inl (refl, cc)
cut_more [] i (x ∷ []) rest j e = cc
cut_more [] i (x ∷ y ∷ taken) rest j e = cc
cut_more (x ∷ ids) i [] rest j e = inr (ids, let s : x ≡ j = cc in ap (λ y. y ∷ ids) s)
cut_more (x ∷ ids) i (y ∷ taken) rest j e =
    let s : x ≡ y = cc in
    ⊎_elim (λ last. inl ((λ k. s k ∷ last.0 k), last.1)) (λ before. inr (before.0, (λ k. s k ∷ before.1 k))) (cut_more ids i taken rest j cc)

pub on : {X : Type 0} {ids : List X} (taken rest : List X) (i : X) → ids ≡ taken ++ i ∷ rest → ids ≡ (taken ++ i ∷ []) ++ rest
on taken rest i e = e ∙ sym (append_assoc taken (i ∷ []) rest)

module _ {X : Type 0} (Next : List X → X → Type 0) where
  pub begins_empty : IsBeginningBy Next []
  begins_empty [] rest i e = cc
  begins_empty (x ∷ taken) rest i e = cc

  pub begins_more : (ids : List X) (i : X) → IsBeginningBy Next ids → Next ids i → IsBeginningBy Next (ids ++ i ∷ [])
  begins_more ids i h n taken rest j e = ⊎_elim
      (λ last. subst (Next taken) last.1 (subst (λ xs. Next xs i) last.0 n))
      (λ before. h taken before.0 j before.1) (cut_more ids i taken rest j e)

  -- the first of a beginning are one
  pub begins_less : (ids more : List X) → IsBeginningBy Next (ids ++ more) → IsBeginningBy Next ids
  begins_less ids more h taken rest i e = h taken (rest ++ more) i (ap (λ xs. xs ++ more) e ∙ append_assoc taken (i ∷ rest) more)

  -- what each leaves is so behind all
  module _ (Keep : List X → Type 0) (goes : (taken : List X) (i : X) → Keep taken → Next taken i → Keep (taken ++ i ∷ [])) (first : Keep []) where
    kept_from : (ids taken rest : List X) → IsBeginningBy Next ids → ids ≡ taken ++ rest → Keep taken → Keep ids
    kept_from ids taken [] h e k = subst Keep (sym (e ∙ append-nil taken)) k
    kept_from ids taken (i ∷ rest) h e k = kept_from ids (taken ++ i ∷ []) rest h (on taken rest i e) (goes taken i k (h taken rest i e))

    pub kept_along : (ids : List X) → IsBeginningBy Next ids → Keep ids
    kept_along ids h = kept_from ids [] ids h refl first

    -- so each comes as is known of it behind what was left
    pub begins_as : (R : List X → X → Type 0) → ((taken : List X) (i : X) → Keep taken → Next taken i → R taken i) → (ids : List X) → IsBeginningBy Next ids → IsBeginningBy R ids
    begins_as R so ids h taken rest i e = so taken i (kept_along taken (begins_less taken (i ∷ rest) (subst (IsBeginningBy Next) e h))) (h taken rest i e)

-- where what comes next wasn't taken, no id comes twice
pub once : (Next : List ObjectId → ObjectId → Type 0) → ((taken : List ObjectId) (i : ObjectId) → Next taken i → Contains taken i → ⊥) → (ids : List ObjectId) → IsBeginningBy Next ids → AreDistinct ids
once Next apart ids h = (go [] ids refl).0
  where
    go : (taken rest : List ObjectId) → ids ≡ taken ++ rest → AreDistinct rest × ((i : ObjectId) → Contains rest i → Contains taken i → ⊥)
    go taken [] e = (tt, λ i c. absurd (no_member i c))
    go taken (i ∷ rest) e =
        let more = go (taken ++ i ∷ []) rest (on taken rest i e) in (
          (λ c. more.1 i c (Contains-push taken i), more.0),
          λ j c t. ⊎_elim
              (λ s. apart taken i (h taken rest i e) (subst (Contains taken) (sym s) t))
              (λ later. more.1 j later (Contains-append_left taken (i ∷ []) j t)) (Contains-cons_cases j i rest c),
        )

-- where one at most comes next, a beginning is the first of any list, and there is one list
module _ {X : Type 0} (Next : List X → X → Type 0) (decided : (taken : List X) (i j : X) → Next taken i → Next taken j → i ≡ j) where
  pub one_beginning : (ids whole : List X) → IsBeginningBy Next ids → IsListBy Next whole → ids ≡ take (length ids) whole
  one_beginning ids whole h k = go [] ids whole refl refl
    where
      go : (taken rest others : List X) → ids ≡ taken ++ rest → whole ≡ taken ++ others → rest ≡ take (length rest) others
      go taken [] others e f = refl
      go taken (i ∷ rest) [] e f = absurd (k.ends i (subst (λ xs. Next xs i) (sym (f ∙ append-nil taken)) (h taken rest i e)))
      go taken (i ∷ rest) (j ∷ others) e f =
          let same : i ≡ j = decided taken i j (h taken rest i e) (k.begins taken others j f) in
          (λ n. same n ∷ go (taken ++ i ∷ []) rest others (on taken rest i e) (on taken others i (f ∙ ap (λ x. taken ++ x ∷ others) (sym same))) n)

  pub one_list : (ids those : List X) → IsListBy Next ids → IsListBy Next those → ids ≡ those
  one_list ids those h k =
      let e : ids ≡ take (length ids) those = one_beginning ids those h.begins k in
      let f : those ≡ take (length those) ids = one_beginning those ids k.begins h in
      let shorter : length those ≤ length ids = omega (arith, ap length f, length-take (length those) ids) in
      e ∙ take_all (length ids) those shorter

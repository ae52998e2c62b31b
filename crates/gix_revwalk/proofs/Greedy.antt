-- Where it is decided which new id of finitely many comes next, there is a list to its end.
use Rattle.std.proofs.Common.{◌≡◌, ◌<◌, ℕ, zero, suc, List, [], ◌∷◌, ◌++◌, length, false, true, ◌||◌, Option, Some, None, MatchOption, ap, ◌∙◌, arith, le_refl}
use Rattle.std.proofs.Math.Bool.{or_comm}
use Rattle.gix_revwalk.proofs.Common.{ObjectId, IsBeginningBy, IsListBy, is_same, is_among, among-append, among-one}
use Rattle.gix_revwalk.proofs.Beginnings.{begins_empty, begins_more}
use Rattle.gix_revwalk.proofs.NewIds.{fresh, fresh_agree, new_less}

-- what comes next, or None where nothing has P
abbrev pub Picks : (P Next : List ObjectId → ObjectId → Type 0) → List ObjectId → Type 0
Picks P Next taken = (o : Option ObjectId) × MatchOption o ((i : ObjectId) → P taken i → ⊥) (Next taken)

-- where nothing comes next nothing has P
pub none_has : (P Next : List ObjectId → ObjectId → Type 0) (taken : List ObjectId) → Picks P Next taken → ((i : ObjectId) → Next taken i → ⊥) → (i : ObjectId) → P taken i → ⊥
none_has P Next taken picks ends = go picks.0 picks.1
  where
    go : (o : Option ObjectId) → MatchOption o ((i : ObjectId) → P taken i → ⊥) (Next taken) → (i : ObjectId) → P taken i → ⊥
    go None none = none
    go (Some j) next = λ i p. ends j next

-- What is known of the ids taken is known of them with the next one, which is among all ids, and not among those taken.
pub record GoesOn (all : List ObjectId) (Fits : List ObjectId → Type 0) (taken : List ObjectId) (i : ObjectId) : Type 0 where
  pub known : is_among i all ≡ true
  pub is_new : is_among i taken ≡ false
  pub fits : Fits (taken ++ i ∷ [])

module _ (all : List ObjectId) (P Next : List ObjectId → ObjectId → Type 0) (Fits : List ObjectId → Type 0) (within : (taken : List ObjectId) (i : ObjectId) → Fits taken → Next taken i → P taken i) (picks : (taken : List ObjectId) → Fits taken → Picks P Next taken)
    (goes : (taken : List ObjectId) (i : ObjectId) → Fits taken → Next taken i → GoesOn all Fits taken i) where
  -- the ids that are left
  abbrev left : List ObjectId → ℕ
  left taken = length (fresh (λ j. is_among j taken) all)

  -- one id fewer is left
  falls : (taken : List ObjectId) (i : ObjectId) → GoesOn all Fits taken i → suc (left (taken ++ i ∷ [])) ≡ left taken
  falls taken i g =
      ap (λ xs. suc (length xs)) (fresh_agree (λ j. is_among j (taken ++ i ∷ [])) (λ j. is_same j i || is_among j taken) all (λ j n. among-append j taken (i ∷ []) ∙ ap (λ b. is_among j taken || b) (among-one j i) ∙ or_comm (is_among j taken) (is_same j i)))
      ∙ new_less (λ j. is_among j taken) all i g.known g.is_new

  list_from : (n : ℕ) (taken : List ObjectId) → left taken < n → Fits taken → IsBeginningBy Next taken → (ids : List ObjectId) × IsListBy Next ids
  list_from zero taken few fits begins = absurd (omega arith)
  list_from (suc n) taken few fits begins = go (λ i. list_from n (taken ++ i ∷ [])) (picks taken fits).0 (picks taken fits).1
    where
      go : ((i : ObjectId) → left (taken ++ i ∷ []) < n → Fits (taken ++ i ∷ []) → IsBeginningBy Next (taken ++ i ∷ []) → (ids : List ObjectId) × IsListBy Next ids)
          → (o : Option ObjectId) → MatchOption o ((i : ObjectId) → P taken i → ⊥) (Next taken) → (ids : List ObjectId) × IsListBy Next ids
      go more None none = (taken, record { begins = begins; ends = λ i n. none i (within taken i fits n) })
      go more (Some i) next =
          let g : GoesOn all Fits taken i = goes taken i fits next in
          let f : suc (left (taken ++ i ∷ [])) ≡ left taken = falls taken i g in
          more i (omega arith) g.fits (begins_more Next taken i begins next)

  pub some_list : Fits [] → (ids : List ObjectId) × IsListBy Next ids
  some_list fits = list_from (suc (left [])) [] (le_refl _) fits (begins_empty Next)

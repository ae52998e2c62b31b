-- Behind the first step a walk takes the same steps whatever its hidden tips are, and it is never at its first step again.
use Rattle.std.proofs.Common.{◌≡◌, List, Bool, true, Option, Result, sym, ◌∙◌, true≢false}
use Rattle.gix_simple.proofs.Common.{ObjectId, Objects, Info, Pending, Error, SimpleWalk, Takes, by_row, by_store, not_found, Chooses, first, best, Steps, ended, took, Next, initial, later}
use Rattle.gix_simple.specs.Walk.{no_memory}
use Rattle.gix_simple.proofs.LentText.{treats_all_with, concludes_with}
use Rattle.gix_simple.proofs.Moves.{next_moves, moves_begun}

module _ {F P : Type 0} (objects : F → Objects) (faulty : F → ObjectId → Type 0) (answers : P → ObjectId → Bool → P → Type 0) (tips : List ObjectId) where
  -- a walk with other hidden tips
  abbrev with_tips : SimpleWalk F P → SimpleWalk F P
  with_tips walk = record walk { hidden_tips = tips }

  takes_with : {old : SimpleWalk F P} {p : Pending} {answer : Result Info Error} {new : SimpleWalk F P} → Takes objects faulty answers old p answer new → Takes objects faulty answers (with_tips old) p answer (with_tips new)
  takes_with (by_row r e t c) = by_row r e (treats_all_with objects faulty answers (λ x. x) (λ x. x) (λ x. tips) t) (concludes_with objects faulty answers (λ x. x) (λ x. x) (λ x. tips) c)
  takes_with (by_store u e t c) = by_store u e (treats_all_with objects faulty answers (λ x. x) (λ x. x) (λ x. tips) t) (concludes_with objects faulty answers (λ x. x) (λ x. x) (λ x. tips) c)
  takes_with (not_found u f) = not_found u f
  takes_with (no_memory left) = no_memory left

  chooses_with : {old : SimpleWalk F P} {p : Pending} {others : List Pending} → Chooses objects faulty answers old p others → Chooses objects faulty answers (with_tips old) p others
  chooses_with (first t e) = first t e
  chooses_with (best t chosen) = best t chosen

  steps_with : {old : SimpleWalk F P} {answer : Option (Result Info Error)} {new : SimpleWalk F P} → Steps objects faulty answers old answer new → Steps objects faulty answers (with_tips old) answer (with_tips new)
  steps_with (ended e) = ended e
  steps_with (no_memory some) = no_memory some
  steps_with (took chooses takes) = took (chooses_with chooses) (takes_with takes)

module _ {F P : Type 0} (objects : F → Objects) (faulty : F → ObjectId → Type 0) (answers : P → ObjectId → Bool → P → Type 0) where
  still_begun : {old : SimpleWalk F P} {answer : Option (Result Info Error)} {new : SimpleWalk F P} → old.begun ≡ true → Steps objects faulty answers old answer new → new.begun ≡ true
  still_begun b (ended e) = b
  still_begun b (no_memory some) = b
  still_begun b (took chooses takes) = moves_begun objects faulty answers (next_moves objects faulty answers (later b (took chooses takes)))

  -- the law
  pub hides_no_later : (walk new : SimpleWalk F P) (tips : List ObjectId) (answer : Option (Result Info Error)) → walk.begun ≡ true → Next objects faulty answers walk answer new
      → (new.begun ≡ true) × Next objects faulty answers (record walk { hidden_tips = tips }) answer (record new { hidden_tips = tips })
  hides_no_later walk new tips answer begun (initial fresh s) = absurd (true≢false (sym begun ∙ fresh))
  hides_no_later walk new tips answer begun (later b s) = (still_begun b s, later b (steps_with objects faulty answers tips s))

-- How the first step hides what hidden tips reach.
use Rattle.std.proofs.Common.{◌≡◌, ◌≢◌, ◌==◌, ◌||◌, List, [], Bool, true, false, not, filter, length, if◌then◌else◌, Option, Some, None, Result, Ok, Err, refl, sym, ap, subst, inl, inr, ⊎_elim, ◌∙◌}
use Rattle.gix_simple.proofs.Common.{false≢true, or_cases, MakesProgress, at_most, or-true, ObjectId, id_cmp, Objects, Info, Error, Pending, Paints, IsHiddenFault, Hides, nothing, unpainted, SimpleWalk, Steps, FirstStep, Next, unhidden}
use Rattle.gix_simple.proofs.Common.{ids_of, answers_left, nil_from_length}
use Rattle.std.proofs.lemmas.Bool.Decides.{eqb_tells}
use Rattle.std.specs.FinSet as set
use Rattle.gix_simple.specs.declared.Error.TheVariants as error
use Rattle.gix_paint.specs.declared.Hidden.{Hidden}
use Rattle.gix_paint.specs.declared.Hidden.TheVariants as hidden_by
use Rattle.gix_object.specs.declared.find.existing_iter.Error.TheVariants as existing
use Rattle.gix_simple.specs.Errors.{error_of_hidden}
use Rattle.gix_simple.specs.Inside.Steps.{paints, faulty_history, no_memory}
use Rattle.gix_simple.specs.Walk as walk
use Rattle.gix_simple.proofs.Ends.{next_left}

none_in : {X : Type 0} (xs : List X) → (length xs == 0) ≡ true → xs ≡ []
none_in xs e = ⊎_elim (λ t. nil_from_length xs t.1) (λ f. absurd (false≢true (sym f.0 ∙ e))) (eqb_tells (length xs) 0)

module _ {F P : Type 0} (objects : F → Objects) (faulty : F → ObjectId → Type 0) (answers : P → ObjectId → Bool → P → Type 0) (old : SimpleWalk F P) where
  -- what was hidden is stepped over
  pub next_of_hidden : (u : Unit {0}) (mid : SimpleWalk F P) → Hides objects faulty answers old (Ok u) mid → (answer : Option (Result Info Error)) (new : SimpleWalk F P) → Steps objects faulty answers mid answer new → FirstStep objects faulty answers old answer new
  next_of_hidden u mid (nothing n) answer new s = unhidden n s
  next_of_hidden u mid (paints p h k) answer new s = walk.paints p h k s

  pub next_of_fault : (e : Error) (new : SimpleWalk F P) → Hides objects faulty answers old (Err e) new → FirstStep objects faulty answers old (Some (Err e)) new
  next_of_fault e new (faulty_history p h k) = walk.faulty_history p h (inl refl) k
  next_of_fault e new (no_memory p h) = walk.no_memory p h (inl refl)

  -- an answer leaves fewer
  pub progresses : (can : SimpleWalk F P → Type 0) (answer : Option (Result Info Error)) (new : SimpleWalk F P) → Next objects faulty answers old answer new → can new → MakesProgress can (λ walk. at_most (answers_left objects walk)) old answer new
  progresses can None new n c = record { on = λ _. tt; keeps = tt; rests = λ _. tt }
  progresses can (Some answer) new n c = record { on = λ _. (c, tt, next_left objects faulty answers old n); keeps = c; rests = λ _. tt }

  -- there is nothing to hide
  pub hides_nothing : (inside : SimpleWalk F P) → inside ≡ old → (cleared : List ObjectId) → cleared ≡ [] → (length old.pending == 0 || length old.hidden_tips == 0) ≡ true → Hides objects faulty answers old (Ok tt) (record inside { hidden_tips = cleared })
  hides_nothing inside is cleared e n =
      subst (Hides objects faulty answers old (Ok tt)) (λ j. record (sym is j) { hidden_tips = sym e j }) (nothing (⊎_elim (λ e. inl (none_in old.pending e)) (λ e. inr (none_in old.hidden_tips e)) (or_cases (length old.pending == 0) (length old.hidden_tips == 0) n)))

  module _ (some : (length old.pending == 0 || length old.hidden_tips == 0) ≡ false) (mid : SimpleWalk F P) (emptied : mid ≡ record old { pending = [] }) where
    pending : old.pending ≢ []
    pending e = false≢true (sym some ∙ ap (λ ps. length ps == 0 || length old.hidden_tips == 0) e)

    tips : old.hidden_tips ≢ []
    tips e = false≢true (sym some ∙ ap (λ ts. length old.pending == 0 || length ts == 0) e ∙ or-true (length old.pending == 0))

    -- memory ran out
    pub hides_no_memory : (answer : Error) (new : SimpleWalk F P) → answer ≡ error.Memory → new ≡ unpainted mid → Hides objects faulty answers old (Err answer) new
    hides_no_memory answer new a n = subst (λ e. Hides objects faulty answers old (Err e) new) (sym a) (subst (Hides objects faulty answers old (Err error.Memory)) (sym (n ∙ ap unpainted emptied)) (no_memory pending tips))

    -- painting failed
    pub hides_fault : (these : List Pending) → these ≡ old.pending → (why : Hidden) → (why ≢ hidden_by.Find existing.Memory → IsHiddenFault (objects mid.store) (faulty mid.store) mid.rows (ids_of these) mid.hidden_tips why)
        → (e answer : Error) (new : SimpleWalk F P) → e ≡ error_of_hidden why → answer ≡ e → new ≡ unpainted mid → Hides objects faulty answers old (Err answer) new
    hides_fault these same why fault e answer new w a n = go why (λ other. subst (λ w. IsHiddenFault (objects w.store) (faulty w.store) w.rows (ids_of old.pending) w.hidden_tips why) emptied (subst (λ ps. IsHiddenFault (objects mid.store) (faulty mid.store) mid.rows (ids_of ps) mid.hidden_tips why) same (fault other))) (a ∙ w)
      where
        told : (why : Hidden) → IsHiddenFault (objects old.store) (faulty old.store) old.rows (ids_of old.pending) old.hidden_tips why → answer ≡ error.HiddenGraph why → Hides objects faulty answers old (Err answer) new
        told why f a = subst (λ e. Hides objects faulty answers old (Err e) new) (sym a) (subst (Hides objects faulty answers old (Err (error.HiddenGraph why))) (sym (n ∙ ap unpainted emptied)) (faulty_history pending tips f))

        go : (why : Hidden) → (why ≢ hidden_by.Find existing.Memory → IsHiddenFault (objects old.store) (faulty old.store) old.rows (ids_of old.pending) old.hidden_tips why) → answer ≡ error_of_hidden why → Hides objects faulty answers old (Err answer) new
        go (hidden_by.Find existing.Store) f a = told (hidden_by.Find existing.Store) (f (λ e. cc)) a
        go (hidden_by.Find (existing.NotFound oid)) f a = told (hidden_by.Find (existing.NotFound oid)) (f (λ e. cc)) a
        go (hidden_by.Find (existing.ObjectKind oid wanted actual)) f a = told (hidden_by.Find (existing.ObjectKind oid wanted actual)) (f (λ e. cc)) a
        go (hidden_by.Find existing.Memory) f a = hides_no_memory answer new a n
        go (hidden_by.ObjectDecode e) f a = told (hidden_by.ObjectDecode e) (f (λ e. cc)) a

    -- what is hidden is taken out
    pub hides_painted : (these : List Pending) → these ≡ old.pending → (marks : set.FinSet id_cmp) (stand : Bool) → Paints (objects mid.store) mid.rows (ids_of these) mid.hidden_tips marks (if stand then mid.rows else [])
        → (new : SimpleWalk F P) → new ≡ record mid { pending = filter (λ tip. not (set.contains marks tip.id)) these; hidden = marks; hidden_tips = []; rows = if stand then mid.rows else [] } → Hides objects faulty answers old (Ok tt) new
    hides_painted these same marks stand p new n =
        subst (Hides objects faulty answers old (Ok tt)) (sym (n ∙ (λ j. record (emptied j) { pending = filter (λ tip. not (set.contains marks tip.id)) (same j); hidden = marks; hidden_tips = []; rows = if stand then (emptied j).rows else [] })))
        (paints pending tips (subst (λ w. Paints (objects w.store) w.rows (ids_of old.pending) w.hidden_tips marks (if stand then w.rows else [])) emptied (subst (λ ps. Paints (objects mid.store) mid.rows (ids_of ps) mid.hidden_tips marks (if stand then mid.rows else [])) same p)))

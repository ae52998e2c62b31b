-- A walk without hidden tips, none of whose answers is a fault, gives the commits in order by the parents that texts name.
use Rattle.std.proofs.Common.{◌≡◌, ◌&&◌, not, List, [], ◌∷◌, filter, Bool, true, false, Option, Result, Err, Contains, All, Some, refl, sym, subst, inl, ◌∙◌, true≢false}
use Rattle.gix_simple.proofs.Common.{Drains, Yields, and-true, transport, All-nil, All-cons, ObjectId, Contains-here, Contains-there, Objects, Info, IsAgreeing, AnswersBy, by_mode, time_of, ids_of, text_next, Error, IsFresh, IsBeginningBy, IsListBy, IsNextByText, IsNextOne}
use Rattle.gix_simple.proofs.Common.{IsFaultlessRun, BeginsTextOrder, GivesTextOrder, kept_of, next_by_text, SimpleWalk, time_order, cutoff, is_older, Steps, unhidden, Next, initial, later}
use Rattle.gix_simple.specs.declared.Error.TheVariants as error
use Rattle.gix_simple.specs.Walk.{paints, faulty_history, no_memory}
use Rattle.gix_simple.proofs.Treated.{Setting}
use Rattle.gix_simple.proofs.OneStep.{IsCommit, reads_text}
use Rattle.gix_simple.proofs.WholeWalk.{Known}
use Rattle.gix_simple.proofs.Theorem.{set_up, Begins, begins_at, all_given, some_given}
use Rattle.gix_simple.proofs.Corollaries.{all_kept, begun_once, each_once}

-- without a fault all answers are commits
pub only_commits : (list : List (Result Info Error)) → ((e : Error) → Contains list (Err e) → ⊥) → All IsCommit list
only_commits [] h = All-nil IsCommit
only_commits (answer ∷ list) h =
    All-cons IsCommit answer list (λ e s. h e (subst (λ x. Contains (x ∷ list) (Err e)) (sym s) (Contains-here (Err e) list))) (only_commits list (λ e c. h e (Contains-there (Err e) answer list c)))

module _ {F P : Type 0} (objects : F → Objects) (faulty : F → ObjectId → Type 0) (answers : P → ObjectId → Bool → P → Type 0) (w : SimpleWalk F P) (accepts : ObjectId → Bool)
    (by_test : AnswersBy answers w.predicate accepts) (is_fresh : IsFresh objects w accepts) (open_to : w.hidden_tips ≡ []) (agreeing : IsAgreeing (objects w.store) w.rows) where
  abbrev texts : ObjectId → List ObjectId
  texts = text_next (objects w.store)

  abbrev setting : Setting objects faulty answers
  setting = set_up objects faulty answers w accepts (λ i. false) texts by_test is_fresh agreeing w.hidden

  knows : Known objects faulty answers setting IsCommit
  knows = record {
    begun = refl;
    reads = λ i r. reads_text objects faulty answers setting i refl;
    marked = λ c i r n. is_fresh.shown i;
    commits = λ v p h r answer new takes ok. ok;
    unfailed = λ ok. ok error.Memory refl;
  }

  -- nothing is painted
  steps : {o : Option (Result Info Error)} {new : SimpleWalk F P} → Next objects faulty answers w o new → Steps objects faulty answers (record w { begun = true; hidden_tips = [] }) o new
  steps (initial fresh (unhidden none s)) = s
  steps (initial fresh (paints some hidden paint s)) = absurd (hidden open_to)
  steps (initial fresh (faulty_history some hidden left fault)) = absurd (hidden open_to)
  steps (initial fresh (no_memory some hidden left)) = absurd (hidden open_to)
  steps (later b s) = absurd (true≢false (sym b ∙ is_fresh.unbegun))

  recent_is : kept_of (objects w.store) texts w.parents accepts (λ i. false) (cutoff w.parents w.sorting) ≡ next_by_text objects w accepts
  recent_is = λ k c. filter (λ i. and-true (accepts i) k && not (is_older (time_of (objects w.store) i) (cutoff w.parents w.sorting))) (by_mode w.parents (texts c))

  begins : (o : Option (Result Info Error)) (new : SimpleWalk F P) → ((answer : Result Info Error) → o ≡ Some answer → IsCommit answer) → Next objects faulty answers w o new → Begins objects faulty answers w accepts (λ i. false) texts by_test is_fresh agreeing IsCommit o new
  begins o new ok n = begins_at objects faulty answers w accepts (λ i. false) texts by_test is_fresh agreeing w.hidden w.rows w.pending (inl refl) (λ p m. m) (sym (all_kept (ids_of w.pending))) knows (steps n)

  -- the law
  pub text_order : (list : List (Result Info Error)) → ((e : Error) → Contains list (Err e) → ⊥) → Drains (Next objects faulty answers) w list → GivesTextOrder objects w accepts list
  text_order list commits drawn =
      let r = all_given objects faulty answers w accepts (λ i. false) texts by_test is_fresh agreeing begins list (only_commits list commits) drawn in
      let ordered : IsListBy (IsNextByText objects w accepts) r.0 =
      transport (λ k. IsListBy (IsNextOne (time_order w.parents w.sorting) (time_of (objects w.store)) (recent_is k) (all_kept (ids_of w.pending) k)) r.0) r.2 in
      let each = each_once (time_order w.parents w.sorting) (time_of (objects w.store)) (next_by_text objects w accepts) (ids_of w.pending) r.0 ordered in
      record { ids = r.0; given = r.1; in_order = ordered; once = each.0; reached = each.1 }

  -- and over a walk that is drawn as far as one likes
  pub text_beginning : (list : List (Result Info Error)) (last : SimpleWalk F P) → ((e : Error) → Contains list (Err e) → ⊥) → Yields (Next objects faulty answers) w list last → BeginsTextOrder objects w accepts list
  text_beginning list last commits drawn =
      let r = some_given objects faulty answers w accepts (λ i. false) texts by_test is_fresh agreeing begins list last (only_commits list commits) drawn in
      let begun : IsBeginningBy (IsNextByText objects w accepts) r.0 =
      transport (λ k. IsBeginningBy (IsNextOne (time_order w.parents w.sorting) (time_of (objects w.store)) (recent_is k) (all_kept (ids_of w.pending) k)) r.0) r.2 in
      let each = begun_once (time_order w.parents w.sorting) (time_of (objects w.store)) (next_by_text objects w accepts) (ids_of w.pending) r.0 begun in
      record { ids = r.0; given = r.1; begins = begun; once = each.0; reached = each.1 }

pub faultless : {F P : Type 0} (objects : F → Objects) (faulty : F → ObjectId → Type 0) (answers : P → ObjectId → Bool → P → Type 0) (walk : SimpleWalk F P) (accepts : ObjectId → Bool) (list : List (Result Info Error)) → IsFaultlessRun objects faulty answers walk accepts list → GivesTextOrder objects walk accepts list
faultless objects faulty answers walk accepts list r = text_order objects faulty answers walk accepts r.by_test r.fresh r.open_to r.agreeing list r.commits r.drawn

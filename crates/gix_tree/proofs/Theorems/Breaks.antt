-- A walk ends at a `Break`, and nowhere else.
use Rattle.std.proofs.Common.{◌≡◌, ◌≢◌, ◌↔◌, Bool, List, [], ◌∷◌, ◌++◌, Option, Result, Ok, Err, refl, sym, ap, ◌∙◌, subst, append_assoc, Break}
use Rattle.gix_tree.proofs.Common.{ObjectId, is_tree, Error, Action, Call, Items, Visit, visit, Outcome, Leaves, Enters, Cycles, Breaks, outcome_of, Ending, Whole, Broken, Failed, IsUnfailed, Task, level_answer, NoneBreaks, EndsAtBreak}
use Rattle.gix_object.specs.declared.find.existing_iter.Error.{Error as ExistingError}
use Rattle.gix_tree.specs.declared.breadthfirst.Error.TheVariants as error
use Rattle.gix_tree.proofs.All.{all_both, all_right}
use Rattle.gix_tree.proofs.Outcomes.{says}
use Rattle.gix_tree.proofs.TaskWalk as walk
use Rattle.gix_tree.proofs.TaskWalk.{Manner, calls_by, pop_by, TaskWalk}

goes_on : (t known : Bool) (a : Action) (o : Outcome) → outcome_of t a known ≡ o → o ≢ Breaks → (b : Unit {0}) → a ≢ Break b
goes_on t known a o is ne b e = ne (sym is ∙ ap (λ x. outcome_of t x known) e)

-- the last visit is one that breaks
last_breaks : {calls_of : Visit → List Call} {calls : List Call} {visits : List Visit} → EndsAtBreak calls_of calls visits → NoneBreaks visits → ⊥
last_breaks h none = (all_right (λ v. (b : Unit {0}) → v.answer ≢ Break b) h.earlier (h.last ∷ []) (subst NoneBreaks h.visits_are none)).0 h.breaks.0 h.breaks.1

module _ (m : Manner) where
  -- either no visit was answered `Break`, or the last alone was and ended the walk
  pub data BreaksAt : Ending → List Call → List Visit → Type 0 where
    unbroken : {end : Ending} {calls : List Call} {visits : List Visit} → end ≢ Broken → NoneBreaks visits → BreaksAt end calls visits
    broken : {calls : List Call} {visits : List Visit} → EndsAtBreak (calls_by m) calls visits → BreaksAt Broken calls visits

  -- behind calls and visits none of which was answered `Break`
  behind : {end : Ending} {calls : List Call} {visits : List Visit} (more : List Call) (earlier : List Visit) → NoneBreaks earlier → BreaksAt end calls visits
      → BreaksAt end (more ++ calls) (earlier ++ visits)
  behind {visits = visits} more earlier none (unbroken ne h) = unbroken ne (all_both (λ v. (b : Unit {0}) → v.answer ≢ Break b) earlier visits none h)
  behind more earlier none (broken h) = broken (record {
    before = more ++ h.before;
    earlier = earlier ++ h.earlier;
    last = h.last;
    calls_are = ap (λ l. more ++ l) h.calls_are ∙ sym (append_assoc more h.before (calls_by m h.last));
    visits_are = ap (λ l. earlier ++ l) h.visits_are ∙ sym (append_assoc earlier h.earlier (h.last ∷ []));
    breaks = h.breaks;
    others = all_both (λ v. (b : Unit {0}) → v.answer ≢ Break b) earlier h.earlier none h.others;
  })

  pub breaks_at : (trees : ObjectId → Option Items) (fails : ObjectId → ExistingError → Type 0) {tasks : List Task} {calls : List Call} {visits : List Visit} {end : Ending}
      → TaskWalk trees fails m tasks calls visits end → BreaksAt end calls visits
  breaks_at trees fails walk.whole = unbroken (λ x. cc) tt
  breaks_at trees fails (walk.stops why) = unbroken (λ x. cc) tt
  breaks_at trees fails (walk.turn rest) = behind (pop_by m ∷ []) [] tt (breaks_at trees fails rest)
  breaks_at trees fails (walk.leaves {p = p} {e = e} {a = a} o rest) =
      behind (calls_by m (visit p e a)) (visit p e a ∷ []) (goes_on (is_tree e.mode) _ a Leaves o (λ x. cc), tt) (breaks_at trees fails rest)
  breaks_at trees fails (walk.enters {p = p} {e = e} {a = a} o rest) =
      behind (calls_by m (visit p e a)) (visit p e a ∷ []) (goes_on (is_tree e.mode) _ a Enters o (λ x. cc), tt) (breaks_at trees fails rest)
  breaks_at trees fails (walk.breaks {p = p} {e = e} {a = a} o) =
      broken (record { before = []; earlier = []; last = visit p e a; calls_are = refl; visits_are = refl; breaks = says (is_tree e.mode) _ a Breaks o; others = tt })
  breaks_at trees fails (walk.cycles {e = e} {a = a} o) = unbroken (λ x. cc) (goes_on (is_tree e.mode) _ a Cycles o (λ x. cc), tt)

  -- a walk that no `Break` ended has none
  pub none_breaks : {end : Ending} {calls : List Call} {visits : List Visit} → end ≢ Broken → BreaksAt end calls visits → NoneBreaks visits
  none_breaks ne (unbroken n h) = h
  none_breaks ne (broken h) = absurd (ne refl)

  pub must_break : {end : Ending} {calls : List Call} {visits : List Visit} → BreaksAt end calls visits → (NoneBreaks visits → ⊥) → (end ≡ Broken) × EndsAtBreak (calls_by m) calls visits
  must_break (unbroken ne h) some = absurd (some h)
  must_break (broken h) some = (refl, h)

  pub ok_without_break : (answer : Result (Unit {0}) Error) (end : Ending) {calls : List Call} {visits : List Visit} → BreaksAt end calls visits → answer ≡ level_answer end → IsUnfailed end
      → ((answer ≡ Ok tt) ↔ NoneBreaks visits) × ((answer ≡ Err error.Cancelled) ↔ (NoneBreaks visits → ⊥))
  ok_without_break answer Whole (unbroken ne h) is w = ((λ e. h, λ none. is), (λ e. cc, λ some. absurd (some h)))
  ok_without_break answer Broken (unbroken ne h) is w = absurd (ne refl)
  ok_without_break answer Broken (broken h) is w = ((λ e. cc, λ none. absurd (last_breaks h none)), (λ e none. last_breaks h none, λ some. is))
  ok_without_break answer (Failed why) (unbroken ne h) is w = absurd w

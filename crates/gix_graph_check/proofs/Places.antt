-- The places of a row, walked one by one.
use Rattle.std.proofs.Common.{◌≡◌, ℕ, ◌<◌, List, [], ◌∷◌, All, subst, sym, IfOk}
use Rattle.std.specs.List.{AllByRecursion}
use Rattle.std.proofs.lemmas.List.Elements.{recursion_from_All, All-from_recursion}
use Rattle.gix_commitgraph.specs.declared.ParentPlace.{ParentPlace}
use Rattle.gix_commitgraph.specs.declared.ParentPlace.TheVariants.{At, Fault}
use Rattle.gix_commitgraph.specs.Rows.{GraphRow}
use Rattle.gix_commitgraph.specs.Parents.{Answer, answers_of}
use Rattle.gix_graph_check.specs.Sound.{IsSoundPlace}
use Rattle.gix_graph_check.specs.SoundAnswers.{IsSoundAnswer}

abbrev pub AreWithin : ℕ → List Answer → Type 0
AreWithin n answers = All (λ answer. IfOk answer (λ position. position.0 < n)) answers

pub first-within : (n : ℕ) (answers rest : List Answer) (answer : Answer) → answers ≡ answer ∷ rest → AreWithin n answers → IfOk answer (λ position. position.0 < n)
first-within n answers rest answer e h = (recursion_from_All (λ answer. IfOk answer (λ position. position.0 < n)) (answer ∷ rest) (subst (AreWithin n) e h)).0

pub rest-within : (n : ℕ) (answers rest : List Answer) (answer : Answer) → answers ≡ answer ∷ rest → AreWithin n answers → AreWithin n rest
rest-within n answers rest answer e h = All-from_recursion _ rest (recursion_from_All (λ answer. IfOk answer (λ position. position.0 < n)) (answer ∷ rest) (subst (AreWithin n) e h)).1

-- the places left are sound exactly where all are
pub record IsWhatIsLeft (rows : List GraphRow) (generation : ℕ) (places : List ParentPlace) (left : List Answer) : Type 0 where
  pub on : AllByRecursion (IsSoundPlace rows generation) places → AllByRecursion (IsSoundAnswer rows generation) left
  pub back : AllByRecursion (IsSoundAnswer rows generation) left → AllByRecursion (IsSoundPlace rows generation) places

module _ (rows : List GraphRow) (generation : ℕ) where
  on-answers : (places : List ParentPlace) → AllByRecursion (IsSoundPlace rows generation) places → AllByRecursion (IsSoundAnswer rows generation) (answers_of places)
  on-answers [] h = tt
  on-answers (At n ∷ places) h = (h.0, on-answers places h.1)
  on-answers (Fault ∷ places) h = absurd h.0

  back-places : (places : List ParentPlace) → AllByRecursion (IsSoundAnswer rows generation) (answers_of places) → AllByRecursion (IsSoundPlace rows generation) places
  back-places [] h = tt
  back-places (At n ∷ places) h = (h.0, back-places places h.1)
  back-places (Fault ∷ places) h = absurd h.0

  pub all-left : (places : List ParentPlace) (left : List Answer) → left ≡ answers_of places → IsWhatIsLeft rows generation places left
  all-left places left e = record {
    on = λ h. subst (AllByRecursion (IsSoundAnswer rows generation)) (sym e) (on-answers places h);
    back = λ h. back-places places (subst (AllByRecursion (IsSoundAnswer rows generation)) e h);
  }

  pub one-less : (places : List ParentPlace) (left rest : List Answer) (answer : Answer) → left ≡ answer ∷ rest → IsSoundAnswer rows generation answer → IsWhatIsLeft rows generation places left
      → IsWhatIsLeft rows generation places rest
  one-less places left rest answer e sound h = record {
    on = λ all. (subst (AllByRecursion (IsSoundAnswer rows generation)) e (h.on all)).1;
    back = λ all. h.back (subst (AllByRecursion (IsSoundAnswer rows generation)) (sym e) (sound, all));
  }

  pub one-bad : (places : List ParentPlace) (left rest : List Answer) (answer : Answer) → left ≡ answer ∷ rest → ¬ IsSoundAnswer rows generation answer → IsWhatIsLeft rows generation places left
      → ¬ AllByRecursion (IsSoundPlace rows generation) places
  one-bad places left rest answer e bad h all = bad (subst (AllByRecursion (IsSoundAnswer rows generation)) e (h.on all)).0

  pub none-left : (places : List ParentPlace) (left : List Answer) → left ≡ [] → IsWhatIsLeft rows generation places left → AllByRecursion (IsSoundPlace rows generation) places
  none-left places left e h = h.back (subst (AllByRecursion (IsSoundAnswer rows generation)) (sym e) tt)

-- Places that agree with parents, walked one by one.
use Rattle.std.proofs.Common.{◌≡◌, ℕ, ◌<◌, Bool, true, false, List, [], ◌∷◌, Option, Some, None, Ok, MatchBool, subst, sym, ap, ◌∙◌, slice_get, is_some, not}
use Rattle.std.specs.Iterator.{YieldsFirst}
use Rattle.std.specs.Cmp.{Equal-is}
use Rattle.std.specs.List.Sorted.{IsStrictlySortedBy}
use Rattle.std.proofs.lemmas.Option.{slice_get_within}
use Rattle.gix_hash.specs.Id.{id_cmp, is_same}
use Rattle.gix_hash.proofs.Ids.Membership.{same_is, same_from}
use Rattle.gix_commitgraph.specs.declared.Position.{Position}
use Rattle.gix_commitgraph.specs.Packed.{ids_of_rows}
use Rattle.gix_commitgraph.proofs.Packed.RowSearch.{row_of-found}
use Rattle.gix_revwalk.specs.Agreeing.{PlaceAgrees}
use Rattle.gix_graph_check.proofs.SoundRows.{row_at-read}
use Rattle.gix_hash.specs.declared.ObjectId.{ObjectId}
use Rattle.gix_commitgraph.specs.declared.ParentPlace.{ParentPlace}
use Rattle.gix_commitgraph.specs.declared.ParentPlace.TheVariants.{At, Fault}
use Rattle.gix_commitgraph.specs.Rows.{GraphRow, row_at, row_of}
use Rattle.gix_commitgraph.specs.Parents.{Answer, answers_of}
use Rattle.gix_graph_check.specs.StoredCommits.{AnswerAgrees, PlacesAgree}

abbrev pub AnswersAgree : List GraphRow → ℕ → List ObjectId → List Answer → Type 0
AnswersAgree rows generation [] [] = Unit {0}
AnswersAgree rows generation [] (answer ∷ answers) = ⊥
AnswersAgree rows generation (i ∷ ids) [] = ⊥
AnswersAgree rows generation (i ∷ ids) (answer ∷ answers) = AnswerAgrees rows generation i answer × AnswersAgree rows generation ids answers

module _ (rows : List GraphRow) (generation : ℕ) where
  -- the parents and places left agree exactly where all do
  pub record IsLeftToAgree (ids : List ObjectId) (places : List ParentPlace) (left : List ObjectId) (answers : List Answer) : Type 0 where
    pub on : PlacesAgree rows generation ids places → AnswersAgree rows generation left answers
    pub back : AnswersAgree rows generation left answers → PlacesAgree rows generation ids places

  on-answers : (ids : List ObjectId) (places : List ParentPlace) → PlacesAgree rows generation ids places → AnswersAgree rows generation ids (answers_of places)
  on-answers [] [] h = tt
  on-answers [] (place ∷ places) h = absurd h
  on-answers (i ∷ ids) [] h = absurd h
  on-answers (i ∷ ids) (At n ∷ places) h = (h.0, on-answers ids places h.1)
  on-answers (i ∷ ids) (Fault ∷ places) h = (h.0, on-answers ids places h.1)

  back-places : (ids : List ObjectId) (places : List ParentPlace) → AnswersAgree rows generation ids (answers_of places) → PlacesAgree rows generation ids places
  back-places [] [] h = tt
  back-places [] (place ∷ places) h = absurd h
  back-places (i ∷ ids) [] h = absurd h
  back-places (i ∷ ids) (At n ∷ places) h = (h.0, back-places ids places h.1)
  back-places (i ∷ ids) (Fault ∷ places) h = (h.0, back-places ids places h.1)

  pub agree-start : (ids : List ObjectId) (places : List ParentPlace) (answers : List Answer) → answers ≡ answers_of places → IsLeftToAgree ids places ids answers
  agree-start ids places answers e = record {
    on = λ h. subst (AnswersAgree rows generation ids) (sym e) (on-answers ids places h);
    back = λ h. back-places ids places (subst (AnswersAgree rows generation ids) e h);
  }

  module _ (ids : List ObjectId) (places : List ParentPlace) (left more : List ObjectId) (answers rest : List Answer) (i : ObjectId) (answer : Answer) where
    pub agree-more : left ≡ i ∷ more → answers ≡ answer ∷ rest → AnswerAgrees rows generation i answer → IsLeftToAgree ids places left answers → IsLeftToAgree ids places more rest
    agree-more e f here h = record {
      on = λ all. (subst (λ (x : List Answer). AnswersAgree rows generation (i ∷ more) x) f (subst (λ (x : List ObjectId). AnswersAgree rows generation x answers) e (h.on all))).1;
      back = λ all. h.back (subst (λ (x : List ObjectId). AnswersAgree rows generation x answers) (sym e) (subst (λ (x : List Answer). AnswersAgree rows generation (i ∷ more) x) (sym f) (here, all)));
    }

    pub agree-not : left ≡ i ∷ more → answers ≡ answer ∷ rest → ¬ AnswerAgrees rows generation i answer → IsLeftToAgree ids places left answers → ¬ PlacesAgree rows generation ids places
    agree-not e f bad h all = bad (subst (λ (x : List Answer). AnswersAgree rows generation (i ∷ more) x) f (subst (λ (x : List ObjectId). AnswersAgree rows generation x answers) e (h.on all))).0

  pub agree-none : (ids : List ObjectId) (places : List ParentPlace) (left more : List ObjectId) (answers : List Answer) (i : ObjectId) → left ≡ i ∷ more → answers ≡ [] → IsLeftToAgree ids places left answers → ¬ PlacesAgree rows generation ids places
  agree-none ids places left more answers i e f h all = subst (λ (x : List Answer). AnswersAgree rows generation (i ∷ more) x) f (subst (λ (x : List ObjectId). AnswersAgree rows generation x answers) e (h.on all))

  pub agree-end : (ids : List ObjectId) (places : List ParentPlace) (left : List ObjectId) (answers : List Answer) → left ≡ [] → answers ≡ [] → IsLeftToAgree ids places left answers → PlacesAgree rows generation ids places
  agree-end ids places left answers e f h = h.back (subst (λ (x : List ObjectId). AnswersAgree rows generation x answers) (sym e) (subst (λ (x : List Answer). AnswersAgree rows generation [] x) (sym f) tt))

  pub agree-over : (ids : List ObjectId) (places : List ParentPlace) (left : List ObjectId) (answers rest : List Answer) (answer : Answer) → left ≡ [] → answers ≡ answer ∷ rest → IsLeftToAgree ids places left answers → ¬ PlacesAgree rows generation ids places
  agree-over ids places left answers rest answer e f h all = subst (λ (x : List Answer). AnswersAgree rows generation [] x) f (subst (λ (x : List ObjectId). AnswersAgree rows generation x answers) e (h.on all))

  pub agree-last : (ids : List ObjectId) (places : List ParentPlace) (left : List ObjectId) (answers : List Answer) (r : Option Answer) (new : List Answer) → left ≡ [] → YieldsFirst (λ s. s) answers r new → (b : Bool) → is_some r ≡ not b
      → IsLeftToAgree ids places left answers → MatchBool b (PlacesAgree rows generation ids places) (¬ PlacesAgree rows generation ids places)
  agree-last ids places left answers None new e steps true is h = agree-end ids places left answers e steps.0 h
  agree-last ids places left answers None new e steps false is h = cc
  agree-last ids places left answers (Some answer) new e steps true is h = cc
  agree-last ids places left answers (Some answer) new e steps false is h = agree-over ids places left answers new answer e steps h

-- the place of a row that was read agrees exactly where the row has the parent's id
module _ (rows : List GraphRow) (rising : IsStrictlySortedBy id_cmp (ids_of_rows rows)) (generation : ℕ) (i : ObjectId) (position : Position) (row : GraphRow) (own : ObjectId) (lesser : ℕ) where
  at-agrees : slice_get rows position.0 ≡ Some row → own ≡ row.id → lesser ≡ row.generation → lesser < generation → (b : Bool) → b ≡ is_same own i
      → MatchBool b (PlaceAgrees rows generation i (At position.0)) (¬ PlaceAgrees rows generation i (At position.0))
  at-agrees there same less below true e =
      let is : row.id ≡ i = sym same ∙ same_is own i (sym e) in
      let found : row_of rows i ≡ Some (row_at rows position.0) = row_of-found rows i position.0 rising (slice_get_within rows position.0 row there)
      ((Equal-is (id_cmp (row_at rows position.0).id i)).0 (same_from (row_at rows position.0).id i (ap (λ (r : GraphRow). r.id) (row_at-read rows position.0 row there) ∙ is))) in
      (row, there, is, found ∙ ap Some (row_at-read rows position.0 row there), subst (λ (n : ℕ). n < generation) less below)
  at-agrees there same less below false e = λ h.
      let one : Some row ≡ Some h.0 = sym there ∙ h.1 in
      let one_row : row ≡ h.0 = cc in
      let bad : is_same own i ≡ true = same_from own i (same ∙ ap (λ (r : GraphRow). r.id) one_row ∙ h.2) in
      cc

  pub place-agrees : slice_get rows position.0 ≡ Some row → own ≡ row.id → lesser ≡ row.generation → lesser < generation → (place : Answer) → place ≡ Ok position → (b : Bool) → b ≡ is_same own i
      → MatchBool b (AnswerAgrees rows generation i place) (¬ AnswerAgrees rows generation i place)
  place-agrees there same less below place is b e = subst (λ (p : Answer). MatchBool b (AnswerAgrees rows generation i p) (¬ AnswerAgrees rows generation i p)) (sym is) (at-agrees there same less below b e)

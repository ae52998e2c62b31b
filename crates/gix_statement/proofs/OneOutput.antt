-- Whatever a run over known input wrote, it is a beginning of the one right output; and it is the whole of it if the run ended well.
use Rattle.std.proofs.Common.{refl, [], ◌∷◌, ⊎_elim, ◌≡◌, ℕ, ℤ, List, ◌++◌, Option, Some, None, Ok, Err, sym, ap, subst, ◌∙◌, inl, inr, ◌≢◌, codes, Contains}
use Rattle.gix_hash.specs.declared.ObjectId.{ObjectId}
use Rattle.gix_statement.proofs.HoleExamples.{Read}
use Rattle.gix_statement.proofs.FedOnce.{fed_once}
use Rattle.gix_statement.proofs.LayersOnce.{layers_once}
use Rattle.gix_statement.proofs.Carried.{same_object}
use Rattle.gix_statement.specs.CommitGraph.{AreLayers}
use Rattle.gix_statement.proofs.HaveHistory.{have_history}
use Rattle.gix_statement.proofs.OneAnswer.{one_answer}
use Rattle.gix_statement.specs.WholeStatement.{Objects, Row, Clash, InEach, Promises, Serves, commits, ahead, contains, containing, bases, files, Object, IsText, IsCommit, Agree, AreFed}

module _ (objects : Objects) (rows : List Row) (words : List (List ℕ)) (old : List ℕ) where
  abbrev Served : List ℕ → Type 0
  Served b = InEach objects rows (λ parents time. Serves objects rows parents time (Some old) (Some b) words)

  same_objects : Clash objects objects → ⊥
  same_objects (i, a, b, is, same, differ) = go (objects i) is same
    where
      go : (o : Option _) → o ≡ Some a → o ≡ Some b → ⊥
      go None e f = cc
      go (Some o) e f = differ (let l : o ≡ a = cc in let r : o ≡ b = cc in sym l ∙ r)

  grown : (parents : ObjectId → List ObjectId) (time : ObjectId → ℤ) (b : List ℕ) (asked : List (List ℕ)) → Serves objects rows parents time (Some old) (Some b) asked → (more : List ℕ) × (b ≡ old ++ more)
  grown parents time b asked (commits ids l w) = (_, w)
  grown parents time b asked (ahead n m x y o p ns ms w) = (_, w)
  grown parents time b asked (contains are some there keeps w) = (_, w)
  grown parents time b asked (containing are some there keeps w) = (_, w)
  grown parents time b asked (bases those are some there exact rising w) = (_, w)
  grown parents time b asked (files limit bound option x within ends spells t u w) = (_, w)

-- What is given is one thing: the objects, id by id, and the rows.
abbrev pub IsOne : (Objects → List Row → Type 0) → Type 0
IsOne Given = (objects others : Objects) (rows more : List Row) → Given objects rows → Given others more → ((i : ObjectId) → objects i ≡ others i) × (rows ≡ more)

-- So it is for `run` and `run_in`, and over the files of a commit-graph.
pub fed_is_one : (input : List ℕ) → IsOne (Read input)
fed_is_one input objects others rows more (fed, none) (too, empty) = (fed_once input objects others fed too, none ∙ sym empty)

pub fed_over_is_one : (input : List ℕ) (layers : List (List ℕ)) → IsOne (λ objects rows. AreFed (Some input) objects × AreLayers [] layers [] rows)
fed_over_is_one input layers objects others rows more (fed, are) (too, are_too) = (fed_once input objects others fed too, layers_once [] layers [] rows more are are_too)

-- Two runs over the same words and the same that is given; one of them ended well.
module _ {E : Type 0} (writer_failed : E) (Given : Objects → List Row → Type 0) (is_one : IsOne Given) (words : List (List ℕ)) (old a b : List ℕ) where
  pub same_output : Promises writer_failed words Given (Some old) (Ok tt) (Some a) → Promises writer_failed words Given (Some old) (Ok tt) (Some b) → a ≡ b
  same_output (objects, rows, given, agree, right) (others, more, given_too, agree_too, right_too) =
      let one = is_one objects others rows more given given_too in
      let h = have_history objects rows agree in
      (one_answer objects objects rows rows words old a b h.0 h.1 h.2 h.2 (same_objects objects rows words old)
      (subst (λ (T : Type 0). T) (λ k. Served (λ i. sym (one.0 i) k) (sym one.1 k) words old b) right_too)).0 right

  pub same_beginning : (e : E) → Promises writer_failed words Given (Some old) (Err e) (Some a) → Promises writer_failed words Given (Some old) (Ok tt) (Some b) → (left : List ℕ) × (b ≡ a ++ left)
  same_beginning e (inl is) (others, more, given_too, agree_too, right_too) =
      let h = have_history others more agree_too in
      let g = grown others more words old h.0 h.1 b words (right_too h.0 h.1 h.2) in
      (g.0, g.1 ∙ ap (λ xs. xs ++ g.0) (let s : old ≡ a = cc in s))
  same_beginning e (inr (objects, rows, given, agree, right)) (others, more, given_too, agree_too, right_too) =
      let one = is_one objects others rows more given given_too in
      let h = have_history objects rows agree in
      let served : Served objects rows words old b = subst (λ (T : Type 0). T) (λ k. Served (λ i. sym (one.0 i) k) (sym one.1 k) words old b) right_too in
      (one_answer objects objects rows rows words old a b h.0 h.1 h.2 h.2 (same_objects objects rows words old) served).1 (λ parents time is. ⊎_elim inl (λ c. inr c.1) (right parents time is))

module _ {E : Type 0} (writer_failed : E) (input : List ℕ) (words : List (List ℕ)) (old a b : List ℕ) where
  pub one_output : Promises writer_failed words (Read input) (Some old) (Ok tt) (Some a) → Promises writer_failed words (Read input) (Some old) (Ok tt) (Some b) → a ≡ b
  one_output = same_output writer_failed (Read input) (fed_is_one input) words old a b

  pub one_beginning : (e : E) → Promises writer_failed words (Read input) (Some old) (Err e) (Some a) → Promises writer_failed words (Read input) (Some old) (Ok tt) (Some b) → (left : List ℕ) × (b ≡ a ++ left)
  one_beginning = same_beginning writer_failed (Read input) (fed_is_one input) words old a b

-- Two runs that ended well over objects that may be different ones, as of a repository, and the same rows or none: if no two of these clash.
module _ (objects others : Objects) (rows : List Row) (agree : Agree objects rows) (agree_too : Agree others rows) where
  abbrev or_else : Option Object → Option Object → Option Object
  or_else None other = other
  or_else (Some o) other = Some o

  abbrev pub both : Objects
  both i = or_else (objects i) (others i)

  pub text_of_one : (r : Row) → IsText objects r → IsText both r
  text_of_one r (id, lines, rest, tree, names, time, is) = (id, lines, rest, tree, names, time, ap (λ o. or_else o (others r.id)) is)

  module _ (clash : Clash objects others → ⊥) where
    pub text_of_other : (r : Row) → IsText others r → IsText both r
    text_of_other r (id, lines, rest, tree, names, time, is) = (id, lines, rest, tree, names, time, go (objects r.id) refl)
      where
        go : (o : Option Object) → objects r.id ≡ o → or_else o (others r.id) ≡ Some (record { kind = codes "commit"; bytes = codes "tree " ++ id ++ 10 ∷ lines })
        go None e = is
        go (Some o) e = ap Some (same_object o _ (λ differ. clash (r.id, o, _, e, is, differ)))

    pub both_agree : Agree both rows
    both_agree = (agree.0, λ r c n. go r c n (objects r.id) refl)
      where
        go : (r : Row) → Contains rows r → both r.id ≢ None → (o : Option Object) → objects r.id ≡ o → IsText both r
        go r c n (Some o) e = text_of_one r (agree.1 r c (λ f. let no : Some o ≡ None = sym e ∙ f in cc))
        go r c n None e = text_of_other r (agree_too.1 r c (λ f. n (ap (λ o. or_else o (others r.id)) e ∙ f)))

    pub commit_of_one : (r : Row) → IsCommit objects rows r → IsCommit both rows r
    commit_of_one r (inl text) = inl (text_of_one r text)
    commit_of_one r (inr (none, c)) = go (others r.id) refl
      where
        go : (o : Option Object) → others r.id ≡ o → IsCommit both rows r
        go None e = inr (ap (λ o. or_else o (others r.id)) none ∙ e, c)
        go (Some o) e = inl (text_of_other r (agree_too.1 r c (λ f. let no : Some o ≡ None = sym e ∙ f in cc)))

    pub commit_of_other : (r : Row) → IsCommit others rows r → IsCommit both rows r
    commit_of_other r (inl text) = inl (text_of_other r text)
    commit_of_other r (inr (none, c)) = go (objects r.id) refl
      where
        go : (o : Option Object) → objects r.id ≡ o → IsCommit both rows r
        go None e = inr (ap (λ o. or_else o (others r.id)) e ∙ none, c)
        go (Some o) e = inl (text_of_one r (agree.1 r c (λ f. let no : Some o ≡ None = sym e ∙ f in cc)))

    pub output_of_both : (words : List (List ℕ)) (old a b : List ℕ) → Served objects rows words old a → Served others rows words old b → a ≡ b
    output_of_both words old a b right right_too =
        let h = have_history both rows both_agree in
        (one_answer objects others rows rows words old a b h.0 h.1 (λ r c. h.2 r (commit_of_one r c)) (λ r c. h.2 r (commit_of_other r c)) clash right_too).0 right

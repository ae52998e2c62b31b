-- The ids that were met are those that tips reach.
use Rattle.std.proofs.Common.{◌≡◌, ◌⊎◌, List, [], ◌∷◌, Bool, true, false, cond, filter, None, Contains, IsSome, refl, sym, subst, ⊎_elim, ◌∙◌}
use Rattle.std.specs.FinSet as set
use Rattle.std.proofs.lemmas.Bool.{false≢true, false_from_ne_true}
use Rattle.std.proofs.lemmas.List.Elements.{Contains-append_cases}
use Rattle.gix_hash.specs.declared.ObjectId.{ObjectId}
use Rattle.gix_hash.specs.Id.{id_cmp}
use Rattle.gix_hash.specs.Reach.{Reaches, start, step}
use Rattle.gix_hash.proofs.Ids.Membership.{Contains-here, Contains-there, no_member}
use Rattle.gix_object.specs.Object.{Objects}
use Rattle.gix_commitgraph.specs.Rows.{GraphRow, row_of}
use Rattle.gix_contained.specs.Contained.{AreContained, empty, reached, passed, Selects}
use Rattle.gix_contained.specs.Inside.Search.{Decides}
use Rattle.gix_revwalk.specs.Commits.{commit_at, parents_of}

module _ (parents : ObjectId → List ObjectId) where
  -- without tips nothing is reached
  none_reached : (i : ObjectId) → Reaches parents [] i → ⊥
  none_reached i (start s) = no_member i s
  none_reached i (step {c = c} r n) = none_reached c r

  none_contained : (ids : List ObjectId) → AreContained parents [] ids []
  none_contained [] = empty
  none_contained (i ∷ ids) = passed (none_reached i) (none_contained ids)

  -- what a test keeps that is true of exactly those of the ids that tips reach
  kept : (tips : List ObjectId) (test : ObjectId → Bool) (ids : List ObjectId)
      → ((i : ObjectId) → test i ≡ true → Reaches parents tips i) → ((i : ObjectId) → Contains ids i → Reaches parents tips i → test i ≡ true)
      → AreContained parents tips ids (filter test ids)
  kept tips test [] sound whole = empty
  kept tips test (i ∷ ids) sound whole =
      let rest : AreContained parents tips ids (filter test ids) = kept tips test ids sound (λ j m. whole j (Contains-there j i ids m)) in
      elim (test i) as (λ b. test i ≡ b → AreContained parents tips (i ∷ ids) (cond b (i ∷ filter test ids) (filter test ids))) [
        | true ↦ λ e. reached (sound i e) rest
        | false ↦ λ e. passed (λ r. false≢true (sym e ∙ whole i (Contains-here i ids) r)) rest
      ] refl

module _ (objects : Objects) (rows : List GraphRow) where
  without_tips : (ids : List ObjectId) → Selects objects rows [] ids []
  without_tips ids = record {
    exact = λ history h. none_contained (parents_of history) ids;
    read = λ history h no_tips some i c n. absurd (no_tips refl);
    read_all = λ history h no_tips a c u i r n. absurd (no_tips refl);
  }

  without_ids : (tips : List ObjectId) → Selects objects rows tips [] []
  without_ids tips = record {
    exact = λ history h. empty;
    read = λ history h some no_ids i c n. absurd (no_ids refl);
    read_all = λ history h some a c u i r n. absurd (no_member a c);
  }

  -- without tips or ids nothing is selected
  pub none_selected : (tips ids those : List ObjectId) → those ≡ [] → (tips ≡ []) ⊎ (ids ≡ []) → Selects objects rows tips ids those
  none_selected tips ids those none either = subst (Selects objects rows tips ids) (sym none) (⊎_elim
      (λ e. subst (λ xs. Selects objects rows xs ids []) (sym e) (without_tips ids))
      (λ e. subst (λ xs. Selects objects rows tips xs []) (sym e) (without_ids tips)) either)

  -- what was met of the ids is selected
  pub met_selected : (tips ids those : List ObjectId) (met : set.FinSet id_cmp) → ((i : ObjectId) → Contains ids i → row_of rows i ≡ None → IsSome (commit_at objects i)) → Decides objects rows tips ids met
      → those ≡ filter (set.contains met) ids → Selects objects rows tips ids those
  met_selected tips ids those met looked_up d is = subst (Selects objects rows tips ids) (sym is) (record {
    exact = λ history h. kept (parents_of history) tips (set.contains met) ids (d.sound history h) (d.whole history h);
    read = λ history h some_tips some_ids i c n. ⊎_elim (λ m. looked_up i m n) (λ m. d.tips_read history h i m n) (Contains-append_cases ids tips i c);
    read_all = λ history h some_tips a c unreached i r n. d.read history h a c (false_from_ne_true (set.contains met a) (λ e. unreached (d.sound history h a e))) i r n;
  })

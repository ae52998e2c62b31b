-- Rows that say what is stored.
use Rattle.std.proofs.Common.{◌≡◌, ◌≢◌, ℕ, ◌<◌, List, [], ◌∷◌, length, Bool, true, false, Option, Some, None, Ok, MatchBool, refl, sym, ap, subst, ◌∙◌, slice_get, option_map, is_some, ⊎_elim}
use Rattle.std.proofs.lemmas.Bool.{or_cases}
use Rattle.std.proofs.lemmas.Option.{slice_get_within}
use Rattle.std.specs.FinMap.{get}
use Rattle.gix_hash.specs.declared.ObjectId.{ObjectId}
use Rattle.gix_hash.specs.Id.{is_same, is_among}
use Rattle.gix_hash.proofs.Ids.Membership.{same_is, same_from}
use Rattle.gix_object.specs.Object.{Objects}
use Rattle.gix_object.specs.CommitText.{Commit}
use Rattle.gix_commitgraph.specs.declared.ParentPlace.{ParentPlace}
use Rattle.gix_commitgraph.specs.declared.Position.{Position}
use Rattle.gix_commitgraph.specs.Rows.{GraphRow, row_at}
use Rattle.gix_commitgraph.specs.Packed.{AreGraphRows}
use Rattle.gix_commitgraph.specs.Parents.{Answer, answers_of}
use Rattle.gix_revwalk.specs.RowParents.{with_id, ids_at}
use Rattle.gix_revwalk.proofs.Rows.{answered_ids, answered_at}
use Rattle.gix_revwalk.proofs.ReadsWhole.{place_of}
use Rattle.gix_graph_check.proofs.SoundRows.{row_at-read}
use Rattle.gix_graph_store.specs.Laws.{StoredAgree}
use Rattle.gix_graph_store.specs.Saying.{Says}
use Rattle.gix_graph_store.specs.StoredRows.{IsStoredSo, IsStoredAt}
use Rattle.gix_graph_store.proofs.SoundRows.{member-own}

-- the ids and places left are one exactly where all are
pub record IsLeft (rows : List GraphRow) (whole : Option (List ObjectId)) (ids left : List ObjectId) (answers : List Answer) : Type 0 where
  pub on : whole ≡ Some ids → answered_ids rows answers ≡ Some left
  pub back : answered_ids rows answers ≡ Some left → whole ≡ Some ids

pub left-start : (rows : List GraphRow) (places : List ParentPlace) (ids : List ObjectId) (answers : List Answer) → answers ≡ answers_of places → IsLeft rows (ids_at rows places) ids ids answers
left-start rows places ids answers e =
    let all : answered_ids rows answers ≡ ids_at rows places = ap (answered_ids rows) e ∙ answered_at rows places in
    record { on = λ h. all ∙ h; back = λ h. sym all ∙ h }

module _ (rows : List GraphRow) (whole : Option (List ObjectId)) (ids left : List ObjectId) (answers : List Answer) (h : IsLeft rows whole ids left answers) where
  -- no answer is left for an id
  pub left-none : (i : ObjectId) (more : List ObjectId) → left ≡ i ∷ more → answers ≡ [] → whole ≢ Some ids
  left-none i more e f all = let bad : Some [] ≡ Some (i ∷ more) = sym (ap (answered_ids rows) f) ∙ h.on all ∙ ap Some e in cc

  module _ (i : ObjectId) (more : List ObjectId) (e : left ≡ i ∷ more) (rest : List Answer) (answer : Answer) (position : Position) (f : answers ≡ answer ∷ rest) (is : answer ≡ Ok position)
      (row : GraphRow) (there : slice_get rows position.0 ≡ Some row) (own : ObjectId) (same : own ≡ row.id) where
    front : answered_ids rows answers ≡ with_id (Some row) (answered_ids rows rest)
    front = ap (answered_ids rows) f ∙ ap (λ a. answered_ids rows (a ∷ rest)) is ∙ ap (λ o. with_id o (answered_ids rows rest)) there

    more-on : (o : Option (List ObjectId)) → with_id (Some row) o ≡ Some (i ∷ more) → (row.id ≡ i) × (o ≡ Some more)
    more-on None k = cc
    more-on (Some xs) k = let both : row.id ∷ xs ≡ i ∷ more = cc in (cc, cc)

    pub left-more : is_same own i ≡ true → IsLeft rows whole ids more rest
    left-more one = record {
      on = λ all. (more-on (answered_ids rows rest) (sym front ∙ h.on all ∙ ap Some e)).1;
      back = λ all. h.back (front ∙ ap (with_id (Some row)) all ∙ (λ k. Some ((sym same ∙ same_is own i one) k ∷ more)) ∙ ap Some (sym e));
    }

    pub left-other : is_same own i ≡ false → whole ≢ Some ids
    left-other other all =
        let id : row.id ≡ i = (more-on (answered_ids rows rest) (sym front ∙ h.on all ∙ ap Some e)).0 in
        let bad : is_same own i ≡ true = same_from own i (same ∙ id) in cc

-- ---- a row and a commit

module _ (rows : List GraphRow) (row : GraphRow) (commit : Commit) where
  abbrev said : List ObjectId → Commit
  said ids = record { tree = row.tree; parents = ids; time = row.time }

  pub says-fields : Says rows row commit → (commit.tree ≡ row.tree) × (commit.time ≡ row.time) × (ids_at rows row.parents ≡ Some commit.parents)
  says-fields h = go (ids_at rows row.parents) refl h
    where
      go : (o : Option (List ObjectId)) → ids_at rows row.parents ≡ o → option_map said o ≡ Some commit → (commit.tree ≡ row.tree) × (commit.time ≡ row.time) × (ids_at rows row.parents ≡ Some commit.parents)
      go None e k = cc
      go (Some ids) e k = let same : said ids ≡ commit = cc in (ap (λ c. c.tree) (sym same), ap (λ c. c.time) (sym same), e ∙ ap (λ c. Some c.parents) same)

  pub fields-say : commit.tree ≡ row.tree → commit.time ≡ row.time → ids_at rows row.parents ≡ Some commit.parents → Says rows row commit
  fields-say tree time ids = ap (option_map said) ids ∙ (λ k. Some (record { tree = sym tree k; parents = commit.parents; time = sym time k }))

  pub says-by : (ids : List ObjectId) → ids ≡ commit.parents → commit.tree ≡ row.tree → commit.time ≡ row.time → (b : Bool) → MatchBool b (ids_at rows row.parents ≡ Some ids) (ids_at rows row.parents ≢ Some ids)
      → MatchBool b (Says rows row commit) (¬ Says rows row commit)
  says-by ids same tree time true h = fields-say tree time (h ∙ ap Some same)
  says-by ids same tree time false h = λ s. h ((says-fields s).2 ∙ ap Some (sym same))

pub all-stored : (rows : List GraphRow) (objects : Objects) → ((n : ℕ) → n < length rows → IsStoredSo rows objects (row_at rows n)) → StoredAgree rows objects
all-stored rows objects each row object m there =
    let at = place_of rows row m in
    let so : IsStoredSo rows objects row = subst (IsStoredSo rows objects) (row_at-read rows at.0 row at.1) (each at.0 (slice_get_within rows at.0 row at.1)) in
    let c = so object there in
    c.1 ∙ sym c.2

module _ (rows : List GraphRow) (objects : Objects) where
  -- what is known of one id more
  pub next-stored : (x : ObjectId) (left more : List ObjectId) → left ≡ x ∷ more → IsStoredAt rows objects x → ((i : ObjectId) → is_among i more ≡ true → IsStoredAt rows objects i)
      → (i : ObjectId) → is_among i left ≡ true → IsStoredAt rows objects i
  next-stored x left more e here rest i among =
      ⊎_elim (λ s. subst (IsStoredAt rows objects) (sym (same_is i x s)) here) (rest i) (or_cases _ _ (subst (λ ids. is_among i ids ≡ true) e among))

  -- what is known of the ids of all objects is enough
  pub all-stored-at : AreGraphRows rows → (ids : List ObjectId) → ((i : ObjectId) → is_some (get objects i) ≡ true → is_among i ids ≡ true) → ((i : ObjectId) → is_among i ids ≡ true → IsStoredAt rows objects i)
      → StoredAgree rows objects
  all-stored-at graph ids all each row object m there =
      let c = each row.id (all row.id (ap is_some there)) row (member-own rows graph row m) object there in
      c.1 ∙ sym c.2

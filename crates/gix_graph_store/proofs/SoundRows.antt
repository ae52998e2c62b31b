-- Sound rows, and stores that agree with rows.
use Rattle.std.proofs.Common.{◌≡◌, ℕ, ◌<◌, List, [], ◌∷◌, length, Option, Some, None, refl, sym, ap, subst, ◌∙◌, ⊎_elim, slice_get, Contains, option_map}
use Rattle.std.specs.List.{AllByRecursion}
use Rattle.std.specs.Option.{option_or}
use Rattle.std.specs.Cmp.{Equal-is}
use Rattle.std.specs.FinMap.{get}
use Rattle.std.proofs.lemmas.Option.{slice_get_within, slice_get-get_or}
use Rattle.std.proofs.lemmas.List.Elements.{All-contains}
use Rattle.gix_hash.specs.declared.ObjectId.{ObjectId}
use Rattle.gix_hash.specs.Id.{id_cmp}
use Rattle.gix_hash.proofs.Ids.Membership.{same_from}
use Rattle.gix_object.specs.Object.{Object, Objects}
use Rattle.gix_object.specs.CommitText.{Commit}
use Rattle.gix_commitgraph.specs.declared.ParentPlace.{ParentPlace}
use Rattle.gix_commitgraph.specs.declared.ParentPlace.TheVariants.{At, Fault}
use Rattle.gix_commitgraph.specs.Rows.{GraphRow, no_row, row_at, row_of}
use Rattle.gix_commitgraph.specs.Packed.{AreGraphRows, IsPlaceAmong, IsRowAmong, kind_of_rows}
use Rattle.gix_commitgraph.proofs.Packed.RowSearch.{row_of-found}
use Rattle.gix_revwalk.specs.Agreeing.{IsAgreeing, RowAgrees}
use Rattle.gix_revwalk.specs.Commits.{commit_at, commit_of_object, parents_in}
use Rattle.gix_revwalk.specs.RowParents.{with_id, ids_at}
use Rattle.gix_revwalk.proofs.ReadsWhole.{row_stands, place_of, row_parents}
use Rattle.gix_graph_check.specs.Sound.{IsSoundPlace, IsSound, AreSound}
use Rattle.gix_graph_check.specs.StoredCommits.{PlacesAgree}
use Rattle.gix_graph_check.proofs.SoundRows.{row_at-read}
use Rattle.gix_graph_check.proofs.WholeCommits.{row-agrees}
use Rattle.gix_graph_store.specs.RowText.{text_of_row, text_at}
use Rattle.gix_graph_store.specs.WithRows.{commit_object, with_rows}
use Rattle.gix_graph_store.specs.Laws.{commit_said, RowsTell, StoredAgree, ToldRowsAgree, AreFrom, ToldIsStored}
use Rattle.gix_graph_store.proofs.ToldObjects.{get-with_rows}
use Rattle.gix_graph_store.proofs.Texts.{element-at, told-read}

-- the commit of a row with these parents
abbrev said : GraphRow → List ObjectId → Commit
said row ids = record { tree = row.tree; parents = ids; time = row.time }

module _ (rows : List GraphRow) (graph : AreGraphRows rows) where
  -- a row of a place is the row of its id
  row-own : (n : ℕ) (row : GraphRow) → slice_get rows n ≡ Some row → row_of rows row.id ≡ Some row
  row-own n row e =
      let at : row_at rows n ≡ row = row_at-read rows n row e in
      row_of-found rows row.id n graph.rising (slice_get_within rows n row e) ((Equal-is (id_cmp (row_at rows n).id row.id)).0 (same_from (row_at rows n).id row.id (ap (λ (r : GraphRow). r.id) at))) ∙ ap Some at

  pub member-own : (row : GraphRow) → Contains rows row → row_of rows row.id ≡ Some row
  member-own row m = let at = place_of rows row m in row-own at.0 row at.1

  member-among : (row : GraphRow) → Contains rows row → IsRowAmong (kind_of_rows rows) (length rows) row
  member-among row m = let at = place_of rows row m in element-at (IsRowAmong (kind_of_rows rows) (length rows)) rows at.0 row graph.each at.1

  -- places that are rows name ids
  ids-whole : (generation : ℕ) (places : List ParentPlace) → AllByRecursion (IsSoundPlace rows generation) places → AllByRecursion (IsPlaceAmong (length rows)) places → (ids : List ObjectId) × (ids_at rows places ≡ Some ids)
  ids-whole generation [] sound among = ([], refl)
  ids-whole generation (Fault ∷ places) sound among = absurd sound.0
  ids-whole generation (At n ∷ places) sound among =
      let rest = ids-whole generation places sound.1 among.1 in
      ((row_at rows n).id ∷ rest.0, λ k. with_id (slice_get-get_or rows n no_row among.0 k) (rest.1 k))

  -- and these places agree with these ids
  places-agree : (generation : ℕ) (places : List ParentPlace) (ids : List ObjectId) → AllByRecursion (IsSoundPlace rows generation) places → ids_at rows places ≡ Some ids → PlacesAgree rows generation ids places
  places-agree generation [] ids sound e = let same : [] ≡ ids = cc in subst (λ (xs : List ObjectId). PlacesAgree rows generation xs []) same tt
  places-agree generation (Fault ∷ places) ids sound e = absurd sound.0
  places-agree generation (At n ∷ places) ids sound e = go (slice_get rows n) refl (ids_at rows places) refl (λ those. places-agree generation places those sound.1) e
    where
      go : (o : Option GraphRow) → slice_get rows n ≡ o → (r : Option (List ObjectId)) → ids_at rows places ≡ r → ((those : List ObjectId) → ids_at rows places ≡ Some those → PlacesAgree rows generation those places) → with_id o r ≡ Some ids → PlacesAgree rows generation ids (At n ∷ places)
      go None a r b rest e = cc
      go (Some row) a None b rest e = cc
      go (Some row) a (Some those) b rest e =
          let same : row.id ∷ those ≡ ids = cc in
          let lesser : row.generation < generation = subst (λ (r : GraphRow). r.generation < generation) (row_at-read rows n row a) sound.0 in
          subst (λ (xs : List ObjectId). PlacesAgree rows generation xs (At n ∷ places)) same ((row, a, refl, row-own n row a, lesser), rest those b)

  module _ (sound : AreSound rows) where
    sound-ids : (row : GraphRow) → Contains rows row → (ids : List ObjectId) × (ids_at rows row.parents ≡ Some ids)
    sound-ids row m = ids-whole row.generation row.parents (All-contains (IsSound rows) rows row sound m).parents (member-among row m).parents

-- ---- a store with the rows

module _ (rows : List GraphRow) (objects : Objects) (i : ObjectId) where
  pub stored-stays : (object : Object) → get objects i ≡ Some object → get (with_rows rows objects) i ≡ Some object
  stored-stays object e = get-with_rows rows objects i ∙ ap (λ o. option_or o (option_map commit_object (text_at rows i))) e

  or-none : (o : Option Object) → option_or o None ≡ o
  or-none None = refl
  or-none (Some object) = refl

  other-stays : row_of rows i ≡ None → get (with_rows rows objects) i ≡ get objects i
  other-stays e = get-with_rows rows objects i ∙ ap (λ o. option_or (get objects i) (option_map commit_object (text_of_row rows o))) e ∙ or-none (get objects i)

  told-said : AreGraphRows rows → get objects i ≡ None → commit_at (with_rows rows objects) i ≡ commit_said rows (row_of rows i)
  told-said graph e = ap (commit_of_object i) (get-with_rows rows objects i ∙ ap (λ o. option_or o (option_map commit_object (text_at rows i))) e) ∙ told-read rows graph i

pub rows-tell : RowsTell
rows-tell rows objects i graph = record {
  exact = get-with_rows rows objects i;
  stored = stored-stays rows objects i;
  other = other-stays rows objects i;
  told = told-said rows objects i graph;
  whole = λ sound row e.
      let stands = row_stands rows i row e in
      let ids = sound-ids rows graph sound row stands.0 in
      (ids.0, ap (commit_said rows) e ∙ ap (option_map (said row)) ids.1, ids.1);
}

pub told-rows-agree : ToldRowsAgree
told-rows-agree rows objects graph sound agree row m =
    row-agrees (with_rows rows objects) rows row (said row ids.0) (there (get objects row.id) refl)
    (record { tree = refl; time = refl; places = places-agree rows graph row.generation row.parents ids.0 own.parents ids.1; finite = own.finite })
  where
    own : IsSound rows row
    own = All-contains (IsSound rows) rows row sound m

    ids : (ids : List ObjectId) × (ids_at rows row.parents ≡ Some ids)
    ids = sound-ids rows graph sound row m

    there : (o : Option Object) → get objects row.id ≡ o → commit_at (with_rows rows objects) row.id ≡ Some (said row ids.0)
    there None e = told-said rows objects row.id graph e ∙ ap (commit_said rows) (member-own rows graph row m) ∙ ap (option_map (said row)) ids.1
    there (Some object) e = ap (commit_of_object row.id) (stored-stays rows objects row.id object e ∙ sym e) ∙ agree row object m e ∙ ap (option_map (said row)) ids.1

-- ---- a store that the rows agree with

module _ (rows : List GraphRow) (records store : Objects) (graph : AreGraphRows rows) (sound : AreSound rows) (agrees : IsAgreeing store rows) (from : AreFrom records store) where
  said-stored : (row : GraphRow) → Contains rows row → (ids : List ObjectId) → ids_at rows row.parents ≡ Some ids → commit_at store row.id ≡ Some (said row ids)
  said-stored row m ids e =
      let a : RowAgrees store rows row = agrees row m in
      let parents : a.whole.commit.parents ≡ ids = sym (row_parents store rows agrees row.id row ids (member-own rows graph row m) e ∙ ap parents_in a.whole.stored) in
      a.whole.stored ∙ (λ k. Some (record { tree = a.tree k; parents = parents k; time = a.time k }))

  stored-agree : StoredAgree rows records
  stored-agree row object m e =
      let ids = sound-ids rows graph sound row m in
      ap (commit_of_object row.id) (e ∙ sym (from row.id object e)) ∙ said-stored row m ids.0 ids.1 ∙ sym (ap (option_map (said row)) ids.1)

  recorded : (i : ObjectId) (object : Object) → get records i ≡ Some object → commit_at (with_rows rows records) i ≡ commit_at store i
  recorded i object e = ap (commit_of_object i) (stored-stays rows records i object e ∙ sym (from i object e))

  rowed : (i : ObjectId) (row : GraphRow) → row_of rows i ≡ Some row → (o : Option Object) → get records i ≡ o → commit_at (with_rows rows records) i ≡ commit_at store i
  rowed i row r (Some object) e = recorded i object e
  rowed i row r None e =
      let stands = row_stands rows i row r in
      let ids = sound-ids rows graph sound row stands.0 in
      told-said rows records i graph e ∙ ap (commit_said rows) r ∙ ap (option_map (said row)) ids.1 ∙ sym (ap (commit_at store) stands.1 ∙ said-stored row stands.0 ids.0 ids.1)

pub told-is-stored : ToldIsStored
told-is-stored rows records store graph sound agrees from = (
  stored-agree rows records store graph sound agrees from,
  λ i told. ⊎_elim (λ (r : (object : Object) × (get records i ≡ Some object)). recorded rows records store graph sound agrees from i r.0 r.1) (λ (r : (row : GraphRow) × (row_of rows i ≡ Some row)). rowed rows records store graph sound agrees from i r.0 r.1 (get records i) refl) told,
)

-- Commits that read whole, and rows that say the same.
use Rattle.std.proofs.Common.{◌≡◌, ℕ, zero, suc, ◌<◌, List, [], ◌∷◌, length, drop, Some, None, Result, Ok, Err, Bool, true, false, MatchBool, refl, sym, ap, subst, ◌∙◌, arith, slice_get}
use Rattle.std.proofs.lemmas.List.{get_or_default}
use Rattle.gix_hash.specs.declared.ObjectId.{ObjectId}
use Rattle.gix_hash.specs.Id.{is_same}
use Rattle.gix_hash.proofs.Ids.Membership.{same_is, same_from}
use Rattle.gix_object.specs.declared.decode.Error.{Error}
use Rattle.gix_object.specs.Object.{Objects}
use Rattle.gix_object.specs.CommitItems.{Item, Tree, Parent, Author, Committer, Rest}
use Rattle.gix_object.specs.CommitText.{Commit, commit_of, commit_of_items}
use Rattle.gix_object.specs.CommitRefIter.{first_tree}
use Rattle.gix_commitgraph.specs.declared.ParentPlace.{ParentPlace}
use Rattle.gix_commitgraph.specs.Rows.{GraphRow, no_row, row_at}
use Rattle.gix_revwalk.specs.Commits.{commit_at}
use Rattle.gix_revwalk.specs.Agreeing.{PlaceAgrees, RowAgrees, IsAgreeing}
use Rattle.gix_graph_check.specs.declared.Disagreement.{Disagreement}
use Rattle.gix_graph_check.specs.declared.Disagreement.TheVariants.{Row, Store, Memory}
use Rattle.gix_graph_check.specs.StoredCommits.{PlacesAgree, AgreesWith}
use Rattle.gix_graph_check.specs.Disagreeing.{IsUnread, RowDisagrees}
use Rattle.gix_graph_check.proofs.SoundRows.{row_at-read}

pub begins : (items : List (Result Item Error)) (tree : ObjectId) (ids : List ObjectId) (left : List (Result Item Error)) → Ok tree ≡ first_tree items → ids ≡ [] → left ≡ drop 1 items → commit_of tree ids left ≡ commit_of_items items
begins [] tree ids left e none behind = cc
begins (Err fault ∷ items) tree ids left e none behind = cc
begins (Ok (Tree i) ∷ items) tree ids left e none behind = let same : tree ≡ i = cc in λ k. commit_of (same k) (none k) (behind k)
begins (Ok (Parent i) ∷ items) tree ids left e none behind = cc
begins (Ok (Author line) ∷ items) tree ids left e none behind = cc
begins (Ok (Committer signature) ∷ items) tree ids left e none behind = cc
begins (Ok (Rest bytes) ∷ items) tree ids left e none behind = cc

-- ---- a row and a commit

module _ (rows : List GraphRow) (generation : ℕ) where
  places-length : (ids : List ObjectId) (places : List ParentPlace) → PlacesAgree rows generation ids places → length places ≡ length ids
  places-length [] [] h = refl
  places-length [] (place ∷ places) h = absurd h
  places-length (i ∷ ids) [] h = absurd h
  places-length (i ∷ ids) (place ∷ places) h = ap suc (places-length ids places h.1)

  places-each : (ids : List ObjectId) (places : List ParentPlace) → PlacesAgree rows generation ids places → (k : ℕ) (i : ObjectId) (place : ParentPlace) → slice_get ids k ≡ Some i → slice_get places k ≡ Some place → PlaceAgrees rows generation i place
  places-each [] [] h k i place e f = cc
  places-each [] (p ∷ places) h k i place e f = absurd h
  places-each (j ∷ ids) [] h k i place e f = absurd h
  places-each (j ∷ ids) (p ∷ places) h zero i place e f = let same : j ≡ i = cc in let same_place : p ≡ place = cc in subst (λ (x : ParentPlace). PlaceAgrees rows generation i x) same_place (subst (λ (x : ObjectId). PlaceAgrees rows generation x p) same h.0)
  places-each (j ∷ ids) (p ∷ places) h (suc k) i place e f = places-each ids places h.1 k i place e f

  places-from : (ids : List ObjectId) (places : List ParentPlace) → length places ≡ length ids → ((k : ℕ) (i : ObjectId) (place : ParentPlace) → slice_get ids k ≡ Some i → slice_get places k ≡ Some place → PlaceAgrees rows generation i place) → PlacesAgree rows generation ids places
  places-from [] [] e h = tt
  places-from [] (place ∷ places) e h = absurd (omega arith)
  places-from (i ∷ ids) [] e h = absurd (omega arith)
  places-from (i ∷ ids) (place ∷ places) e h = (h 0 i place refl refl, places-from ids places (omega arith) (λ k. h (suc k)))

module _ (objects : Objects) (rows : List GraphRow) (row : GraphRow) where
  pub not-whole : commit_at objects row.id ≡ None → ¬ RowAgrees objects rows row
  not-whole e a = let bad : None ≡ Some a.whole.commit = sym e ∙ a.whole.stored in cc

  pub row-agrees : (commit : Commit) → commit_at objects row.id ≡ Some commit → AgreesWith rows row commit → RowAgrees objects rows row
  row-agrees commit stored h = record {
    whole = record { commit = commit; stored = stored };
    tree = h.tree;
    time = h.time;
    places = places-length rows row.generation commit.parents row.parents h.places;
    parents = places-each rows row.generation commit.parents row.parents h.places;
    finite = h.finite;
  }

  whole-agrees : (a : RowAgrees objects rows row) → AgreesWith rows row a.whole.commit
  whole-agrees a = record {
    tree = a.tree;
    time = a.time;
    places = places-from rows row.generation a.whole.commit.parents row.parents a.places a.parents;
    finite = a.finite;
  }

  pub row-disagrees : (commit : Commit) → commit_at objects row.id ≡ Some commit → ¬ AgreesWith rows row commit → ¬ RowAgrees objects rows row
  row-disagrees commit stored bad a =
      let one : Some a.whole.commit ≡ Some commit = sym a.whole.stored ∙ stored in
      let same : a.whole.commit ≡ commit = cc in
      bad (subst (λ (c : Commit). AgreesWith rows row c) same (whole-agrees a))

-- the row of a number, from the commit that was read there, and what the store has at its id
module _ (objects : Objects) (rows : List GraphRow) (number : ℕ) (row : GraphRow) (own : ObjectId) (there : slice_get rows number ≡ Some row) (same : own ≡ row.id) where
  at-number : (P : GraphRow → Type 0) → P row → P (row_at rows number)
  at-number P h = subst P (sym (row_at-read rows number row there)) h

  pub checked : (commit : Commit) → commit_at objects own ≡ Some commit → AgreesWith rows row commit → RowAgrees objects rows (row_at rows number)
  checked commit stored h = at-number (λ (r : GraphRow). RowAgrees objects rows r) (row-agrees objects rows row commit (ap (commit_at objects) (sym same) ∙ stored) h)

  pub refused : (commit : Commit) → commit_at objects own ≡ Some commit → ¬ AgreesWith rows row commit → ((row_at rows number).id ≡ own) × ¬ RowAgrees objects rows (row_at rows number)
  refused commit stored h = at-number (λ (r : GraphRow). (r.id ≡ own) × ¬ RowAgrees objects rows r) (sym same, row-disagrees objects rows row commit (ap (commit_at objects) (sym same) ∙ stored) h)

  pub unread : (faulty : ObjectId → Type 0) (why : Disagreement) → IsUnread objects faulty own why → RowDisagrees objects faulty rows number why
  unread faulty (Row i) h = at-number (λ (r : GraphRow). (r.id ≡ i) × ¬ RowAgrees objects rows r) (sym same ∙ sym h.0, not-whole objects rows row (ap (commit_at objects) (sym same) ∙ h.1))
  unread faulty (Store i) h = at-number (λ (r : GraphRow). (r.id ≡ i) × faulty i) (sym same ∙ sym h.0, subst faulty (sym h.0) h.1)
  unread faulty Memory h = tt

-- where the tests before it hold, a row agrees exactly where its places do
module _ (rows : List GraphRow) (row : GraphRow) (commit : Commit) (generation : ℕ) (ids : List ObjectId) (own : generation ≡ row.generation) (same : ids ≡ commit.parents) where
  pub agrees-by : generation < 4294967295 → commit.time ≡ row.time → commit.tree ≡ row.tree → (b : Bool) → MatchBool b (PlacesAgree rows generation ids row.parents) (¬ PlacesAgree rows generation ids row.parents)
      → MatchBool b (AgreesWith rows row commit) (¬ AgreesWith rows row commit)
  agrees-by finite time tree true h = record { tree = tree; time = time; places = subst (λ (n : ℕ). PlacesAgree rows n commit.parents row.parents) own (subst (λ (x : List ObjectId). PlacesAgree rows generation x row.parents) same h); finite = omega arith }
  agrees-by finite time tree false h = λ a. h (subst (λ (x : List ObjectId). PlacesAgree rows generation x row.parents) (sym same) (subst (λ (n : ℕ). PlacesAgree rows n commit.parents row.parents) (sym own) a.places))

pub other-id : (a b c : ObjectId) (t : Bool) → t ≡ is_same a b → t ≡ false → b ≡ c → a ≡ c → ⊥
other-id a b c t e f same h = let one : is_same a b ≡ true = same_from a b (h ∙ sym same) in cc

pub one-id : (a b c : ObjectId) (t : Bool) → t ≡ is_same a b → t ≡ true → b ≡ c → a ≡ c
one-id a b c t e f same = same_is a b (sym e ∙ f) ∙ same

pub all-agree : (objects : Objects) (rows : List GraphRow) (end : ℕ) → end ≡ length rows → ((n : ℕ) → n < end → RowAgrees objects rows (row_at rows n)) → IsAgreeing objects rows
all-agree objects rows end e h row m =
    subst (λ (r : GraphRow). RowAgrees objects rows r) (get_or_default rows m.0 no_row row m.1 ∙ m.2) (h m.0 (let lt = m.1 in omega arith))

-- The rows that were read by pages have a history, which is cut below a generation.
use Rattle.std.proofs.Common.{◌≡◌, ◌≢◌, ◌⊎◌, ℕ, ◌<◌, ℤ, List, [], ◌++◌, take, Option, Some, None, if◌then◌else◌, nat_lt, Bool, true, false, Contains, slice_get, option_map, refl, sym, ap, subst, ◌∙◌, inl, inr, ⊎_elim, arith, ltb-true, le-ltb, lt-ltb}
use Rattle.std.proofs.lemmas.List.Elements.{All-contains}
use Rattle.std.proofs.lemmas.Option.{none-some, same_Some, slice_get_within, get_or_from_slice_get}
use Rattle.gix_hash.specs.declared.ObjectId.{ObjectId}
use Rattle.gix_commitgraph.specs.Packed.{AreGraphRows}
use Rattle.gix_commitgraph.specs.Rows.{GraphRow, row_of}
use Rattle.gix_revwalk.proofs.ReadsWhole.{place_of, row_stands}
use Rattle.gix_graph_check.specs.HeadsReach.{ids_of_places}
use Rattle.gix_graph_store.proofs.SoundRows.{member-own}
use Rattle.gix_statement.specs.WholeStatement.{Agree, IsCommit, IsHistory, IsThere, Object, Objects, Row}
use Rattle.gix_statement.proofs.OneCommit.{one_commit}
use Rattle.gix_history_cut.proofs.BelowLine.{IsCut}
use Rattle.gix_graph_pages.specs.GraphPages.{AreSoundLayers, Layer, all_rows}
use Rattle.gix_graph_pages.proofs.ReadRows.{layer_with, row_on}
use Rattle.gix_graph_pages.specs.PagedRows.{ArePaged, ArePart, IsAbove, IsRowOfFile, Pages}
use Rattle.gix_commands.specs.Pages.{page_row, page_rows}
use Rattle.gix_commands.proofs.RowsAsTexts.{from_map, into_map}

-- it has a row of a lesser generation
abbrev pub Below : (rows : List Row) → (generation : ObjectId → ℕ) → (least : ℕ) → ObjectId → Type 0
Below rows generation least i = (r : Row) × Contains rows r × (r.id ≡ i) × (generation i < least)

abbrev pub known_of : (least : ℕ) → Option GraphRow → List ObjectId → List ObjectId
known_of least None ids = ids
known_of least (Some row) ids = if nat_lt row.generation least then [] else ids

-- the parents, but of rows of a lesser generation
abbrev pub known : (graph : List GraphRow) → (least : ℕ) → (parents : ObjectId → List ObjectId) → ObjectId → List ObjectId
known graph least parents i = known_of least (row_of graph i) (parents i)

-- a row's commit is there
row_there : (objects : Objects) (rows : List Row) → Agree objects rows → (r : Row) → Contains rows r → IsCommit objects rows r
row_there objects rows agree r c = go (objects r.id) refl
  where
    go : (o : Option Object) → objects r.id ≡ o → IsCommit objects rows r
    go None none = inr (none, c)
    go (Some o) at = inl (agree.1 r c (λ none. none-some o (sym none ∙ at)))

-- a member by its number among some of all rows
row_by_number : (rows some : List Row) → ((n : ℕ) (r : Row) → slice_get some n ≡ Some r → slice_get rows n ≡ Some r) → (o : Option Row) (n : ℕ) (p : ObjectId) → slice_get some n ≡ o
    → option_map (λ (parent : Row). parent.id) o ≡ Some p → (r : Row) × Contains rows r × (r.id ≡ p)
row_by_number rows some on None n p at e = absurd (none-some p e)
row_by_number rows some on (Some r) n p at e = let there = on n r at in (r, (n, slice_get_within rows n r there, get_or_from_slice_get rows n r r there), same_Some r.id p e)

-- each parent of a row has a row
parent_row : (layers : List Layer) (generation : ObjectId → ℕ) → AreSoundLayers layers generation → (r : Row) → Contains (all_rows layers) r → (p : ObjectId) → Contains r.parents p
    → (s : Row) × Contains (all_rows layers) s × (s.id ≡ p)
parent_row layers generation sound r c p m =
    let (k, layer, there, among) = layer_with layers r c in
    let at = place_of layer.rows r among in
    let so_far = all_rows (take k layers) ++ layer.rows in
    let row = (sound.each k layer there).has.14 at.0 r at.1 in
    let named = subst (λ those. Contains those (Some p)) row.6 (into_map Some r.parents p m) in
    let n = from_map (λ n. option_map (λ (parent : Row). parent.id) (slice_get so_far n)) row.0 (Some p) named in
    row_by_number (all_rows layers) so_far (row_on layers k layer there) (slice_get so_far n.0) n.0 p refl n.2

module _ (pages : Pages) (graph : List GraphRow) (least : ℕ) (graph_rows : AreGraphRows graph) (part : ArePart pages graph least)
    (layers : List Layer) (generation : ObjectId → ℕ) (read : ArePaged pages layers generation)
    (objects : Objects) (consistent : Agree objects (all_rows layers)) (agree : Agree objects (page_rows graph))
    (parents : ObjectId → List ObjectId) (time : ObjectId → ℤ) (history : IsHistory objects (all_rows layers) parents time) where
  abbrev rows : List Row
  rows = all_rows layers

  row_is : (row : GraphRow) → Contains graph row → IsRowOfFile least graph rows generation row
  row_is = part layers generation read

  says : (r : Row) → Contains rows r → (parents r.id ≡ r.parents) × (time r.id ≡ r.time)
  says r c = history r (row_there objects rows consistent r c)

  down : (i p : ObjectId) → Below rows generation least i → Contains (parents i) p → Below rows generation least p
  down i p (r, c, is, low) m =
      let among : Contains r.parents p = subst (λ ps. Contains ps p) (sym (ap parents is) ∙ (says r c).0) m in
      let s = parent_row layers generation read.sound r c p among in
      let less : generation p < generation r.id = All-contains (λ p. generation p < generation r.id) r.parents p (read.sound.falling r c) among in
      let level : generation r.id ≡ generation i = ap generation is in
      (s.0, s.1, s.2, omega (arith, less, level, low))

  below_row : (i : ObjectId) (row : GraphRow) → row_of graph i ≡ Some row → row.generation < least → Below rows generation least i
  below_row i row e low =
      let m = row_stands graph i row e in
      let s : IsRowOfFile least graph rows generation row = row_is row m.0 in
      let is : s.said.id ≡ i = s.id ∙ sym m.1 in
      let level : generation i ≡ row.generation = sym (ap generation is) ∙ s.level in
      (s.said, s.there, is, omega (arith, level, low))

  same : (i : ObjectId) → (known graph least parents i ≡ parents i) ⊎ ((known graph least parents i ≡ []) × Below rows generation least i)
  same i = go (row_of graph i) refl
    where
      go : (o : Option GraphRow) → row_of graph i ≡ o → (known_of least o (parents i) ≡ parents i) ⊎ ((known_of least o (parents i) ≡ []) × Below rows generation least i)
      go None e = inl refl
      go (Some row) e = by (nat_lt row.generation least) refl
        where
          by : (b : Bool) → nat_lt row.generation least ≡ b → ((if b then [] else parents i) ≡ parents i) ⊎ (((if b then [] else parents i) ≡ []) × Below rows generation least i)
          by true l = inr (refl, below_row i row e (ltb-true row.generation least l))
          by false l = inl refl

  -- the history is cut
  pub is_cut : IsCut (Below rows generation least) parents (known graph least parents)
  is_cut = record { down = down; same = same }

  -- what a row of the graph says is known
  row_known : (row : GraphRow) → Contains graph row → (known graph least parents row.id ≡ ids_of_places graph row.parents) × (time row.id ≡ row.time)
  row_known row m =
      let s : IsRowOfFile least graph rows generation row = row_is row m in
      let h = says s.said s.there in (
        ap (λ o. known_of least o (parents row.id)) (member-own graph graph_rows row m)
            ∙ ⊎_elim
            (λ a. ap (λ b. if b then [] else parents row.id) (le-ltb row.generation least a.0) ∙ sym (ap parents s.id) ∙ h.0 ∙ sym a.1)
            (λ b. ap (λ b. if b then [] else parents row.id) (lt-ltb row.generation least b.0) ∙ sym (ap (ids_of_places graph) b.1))
            s.parents,
        sym (ap time s.id) ∙ h.1 ∙ s.time,
      )

  -- it is a history of the objects and the rows of the graph
  pub is_history : IsHistory objects (page_rows graph) (known graph least parents) time
  is_history r (inr (none, c)) =
      let m = from_map (page_row graph) graph r c in
      subst (λ (x : Row). (known graph least parents x.id ≡ x.parents) × (time x.id ≡ x.time)) m.2 (row_known m.0 m.1)
  is_history r (inl text) = (go (row_of graph r.id) refl, (history r (inl text)).1)
    where
      go : (o : Option GraphRow) → row_of graph r.id ≡ o → known graph least parents r.id ≡ r.parents
      go None e = ap (λ o. known_of least o (parents r.id)) e ∙ (history r (inl text)).0
      go (Some row) e =
          let m = row_stands graph r.id row e in
          let page : IsCommit objects (page_rows graph) (page_row graph row) =
          row_there objects (page_rows graph) agree (page_row graph row) (into_map (page_row graph) graph row m.0) in
          ap (known graph least parents) m.1 ∙ (row_known row m.0).0 ∙ (one_commit objects (page_rows graph) agree (page_row graph row) r (sym m.1) page (inl text)).0

  -- what is there by the graph is there
  pub there_on : (i : ObjectId) → IsThere objects (page_rows graph) i → IsThere objects rows i
  there_on i (r, is, inl text) = (r, is, inl text)
  there_on i (r, is, inr (none, c)) =
      let m = from_map (page_row graph) graph r c in
      let s : IsRowOfFile least graph rows generation m.0 = row_is m.0 m.1 in
      (s.said, s.id ∙ ap (λ (x : Row). x.id) m.2 ∙ is, row_there objects rows consistent s.said s.there)

  -- what is above isn't below
  pub not_below : (i : ObjectId) → IsAbove pages graph least i → Below rows generation least i → ⊥
  not_below i (inl (row, e, high)) (r, c, is, low) =
      let m = row_stands graph i row e in
      let s : IsRowOfFile least graph rows generation row = row_is row m.0 in
      let level : generation i ≡ row.generation = sym (ap generation (s.id ∙ sym m.1)) ∙ s.level in
      omega (arith, level, low, high)
  not_below i (inr none) (r, c, is, low) = All-contains (λ (r : Row). r.id ≢ i) rows r (none layers generation read) c is

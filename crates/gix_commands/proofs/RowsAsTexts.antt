-- A store that has a commit for each row has the commits and the trees, by the page, that the store and the rows have.
use Rattle.std.proofs.Common.{◌≡◌, ◌≢◌, ℕ, List, [], ◌∷◌, ◌++◌, length, map, Option, Some, None, AllPairs, Contains, codes, refl, sym, ap, subst, ◌∙◌, inl, inr, ⊎_elim, slice_get, option_map, arith}
use Rattle.std.proofs.Common.{Less, Equal}
use Rattle.std.specs.Cmp.{Equal-is}
use Rattle.std.specs.FinMap.{get}
use Rattle.std.specs.List.{AllByRecursion}
use Rattle.std.specs.List.Sorted.{IsStrictlySortedBy}
use Rattle.std.specs.Option.{option_or}
use Rattle.std.proofs.lemmas.List.Elements.{All-from_recursion}
use Rattle.std.proofs.lemmas.List.Kept.{AllPairs-cons}
use Rattle.std.proofs.lemmas.Option.{none-some, same_Some, slice_get_within}
pub use Rattle.gix_topo.proofs.Readiness.ReadyIds.{from_map}
use Rattle.gix_hash.specs.declared.ObjectId.{ObjectId}
use Rattle.gix_hash.specs.Id.{id_cmp}
use Rattle.gix_hash.proofs.Ids.Membership.{Contains-here, Contains-there, Contains-cons_cases, no_member, same_from}
use Rattle.gix_object.specs.Object.{Object, Objects}
use Rattle.gix_object.specs.CommitText.{Commit}
use Rattle.gix_commitgraph.specs.declared.ParentPlace.{ParentPlace}
use Rattle.gix_commitgraph.specs.declared.ParentPlace.TheVariants.{At, Fault}
use Rattle.gix_commitgraph.specs.Packed.{AreGraphRows, ids_of_rows}
use Rattle.gix_commitgraph.specs.Rows.{GraphRow, row_at, row_of}
use Rattle.gix_commitgraph.proofs.Packed.RowSearch.{row_of-found}
use Rattle.gix_revwalk.specs.Agreeing.{IsAgreeing, RowAgrees}
use Rattle.gix_revwalk.specs.Commits.{commit_at, parents_in, ReadsWhole}
use Rattle.gix_revwalk.specs.RowParents.{ids_at, with_id}
use Rattle.gix_revwalk.proofs.ReadsWhole.{place_of, row_parents, row_stands}
use Rattle.gix_graph_check.specs.HeadsReach.{ids_of_places}
use Rattle.gix_graph_check.specs.Sound.{AreSound}
use Rattle.gix_graph_check.proofs.SoundRows.{row_at-read}
use Rattle.gix_graph_store.specs.Laws.{StoredAgree}
use Rattle.gix_graph_store.specs.RowText.{text_at}
use Rattle.gix_graph_store.specs.WithRows.{commit_object, with_rows}
use Rattle.gix_graph_store.proofs.SoundRows.{rows-tell, stored-stays, told-rows-agree}
use Rattle.gix_graph_store.proofs.ToldObjects.{get-with_rows}
use Rattle.gix_statement.proofs.OneCommit.{drop_word, line_same, one_commit}
use Rattle.gix_statement.specs.WholeStatement as page
use Rattle.gix_statement.specs.WholeStatement.{Agree, Entry, IsCommit, IsText, IsThere, IsTree, Row, Spells, digits_in}
use Rattle.gix_commands.specs.Chosen.{HasObject}
use Rattle.gix_commands.specs.Pages.{as_page, page_objects, page_row, page_rows}

-- ---- what a text says is one row

none_agree : (objects : page.Objects) → Agree objects []
none_agree objects = ((λ i j d l below. absurd (omega (arith, below))), λ r c. absurd (no_member r c))

pub same_row : (objects : page.Objects) (r s : Row) → r.id ≡ s.id → IsText objects r → IsText objects s → r ≡ s
same_row objects r s one text other =
    let both = one_commit objects [] (none_agree objects) r s one (inl text) (inl other) in
    let tree = same_tree text other in
    (λ k. record { id = one k; tree = tree k; parents = both.0 k; time = both.1 k })
  where
    same_tree : IsText objects r → IsText objects s → r.tree ≡ s.tree
    same_tree (id, lines, rest, tree, parents, time, is) (number, others, more, t, named, timed, same) =
        let width : digits_in r.id ≡ digits_in s.id = ap digits_in one in
        let found = same_Some _ _ (sym is ∙ ap objects one ∙ same) in
        let texts = ap (λ (o : page.Object). o.bytes) found in
        let cut = drop_word (codes "tree ") (id ++ 10 ∷ lines) (number ++ 10 ∷ others) texts in
        (line_same (digits_in r.id) id number lines others r.tree s.tree tree (subst (λ w. Spells w number s.tree) (sym width) t) cut).0

-- a text is the same wherever its object is
pub text_moves : (objects others : page.Objects) (r : Row) → ((o : page.Object) → objects r.id ≡ Some o → others r.id ≡ Some o) → IsText objects r → IsText others r
text_moves objects others r on (id, lines, rest, spells, parents, time, is) = (id, lines, rest, spells, parents, time, on _ is)

-- ---- lists of rows

pub into_map : {X Y : Type 0} (f : X → Y) (xs : List X) (x : X) → Contains xs x → Contains (map f xs) (f x)
into_map f [] x c = absurd (no_member x c)
into_map f (y ∷ xs) x c =
    ⊎_elim (λ e. subst (λ z. Contains (f y ∷ map f xs) (f z)) e (Contains-here (f y) (map f xs))) (λ t. Contains-there (f x) (f y) (map f xs) (into_map f xs x t)) (Contains-cons_cases x y xs c)

-- ids that rise are different
less_differs : (i j : ObjectId) → id_cmp i j ≡ Less → i ≢ j
less_differs i j l e = let same : id_cmp i j ≡ Equal = (Equal-is (id_cmp i j)).0 (same_from i j e) in let bad : Less ≡ Equal = sym l ∙ same in cc

module _ (all : List GraphRow) where
  above : (i : ObjectId) (xs : List GraphRow) → AllByRecursion (λ j. id_cmp i j ≡ Less) (ids_of_rows xs) → AllByRecursion (λ (s : Row). i ≢ s.id) (map (page_row all) xs)
  above i [] h = tt
  above i (x ∷ xs) h = (less_differs i x.id h.0, above i xs h.1)

  distinct : (xs : List GraphRow) → IsStrictlySortedBy id_cmp (ids_of_rows xs) → AllPairs (λ (r s : Row). r.id ≢ s.id) (map (page_row all) xs)
  unfolding IsStrictlySortedBy
  distinct [] s = λ i j d l below. absurd (omega (arith, below))
  distinct (x ∷ xs) s = AllPairs-cons (λ (r s : Row). r.id ≢ s.id) (page_row all x) (map (page_row all) xs) (All-from_recursion (λ (s : Row). x.id ≢ s.id) (map (page_row all) xs) (above x.id xs s.0)) (distinct xs s.1)

  -- the ids at places that aren't corrupt
  ids_there : (places : List ParentPlace) (ids : List ObjectId) → ids_at all places ≡ Some ids → ids_of_places all places ≡ ids
  ids_there [] ids e = let same : [] ≡ ids = cc in same
  ids_there (Fault ∷ places) ids e = cc
  ids_there (At n ∷ places) ids e = go (slice_get all n) refl (ids_at all places) refl (λ those. ids_there places those) e
    where
      go : (o : Option GraphRow) → slice_get all n ≡ o → (r : Option (List ObjectId)) → ids_at all places ≡ r → ((those : List ObjectId) → ids_at all places ≡ Some those → ids_of_places all places ≡ those) → with_id o r ≡ Some ids → (row_at all n).id ∷ ids_of_places all places ≡ ids
      go None a r b rest e = cc
      go (Some row) a None b rest e = cc
      go (Some row) a (Some those) b rest e =
          let same : row.id ∷ those ≡ ids = cc in
          (λ k. (row_at-read all n row a k).id ∷ rest those b k) ∙ same

-- no rows are a graph
pub no_rows_graph : AreGraphRows []
unfolding IsStrictlySortedBy
no_rows_graph = record { each = tt; rising = tt; few = omega arith; few_words = omega arith }

-- the row of its own id
pub own_row : (rows : List GraphRow) → AreGraphRows rows → (row : GraphRow) → Contains rows row → row_of rows row.id ≡ Some row
own_row rows graph row m =
    let at = place_of rows row m in
    let is : row_at rows at.0 ≡ row = row_at-read rows at.0 row at.1 in
    row_of-found rows row.id at.0 graph.rising (slice_get_within rows at.0 row at.1) ((Equal-is (id_cmp (row_at rows at.0).id row.id)).0 (same_from (row_at rows at.0).id row.id (ap (λ (r : GraphRow). r.id) is))) ∙ ap Some is

-- ---- a store with a commit for each row

module _ (whole_text : (objects : Objects) (i : ObjectId) (c : Commit) → commit_at objects i ≡ Some c → IsText (page_objects objects) (record { id = i; tree = c.tree; parents = c.parents; time = c.time }))
    (rows : List GraphRow) (objects : Objects) (graph : AreGraphRows rows) (sound : AreSound rows) (agree : StoredAgree rows objects) where
  abbrev every : Objects
  every = with_rows rows objects

  pub every_agree : IsAgreeing every rows
  every_agree = told-rows-agree rows objects graph sound agree

  -- what is stored stays
  stays : (i : ObjectId) (o : page.Object) → page_objects objects i ≡ Some o → page_objects every i ≡ Some o
  stays i o e = go (get objects i) refl e
    where
      go : (found : Option Object) → get objects i ≡ found → option_map as_page found ≡ Some o → page_objects every i ≡ Some o
      go None at e = absurd (none-some _ e)
      go (Some object) at e = ap (option_map as_page) (stored-stays rows objects i object at) ∙ e

  -- and where something is stored, nothing else is
  stays_back : (i : ObjectId) (object : Object) → get objects i ≡ Some object → (o : page.Object) → page_objects every i ≡ Some o → page_objects objects i ≡ Some o
  stays_back i object at o e = ap (option_map as_page) (at ∙ sym (stored-stays rows objects i object at)) ∙ e

  -- the text of a row says what the row says
  pub row_text : (row : GraphRow) → Contains rows row → IsText (page_objects every) (page_row rows row)
  row_text row m =
      let own = own_row rows graph row m in
      let w = (rows-tell rows objects row.id graph).whole sound row own in
      let a : RowAgrees every rows row = every_agree row m in
      let parents : a.whole.commit.parents ≡ ids_of_places rows row.parents =
      sym (ap parents_in a.whole.stored) ∙ sym (row_parents every rows every_agree row.id row w.0 own w.2) ∙ sym (ids_there rows row.parents w.0 w.2) in
      subst (IsText (page_objects every)) (λ k. record { id = row.id; tree = a.tree k; parents = parents k; time = a.time k }) (whole_text every row.id a.whole.commit a.whole.stored)

  -- so the rows contradict no object
  pub rows_agree : Agree (page_objects objects) (page_rows rows)
  rows_agree = (distinct rows rows graph.rising, λ r c some. let m = from_map (page_row rows) rows r c in subst (λ x. page_objects objects x.id ≢ None → IsText (page_objects objects) x) m.2 (said m.0 m.1) some)
    where
      said : (row : GraphRow) → Contains rows row → page_objects objects row.id ≢ None → IsText (page_objects objects) (page_row rows row)
      said row m some = go (get objects row.id) refl
        where
          go : (o : Option Object) → get objects row.id ≡ o → IsText (page_objects objects) (page_row rows row)
          go None at = absurd (some (ap (option_map as_page) at))
          go (Some object) at = text_moves (page_objects every) (page_objects objects) (page_row rows row) (stays_back row.id object at) (row_text row m)

  -- where nothing is stored, a text is that of a row
  text_rowed : (r : Row) → get objects r.id ≡ None → IsText (page_objects every) r → Contains (page_rows rows) r
  text_rowed r none text = go (row_of rows r.id) refl
    where
      go : (o : Option GraphRow) → row_of rows r.id ≡ o → Contains (page_rows rows) r
      go None e = let gone : page_objects every r.id ≡ None = ap (option_map as_page) ((rows-tell rows objects r.id graph).other e ∙ none) in absurd (none-some _ (sym gone ∙ text.6))
      go (Some row) e =
          let s = row_stands rows r.id row e in
          subst (Contains (page_rows rows)) (sym (same_row (page_objects every) r (page_row rows row) s.1 text (row_text row s.0))) (into_map (page_row rows) rows row s.0)

  -- if a commit that has a row is stored, what is stored is what is there
  pub stored_there : (i : ObjectId) → HasObject objects rows i → IsThere (page_objects every) [] i → IsThere (page_objects objects) [] i × (page_objects every i ≡ page_objects objects i)
  stored_there i stored (r, is, inr (none, row)) = absurd (no_member r row)
  stored_there i stored (r, is, inl text) = ((r, is, inl (text_moves (page_objects every) (page_objects objects) r own text)), subst (λ j. page_objects every j ≡ page_objects objects j) is (text.6 ∙ sym (own _ text.6)))
    where
      own : (o : page.Object) → page_objects every r.id ≡ Some o → page_objects objects r.id ≡ Some o
      own o at = go (row_of rows r.id) refl (get objects r.id) refl
        where
          go : (row : Option GraphRow) → row_of rows r.id ≡ row → (found : Option Object) → get objects r.id ≡ found → page_objects objects r.id ≡ Some o
          go row e (Some object) f = stays_back r.id object f o at
          go None e None f = sym (ap (option_map as_page) ((rows-tell rows objects r.id graph).other e)) ∙ at
          go (Some row) e None f = absurd (stored (λ none. none-some row (sym (subst (λ j. row_of rows j ≡ None) (sym is) none) ∙ e)) (subst (λ j. get objects j ≡ None) is f))

  -- COMMITS
  pub text_is_commit : (r : Row) → IsText (page_objects every) r → IsCommit (page_objects objects) (page_rows rows) r
  text_is_commit r text = go (get objects r.id) refl
    where
      go : (o : Option Object) → get objects r.id ≡ o → IsCommit (page_objects objects) (page_rows rows) r
      go None none = inr (ap (option_map as_page) none, text_rowed r none text)
      go (Some object) at = inl (text_moves (page_objects every) (page_objects objects) r (stays_back r.id object at) text)

  -- TREES
  no_tree : (i : ObjectId) (bytes : List ℕ) → get objects i ≡ None → page_objects every i ≡ Some (record { kind = codes "tree"; bytes = bytes }) → ⊥
  no_tree i bytes none e = go (text_at rows i) (sym (ap (option_map as_page) (get-with_rows rows objects i ∙ ap (λ o. option_or o (option_map commit_object (text_at rows i))) none)) ∙ e)
    where
      go : (o : Option (List ℕ)) → option_map as_page (option_or None (option_map commit_object o)) ≡ Some (record { kind = codes "tree"; bytes = bytes }) → ⊥
      go None e = none-some _ e
      go (Some text) e = let words : codes "commit" ≡ codes "tree" = ap (λ (o : page.Object). o.kind) (same_Some _ _ e) in let long : length (codes "commit") ≡ length (codes "tree") = ap length words in omega (arith, long)

  pub tree_is_tree : (i : ObjectId) (entries : List Entry) → IsTree (page_objects every) i entries → IsTree (page_objects objects) i entries
  tree_is_tree i entries (text, is, are) = go (get objects i) refl
    where
      go : (o : Option Object) → get objects i ≡ o → IsTree (page_objects objects) i entries
      go None none = absurd (no_tree i text none is)
      go (Some object) at = (text, stays_back i object at _ is, are)

  -- each row's commit reads whole
  pub row_whole : (row : GraphRow) → Contains rows row → ReadsWhole every row.id
  row_whole row m = (every_agree row m).whole

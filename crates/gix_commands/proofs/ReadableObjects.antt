-- What is read of objects, by what they are.
use Rattle.std.proofs.Common.{is_lt, ◌≡◌, ℕ, Bool, true, false, cond, ◌&&◌, T, List, [], ◌∷◌, map, Option, Some, None, Ok, Contains, option_map, IsSome, refl, sym, ap, ap₂, subst, ◌∙◌}
use Rattle.gix_commands.proofs.Common.{get, ObjectId, id_cmp, is_same, kind_of, same_is, Object, Objects, GraphRow, IsAgreeing, RowAgrees, commit_at, commit_of_kind, commit_of_object, parents_in, parents_of, read_commit, Commit, scan_is, AreWhole}
use Rattle.gix_commands.proofs.Common.{entries_at, items_of_kind, items_of_object, LookUpFails, trees_of, never_faulty, Items, Visit}
use Rattle.std.specs.FinMap as map_of
use Rattle.std.specs.List.{AllByRecursion}
use Rattle.std.specs.FinMap.Entries.{below_all}
use Rattle.gix_hash.specs.declared.Kind.{Kind as HashKind}
use Rattle.gix_hash.specs.Reach.{Reaches}
use Rattle.gix_object.specs.declared.Kind.{Kind}
use Rattle.gix_object.specs.declared.Kind.TheVariants as kind
use Rattle.gix_object.specs.declared.find.existing_iter.Error.{Error as ExistingError}
use Rattle.gix_object.specs.declared.find.existing_iter.Error.TheVariants as existing
use Rattle.gix_object.specs.Find.{FindsInto}
use Rattle.gix_object.specs.TreeItems.{TreeEntry}
use Rattle.gix_revwalk.specs.declared.Parents.TheVariants as mode
use Rattle.gix_tree.specs.Laws.{AreSound, subtrees_of}
use Rattle.gix_tree.specs.Paths.{IsName, known_root}
use Rattle.gix_tree.specs.Preorder.{IsPreorder}
use Rattle.gix_commands.specs.Listings.{AreNamed, Misnames, Unfolds}
use Rattle.gix_commands.specs.Readable.{is_faultless, is_text, or_zero, readable_bytes, readable_object, readable}

module _ (all_lines : Bool) where
  changed : List (ObjectId × Object) → List (ObjectId × Object)
  changed es = map (λ e. (e.0, readable_object all_lines e.0 e.1)) es

  changed_below : (x : ObjectId) (es : List (ObjectId × Object)) → below_all id_cmp x (changed es) ≡ below_all id_cmp x es
  unfolding changed
  changed_below x [] = refl
  changed_below x (e ∷ es) = ap (λ b. is_lt (id_cmp x e.0) && b) (changed_below x es)

  changed_sorted : (es : List (ObjectId × Object)) → map_of.is_sorted id_cmp (changed es) ≡ map_of.is_sorted id_cmp es
  unfolding changed
  changed_sorted [] = refl
  changed_sorted (e ∷ es) = ap₂ (λ a b. a && b) (changed_below e.0 es) (changed_sorted es)

  changed_find : (q : ObjectId) (es : List (ObjectId × Object)) → map_of.find id_cmp q (changed es) ≡ option_map (readable_object all_lines q) (map_of.find id_cmp q es)
  unfolding changed
  changed_find q [] = refl
  changed_find q (e ∷ es) = go (is_same q e.0) refl (changed_find q es)
    where
      go : (b : Bool) → is_same q e.0 ≡ b → map_of.find id_cmp q (changed es) ≡ option_map (readable_object all_lines q) (map_of.find id_cmp q es)
          → cond b (Some (readable_object all_lines e.0 e.1)) (map_of.find id_cmp q (changed es)) ≡ option_map (readable_object all_lines q) (cond b (Some e.1) (map_of.find id_cmp q es))
      go true same rest = ap (λ i. Some (readable_object all_lines i e.1)) (sym (same_is q e.0 same))
      go false other rest = rest

  module _ (objects : Objects) (i : ObjectId) where
    sorted : T (map_of.is_sorted id_cmp (changed (map_of.entries objects)))
    sorted = subst T (sym (changed_sorted (map_of.entries objects))) (map_of.entries_sorted objects)

    pub get-readable : get (readable all_lines objects) i ≡ option_map (readable_object all_lines i) (get objects i)
    unfolding readable changed
    get-readable = map_of.get-from_sorted id_cmp _ i sorted ∙ changed_find i (map_of.entries objects) ∙ ap (option_map (readable_object all_lines i)) (sym (map_of.get-entries objects i))

    -- what a look-up finds
    pub finds_readable : (faulty : Type 0) (k : Kind) (held new : List ℕ) → FindsInto (get objects i) faulty (Ok (Some k)) held → new ≡ readable_bytes all_lines i k held → FindsInto (get (readable all_lines objects) i) faulty (Ok (Some k)) new
    finds_readable faulty k held new found is = get-readable ∙ ap (option_map (readable_object all_lines i)) found ∙ ap (λ bytes. Some (record { kind = k; bytes = bytes })) (sym is)

    pub finds_none : get objects i ≡ None → get (readable all_lines objects) i ≡ None
    finds_none none = get-readable ∙ ap (option_map (readable_object all_lines i)) none

    pub none_back : get (readable all_lines objects) i ≡ None → get objects i ≡ None
    none_back none = go (get objects i) (sym get-readable ∙ none)
      where
        go : (o : Option Object) → option_map (readable_object all_lines i) o ≡ None → o ≡ None
        go None e = refl
        go (Some o) e = cc

    pub some_back : (k : Kind) (bytes : List ℕ) → get (readable all_lines objects) i ≡ Some (record { kind = k; bytes = bytes }) → (o : Object) × (get objects i ≡ Some o) × (readable_object all_lines i o ≡ record { kind = k; bytes = bytes })
    some_back k bytes some = go (get objects i) refl (sym get-readable ∙ some)
      where
        go : (o : Option Object) → get objects i ≡ o → option_map (readable_object all_lines i) o ≡ Some (record { kind = k; bytes = bytes }) → (o : Object) × (get objects i ≡ Some o) × (readable_object all_lines i o ≡ record { kind = k; bytes = bytes })
        go None at e = cc
        go (Some o) at e = (o, at, cc)

-- a text from which a commit is read is one as far as its parents
pub commit_text_whole : (all_lines : Bool) (k : HashKind) (bytes : List ℕ) (c : Commit) → read_commit k bytes ≡ Some c → is_text all_lines k bytes ≡ true
commit_text_whole all_lines k [] c e = cc
commit_text_whole false k (b ∷ bs) c e = refl
commit_text_whole true k (b ∷ bs) c e = ap (λ r. is_faultless r.1) (scan_is k (b ∷ bs) c e mode.All)

read_same : (all_lines : Bool) (k : HashKind) (bytes : List ℕ) → read_commit k (or_zero (is_text all_lines k bytes) bytes) ≡ read_commit k bytes
read_same all_lines k bytes = go (is_text all_lines k bytes) refl
  where
    none : is_text all_lines k bytes ≡ false → (o : Option Commit) → read_commit k bytes ≡ o → read_commit k bytes ≡ None
    none e None h = h
    none e (Some c) h = let bad : true ≡ false = sym (commit_text_whole all_lines k bytes c h) ∙ e in cc

    go : (t : Bool) → is_text all_lines k bytes ≡ t → read_commit k (or_zero t bytes) ≡ read_commit k bytes
    go true e = refl
    go false e = sym (none e (read_commit k bytes) refl)

module _ (all_lines : Bool) (objects : Objects) where
  -- commits are the same
  pub commit_same : (i : ObjectId) → commit_at (readable all_lines objects) i ≡ commit_at objects i
  commit_same i = ap (commit_of_object i) (get-readable all_lines objects i) ∙ go (get objects i)
    where
      kinds : (k : Kind) (bytes : List ℕ) → commit_of_kind i k (readable_bytes all_lines i k bytes) ≡ commit_of_kind i k bytes
      kinds kind.Commit bytes = read_same all_lines (kind_of i) bytes
      kinds kind.Tree bytes = refl
      kinds kind.Blob bytes = refl
      kinds kind.Tag bytes = refl

      go : (o : Option Object) → commit_of_object i (option_map (readable_object all_lines i) o) ≡ commit_of_object i o
      go None = refl
      go (Some o) = kinds o.kind o.bytes

  -- and trees
  pub trees_same : (i : ObjectId) → trees_of (readable all_lines objects) i ≡ trees_of objects i
  trees_same i = ap (items_of_object i) (get-readable all_lines objects i) ∙ go (get objects i)
    where
      kinds : (k : Kind) (bytes : List ℕ) → items_of_kind i k (readable_bytes all_lines i k bytes) ≡ items_of_kind i k bytes
      kinds kind.Commit bytes = refl
      kinds kind.Tree bytes = refl
      kinds kind.Blob bytes = refl
      kinds kind.Tag bytes = refl

      go : (o : Option Object) → items_of_object i (option_map (readable_object all_lines i) o) ≡ items_of_object i o
      go None = refl
      go (Some o) = kinds o.kind o.bytes

  pub all_trees_same : trees_of (readable all_lines objects) ≡ trees_of objects
  all_trees_same k i = trees_same i k

  -- rows agree with what is read where they agree with what there is
  pub readable_agrees : (rows : List GraphRow) → IsAgreeing objects rows → IsAgreeing (readable all_lines objects) rows
  readable_agrees rows agree row c =
      let a : RowAgrees objects rows row = agree row c in
      record {
        whole = record { commit = a.whole.commit; stored = commit_same row.id ∙ a.whole.stored };
        tree = a.tree;
        time = a.time;
        places = a.places;
        parents = a.parents;
        finite = a.finite;
      }

  pub readable_whole : (ids : List ObjectId) → AreWhole objects ids → AreWhole (readable all_lines objects) ids
  readable_whole ids = subst (λ (f : ObjectId → Option Commit). (i : ObjectId) → Reaches (λ j. parents_in (f j)) ids i → IsSome (f i)) (λ k i. sym (commit_same i) k)

  pub reaches_back : (ids : List ObjectId) (i : ObjectId) → Reaches (parents_of (readable all_lines objects)) ids i → Reaches (parents_of objects) ids i
  reaches_back ids i = subst (λ (f : ObjectId → Option Commit). Reaches (λ j. parents_in (f j)) ids i) (λ k j. commit_same j k)

  fails_back : (i : ObjectId) (why : ExistingError) → LookUpFails (readable all_lines objects) (never_faulty (readable all_lines objects)) i why → LookUpFails objects (never_faulty objects) i why
  fails_back i existing.Store f = f
  fails_back i (existing.NotFound oid) f = (f.0, none_back all_lines objects i f.1)
  fails_back i (existing.ObjectKind oid wanted actual) f =
      let s = some_back all_lines objects i actual f.3 f.4 in
      (f.0, f.1, f.2, s.0.bytes, s.1 ∙ ap (λ k. Some (record { kind = k; bytes = s.0.bytes })) (ap (λ o. o.kind) s.2))
  fails_back i existing.Memory f = f

  pub readable_sound : (into : TreeEntry → Bool) (starts : List ObjectId) → AreSound (trees_of objects) (LookUpFails objects (never_faulty objects)) into starts → AreSound (trees_of (readable all_lines objects)) (LookUpFails (readable all_lines objects) (never_faulty (readable all_lines objects))) into starts
  readable_sound into starts h =
      let s = subst (λ (t : ObjectId → Option Items). AreSound t (LookUpFails objects (never_faulty objects)) into starts) (sym all_trees_same) h in
      record { whole = λ i r. let w = s.whole i r in record { stored = w.stored; found = λ why f. w.found why (fails_back i why f) }; free = s.free }

  pub readable_named : (tree : ObjectId) → AreNamed objects tree → AreNamed (readable all_lines objects) tree
  readable_named tree =
      subst (λ (t : ObjectId → Option Items). (i : ObjectId) → Reaches (subtrees_of t (LookUpFails objects (never_faulty objects)) (λ e. true)) (tree ∷ []) i → AllByRecursion (λ e. IsName e.name) (entries_at t i)) (sym all_trees_same)

  pub unfolds_back : (tree : ObjectId) (visits : List Visit) → Unfolds (readable all_lines objects) tree visits → Unfolds objects tree visits
  unfolds_back tree visits u = record {
    in_order = subst (λ (t : ObjectId → Option Items). IsPreorder (entries_at t) (known_root tree) (entries_at t tree) visits false) all_trees_same u.in_order;
    all = u.all;
  }

  pub misnames_back : (tree i : ObjectId) → Misnames (readable all_lines objects) tree i → Misnames objects tree i
  misnames_back tree i m = record {
    visits = m.visits;
    unfolds = unfolds_back tree m.visits m.unfolds;
    first = m.first;
    entry = m.entry;
    held = subst (λ (t : ObjectId → Option Items). Contains (entries_at t i) m.entry) all_trees_same m.held;
    unnamed = m.unnamed;
  }

-- What a store with rows has at an id.
use Rattle.std.proofs.Common.{◌≡◌, ℕ, List, [], ◌∷◌, ◌++◌, Option, Some, None, Ok, Bool, true, false, cond, refl, sym, ap, subst, ◌∙◌, ◌||◌, option_map}
use Rattle.std.specs.Option.{option_or}
use Rattle.std.specs.FinMap as map_of
use Rattle.gix_hash.specs.declared.ObjectId.{ObjectId}
use Rattle.gix_hash.specs.Id.{id_cmp, is_same, is_among}
use Rattle.gix_hash.proofs.Ids.Membership.{id_total, same_is}
use Rattle.gix_object.specs.declared.Kind.{Kind}
use Rattle.gix_object.specs.Object.{Object, Objects}
use Rattle.gix_object.specs.Find.{FindsInto}
use Rattle.gix_commitgraph.specs.Rows.{GraphRow, row_of}
use Rattle.gix_commitgraph.specs.Packed.{ids_of_rows}
use Rattle.gix_graph_store.specs.RowText.{text_of_row, text_at, text_if}
use Rattle.gix_graph_store.specs.WithRows.{commit_object, with_text, told_of, with_rows}

-- what is found among entries, and else behind them
find-append : (es fs : List (ObjectId × Object)) (i : ObjectId) → map_of.find id_cmp i (es ++ fs) ≡ option_or (map_of.find id_cmp i es) (map_of.find id_cmp i fs)
find-append [] fs i = refl
find-append (e ∷ es) fs i = go (is_same i e.0) (find-append es fs i)
  where
    go : (b : Bool) → map_of.find id_cmp i (es ++ fs) ≡ option_or (map_of.find id_cmp i es) (map_of.find id_cmp i fs)
        → cond b (Some e.1) (map_of.find id_cmp i (es ++ fs)) ≡ option_or (cond b (Some e.1) (map_of.find id_cmp i es)) (map_of.find id_cmp i fs)
    go true h = refl
    go false h = h

module _ (rows : List GraphRow) (i : ObjectId) where
  abbrev told : Option Object
  told = option_map commit_object (text_at rows i)

  -- another id's commit isn't found
  find-other : (j : ObjectId) (o : Option (List ℕ)) (more : List (ObjectId × Object)) → is_same i j ≡ false → map_of.find id_cmp i (with_text j o more) ≡ map_of.find id_cmp i more
  find-other j None more e = refl
  find-other j (Some bytes) more e = ap (λ b. cond b (Some (commit_object bytes)) (map_of.find id_cmp i more)) e

  find-own : (j : ObjectId) (o : Option (List ℕ)) (more : List (ObjectId × Object)) (b : Bool) → is_same i j ≡ true → map_of.find id_cmp i more ≡ cond b (option_map commit_object o) None → map_of.find id_cmp i (with_text j o more) ≡ option_map commit_object o
  find-own j None more true e rest = rest
  find-own j None more false e rest = rest
  find-own j (Some bytes) more b e rest = ap (λ b. cond b (Some (commit_object bytes)) (map_of.find id_cmp i more)) e

  find-told : (ids : List ObjectId) → map_of.find id_cmp i (told_of rows ids) ≡ cond (is_among i ids) told None
  find-told [] = refl
  find-told (j ∷ ids) = go (is_same i j) refl (find-told ids)
    where
      go : (b : Bool) → is_same i j ≡ b → map_of.find id_cmp i (told_of rows ids) ≡ cond (is_among i ids) told None → map_of.find id_cmp i (with_text j (text_at rows j) (told_of rows ids)) ≡ cond (b || is_among i ids) told None
      go true e rest =
          let same : text_at rows j ≡ text_at rows i = ap (text_at rows) (sym (same_is i j e)) in
          ap (λ o. map_of.find id_cmp i (with_text j o (told_of rows ids))) same ∙ find-own j (text_at rows i) (told_of rows ids) (is_among i ids) e rest
      go false e rest = find-other j (text_at rows j) (told_of rows ids) e ∙ rest

no_row-none : (rows : List GraphRow) (i : ObjectId) → is_among i (ids_of_rows rows) ≡ false → row_of rows i ≡ None
no_row-none [] i e = refl
no_row-none (row ∷ rows) i e = go (is_same i row.id) (no_row-none rows i) e
  where
    go : (b : Bool) → (is_among i (ids_of_rows rows) ≡ false → row_of rows i ≡ None) → (b || is_among i (ids_of_rows rows)) ≡ false → cond b (Some row) (row_of rows i) ≡ None
    go true h e = cc
    go false h e = h e

pub get-with_rows : (rows : List GraphRow) (objects : Objects) (i : ObjectId) → map_of.get (with_rows rows objects) i ≡ option_or (map_of.get objects i) (option_map commit_object (text_at rows i))
unfolding with_rows
get-with_rows rows objects i =
    map_of.get-from_entries id_total (map_of.entries objects ++ told_of rows (ids_of_rows rows)) i ∙ find-append (map_of.entries objects) (told_of rows (ids_of_rows rows)) i
    ∙ (λ k. option_or (sym (map_of.get-entries objects i) k) ((find-told rows i (ids_of_rows rows) ∙ all (is_among i (ids_of_rows rows)) refl) k))
  where
    all : (b : Bool) → is_among i (ids_of_rows rows) ≡ b → cond b (option_map commit_object (text_at rows i)) None ≡ option_map commit_object (text_at rows i)
    all true e = refl
    all false e = sym (ap (λ o. option_map commit_object (text_of_row rows o)) (no_row-none rows i e))

-- ---- what a look-up finds

module _ (rows : List GraphRow) (objects : Objects) (i : ObjectId) (faulty : Type 0) (found : Option Kind) (held : List ℕ) (finds : FindsInto (map_of.get objects i) faulty (Ok found) held) where
  pub finds-stored : (k : Kind) → found ≡ Some k → map_of.get (with_rows rows objects) i ≡ Some (record { kind = k; bytes = held })
  finds-stored k e =
      get-with_rows rows objects i
      ∙ ap (λ o. option_or o (option_map commit_object (text_at rows i))) (subst (λ (f : Option Kind). FindsInto (map_of.get objects i) faulty (Ok f) held) e finds)

  not-stored : found ≡ None → map_of.get (with_rows rows objects) i ≡ option_map commit_object (text_at rows i)
  not-stored e =
      get-with_rows rows objects i
      ∙ ap (λ o. option_or o (option_map commit_object (text_at rows i))) (subst (λ (f : Option Kind). FindsInto (map_of.get objects i) faulty (Ok f) held) e finds)

  pub finds-told : found ≡ None → (text : List ℕ) (written : Bool) → written ≡ true → text_if written text ≡ text_at rows i → map_of.get (with_rows rows objects) i ≡ Some (commit_object text)
  finds-told e text written w h = not-stored e ∙ ap (option_map commit_object) (sym h ∙ ap (λ b. text_if b text) w)

  pub finds-none : found ≡ None → (text : List ℕ) (written : Bool) → written ≡ false → text_if written text ≡ text_at rows i → map_of.get (with_rows rows objects) i ≡ None
  finds-none e text written w h = not-stored e ∙ ap (option_map commit_object) (sym h ∙ ap (λ b. text_if b text) w)

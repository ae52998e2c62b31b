-- Rows: the ids that a row's places name, read one after the other; and which rows are in use before and after a row was read.
use Rattle.std.proofs.Common.{◌≡◌, ◌<◌, List, [], ◌∷◌, ◌++◌, ℕ, Option, Some, None, Ok, Err, IfOk, All, Contains, slice_get, Bool, true, false, cond, zero, suc, map, ◌⊎◌, refl, sym, ap, subst, ◌∙◌, append_assoc, ⊎_elim, inl, inr}
use Rattle.std.proofs.Common.{if◌then◌else◌, true≢false, Bor, option_copied}
use Rattle.std.proofs.lemmas.List.Elements.{recursion_from_All, All-from_recursion}
use Rattle.std.specs.FinMap as map_of
use Rattle.gix_revwalk.proofs.Common.{ObjectId, ParentPlace, At, Fault, Objects, Object, GraphRow, row_of, no_member, same_is, same_from, Contains-here, Contains-there, Contains-cons_cases, ids_at, with_id, kept_rows, rows_if, IsUnrowed}
use Rattle.gix_revwalk.proofs.Common.{id_cmp, is_same, is_among}
use Rattle.gix_commitgraph.specs.declared.Position.{Position}
use Rattle.gix_commitgraph.specs.Parents.{Answer, answers_of}
use Rattle.gix_revwalk.specs.Agreeing.{IsAgreeing, IsCorrupt, rows_of, rows_in}
use Rattle.std.proofs.lemmas.Bool.{or_left, or_right, false≢true}
use Rattle.gix_revwalk.specs.declared.row.RowRead.{RowRead}
use Rattle.gix_revwalk.specs.Reading.{RowSays, DropsRows, ReadsRow, is_read, absent, corrupt, dropped}

-- no rows agree with any store
pub none_agree : (objects : Objects) (rows : List GraphRow) → rows ≡ [] → IsAgreeing objects rows
none_agree objects rows e row m = absurd (no_member row (subst (λ those. Contains those row) e m))

-- the ids that answers of a row's iterator name
abbrev pub answered_ids : List GraphRow → List Answer → Option (List ObjectId)
answered_ids rows [] = Some []
answered_ids rows (Ok position ∷ answers) = with_id (slice_get rows position.0) (answered_ids rows answers)
answered_ids rows (Err fault ∷ answers) = None

pub answered_at : (rows : List GraphRow) (places : List ParentPlace) → answered_ids rows (answers_of places) ≡ ids_at rows places
answered_at rows [] = refl
answered_at rows (At n ∷ places) = ap (with_id (slice_get rows n)) (answered_at rows places)
answered_at rows (Fault ∷ places) = refl

-- what is read behind ids that were read before
abbrev pub behind : List ObjectId → Option (List ObjectId) → Option (List ObjectId)
behind ids None = None
behind ids (Some more) = Some (ids ++ more)

pub behind_more : (ids : List ObjectId) (row : GraphRow) (o : Option (List ObjectId)) → behind (ids ++ row.id ∷ []) o ≡ behind ids (with_id (Some row) o)
behind_more ids row None = refl
behind_more ids row (Some more) = ap Some (append_assoc ids (row.id ∷ []) more)

pub behind_none : (o : Option (List ObjectId)) → behind [] o ≡ o
behind_none None = refl
behind_none (Some more) = refl

-- one more id is read
pub read_on : (rows : List GraphRow) (ids more : List ObjectId) (id : ObjectId) (row : GraphRow) (places rest : List Answer) (place : Answer) (position : Position) → places ≡ place ∷ rest → place ≡ Ok position → slice_get rows position.0 ≡ Some row → id ≡ row.id → more ≡ ids ++ id ∷ []
    → {whole : Option (List ObjectId)} → behind ids (answered_ids rows places) ≡ whole → behind more (answered_ids rows rest) ≡ whole
read_on rows ids more id row places rest place position front is there same read whole =
    ap (λ xs. behind xs (answered_ids rows rest)) (read ∙ ap (λ i. ids ++ i ∷ []) same) ∙ behind_more ids row (answered_ids rows rest)
    ∙ ap (λ o. behind ids (with_id o (answered_ids rows rest))) (sym there) ∙ ap (λ p. behind ids (answered_ids rows (p ∷ rest))) (sym is) ∙ ap (λ ps. behind ids (answered_ids rows ps)) (sym front) ∙ whole

pub rest_within : (n : ℕ) (places rest : List Answer) (place : Answer) → places ≡ place ∷ rest → All (λ answer. IfOk answer (λ position. position.0 < n)) places → All (λ answer. IfOk answer (λ position. position.0 < n)) rest
rest_within n places rest place e h = All-from_recursion _ rest (recursion_from_All (λ answer. IfOk answer (λ position. position.0 < n)) (place ∷ rest) (subst (All (λ answer. IfOk answer (λ position. position.0 < n))) e h)).1

pub found_entry : (es : List (ObjectId × Object)) (i : ObjectId) (o : Object) → map_of.find id_cmp i es ≡ Some o → Contains es (i, o)
found_entry [] i o e = cc
found_entry (x ∷ es) i o e = go (found_entry es i o) (is_same i x.0) refl e
  where
    go : (map_of.find id_cmp i es ≡ Some o → Contains es (i, o)) → (b : Bool) → is_same i x.0 ≡ b → cond b (Some x.1) (map_of.find id_cmp i es) ≡ Some o → Contains (x ∷ es) (i, o)
    go r true t e = let same : i ≡ x.0 = same_is i x.0 t in let object : x.1 ≡ o = cc in subst (λ y. Contains (x ∷ es) y) (λ k. (sym same k, object k)) (Contains-here x es)
    go r false t e = Contains-there (i, o) x es (r e)

pub ids_in_rows : (rows : List GraphRow) (places : List ParentPlace) (ids : List ObjectId) → ids_at rows places ≡ Some ids → (i : ObjectId) → Contains ids i → is_among i (map (λ row. row.id) rows) ≡ true
ids_in_rows rows [] ids e i h = absurd (no_member i (subst (λ xs. Contains xs i) (let s : ids ≡ [] = cc in s) h))
ids_in_rows rows (Fault ∷ places) ids e i h = cc
ids_in_rows rows (At n ∷ places) ids e i h = go (slice_get rows n) refl (ids_at rows places) refl (λ those f. ids_in_rows rows places those f i) e
  where
    row_id : (rows : List GraphRow) (n : ℕ) (row : GraphRow) → slice_get rows n ≡ Some row → is_among row.id (map (λ r. r.id) rows) ≡ true
    row_id [] n row e = cc
    row_id (r ∷ rows) zero row e = or_left _ _ (same_from row.id r.id (let s : row ≡ r = cc in ap (λ x. x.id) s))
    row_id (r ∷ rows) (suc n) row e = or_right (is_same row.id r.id) _ (row_id rows n row e)

    go : (o : Option GraphRow) → slice_get rows n ≡ o → (r : Option (List ObjectId)) → ids_at rows places ≡ r → ((those : List ObjectId) → ids_at rows places ≡ Some those → Contains those i → is_among i (map (λ row. row.id) rows) ≡ true) → with_id o r ≡ Some ids → is_among i (map (λ row. row.id) rows) ≡ true
    go None a r b rest e = cc
    go (Some row) a None b rest e = cc
    go (Some row) a (Some those) b rest e =
        let is : row.id ∷ those ≡ ids = cc in
        ⊎_elim (λ s. subst (λ y. is_among y (map (λ row. row.id) rows) ≡ true) s (row_id rows n row a)) (λ t. rest those b t) (Contains-cons_cases i row.id those (subst (λ xs. Contains xs i) (sym is) h))

pub kept_either : (rows : List GraphRow) (o : Option GraphRow) → (kept_rows rows o ≡ rows) ⊎ (kept_rows rows o ≡ [])
kept_either rows None = inl refl
kept_either rows (Some row) = go (ids_at rows row.parents)
  where
    go : (o : Option (List ObjectId)) → (rows_if rows o ≡ rows) ⊎ (rows_if rows o ≡ [])
    go None = inr refl
    go (Some ids) = inl refl

-- among places that name ids there is no fault
pub unread_fault : (rows : List GraphRow) (places : List ParentPlace) (ids : List ObjectId) → ids_at rows places ≡ Some ids → Contains places Fault → ⊥
unread_fault rows [] ids e m = no_member Fault m
unread_fault rows (Fault ∷ places) ids e m = cc
unread_fault rows (At n ∷ places) ids e m = go (slice_get rows n) (ids_at rows places) refl (λ those f t. unread_fault rows places those f t) e
  where
    go : (o : Option GraphRow) (r : Option (List ObjectId)) → ids_at rows places ≡ r → ((those : List ObjectId) → ids_at rows places ≡ Some those → Contains places Fault → ⊥) → with_id o r ≡ Some ids → ⊥
    go None r f h k = cc
    go (Some row) None f h k = cc
    go (Some row) (Some those) f h k = ⊎_elim (λ s. cc) (λ t. h those f t) (Contains-cons_cases Fault (At n) places m)

-- the row of an id, if there is one, has no fault
abbrev pub IsSoundRow : List GraphRow → ObjectId → Type 0
IsSoundRow rows i = (row : GraphRow) → row_of rows i ≡ Some row → IsCorrupt row → ⊥

-- the rows of a graph that is lent are the graph's
pub rows_lent : (lent : Option (Bor (List GraphRow))) (graph : Option (List GraphRow)) → option_copied lent ≡ graph → rows_in lent ≡ rows_of graph
rows_lent None graph e = ap rows_of e
rows_lent (Some lent) graph e = ap rows_of e

pub reads_lent : (lent : Option (Bor (List GraphRow))) (graph : Option (List GraphRow)) {in_use new : Bool} {i : ObjectId} {read : Option RowRead} → option_copied lent ≡ graph → ReadsRow (rows_in lent) in_use i read new → ReadsRow (rows_of graph) in_use i read new
reads_lent lent graph {in_use = in_use} {new = new} {i = i} {read = read} e r = subst (λ rows. ReadsRow rows in_use i read new) (rows_lent lent graph e) r

-- rows that are still in use were in use before
pub in_use_before : {rows : List GraphRow} {in_use new : Bool} {i : ObjectId} {read : Option RowRead} → ReadsRow rows in_use i read new → new ≡ true → in_use ≡ true
in_use_before (is_read h says) e = e
in_use_before (absent n) e = e
in_use_before (corrupt h d) e = h
in_use_before (dropped h) e = e

-- rows that are no longer in use were dropped by the row
pub dropped_by : {rows : List GraphRow} {in_use new : Bool} {i : ObjectId} {read : Option RowRead} → ReadsRow rows in_use i read new → in_use ≡ true → new ≡ false → DropsRows rows i
dropped_by (is_read h says) a b = absurd (true≢false (sym a ∙ b))
dropped_by (absent n) a b = absurd (true≢false (sym a ∙ b))
dropped_by (corrupt h d) a b = d
dropped_by (dropped h) a b = absurd (true≢false (sym a ∙ b))

-- where rows are still in use and the row gave nothing, there is none
pub passed_over : {rows : List GraphRow} {in_use new : Bool} {i : ObjectId} → ReadsRow rows in_use i None new → new ≡ true → row_of rows i ≡ None
passed_over (absent n) e = n
passed_over (corrupt h d) e = absurd (false≢true e)
passed_over (dropped h) e = absurd (true≢false (sym e ∙ h))

-- where rows are still in use, the row that was read has no fault
pub whole_in_use : {rows : List GraphRow} {in_use new : Bool} {i : ObjectId} {read : Option RowRead} → ReadsRow rows in_use i read new → new ≡ true → IsSoundRow rows i
whole_in_use {rows = rows} (is_read h says) e row there bad =
    let same : says.row ≡ row = (let k : Some says.row ≡ Some row = sym says.there ∙ there in cc) in
    unread_fault rows says.row.parents _ says.parents (subst (λ r. IsCorrupt r) (sym same) bad)
whole_in_use (absent n) e row there bad = let none : None ≡ Some row = sym n ∙ there in cc
whole_in_use (corrupt h d) e row there bad = absurd (false≢true e)
whole_in_use (dropped h) e row there bad = absurd (true≢false (sym e ∙ h))

-- a row that was read drops nothing, and is one of the rows in use
pub read_in_use : {rows : List GraphRow} {in_use new : Bool} {i : ObjectId} {read : RowRead} → ReadsRow rows in_use i (Some read) new → (new ≡ in_use) × RowSays (if new then rows else []) i read
read_in_use {rows = rows} {i = i} {read = read} (is_read h says) = (refl, subst (λ b. RowSays (if b then rows else []) i read) (sym h) says)

-- which rows are in use where none is read
abbrev pub IsPassed : List GraphRow → ObjectId → List GraphRow → Type 0
IsPassed was i now = IsUnrowed was i × (now ≡ kept_rows was (row_of was i)) × (row_of now i ≡ None)

no_row : (rows : List GraphRow) (i : ObjectId) → row_of rows i ≡ None → IsPassed rows i rows
no_row rows i n = (λ row e. let bad : None ≡ Some row = sym n ∙ e in cc, sym (ap (kept_rows rows) n), n)

pub passes : {rows : List GraphRow} {in_use new : Bool} {i : ObjectId} → ReadsRow rows in_use i None new → IsPassed (if in_use then rows else []) i (if new then rows else [])
passes {rows = rows} {in_use = true} {i = i} (absent n) = no_row rows i n
passes {in_use = false} {i = i} (absent n) = no_row [] i refl
passes {rows = rows} {i = i} (dropped h) = subst (λ b. IsPassed (if b then rows else []) i (if b then rows else [])) (sym h) (no_row [] i refl)
passes {rows = rows} {i = i} (corrupt h d) =
    subst (λ b. IsPassed (if b then rows else []) i []) (sym h)
    (λ row e. let same : d.0 ≡ row = (let k : Some d.0 ≡ Some row = sym d.1 ∙ e in cc) in subst (λ r. ids_at rows r.parents ≡ None) same d.2, sym (ap (kept_rows rows) d.1 ∙ ap (rows_if rows) d.2), refl)

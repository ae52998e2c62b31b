-- What reading a commit says of the ids that rows and texts name, and, with rows that agree, of its parents.
use Rattle.std.proofs.Common.{◌≡◌, ◌≤◌, ◌<◌, ◌^◌, ◌-◌, List, [], ◌∷◌, map, Bool, true, false, cond, ◌||◌, inl, Option, Some, None, Ok, Contains, refl, sym, ap, subst, ◌∙◌, arith}
use Rattle.gix_topo.proofs.Common.{or_left, or_right, ObjectId, is_among, Objects, GraphRow, row_of, parents_in, ReadsWhole, parents_of, commit_at, among-append, among_from, no_member, Info, IsAgreeing, known_generation, generation_in}
use Rattle.gix_topo.proofs.Common.{infinity, is_read, Reads, by_row, by_text, named_ids, row_stands, row_parents, parent_below, text_whole, among_flat}
use Rattle.std.specs.FinMap as map_of
use Rattle.gix_object.specs.declared.Kind.TheVariants as object
use Rattle.gix_object.specs.CommitText.{Commit}
use Rattle.gix_revwalk.specs.Texts.{text_parents}
use Rattle.gix_hash.specs.Id.{is_same}
use Rattle.gix_topo.specs.Inside.Releasing.{HasRowedParents}
use Rattle.gix_topo.specs.Inside.Searched.{text_next, next_in}
use Rattle.gix_revwalk.proofs.Rows.{ids_in_rows, found_entry}

-- an id among those of rows has a row
has_row : (rows : List GraphRow) (i : ObjectId) → is_among i (map (λ row. row.id) rows) ≡ true → (row : GraphRow) × (row_of rows i ≡ Some row)
has_row [] i e = cc
has_row (first ∷ rows) i e = go (has_row rows i) (is_same i first.id) e
  where
    go : (is_among i (map (λ row. row.id) rows) ≡ true → (row : GraphRow) × (row_of rows i ≡ Some row)) → (b : Bool) → (b || is_among i (map (λ row. row.id) rows)) ≡ true
        → (row : GraphRow) × (cond b (Some first) (row_of rows i) ≡ Some row)
    go rest true e = (first, refl)
    go rest false e = rest e

module _ (objects : Objects) (faulty : ObjectId → Type 0) (rows : List GraphRow) where
  -- the parents that are read are among the ids that rows and texts name
  pub reads_named : {in_use : Bool} {i : ObjectId} {info : Info} {new : Bool} → Reads objects faulty rows in_use i (Ok info) new → (j : ObjectId) → Contains info.parent_ids.items j → is_among j (named_ids objects rows) ≡ true
  reads_named (by_row (is_read h says) is) j m =
      among-append j (map (λ row. row.id) rows) _ ∙ or_left _ _ (ids_in_rows rows says.row.parents _ says.parents j (subst (λ ids. Contains ids j) is.same_parents m))
  reads_named {i = i} (by_text n t) j m =
      let entry : Contains (map_of.entries objects) (i, record { kind = object.Commit; bytes = t.0 }) = found_entry (map_of.entries objects) i _ (sym (map_of.get-entries objects i) ∙ t.1) in
      among-append j (map (λ row. row.id) rows) _ ∙ or_right (is_among j (map (λ row. row.id) rows)) _
      (among_flat (λ entry. text_parents entry.0 entry.1) (map_of.entries objects) _ j entry (among_from j _ (subst (λ ids. Contains ids j) t.2.0.same_parents m)))

  -- the parents of a commit that is given with a generation have rows that are in use
  pub reads_rowed : {in_use : Bool} {i : ObjectId} {info : Info} {new : Bool} → Reads objects faulty rows in_use i (Ok info) new → HasRowedParents objects rows new info
  reads_rowed (by_row (is_read h says) is) generation e p m =
      let there = has_row rows p (ids_in_rows rows says.row.parents _ says.parents p (subst (λ ids. Contains ids p) is.same_parents m)) in
      inl (h, there.0, there.1)
  reads_rowed (by_text n t) generation e p m = let no : None ≡ Some generation = sym t.2.0.same_generation ∙ e in cc

  module _ (agrees : IsAgreeing objects rows) where
    pub reads_text_next : {in_use : Bool} {i : ObjectId} {info : Info} {new : Bool} → Reads objects faulty rows in_use i (Ok info) new → info.parent_ids.items ≡ text_next objects i
    reads_text_next {i = i} (by_row (is_read h says) is) =
        let m : Contains rows says.row × (i ≡ says.row.id) = row_stands rows i says.row says.there in
        let w : ReadsWhole objects i = subst (ReadsWhole objects) (sym m.1) (agrees says.row m.0).whole in
        is.same_parents ∙ row_parents objects rows agrees i says.row _ says.there says.parents ∙ text_whole objects i w
    reads_text_next {i = i} (by_text n t) = t.2.0.same_parents ∙ sym (ap (next_in i) t.1)

    finite : (i : ObjectId) (row : GraphRow) → row_of rows i ≡ Some row → row.generation ≤ infinity
    finite i row e = let f : row.generation < 2 ^ 32 - 1 = (agrees row (row_stands rows i row e).0).finite in omega arith

    highest : (i : ObjectId) → known_generation rows i ≤ infinity
    highest i = grind (arith, finite i)

    -- no parent's known generation is greater
    pub parents_lower : (c i : ObjectId) → Contains (text_next objects c) i → known_generation rows i ≤ known_generation rows c
    parents_lower c i m = go (row_of rows c) refl
      where
        go : (o : Option GraphRow) → row_of rows c ≡ o → known_generation rows i ≤ generation_in o
        go None e = highest i
        go (Some row) e =
            let h : Contains rows row × (c ≡ row.id) = row_stands rows c row e in
            let w : ReadsWhole objects c = subst (ReadsWhole objects) (sym h.1) (agrees row h.0).whole in
            let l : (r : GraphRow) × (row_of rows i ≡ Some r) × (r.generation < row.generation) = parent_below objects rows agrees c row i e (subst (λ ids. Contains ids i) (sym (text_whole objects c w)) m) in
            let k : known_generation rows i ≡ l.0.generation = ap generation_in l.1 in
            let b : l.0.generation < row.generation = l.2 in
            omega arith

-- the parents of a commit are among those that its text names
pub text_has : (objects : Objects) (i j : ObjectId) → Contains (parents_of objects i) j → Contains (text_next objects i) j
text_has objects i j m = go (commit_at objects i) refl m
  where
    go : (o : Option Commit) → commit_at objects i ≡ o → Contains (parents_in o) j → Contains (text_next objects i) j
    go None e n = absurd (no_member j n)
    go (Some commit) e n = subst (λ ids. Contains ids j) (text_whole objects i (record { commit = commit; stored = e })) m

-- A commit that reads whole is read alike from its items and from its row.
use Rattle.std.proofs.Common.{ℕ, zero, suc, ◌≡◌, ◌<◌, List, [], ◌∷◌, ◌++◌, Bool, true, false, cond, length, slice_get, Contains, Option, Some, None, Result, Ok, ◌≢◌, refl, sym, ap, subst, ◌∙◌, arith, append_assoc, append-nil}
use Rattle.gix_hash.specs.declared.Kind.{Kind}
use Rattle.gix_revwalk.proofs.Common.{ObjectId, ParentPlace, At, Fault, is_same, Objects, Commit, commit_of, commit_of_items, read_commit, GraphRow, row_of, by_mode, parents_of, parents_in, time_of, time_in, commit_at, commit_of_kind}
use Rattle.gix_revwalk.proofs.Common.{commit_of_object, scanned, with_parent, ids_at, with_id, same_is, Contains-here, Contains-there}
use Rattle.gix_object.specs.declared.Kind.TheVariants as object
use Rattle.gix_object.specs.declared.find.existing_iter.Error.TheVariants as existing
use Rattle.gix_object.specs.declared.decode.Error.{Error as DecodeError}
use Rattle.gix_object.specs.CommitItems.{Item, Parent, Author, AtTree, AtParents, AtCommitter, Front, Found, Faulty, Ended, tree_front, author_front, committer_front, parent_front, front, unfolded, items_within, commit_items}
use Rattle.gix_revwalk.specs.declared.Parents.{Parents}
use Rattle.gix_revwalk.specs.declared.Parents.TheVariants as mode
use Rattle.gix_revwalk.specs.Agreeing.{PlaceAgrees, RowAgrees, IsAgreeing, IsCorrupt}
use Rattle.gix_object.specs.declared.Kind.{Kind as ObjectKind}
use Rattle.gix_object.specs.declared.find.existing_iter.Error.{Error as ExistingError}
use Rattle.gix_object.specs.Find.{IsExistingFault}
use Rattle.gix_hash.proofs.Lists.{only_member}

-- what may be at the front behind a tree or a parent
pub data IsParentsFront : Front → Type 0 where
  ended : IsParentsFront Ended
  faulty : {e : DecodeError} → IsParentsFront (Faulty e)
  parent : {i : ObjectId} {rest : List ℕ} → IsParentsFront (Found (Parent i) AtParents rest)
  author : {line rest : List ℕ} → IsParentsFront (Found (Author line) AtCommitter rest)

author_is : (o : Option (List ℕ × List ℕ)) → IsParentsFront (author_front o)
author_is None = faulty
author_is (Some r) = author

parents_is : (k : Kind) (bytes : List ℕ) (word : Option (List ℕ)) (line : Option (ObjectId × List ℕ)) → IsParentsFront (parent_front k bytes word line)
parents_is k bytes None line = author_is _
parents_is k bytes (Some rest) None = faulty
parents_is k bytes (Some rest) (Some r) = parent

pub parents_front : (k : Kind) (bytes : List ℕ) → IsParentsFront (front k AtParents bytes)
parents_front k [] = ended
parents_front k (b ∷ bs) = parents_is k (b ∷ bs) _ _

committer_ends : (n : ℕ) (k : Kind) (tree : ObjectId) (ps : List ObjectId) (bytes : List ℕ) (c : Commit) → commit_of tree ps (items_within n k AtCommitter bytes) ≡ Some c → c.parents ≡ ps
committer_ends zero k tree ps bytes c e = cc
committer_ends (suc n) k tree ps [] c e = cc
committer_ends (suc n) k tree ps (b ∷ bs) c e = go _ e
  where
    go : (o : Option (List ℕ × List ℕ)) → commit_of tree ps (unfolded (committer_front o) (items_within n k)) ≡ Some c → c.parents ≡ ps
    go None e = cc
    go (Some r) e = ap (λ o. parents_in o) (sym e)

-- the parents still to be read, up to the author
record ScansTo (items : List (Result Item DecodeError)) (ps : List ObjectId) (c : Commit) : Type 0 where
  left : List ObjectId
  parents : c.parents ≡ ps ++ left
  scan : (m : Parents) → scanned m items ≡ (by_mode m left, None)

scan_author : (m : Parents) (line : List ℕ) (items : List (Result Item DecodeError)) → scanned m (Ok (Author line) ∷ items) ≡ (by_mode m [], None)
scan_author mode.All line items = refl
scan_author mode.First line items = refl

scan_parent : (i : ObjectId) (left : List ObjectId) (items : List (Result Item DecodeError)) → ((m : Parents) → scanned m items ≡ (by_mode m left, None)) → (m : Parents) → scanned m (Ok (Parent i) ∷ items) ≡ (by_mode m (i ∷ left), None)
scan_parent i left items h mode.All = ap (with_parent i) (h mode.All)
scan_parent i left items h mode.First = refl

parents_scan : (n : ℕ) (k : Kind) (tree : ObjectId) (ps : List ObjectId) (bytes : List ℕ) (c : Commit) → commit_of tree ps (items_within n k AtParents bytes) ≡ Some c → ScansTo (items_within n k AtParents bytes) ps c
parents_scan zero k tree ps bytes c e = cc
parents_scan (suc n) k tree ps bytes c e = go (λ qs rest. parents_scan n k tree qs rest c) (parents_front k bytes) e
  where
    go : {f : Front} → ((qs : List ObjectId) (rest : List ℕ) → commit_of tree qs (items_within n k AtParents rest) ≡ Some c → ScansTo (items_within n k AtParents rest) qs c) → IsParentsFront f → commit_of tree ps (unfolded f (items_within n k)) ≡ Some c → ScansTo (unfolded f (items_within n k)) ps c
    go r ended e = cc
    go r faulty e = cc
    go r (parent {i = i} {rest = rest}) e =
        let h : ScansTo (items_within n k AtParents rest) (ps ++ i ∷ []) c = r (ps ++ i ∷ []) rest e in
        record { left = i ∷ h.left; parents = h.parents ∙ append_assoc ps (i ∷ []) h.left; scan = scan_parent i h.left (items_within n k AtParents rest) h.scan }
    go r (author {line = line} {rest = rest}) e =
        record { left = []; parents = committer_ends n k tree ps rest c e ∙ sym (append-nil ps); scan = λ m. scan_author m line (items_within n k AtCommitter rest) }

tree_scan : (n : ℕ) (k : Kind) (bytes : List ℕ) (c : Commit) → commit_of_items (items_within n k AtTree bytes) ≡ Some c → (m : Parents) → scanned m (items_within n k AtTree bytes) ≡ (by_mode m c.parents, None)
tree_scan zero k bytes c e m = cc
tree_scan (suc n) k [] c e m = cc
tree_scan (suc n) k (b ∷ bs) c e m = go _ e
  where
    go : (o : Option (ObjectId × List ℕ)) → commit_of_items (unfolded (tree_front o) (items_within n k)) ≡ Some c → scanned m (unfolded (tree_front o) (items_within n k)) ≡ (by_mode m c.parents, None)
    go None e = cc
    go (Some r) e =
        let h : ScansTo (items_within n k AtParents r.1) [] c = parents_scan n k r.0 [] r.1 c e in
        h.scan m ∙ ap (λ ps. (by_mode m ps, None)) (sym h.parents)

pub scan_is : (k : Kind) (bytes : List ℕ) (c : Commit) → read_commit k bytes ≡ Some c → (m : Parents) → scanned m (commit_items k bytes) ≡ (by_mode m c.parents, None)
scan_is k bytes c e m = tree_scan (length bytes) k bytes c e m

-- rows
pub row_stands : (rows : List GraphRow) (i : ObjectId) (row : GraphRow) → row_of rows i ≡ Some row → Contains rows row × (i ≡ row.id)
row_stands [] i row e = cc
row_stands (r ∷ rows) i row e = go (row_stands rows i row) (is_same i r.id) refl e
  where
    go : (row_of rows i ≡ Some row → Contains rows row × (i ≡ row.id)) → (b : Bool) → is_same i r.id ≡ b → cond b (Some r) (row_of rows i) ≡ Some row → Contains (r ∷ rows) row × (i ≡ row.id)
    go rest true o e = let same : r ≡ row = cc in (subst (λ x. Contains (x ∷ rows) row) (sym same) (Contains-here row rows), same_is i r.id o ∙ ap (λ x. x.id) same)
    go rest false o e = let h : Contains rows row × (i ≡ row.id) = rest e in (Contains-there row r rows h.0, h.1)

ids_agree : (rows : List GraphRow) (generation : ℕ) (places : List ParentPlace) (ps ids : List ObjectId) → length places ≡ length ps → ((k : ℕ) (i : ObjectId) (place : ParentPlace) → slice_get ps k ≡ Some i → slice_get places k ≡ Some place → PlaceAgrees rows generation i place) → ids_at rows places ≡ Some ids → ids ≡ ps
ids_agree rows generation [] [] ids l all e = cc
ids_agree rows generation [] (p ∷ ps) ids l all e = absurd (omega arith)
ids_agree rows generation (Fault ∷ places) ps ids l all e = cc
ids_agree rows generation (At n ∷ places) [] ids l all e = absurd (omega arith)
ids_agree rows generation (At n ∷ places) (p ∷ ps) ids l all e =
    go (slice_get rows n) refl (ids_at rows places) refl (λ those. ids_agree rows generation places ps those (omega arith) (λ k. all (suc k))) e
  where
    go : (o : Option GraphRow) → slice_get rows n ≡ o → (r : Option (List ObjectId)) → ids_at rows places ≡ r → ((those : List ObjectId) → ids_at rows places ≡ Some those → those ≡ ps) → with_id o r ≡ Some ids → ids ≡ p ∷ ps
    go None a r b rest e = cc
    go (Some row) a None b rest e = cc
    go (Some row) a (Some those) b rest e =
        let h : PlaceAgrees rows generation p (At n) = all zero p (At n) refl refl in
        let same : row ≡ h.0 = let s : Some row ≡ Some h.0 = sym a ∙ h.1 in cc in
        let head : row.id ≡ p = ap (λ x. x.id) same ∙ h.2 in
        let tail : those ≡ ps = rest those b in
        cc

place_has_row : (rows : List GraphRow) (generation : ℕ) (i : ObjectId) (place : ParentPlace) → PlaceAgrees rows generation i place → (row : GraphRow) × (row_of rows i ≡ Some row) × (row.generation < generation)
place_has_row rows generation i (At n) h = (h.0, h.3, h.4)
place_has_row rows generation i Fault h = (h.0, h.1, h.2)

pub same_long : {X Y : Type 0} (xs : List X) (ys : List Y) (k : ℕ) (y : Y) → length xs ≡ length ys → slice_get ys k ≡ Some y → (x : X) × (slice_get xs k ≡ Some x)
same_long [] [] k y l e = cc
same_long [] (z ∷ ys) k y l e = absurd (omega arith)
same_long (x ∷ xs) [] k y l e = cc
same_long (x ∷ xs) (z ∷ ys) zero y l e = (x, refl)
same_long (x ∷ xs) (z ∷ ys) (suc k) y l e = same_long xs ys k y (omega arith) e

pub place_of : {X : Type 0} (xs : List X) (x : X) → Contains xs x → (k : ℕ) × (slice_get xs k ≡ Some x)
place_of xs x h = (h.0, Rattle.std.proofs.lemmas.Option.slice_get-get_or xs h.0 x h.1 ∙ ap Some h.2)

module _ (objects : Objects) (rows : List GraphRow) (agrees : IsAgreeing objects rows) where
  -- a row says the parents and the time
  pub row_parents : (i : ObjectId) (row : GraphRow) (ids : List ObjectId) → row_of rows i ≡ Some row → ids_at rows row.parents ≡ Some ids → ids ≡ parents_of objects i
  row_parents i row ids e f =
      let h : Contains rows row × (i ≡ row.id) = row_stands rows i row e in
      let a : RowAgrees objects rows row = agrees row h.0 in
      let p : ids ≡ a.whole.commit.parents = ids_agree rows row.generation row.parents a.whole.commit.parents ids a.places a.parents f in
      p ∙ sym (ap parents_in (ap (commit_at objects) h.1 ∙ a.whole.stored))

  pub row_says_time : (i : ObjectId) (row : GraphRow) → row_of rows i ≡ Some row → row.time ≡ time_of objects i
  row_says_time i row e =
      let h : Contains rows row × (i ≡ row.id) = row_stands rows i row e in
      let a : RowAgrees objects rows row = agrees row h.0 in
      sym (ap time_in (ap (commit_at objects) h.1 ∙ a.whole.stored) ∙ a.time)

  pub parent_below : (c : ObjectId) (row : GraphRow) (i : ObjectId) → row_of rows c ≡ Some row → Contains (parents_of objects c) i → (r : GraphRow) × (row_of rows i ≡ Some r) × (r.generation < row.generation)
  parent_below c row i e n =
      let h : Contains rows row × (c ≡ row.id) = row_stands rows c row e in
      let a : RowAgrees objects rows row = agrees row h.0 in
      let m : Contains a.whole.commit.parents i = subst (λ ps. Contains ps i) (ap parents_in (ap (commit_at objects) h.1 ∙ a.whole.stored)) n in
      let k : (k : ℕ) × (slice_get a.whole.commit.parents k ≡ Some i) = place_of _ i m in
      let q : (place : ParentPlace) × (slice_get row.parents k.0 ≡ Some place) = same_long row.parents a.whole.commit.parents k.0 i a.places k.1 in
      place_has_row rows row.generation i q.0 (a.parents k.0 i q.0 k.1 q.1)

  pub parent_has_row : (c : ObjectId) (row : GraphRow) (i : ObjectId) → row_of rows c ≡ Some row → Contains (parents_of objects c) i → (r : GraphRow) × (row_of rows i ≡ Some r)
  parent_has_row c row i e n = let p : (r : GraphRow) × (row_of rows i ≡ Some r) × (r.generation < row.generation) = parent_below c row i e n in (p.0, p.1)

pub walked_within : (m : Parents) (ids : List ObjectId) (i : ObjectId) → Contains (by_mode m ids) i → Contains ids i
walked_within mode.All ids i h = h
walked_within mode.First [] i h = h
walked_within mode.First (j ∷ ids) i h = subst (λ x. Contains (x ∷ ids) i) (sym (only_member j i h)) (Contains-here i ids)

no_commit : (i : ObjectId) (kind : ObjectKind) (bytes : List ℕ) (c : Commit) → kind ≢ object.Commit → commit_of_kind i kind bytes ≡ Some c → ⊥
no_commit i object.Commit bytes c ne e = ne refl
no_commit i object.Tree bytes c ne e = cc
no_commit i object.Blob bytes c ne e = cc
no_commit i object.Tag bytes c ne e = cc

-- the look-up of a commit that is stored fails by the store alone
pub no_fault : (those : Objects) (fails : ObjectId → Type 0) (i : ObjectId) (c : Commit) (e : ExistingError) → commit_at those i ≡ Some c → IsExistingFault those fails i object.Commit e → e ≡ existing.Store
no_fault those fails i c existing.Store stored f = refl
no_fault those fails i c (existing.NotFound oid) stored f = let n : None ≡ Some c = sym (ap (commit_of_object i) f.1) ∙ stored in cc
no_fault those fails i c (existing.ObjectKind oid wanted actual) stored f = absurd (no_commit i actual f.3 c f.2 (sym (ap (commit_of_object i) f.4) ∙ stored))
no_fault those fails i c existing.Memory stored f = absurd f

pub fault_among : (rows : List GraphRow) (places : List ParentPlace) → ((n : ℕ) → Contains places (At n) → (row : GraphRow) × (slice_get rows n ≡ Some row)) → ids_at rows places ≡ None → Contains places Fault
fault_among rows [] all e = cc
fault_among rows (Fault ∷ places) all e = Contains-here Fault places
fault_among rows (At n ∷ places) all e =
    go (slice_get rows n) refl (ids_at rows places) refl (λ f. fault_among rows places (λ m c. all m (Contains-there (At m) (At n) places c)) f) e
  where
    go : (o : Option GraphRow) → slice_get rows n ≡ o → (ids : Option (List ObjectId)) → ids_at rows places ≡ ids → (ids_at rows places ≡ None → Contains places Fault) → with_id o ids ≡ None → Contains (At n ∷ places) Fault
    go None a ids b rest e = let h : (row : GraphRow) × (slice_get rows n ≡ Some row) = all n (Contains-here (At n) places) in let bad : None ≡ Some h.0 = sym a ∙ h.1 in cc
    go (Some row) a None b rest e = Contains-there Fault (At n) places (rest b)
    go (Some row) a (Some ids) b rest e = cc

-- where the rows agree, a row that can't be read has a fault among its places
pub corrupt_row : (those : Objects) (rows : List GraphRow) → IsAgreeing those rows → (row : GraphRow) → Contains rows row → ids_at rows row.parents ≡ None → IsCorrupt row
corrupt_row those rows agrees row c e =
    let a : RowAgrees those rows row = agrees row c in
    fault_among rows row.parents (λ n m. placed a n m) e
  where
    placed : (a : RowAgrees those rows row) (n : ℕ) → Contains row.parents (At n) → (r : GraphRow) × (slice_get rows n ≡ Some r)
    placed a n m =
        let k : (k : ℕ) × (slice_get row.parents k ≡ Some (At n)) = place_of row.parents (At n) m in
        let q : (i : ObjectId) × (slice_get a.whole.commit.parents k.0 ≡ Some i) = same_long a.whole.commit.parents row.parents k.0 (At n) (sym a.places) k.1 in
        let h : PlaceAgrees rows row.generation q.0 (At n) = a.parents k.0 q.0 (At n) q.1 k.1 in
        (h.0, h.1)

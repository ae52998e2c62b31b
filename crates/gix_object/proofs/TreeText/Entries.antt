-- Where an entry of a tree is in the tree's bytes, and how the items of a tree follow one another.
use Rattle.std.proofs.Common.{◌≡◌, ℕ, zero, suc, ◌+◌, ◌<◌, ◌≤◌, List, [], ◌∷◌, length, take, drop, Bool, true, false, cond, Option, Some, None, Ok, nat_eq, refl, sym, ap, ◌∙◌, arith, position, length-drop, drop-drop, nat_lt}
use Rattle.gix_hash.specs.declared.Kind.{Kind}
use Rattle.gix_hash.specs.declared.ObjectId.{ObjectId}
use Rattle.gix_hash.specs.Id.{id_len, id_of}
use Rattle.gix_object.specs.TreeItems.{TreeEntry, TreeFront, Found, Faulty, Ended, parted_at, parted, mode_of, mode_before, mode_parted, mode_at, name_at, id_at, named_front, moded_front, entry_front, tree_front, unfolded, entries_within, tree_items}
use Rattle.gix_object.specs.TreeRefIter.{IsEndOf}
use Rattle.gix_object.proofs.TreeText.Ends.{drop_end}

-- what is left once some of the bytes were taken from the front
pub record IsBehind (bytes rest : List ℕ) : Type 0 where
  pub count : ℕ
  pub some : 0 < count
  pub same : rest ≡ drop count bytes

behind_more : (n : ℕ) (bytes middle rest : List ℕ) → IsBehind bytes middle → rest ≡ drop n middle → IsBehind bytes rest
behind_more n bytes middle rest h e = record {
  count = h.count + n;
  some = let some = h.some in omega arith;
  same = e ∙ ap (drop n) h.same ∙ drop-drop n h.count bytes;
}

behind_parted : (b : ℕ) (bytes : List ℕ) (p : List ℕ × List ℕ) → parted b bytes ≡ Some p → IsBehind bytes p.1
behind_parted b bytes p e = go (position (λ c. nat_eq c b) bytes) e
  where
    go : (o : Option ℕ) → parted_at bytes o ≡ Some p → IsBehind bytes p.1
    go None h = cc
    go (Some i) h = record { count = i + 1; some = omega arith; same = cc }

behind_mode : (bytes : List ℕ) (r : ℕ × List ℕ) → mode_at bytes ≡ Some r → IsBehind bytes r.1
behind_mode bytes r e = go (parted 32 bytes) refl e
  where
    done : (p : List ℕ × List ℕ) (o : Option ℕ) → parted 32 bytes ≡ Some p → mode_before o p.1 ≡ Some r → IsBehind bytes r.1
    done p None h k = cc
    done p (Some mode) h k =
        let b = behind_parted 32 bytes p h in
        record { count = b.count; some = b.some; same = (let s = b.same in cc) }

    go : (o : Option (List ℕ × List ℕ)) → parted 32 bytes ≡ o → mode_parted o ≡ Some r → IsBehind bytes r.1
    go None h k = cc
    go (Some p) h k = done p (mode_of p.0) h k

rest_of_id : (k : Kind) (bytes : List ℕ) (r : ObjectId × List ℕ) → id_at k bytes ≡ Some r → r.1 ≡ drop (id_len k) bytes
rest_of_id k bytes r e = go (nat_lt (length bytes) (id_len k)) e
  where
    go : (b : Bool) → cond b None (Some (id_of k (take (id_len k) bytes), drop (id_len k) bytes)) ≡ Some r → r.1 ≡ drop (id_len k) bytes
    go true h = cc
    go false h = cc

-- an entry takes a byte at least
behind_entry : (k : Kind) (bytes : List ℕ) (e : TreeEntry) (rest : List ℕ) → entry_front k (mode_at bytes) ≡ Found e rest → IsBehind bytes rest
behind_entry k bytes e rest h = go (mode_at bytes) refl h
  where
    with_id : (name : List ℕ × List ℕ) (mode : ℕ) (o : Option (ObjectId × List ℕ)) → IsBehind bytes name.1 → id_at k name.1 ≡ o → named_front mode name.0 o ≡ Found e rest → IsBehind bytes rest
    with_id name mode None b h f = cc
    with_id name mode (Some r) b h f = behind_more (id_len k) bytes name.1 rest b (let s = rest_of_id k name.1 r h in cc)

    with_name : (r : ℕ × List ℕ) (o : Option (List ℕ × List ℕ)) → IsBehind bytes r.1 → name_at r.1 ≡ o → moded_front k r.0 o ≡ Found e rest → IsBehind bytes rest
    with_name r None b h f = cc
    with_name r (Some p) b h f =
        let n = behind_parted 0 r.1 p h in
        with_id p r.0 (id_at k p.1) (behind_more n.count bytes r.1 p.1 b n.same) refl f

    go : (o : Option (ℕ × List ℕ)) → mode_at bytes ≡ o → entry_front k o ≡ Found e rest → IsBehind bytes rest
    go None h f = cc
    go (Some r) h f = with_name r (name_at r.1) (behind_mode bytes r h) refl f

-- the bytes behind an entry are an end of the bytes
pub entry_end : (k : Kind) (bytes : List ℕ) (e : TreeEntry) (rest : List ℕ) → Found e rest ≡ entry_front k (mode_at bytes) → IsEndOf rest bytes
entry_end k bytes e rest h =
    let b = behind_entry k bytes e rest (sym h) in
    rw b.same (drop_end b.count bytes)

shorter : (k : Kind) (b : ℕ) (bs : List ℕ) (e : TreeEntry) (rest : List ℕ) → tree_front k (b ∷ bs) ≡ Found e rest → length rest ≤ length bs
shorter k b bs e rest h =
    let f = behind_entry k (b ∷ bs) e rest h in
    omega (arith, f.some, ap length f.same, length-drop f.count (b ∷ bs))

-- more steps than there are bytes change nothing
entries_enough : (n m : ℕ) (k : Kind) (bytes : List ℕ) → length bytes ≤ n → length bytes ≤ m → entries_within n k bytes ≡ entries_within m k bytes
entries_enough zero zero k bytes p q = refl
entries_enough zero (suc m) k [] p q = refl
entries_enough (suc n) zero k [] p q = refl
entries_enough (suc n) (suc m) k [] p q = refl
entries_enough zero m k (b ∷ bs) p q = absurd (omega arith)
entries_enough (suc n) zero k (b ∷ bs) p q = absurd (omega arith)
entries_enough (suc n) (suc m) k (b ∷ bs) p q = go (entries_enough n m k) (tree_front k (b ∷ bs)) refl
  where
    go : ((rest : List ℕ) → length rest ≤ n → length rest ≤ m → entries_within n k rest ≡ entries_within m k rest) → (f : TreeFront) → tree_front k (b ∷ bs) ≡ f → unfolded f (entries_within n k) ≡ unfolded f (entries_within m k)
    go again (Found e rest) h =
        let s = shorter k b bs e rest h in
        ap (λ items. Ok e ∷ items) (again rest (omega arith) (omega arith))
    go again (Faulty why) h = refl
    go again Ended h = refl

-- the first item of bytes with an entry at the front, and the others
pub first_entry : (k : Kind) (bytes : List ℕ) (e : TreeEntry) (rest : List ℕ) → 0 < length bytes → Found e rest ≡ entry_front k (mode_at bytes) → tree_items k bytes ≡ Ok e ∷ tree_items k rest
first_entry k [] e rest some h = absurd (omega arith)
first_entry k (b ∷ bs) e rest some h =
    let s = shorter k b bs e rest (sym h) in
    ap (λ f. unfolded f (entries_within (length bs) k)) (sym h)
    ∙ ap (λ items. Ok e ∷ items) (entries_enough (length bs) (length rest) k rest s (omega arith))

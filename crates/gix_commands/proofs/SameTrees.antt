-- The entries of trees, the trees in them and the lines of entries are those of the statement.
use Rattle.std.proofs.Common.{◌≡◌, ◌≢◌, ◌≤◌, ◌<◌, ◌+◌, ◌*◌, ◌==◌, nat_lt, ℕ, zero, suc, List, [], ◌∷◌, ◌++◌, map, length, take, drop, Bool, true, false, cond, Option, Some, None, All, bit_and, Continue, position, refl, sym, ap}
use Rattle.std.proofs.Common.{subst, ◌∙◌, arith, append-nil, append_assoc, length-append, get_or, drop-cons, eqb-true, eq-eqb, ltb-false, get_or-take, length-take-le, take-append-drop}
use Rattle.gix_commands.proofs.Common.{get, false≢true, All-cons, All-head, All-nil, All-tail, same_Some, none-some, ObjectId, id_len, id_of, kind_of, bytes_of, Object, Objects, kind_word, Call, DepthScript, IsDepthScript, entries_in}
use Rattle.gix_commands.proofs.Common.{Items, Place, Visit, visit, Whole, Leaves, Enters, items_of_object, items_of_kind, trees_of, Entry, IsNumber, AreEntries, IsTree, bytes_in, digits_in}
use Rattle.std.specs.List.{AllByRecursion}
use Rattle.std.proofs.lemmas.List.{map-append}
use Rattle.std.proofs.lemmas.List.Quantifiers.{position-Some}
use Rattle.gix_hash.specs.declared.ObjectId.TheVariants as id
use Rattle.gix_hash.specs.declared.Kind.{Kind}
use Rattle.gix_hash.specs.declared.Kind.TheVariants as hash
use Rattle.gix_object.specs.declared.Kind.{Kind as ObjectKind}
use Rattle.gix_object.specs.declared.Kind.TheVariants as kind
use Rattle.gix_object.specs.declared.find.existing_iter.Error.{Error as ExistingError}
use Rattle.gix_object.specs.TreeItems.{TreeEntry, TreeFront, Found, Faulty, Ended, is_tree, parted_at, parted, mode_of, mode_before, mode_parted, mode_at, name_at, id_at, named_front, moded_front, entry_front, tree_front, unfolded, entries_within, tree_items}
use Rattle.gix_tree.specs.Laws.{IsWhole}
use Rattle.gix_tree.specs.Paths.{HaveNames, IsName}
use Rattle.gix_tree.specs.Script as script
use Rattle.gix_tree.proofs.All.{all_left, all_right}
use Rattle.gix_tree.proofs.Outcomes.{says}
use Rattle.gix_tree.proofs.Theorems.SameRecords.{GoOn}
use Rattle.gix_lines.proofs.Scripts.{before}
use Rattle.gix_statement.specs.WholeStatement as page
use Rattle.gix_statement.specs.WholeStatement.{Unfolds}
use Rattle.gix_commands.specs.Pages.{page_objects}
use Rattle.gix_commands.proofs.SameNumbers.{is_octal_number, width_of}
use Rattle.gix_commands.proofs.SameCommits.{IsHeld, held}
use Rattle.gix_commands.proofs.SameNumbers.{own_width}

-- an entry, as the statement has it
abbrev pub entry_of : TreeEntry → Entry
entry_of e = record { mode = e.mode; name = e.name; id = e.id }

-- what is before the first of a byte doesn't have it
parted_whole : (b : ℕ) (bytes : List ℕ) (p : List ℕ × List ℕ) → parted b bytes ≡ Some p → (bytes ≡ p.0 ++ b ∷ p.1) × All (λ c. c ≢ b) p.0
parted_whole b bytes p e = go (position (λ c. c == b) bytes) refl e
  where
    go : (o : Option ℕ) → position (λ c. c == b) bytes ≡ o → parted_at bytes o ≡ Some p → (bytes ≡ p.0 ++ b ∷ p.1) × All (λ c. c ≢ b) p.0
    go None h e = absurd (none-some p e)
    go (Some i) h e =
        let at = position-Some (λ c. c == b) bytes i 0 h in
        let next : i + 1 ≡ suc i = omega arith in
        let cut : bytes ≡ take i bytes ++ b ∷ drop (i + 1) bytes = sym (take-append-drop i bytes) ∙ ap (λ xs. take i bytes ++ xs) (drop-cons bytes i 0 at.0 ∙ (λ k. eqb-true (get_or bytes i 0) b at.1 k ∷ drop (sym next k) bytes)) in
        let none : All (λ c. c ≢ b) (take i bytes) =
        (λ k d l s.
        let few : k < i = omega (arith, l, length-take-le i bytes (omega (arith, at.0))) in
        let other = position-Some (λ c. c == b) bytes i d h in
        false≢true (sym (other.2 k few) ∙ eq-eqb (get_or bytes k d) b (sym (get_or-take i bytes k d few) ∙ s)))
        in
        subst (λ q. (bytes ≡ q.0 ++ b ∷ q.1) × All (λ c. c ≢ b) q.0) (same_Some (take i bytes, drop (i + 1) bytes) p e) (cut, none)

mode_split : (bytes : List ℕ) (r : ℕ × List ℕ) → mode_at bytes ≡ Some r → (mode : List ℕ) × IsNumber 8 6 mode r.0 × (bytes ≡ mode ++ 32 ∷ r.1)
mode_split bytes r e = go (parted 32 bytes) refl e
  where
    done : (p : List ℕ × List ℕ) (o : Option ℕ) → parted 32 bytes ≡ Some p → mode_of p.0 ≡ o → mode_before o p.1 ≡ Some r → (mode : List ℕ) × IsNumber 8 6 mode r.0 × (bytes ≡ mode ++ 32 ∷ r.1)
    done p None h m e = absurd (none-some r e)
    done p (Some n) h m e = subst (λ q. (mode : List ℕ) × IsNumber 8 6 mode q.0 × (bytes ≡ mode ++ 32 ∷ q.1)) (same_Some (n, p.1) r e) (p.0, is_octal_number p.0 n m, (parted_whole 32 bytes p h).0)

    go : (o : Option (List ℕ × List ℕ)) → parted 32 bytes ≡ o → mode_parted o ≡ Some r → (mode : List ℕ) × IsNumber 8 6 mode r.0 × (bytes ≡ mode ++ 32 ∷ r.1)
    go None h e = absurd (none-some r e)
    go (Some p) h e = done p (mode_of p.0) h refl e

id_digits : (k : Kind) (bytes : List ℕ) → digits_in (id_of k bytes) ≡ width_of k
id_digits hash.Sha1 bytes = refl
id_digits hash.Sha256 bytes = refl

id_bytes : (k : Kind) (bytes : List ℕ) → bytes_in (id_of k bytes) ≡ bytes
id_bytes hash.Sha1 bytes = refl
id_bytes hash.Sha256 bytes = refl

-- an id at the front
record IsIdBefore (k : Kind) (bytes : List ℕ) (i : ObjectId) (rest : List ℕ) : Type 0 where
  digits : digits_in i ≡ width_of k
  size : 2 * length (bytes_in i) ≡ width_of k
  whole : bytes ≡ bytes_in i ++ rest

id_split : (k : Kind) (bytes : List ℕ) (r : ObjectId × List ℕ) → id_at k bytes ≡ Some r → IsIdBefore k bytes r.0 r.1
id_split k bytes r e = go (nat_lt (length bytes) (id_len k)) refl e
  where
    go : (t : Bool) → nat_lt (length bytes) (id_len k) ≡ t → cond t None (Some (id_of k (take (id_len k) bytes), drop (id_len k) bytes)) ≡ Some r → IsIdBefore k bytes r.0 r.1
    go true l e = absurd (none-some r e)
    go false l e =
        let back : bytes_in (id_of k (take (id_len k) bytes)) ≡ take (id_len k) bytes = id_bytes k (take (id_len k) bytes) in
        let many : length (bytes_in (id_of k (take (id_len k) bytes))) ≡ id_len k = ap length back ∙ length-take-le (id_len k) bytes (ltb-false (length bytes) (id_len k) l) in
        subst (λ q. IsIdBefore k bytes q.0 q.1) (same_Some (id_of k (take (id_len k) bytes), drop (id_len k) bytes) r e) (record {
          digits = id_digits k (take (id_len k) bytes);
          size = ap (λ n. 2 * n) many;
          whole = sym (take-append-drop (id_len k) bytes) ∙ ap (λ xs. xs ++ drop (id_len k) bytes) (sym back);
        })

-- an entry at the front
record IsEntryBefore (k : Kind) (bytes : List ℕ) (e : TreeEntry) (rest : List ℕ) : Type 0 where
  mode : List ℕ
  is_mode : IsNumber 8 6 mode e.mode
  named : All (λ b. b ≢ 0) e.name
  digits : digits_in e.id ≡ width_of k
  size : 2 * length (bytes_in e.id) ≡ width_of k
  whole : bytes ≡ mode ++ 32 ∷ (e.name ++ 0 ∷ (bytes_in e.id ++ rest))

found_same : {e f : TreeEntry} {xs ys : List ℕ} → Found e xs ≡ Found f ys → (e ≡ f) × (xs ≡ ys)
found_same {e} {f} {xs} {ys} same = (cc, cc)

entry_split : (k : Kind) (bytes : List ℕ) (e : TreeEntry) (rest : List ℕ) → entry_front k (mode_at bytes) ≡ Found e rest → IsEntryBefore k bytes e rest
entry_split k bytes e rest f = go (mode_at bytes) refl f
  where
    with_id : (m : ℕ × List ℕ) (n : List ℕ × List ℕ) (o : Option (ObjectId × List ℕ)) → mode_at bytes ≡ Some m → name_at m.1 ≡ Some n → id_at k n.1 ≡ o → named_front m.0 n.0 o ≡ Found e rest → IsEntryBefore k bytes e rest
    with_id m n None hm hn hi f = cc
    with_id m n (Some r) hm hn hi f =
        let mode = mode_split bytes m hm in
        let name = parted_whole 0 m.1 n hn in
        let last = id_split k n.1 r hi in
        let first : IsEntryBefore k bytes (record { mode = m.0; name = n.0; id = r.0 }) r.1 = record {
          mode = mode.0;
          is_mode = mode.1;
          named = name.1;
          digits = last.digits;
          size = last.size;
          whole = mode.2 ∙ ap (λ xs. mode.0 ++ 32 ∷ xs) (name.0 ∙ ap (λ xs. n.0 ++ 0 ∷ xs) last.whole);
        }
        in
        let same = found_same f in
        subst (λ ys. IsEntryBefore k bytes e ys) same.1 (subst (λ g. IsEntryBefore k bytes g r.1) same.0 first)

    with_name : (m : ℕ × List ℕ) (o : Option (List ℕ × List ℕ)) → mode_at bytes ≡ Some m → name_at m.1 ≡ o → moded_front k m.0 o ≡ Found e rest → IsEntryBefore k bytes e rest
    with_name m None hm hn f = cc
    with_name m (Some n) hm hn f = with_id m n (id_at k n.1) hm hn refl f

    go : (o : Option (ℕ × List ℕ)) → mode_at bytes ≡ o → entry_front k o ≡ Found e rest → IsEntryBefore k bytes e rest
    go None h f = cc
    go (Some m) h f = with_name m (name_at m.1) h refl f

not_ended : (k : Kind) (o : Option (ℕ × List ℕ)) → entry_front k o ≡ Ended → ⊥
not_ended k None e = cc
not_ended k (Some m) e = with_name (name_at m.1) e
  where
    with_id : (name : List ℕ) (o : Option (ObjectId × List ℕ)) → named_front m.0 name o ≡ Ended → ⊥
    with_id name None e = cc
    with_id name (Some r) e = cc

    with_name : (o : Option (List ℕ × List ℕ)) → moded_front k m.0 o ≡ Ended → ⊥
    with_name None e = cc
    with_name (Some n) e = with_id n.0 (id_at k n.1) e

-- what is behind an entry is shorter
shorter : (k : Kind) (b : ℕ) (bs : List ℕ) (e : TreeEntry) (rest : List ℕ) → IsEntryBefore k (b ∷ bs) e rest → length rest ≤ length bs
shorter k b bs e rest s =
    omega
    (arith, ap length s.whole, length-append s.mode (32 ∷ (e.name ++ 0 ∷ (bytes_in e.id ++ rest))), length-append e.name (0 ∷ (bytes_in e.id ++ rest)), length-append (bytes_in e.id) rest)

-- each entry's name is a name
abbrev AreNamed : List TreeEntry → Type 0
AreNamed entries = AllByRecursion (λ e. IsName e.name) entries

not_empty : (name : List ℕ) → IsName name → name ≢ []
not_empty [] h e = h
not_empty (b ∷ name) h e = cc

not_either : (name : List ℕ) → All (λ b. b ≢ 0) name → AllByRecursion (λ b. b ≢ 47) name → All (λ b. (b ≢ 0) × (b ≢ 47)) name
not_either [] h g = All-nil (λ b. (b ≢ 0) × (b ≢ 47))
not_either (b ∷ name) h g = All-cons (λ c. (c ≢ 0) × (c ≢ 47)) b name (All-head (λ c. c ≢ 0) b name h, g.0) (not_either name (All-tail (λ c. c ≢ 0) b name h) g.1)

no_slash : (name : List ℕ) → All (λ b. b ≢ 0) name → IsName name → All (λ b. (b ≢ 0) × (b ≢ 47)) name
no_slash [] h g = absurd g
no_slash (b ∷ name) h g = not_either (b ∷ name) h g

entries_read : (n : ℕ) (k : Kind) (bytes : List ℕ) → length bytes ≤ n → IsWhole (entries_within n k bytes) → AreNamed (entries_in (entries_within n k bytes)) → AreEntries (width_of k) (map entry_of (entries_in (entries_within n k bytes))) bytes
entries_read zero k [] l w a = refl
entries_read (suc n) k [] l w a = refl
entries_read zero k (b ∷ bs) l w a = absurd (omega (arith, l))
entries_read (suc n) k (b ∷ bs) l w a = go (entries_read n k) (tree_front k (b ∷ bs)) refl w a
  where
    go : ((rest : List ℕ) → length rest ≤ n → IsWhole (entries_within n k rest) → AreNamed (entries_in (entries_within n k rest)) → AreEntries (width_of k) (map entry_of (entries_in (entries_within n k rest))) rest)
        → (f : TreeFront) → tree_front k (b ∷ bs) ≡ f → IsWhole (unfolded f (entries_within n k)) → AreNamed (entries_in (unfolded f (entries_within n k)))
        → AreEntries (width_of k) (map entry_of (entries_in (unfolded f (entries_within n k)))) (b ∷ bs)
    go again Ended h w a = absurd (not_ended k (mode_at (b ∷ bs)) h)
    go again (Faulty why) h w a = absurd w
    go again (Found e rest) h w a =
        let s = entry_split k (b ∷ bs) e rest h in
        (s.mode, rest, s.is_mode, not_empty e.name a.0, no_slash e.name s.named a.0, s.digits, s.size, again rest (let few = shorter k b bs e rest s in omega (arith, few, l)) w a.1, s.whole)

module _ (objects : Objects) (i : ObjectId) where
  of_object : (o : Object) → get objects i ≡ Some o → (items : Items) (k : ObjectKind) → o.kind ≡ k → items_of_kind i k o.bytes ≡ Some items → IsWhole items → AreNamed (entries_in items) → IsTree (page_objects objects) i (map entry_of (entries_in items))
  of_object o at items kind.Tree is e w a =
      let same : tree_items (kind_of i) o.bytes ≡ items = same_Some (tree_items (kind_of i) o.bytes) items e in
      let read : AreEntries (width_of (kind_of i)) (map entry_of (entries_in (tree_items (kind_of i) o.bytes))) o.bytes =
      entries_read (length o.bytes) (kind_of i) o.bytes (omega arith) (subst IsWhole (sym same) w) (subst (λ those. AreNamed (entries_in those)) (sym same) a) in (
        o.bytes,
        subst (λ word. IsHeld objects i word o.bytes) (ap kind_word is) (held objects i o at),
        subst (λ width. AreEntries width (map entry_of (entries_in items)) o.bytes) (own_width i) (subst (λ those. AreEntries (width_of (kind_of i)) (map entry_of (entries_in those)) o.bytes) same read),
      )
  of_object o at items kind.Commit is e w a = absurd (none-some items e)
  of_object o at items kind.Blob is e w a = absurd (none-some items e)
  of_object o at items kind.Tag is e w a = absurd (none-some items e)

  -- a tree that is read whole, in which each name is a name, has these entries
  pub is_tree_at : (items : Items) → trees_of objects i ≡ Some items → IsWhole items → AreNamed (entries_in items) → IsTree (page_objects objects) i (map entry_of (entries_in items))
  is_tree_at items e w a = go (get objects i) refl e
    where
      go : (o : Option Object) → get objects i ≡ o → items_of_object i o ≡ Some items → IsTree (page_objects objects) i (map entry_of (entries_in items))
      go None at e = absurd (none-some items e)
      go (Some o) at e = of_object o at items o.kind refl e w a

-- what the paths in a tree begin with, by what those in the tree above begin with
before_more : (names : List (List ℕ)) (name : List ℕ) → before (names ++ name ∷ []) ≡ before names ++ name ++ 47 ∷ []
before_more [] name = append-nil (name ++ 47 ∷ [])
before_more (n ∷ names) name = ap (λ xs. n ++ 47 ∷ [] ++ xs) (before_more names name) ∙ sym (append_assoc (n ++ 47 ∷ []) (before names ++ name) (47 ∷ [])) ∙ ap (λ xs. xs ++ 47 ∷ []) (sym (append_assoc (n ++ 47 ∷ []) (before names) name))

-- a visit's entry, behind what its path begins with
abbrev pub placed_by : Visit → List ℕ × Entry
placed_by v = (before v.place.names, entry_of v.entry)

module _ (objects : Objects) (fails : ObjectId → ExistingError → Type 0) where
  unfolds_script : {p : Place} {items : Items} {calls : List Call} {visits : List Visit} → DepthScript (trees_of objects) fails p items calls visits Whole → GoOn visits → HaveNames visits
      → IsWhole items × AreNamed (entries_in items) × Unfolds (page_objects objects) (before p.names) (map entry_of (entries_in items)) (map placed_by visits)
  unfolds_script script.whole h n = (tt, tt, page.whole)
  unfolds_script (script.leaves {p = p} {e = e} {a = a} o rest) h n =
      let r = unfolds_script rest h.1 n.1 in
      (r.0, (n.0, r.1), page.other (λ s. false≢true (sym (says (is_tree e.mode) _ a Leaves o h.0) ∙ eq-eqb (bit_and e.mode 0o170000) 0o040000 s)) r.2)
  unfolds_script (script.enters {p = p} {e = e} {a = a} {sub = sub} {items = items} {visits = visits} {others = others} o found inner rest) h n =
      let i = unfolds_script inner (all_left (λ v. v.answer ≡ Continue true) visits others h.1) (all_left (λ v. IsName v.entry.name) visits others n.1) in
      let r = unfolds_script rest (all_right (λ v. v.answer ≡ Continue true) visits others h.1) (all_right (λ v. IsName v.entry.name) visits others n.1) in
      let mode : bit_and e.mode 0o170000 ≡ 0o040000 = eqb-true (bit_and e.mode 0o170000) 0o040000 (says (is_tree e.mode) _ a Enters o).0.0 in (
        r.0,
        (n.0, r.1),
        subst (λ those. Unfolds (page_objects objects) (before p.names) (map entry_of (e ∷ entries_in items)) (placed_by (visit p e a) ∷ those)) (sym (map-append placed_by visits others))
            (page.tree mode (is_tree_at objects e.id sub found i.0 i.1) (subst (λ path. Unfolds (page_objects objects) path (map entry_of (entries_in sub)) (map placed_by visits)) (before_more p.names e.name) i.2) r.2),
      )
  unfolds_script (script.ends_inside o found inner other) h n = absurd (other refl)

  -- a walk in depth that showed all, in which each visit goes on and each name is a name
  pub unfolds_walk : {root : ObjectId} {calls : List Call} {visits : List Visit} → IsDepthScript (trees_of objects) fails root calls visits Whole → GoOn visits → HaveNames visits
      → (entries : List Entry) × IsTree (page_objects objects) root entries × Unfolds (page_objects objects) [] entries (map placed_by visits)
  unfolds_walk {root} (script.found {items = items} found walk) h n = let w = unfolds_script walk h n in (map entry_of (entries_in items), is_tree_at objects root items found w.0 w.1, w.2)

pub same_bytes : (i : ObjectId) → bytes_of i ≡ bytes_in i
same_bytes (id.Sha1 bytes) = refl
same_bytes (id.Sha256 bytes) = refl

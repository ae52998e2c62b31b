-- What a table of the ids of one length says of the map of all ids, and what a change of the table makes of the map.
use Rattle.std.proofs.Common.{ℕ, nat_eq, ◌≡◌, ◌+◌, Bool, true, false, cond, ◌||◌, List, [], ◌∷◌, ◌++◌, map as mapped, length, Option, Some, None, is_some, refl, sym, ap, ◌∙◌, arith}
use Rattle.std.proofs.lemmas.List.{append-nil}
use Rattle.std.specs.List.{AllByRecursion, IsDistinct}
use Rattle.std.specs.FinMap as map
use Rattle.std.specs.Map.{lookup, keys_of}
use Rattle.std.specs.Cmp.Lexicographic.{pointwise, texts_ties}
use Rattle.gix_hash.specs.declared.hashtable.Bytes.{Bytes}
use Rattle.gix_hash.specs.declared.ObjectId.{ObjectId}
use Rattle.gix_hash.specs.declared.ObjectId.TheVariants as id
use Rattle.gix_hash.specs.Id.{id_cmp, is_same, is_among}
use Rattle.gix_hash.specs.Tables.{short_id, long_id, with_all, map_of}
use Rattle.gix_hash.proofs.Ids.Membership.{id_total, id_apart, same_back}

-- what `==` of bytes computes
abbrev tied : {N : ℕ} → Bytes N → Bytes N → Bool
tied a b = pointwise nat_eq a.0 b.0

-- a table of ids of one length, which `id_of` makes of the keys
module _ {N : ℕ} (id_of : Bytes N → ObjectId) {X : Type 0} where
  -- it says nothing of other ids
  passed : (i : ObjectId) → ((k : Bytes N) → is_same i (id_of k) ≡ false) → (es : List (Bytes N × X)) (m : map.FinMap id_cmp X) → map.get (with_all id_of es m) i ≡ map.get m i
  passed i other [] m = refl
  passed i other (e ∷ es) m = map.get-insert id_total _ _ e.1 i ∙ ap (λ b. cond b (Some e.1) (map.get (with_all id_of es m) i)) (other e.0) ∙ passed i other es m

  listed : (i : ObjectId) (es : List (Bytes N × X)) (ids : List ObjectId) (m : map.FinMap id_cmp X) → is_among i ids ≡ is_some (map.get m i)
      → is_among i (mapped id_of (keys_of es) ++ ids) ≡ is_some (map.get (with_all id_of es m) i)
  listed i [] ids m h = h
  listed i (e ∷ es) ids m h = ap (λ b. is_same i (id_of e.0) || b) (listed i es ids m h) ∙ or_is_some (is_same i (id_of e.0)) e.1 _ ∙ ap is_some (sym (map.get-insert id_total _ _ e.1 i))
    where
      or_is_some : (b : Bool) (x : X) (o : Option X) → (b || is_some o) ≡ is_some (cond b (Some x) o)
      or_is_some true x o = refl
      or_is_some false x o = refl

  module _ (same : (a b : Bytes N) → is_same (id_of a) (id_of b) ≡ tied a b) where
    reached : (k : Bytes N) (es : List (Bytes N × X)) (m : map.FinMap id_cmp X) → map.get m (id_of k) ≡ None → map.get (with_all id_of es m) (id_of k) ≡ lookup (tied k) es
    reached k [] m none = none
    reached k (e ∷ es) m none = map.get-insert id_total _ _ e.1 (id_of k)
        ∙ ap (λ b. cond b (Some e.1) (map.get (with_all id_of es m) (id_of k))) (same k e.0) ∙ ap (cond (tied k e.0) (Some e.1)) (reached k es m none)

    absent : (k : Bytes N) (es : List (Bytes N × X)) → AllByRecursion (λ y. tied k y ≡ false) (keys_of es) → lookup (tied k) es ≡ None
    absent k [] h = refl
    absent k (e ∷ es) h = ap (λ b. cond b (Some e.1) (lookup (tied k) es)) h.0 ∙ absent k es h.1

    counted : (es : List (Bytes N × X)) (m : map.FinMap id_cmp X) → IsDistinct tied (keys_of es) → ((k : Bytes N) → map.get m (id_of k) ≡ None)
        → map.len (with_all id_of es m) ≡ length es + map.len m
    unfolding IsDistinct
    counted [] m h none = omega arith
    counted (e ∷ es) m h none =
        let new = ap is_some (reached e.0 es m (none e.0) ∙ absent e.0 es h.0) in
        let rest = with_all id_of es m in
        map.len-insert id_total _ (id_of e.0) e.1 ∙ ap (λ b. cond b (map.len rest) (map.len rest + 1)) new ∙ ap (λ n. n + 1) (counted es m h.1 none) ∙ omega arith

-- the table of ids of one length beside another, where `whole` is the map of both
pub record Half {N : ℕ} (X : Type 0) (id_of : Bytes N → ObjectId) (whole : List (Bytes N × X) → map.FinMap id_cmp X) : Type 1 where
  same : (a b : Bytes N) → is_same (id_of a) (id_of b) ≡ tied a b
  inside : (es : List (Bytes N × X)) (k : Bytes N) → map.get (whole es) (id_of k) ≡ lookup (tied k) es
  -- what is so of the ids of this length, and of others, of which this table says nothing, is so of all
  each : (P : ObjectId → Type 0) → ((k : Bytes N) → P (id_of k))
      → ((i : ObjectId) → ((k : Bytes N) → is_same i (id_of k) ≡ false) → ((es fs : List (Bytes N × X)) → map.get (whole es) i ≡ map.get (whole fs) i) → P i)
      → (i : ObjectId) → P i

same_short : (a b : Bytes 20) → is_same (short_id a) (short_id b) ≡ tied a b
same_short a b = sym (texts_ties a.0 b.0)

same_long : (a b : Bytes 32) → is_same (long_id a) (long_id b) ≡ tied a b
same_long a b = sym (texts_ties a.0 b.0)

module _ {X : Type 0} where
  no_short : (long : List (Bytes 32 × X)) (k : Bytes 20) → map.get (with_all long_id long (map.empty {R = id_cmp})) (short_id k) ≡ None
  no_short long k = passed long_id (short_id k) (λ l. refl) long map.empty ∙ map.get-empty id_cmp (short_id k)

  pub in_short : (long : List (Bytes 32 × X)) (short : List (Bytes 20 × X)) (b : List ℕ) → map.get (map_of short long) (id.Sha1 b) ≡ lookup (tied (record { 0 = b })) short
  in_short long short b = reached short_id same_short (record { 0 = b }) short _ (no_short long (record { 0 = b }))

  pub in_long : (short : List (Bytes 20 × X)) (long : List (Bytes 32 × X)) (b : List ℕ) → map.get (map_of short long) (id.Sha256 b) ≡ lookup (tied (record { 0 = b })) long
  in_long short long b = passed short_id (id.Sha256 b) (λ s. refl) short _ ∙ reached long_id same_long (record { 0 = b }) long map.empty (map.get-empty id_cmp (id.Sha256 b))

  pub the_short : (long : List (Bytes 32 × X)) → Half X short_id (λ short. map_of short long)
  the_short long = record {
    same = same_short;
    inside = λ es k. in_short long es k.0;
    each = λ P here there. elim [
      | id.Sha1 b ↦ here (record { 0 = b })
      | id.Sha256 b ↦ there (id.Sha256 b) (λ k. refl) (λ es fs. in_long es long b ∙ sym (in_long fs long b))
    ];
  }

  pub the_long : (short : List (Bytes 20 × X)) → Half X long_id (λ long. map_of short long)
  the_long short = record {
    same = same_long;
    inside = λ es k. in_long short es k.0;
    each = λ P here there. elim [
      | id.Sha1 b ↦ there (id.Sha1 b) (λ k. refl) (λ es fs. in_short es short b ∙ sym (in_short fs short b))
      | id.Sha256 b ↦ here (record { 0 = b })
    ];
  }

  pub counted_both : (short : List (Bytes 20 × X)) (long : List (Bytes 32 × X)) → IsDistinct tied (keys_of short) → IsDistinct tied (keys_of long)
      → map.len (map_of short long) ≡ length short + length long
  counted_both short long s l =
      counted short_id same_short short _ s (no_short long)
      ∙ ap (λ n. length short + n) (counted long_id same_long long map.empty l (λ k. map.get-empty id_cmp (long_id k)) ∙ ap (λ n. length long + n) (map.len-empty id_cmp X) ∙ omega arith)

-- what a change of a table makes of the map: `m` is the map, and `i` is the id of the key
module _ {N : ℕ} {X : Type 0} {id_of : Bytes N → ObjectId} {whole : List (Bytes N × X) → map.FinMap id_cmp X} (h : Half X id_of whole) (m : map.FinMap id_cmp X) where
  changed : (old new : List (Bytes N × X)) (k : Bytes N) (w : Option X) → ((q : Bytes N) → lookup (tied q) new ≡ cond (tied k q) w (lookup (tied q) old))
      → (q : ObjectId) → map.get (whole new) q ≡ cond (is_same q (id_of k)) w (map.get (whole old) q)
  changed old new k w updates = h.each _
      (λ q. h.inside new q ∙ updates q ∙ ap (cond (tied k q) w) (sym (h.inside old q)) ∙ ap (λ b. cond b w (map.get (whole old) (id_of q))) (sym (h.same k q) ∙ same_back (id_of k) (id_of q)))
      (λ q other alike. alike new old ∙ ap (λ b. cond b w (map.get (whole old) q)) (sym (other k)))

  pub updated : (old new : List (Bytes N × X)) (k : Bytes N) (i : ObjectId) (v : X) → whole old ≡ m → i ≡ id_of k
      → ((q : Bytes N) → lookup (tied q) new ≡ cond (tied k q) (Some v) (lookup (tied q) old)) → whole new ≡ map.insert m i v
  updated old new k i v is_whole is updates =
      map.same_map id_total id_apart _ _ (λ q. changed old new k (Some v) updates q ∙ sym (map.get-insert id_total (whole old) (id_of k) v q))
      ∙ ap (λ n. map.insert n (id_of k) v) is_whole ∙ ap (λ j. map.insert m j v) (sym is)

  pub taken : (old new : List (Bytes N × X)) (k : Bytes N) (i : ObjectId) → whole old ≡ m → i ≡ id_of k
      → ((q : Bytes N) → lookup (tied q) new ≡ cond (tied k q) None (lookup (tied q) old)) → whole new ≡ map.remove m i
  taken old new k i is_whole is updates =
      map.same_map id_total id_apart _ _ (λ q. changed old new k None updates q ∙ sym (map.get-remove id_total (whole old) (id_of k) q))
      ∙ ap (λ n. map.remove n (id_of k)) is_whole ∙ ap (map.remove m) (sym is)

module _ {X : Type 0} where
  pub listed_both : (short : List (Bytes 20 × X)) (long : List (Bytes 32 × X)) (i : ObjectId)
      → is_among i (mapped short_id (keys_of short) ++ mapped long_id (keys_of long)) ≡ is_some (map.get (map_of short long) i)
  listed_both short long i =
      listed short_id i short (mapped long_id (keys_of long)) (with_all long_id long map.empty)
      (ap (is_among i) (sym (append-nil (mapped long_id (keys_of long)))) ∙ listed long_id i long [] map.empty (ap is_some (sym (map.get-empty id_cmp i))))

  pub nothing_in_none : (m : map.FinMap id_cmp X) (i : ObjectId) → map.len m ≡ 0 → None ≡ map.get m i
  nothing_in_none m i no_value = sym (ap (λ n. map.get n i) (map.empty_of_len m no_value) ∙ map.get-empty id_cmp i)

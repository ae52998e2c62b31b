-- What the map of the values of ids says of the set of the ids that have one.
use Rattle.std.proofs.Common.{◌≡◌, ◌+◌, Bool, true, false, cond, not, ◌&&◌, ◌||◌, List, [], ◌∷◌, length, T, Some, None, is_some, Option, is_eq, is_lt, Ordering, Less, Equal, Greater, refl, sym, ap, ◌∙◌, arith}
use Rattle.std.proofs.lemmas.Bool.{and_right}
use Rattle.std.specs.List.{list_any}
use Rattle.std.specs.FinSet as set
use Rattle.std.specs.FinMap as map
use Rattle.std.specs.FinMap.Entries.{below_all, is_sorted}
use Rattle.std.specs.Map.{keys_of}
use Rattle.gix_hash.specs.declared.ObjectId.{ObjectId}
use Rattle.gix_hash.specs.Id.{id_cmp, is_same}
use Rattle.gix_hash.specs.Tables.{ids_with_value}
use Rattle.gix_hash.proofs.Ids.Membership.{id_total, id_apart}

some_or : {X : Type 0} (b : Bool) (v : X) (o : Option X) → is_some (cond b (Some v) o) ≡ (b || is_some o)
some_or true v o = refl
some_or false v o = refl

none_or : {X : Type 0} (b : Bool) (o : Option X) → is_some (cond b None o) ≡ (not b && is_some o)
none_or true o = refl
none_or false o = refl

pub has : {X : Type 0} (m : map.FinMap id_cmp X) (i : ObjectId) → set.contains (ids_with_value m) i ≡ is_some (map.get m i)
has m i = set.contains-from_list id_total (map.keys m) i ∙ sym (map.contains_key-keys m i)

pub none : ids_with_value (map.empty {X = Unit {0}} {R = id_cmp}) ≡ set.empty
none = set.same_set id_total id_apart _ _ (λ i. has map.empty i ∙ ap is_some (map.get-empty id_cmp i) ∙ sym (set.contains-empty id_cmp i))

pub inserted : {X : Type 0} (m : map.FinMap id_cmp X) (i : ObjectId) (v : X) → ids_with_value (map.insert m i v) ≡ set.insert (ids_with_value m) i
inserted m i v = set.same_set id_total id_apart _ _ (λ q. simp (has, map.get-insert id_total m i v q, set.contains-insert id_total) (some_or (is_same q i) v (map.get m q)))

pub removed : {X : Type 0} (m : map.FinMap id_cmp X) (i : ObjectId) → ids_with_value (map.remove m i) ≡ set.remove (ids_with_value m) i
removed m i = set.same_set id_total id_apart _ _ (λ q. simp (has, map.get-remove id_total m i q, set.contains-remove id_total) (none_or (is_same q i) (map.get m q)))

pub none_in : (s : set.FinSet id_cmp) (i : ObjectId) → set.len s ≡ 0 → set.contains s i ≡ false
none_in s i is_none = ap (λ t. set.contains t i) (set.empty_of_len s is_none) ∙ set.contains-empty id_cmp i

pub none_removed : (s : set.FinSet id_cmp) (i : ObjectId) → set.len s ≡ 0 → set.remove s i ≡ s
none_removed s i is_none = set.same_set id_total id_apart _ _ (λ q. set.contains-remove id_total s i q ∙ and_right (not (is_same q i)) _ (none_in s q is_none) ∙ sym (none_in s q is_none))

pub ruleset removals = (has, removed, none_in, none_removed)

-- a map's ids rise, so none of them is counted twice
first : (a b : Bool) → T (a && b) → T a
first true b h = tt
first false b h = h

second : (a b : Bool) → T (a && b) → T b
second true b h = h
second false b h = absurd h

not_tied : (r : Ordering) → T (is_lt r) → is_eq r ≡ false
not_tied Less h = refl
not_tied Equal h = absurd h
not_tied Greater h = absurd h

apart : {X : Type 0} (i : ObjectId) (es : List (ObjectId × X)) → T (below_all id_cmp i es) → list_any (is_same i) (keys_of es) ≡ false
apart i [] h = refl
apart i (e ∷ es) h = ap (λ b. b || list_any (is_same i) (keys_of es)) (not_tied (id_cmp i e.0) (first _ _ h)) ∙ apart i es (second _ _ h)

counted_rising : {X : Type 0} (es : List (ObjectId × X)) → T (is_sorted id_cmp es) → set.len (set.from_list {R = id_cmp} (keys_of es)) ≡ length es
counted_rising [] h = set.len-empty id_cmp
counted_rising (e ∷ es) h =
    let others = set.from_list {R = id_cmp} (keys_of es) in
    set.len-insert id_total others e.0
    ∙ ap (λ b. cond b (set.len others) (set.len others + 1)) (set.contains-from_list id_total (keys_of es) e.0 ∙ apart e.0 es (first _ _ h))
    ∙ ap (λ n. n + 1) (counted_rising es (second _ _ h)) ∙ omega arith

pub counted : {X : Type 0} (m : map.FinMap id_cmp X) → map.len m ≡ set.len (ids_with_value m)
counted m = map.len-entries m ∙ sym (counted_rising (map.entries m) (map.entries_sorted m))

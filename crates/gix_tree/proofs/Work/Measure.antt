-- Why the walks of trees end.
use Rattle.std.proofs.Common.{◌≡◌, ℕ, zero, suc, ◌+◌, ◌*◌, ◌<◌, ◌≤◌, Bool, true, false, ◌||◌, List, [], ◌∷◌, length, Option, Some, None, Ok, Err, refl, sym, ◌∙◌, subst, arith, if◌then◌else◌, is_some}
use Rattle.std.proofs.Math.Nat.{mul-le-mul_left, mul-le-mul_right}
use Rattle.std.specs.FinMap.{get, keys, contains_key-keys}
use Rattle.gix_tree.proofs.Common.{ObjectId, is_same, is_among, Object, Objects, TreeEntry, is_tree, Items, Place, visit, inside, Outcome, Leaves, Enters, Cycles, Breaks, outcome, Turn, shows, items_or_none, tasks_behind}
use Rattle.gix_tree.proofs.Common.{items_of_object, trees_of}
use Rattle.gix_hash.proofs.Ids.Membership.{same_is}
use Rattle.gix_tree.proofs.Outcomes.{says}
use Rattle.gix_tree.specs.Measure.{room, widest, steps_of, entry_work, work, WorkLessens}

turned : (a b : ObjectId) → is_same a b ≡ true → is_same b a ≡ true
turned a b h = let e = same_is a b h in subst (λ x. is_same b x ≡ true) (sym e) (subst (λ x. is_same x b ≡ true) e h)

one_less : (b c : Bool) → (if b || c then 0 else 1) ≤ (if c then 0 else 1)
one_less b c = grind arith

room_no_more : (i : ObjectId) (stored ids : List ObjectId) → room stored (i ∷ ids) ≤ room stored ids
room_no_more i [] ids = omega arith
room_no_more i (k ∷ stored) ids = omega (arith, one_less (is_same k i) (is_among k ids), room_no_more i stored ids)

none_or_one : (b c : Bool) (m n : ℕ) → b ≡ true → c ≡ false → m ≤ n → (if b || c then 0 else 1) + m < (if c then 0 else 1) + n
none_or_one b c m n e f h = grind arith

-- below an id that is stored and wasn't above, there is less room
room_less : (i : ObjectId) (stored ids : List ObjectId) → is_among i stored ≡ true → is_among i ids ≡ false → room stored (i ∷ ids) < room stored ids
room_less i [] ids h g = cc
room_less i (k ∷ stored) ids h g =
    grind (arith, h, g, turned i k, same_is i k, none_or_one (is_same k i) (is_among k ids) (room stored (i ∷ ids)) (room stored ids), one_less (is_same k i) (is_among k ids), room_no_more i stored ids, room_less i stored ids)

some_steps : (width room : ℕ) → 2 ≤ steps_of width room
some_steps width zero = omega arith
some_steps width (suc room) = omega arith

more_room : (width : ℕ) (m n : ℕ) → m ≤ n → steps_of width m ≤ steps_of width n
more_room width zero n h = some_steps width n
more_room width (suc m) zero h = absurd (omega arith)
more_room width (suc m) (suc n) h =
    let le : steps_of width m ≤ steps_of width n = more_room width m n (omega arith) in
    omega (arith, mul-le-mul_left width le)

less_room : (width : ℕ) (m n : ℕ) → m < n → 2 + width * steps_of width m ≤ steps_of width n
less_room width m zero h = absurd (omega arith)
less_room width m (suc n) h =
    let le : steps_of width m ≤ steps_of width n = more_room width m n (omega arith) in
    omega (arith, mul-le-mul_left width le)

wide_enough : (trees : ObjectId → Option Items) (stored : List ObjectId) (i : ObjectId) → is_among i stored ≡ true → length (items_or_none (trees i)) ≤ widest trees stored
wide_enough trees [] i h = cc
wide_enough trees (k ∷ stored) i h = grind (arith, h, same_is i k, wide_enough trees stored i)

module _ (objects : Objects) where
  stored_tree : (i : ObjectId) (items : Items) → trees_of objects i ≡ Some items → is_among i (keys objects) ≡ true
  stored_tree i items e = sym (contains_key-keys objects i) ∙ go (get objects i) e
    where
      go : (o : Option Object) → items_of_object i o ≡ Some items → is_some o ≡ true
      go None e = cc
      go (Some object) e = refl

  -- a bound on what an entry below known ids leads to
  abbrev pub entry_bound : List ObjectId → ℕ
  entry_bound ids = steps_of (widest (trees_of objects) (keys objects)) (room (keys objects) ids)

  -- a tree that is gone into leads to less than its entry may
  pub wait_less : (i : ObjectId) (ids : List ObjectId) (found : Option Items) → trees_of objects i ≡ found → is_among i ids ≡ false
      → 1 + length (items_or_none found) * entry_bound (i ∷ ids) < entry_bound ids
  wait_less i ids None is new = omega (arith, some_steps (widest (trees_of objects) (keys objects)) (room (keys objects) ids))
  wait_less i ids (Some items) is new =
      let width = widest (trees_of objects) (keys objects) in
      let there = stored_tree i items is in
      let narrow : length items ≤ width = subst (λ o. length (items_or_none o) ≤ width) is (wide_enough (trees_of objects) (keys objects) i there) in
      let wide : length items * entry_bound (i ∷ ids) ≤ width * entry_bound (i ∷ ids) = mul-le-mul_right (entry_bound (i ∷ ids)) narrow in
      let less : 2 + width * entry_bound (i ∷ ids) ≤ entry_bound ids = less_room width (room (keys objects) (i ∷ ids)) (room (keys objects) ids) (room_less i (keys objects) ids there new) in
      omega (arith, wide, less)

  work_shows : (p : Place) (items : Items) → work objects (shows p items) ≤ length items * entry_work objects p
  work_shows p [] = omega arith
  work_shows p (Ok e ∷ items) = omega (arith, work_shows p items)
  work_shows p (Err why ∷ items) = omega (arith, some_steps (widest (trees_of objects) (keys objects)) (room (keys objects) p.ids))

  work_inside : (p : Place) (e : TreeEntry) → is_among e.id p.ids ≡ false → work objects (Turn (inside p e) e.id ∷ shows (inside p e) (items_or_none (trees_of objects e.id))) < entry_work objects p
  work_inside p e new = omega (arith, work_shows (inside p e) (items_or_none (trees_of objects e.id)), wait_less e.id p.ids (trees_of objects e.id) refl new)

  some_work : (p : Place) → 0 < entry_work objects p
  some_work p = omega (arith, some_steps (widest (trees_of objects) (keys objects)) (room (keys objects) p.ids))

  pub work_lessens : WorkLessens objects
  work_lessens p e a = go (outcome (visit p e a)) refl
    where
      go : (o : Outcome) → outcome (visit p e a) ≡ o → work objects (tasks_behind (trees_of objects) p e o) < entry_work objects p
      go Leaves o = some_work p
      go Enters o = work_inside p e (says (is_tree e.mode) _ a Enters o).1
      go Cycles o = some_work p
      go Breaks o = some_work p

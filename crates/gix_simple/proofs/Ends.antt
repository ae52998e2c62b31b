-- Every walk ends: each answer lowers how many answers are left.
use Rattle.std.proofs.Common.{◌≡◌, ◌+◌, ◌≤◌, ℕ, suc, List, [], ◌∷◌, length, Bool, true, false, ◌||◌, Some, Result, ap, arith, le_refl}
use Rattle.gix_simple.proofs.Common.{or_right, or_left, Yields, ObjectId, is_same, is_among, Objects, Info, Error, SimpleWalk, Treated, Next, named_in, answers_left, id_total, same_itself, fresh, fresh_agree, new_less}
use Rattle.std.specs.FinSet as set
use Rattle.gix_simple.proofs.Moves.{Asking, rests, asks, Follows, Moves, fails, takes, next_moves, listed_before}

-- of fewer ids fewer are new
fewer_new : (s : ObjectId → Bool) (xs ys : List ObjectId) → ((i : ObjectId) → is_among i xs ≡ true → is_among i ys ≡ true) → length (fresh s xs) ≤ length (fresh s ys)
fewer_new s [] ys h = Prim.Native.Nat.zero-le
fewer_new s (x ∷ xs) ys h =
    let rest : (i : ObjectId) → is_among i xs ≡ true → is_among i ys ≡ true = λ i m. h i (or_right (is_same i x) _ m) in
    let old = fewer_new s xs ys rest in
    let new = fewer_new (λ j. is_same j x || s j) xs ys rest in
    let less : s x ≡ false → suc (length (fresh (λ j. is_same j x || s j) ys)) ≡ length (fresh s ys) = new_less s ys x (h x (or_left _ _ (same_itself x))) in
    grind arith

module _ {F P : Type 0} (objects : F → Objects) (faulty : F → ObjectId → Type 0) (answers : P → ObjectId → Bool → P → Type 0) where
  -- what a walk can still give, of these ids
  abbrev left_of : List ObjectId → SimpleWalk F P → ℕ
  left_of ids w = length (fresh (set.contains w.seen) ids) + length w.pending

  asked_left : (ids : List ObjectId) {how : Treated} {w v : SimpleWalk F P} → Asking objects faulty answers (λ i. is_among i ids ≡ true) w how v → left_of ids v ≤ left_of ids w
  asked_left ids (rests f) = le_refl _
  asked_left ids {w = w} {v = v} (asks {p = p} {q = q} {ps = ps} n is_new a f rest) =
      let less : suc (length (fresh (λ j. is_same j p.id || set.contains w.seen j) ids)) ≡ length (fresh (set.contains w.seen) ids) = new_less (set.contains w.seen) ids p.id n is_new.unseen in
      let same : length (fresh (set.contains (set.insert w.seen p.id)) ids) ≡ length (fresh (λ j. is_same j p.id || set.contains w.seen j) ids) =
      ap length (fresh_agree _ _ ids (λ j h. set.contains-insert id_total w.seen p.id j)) in
      let left : left_of ids v ≤ length (fresh (set.contains (set.insert w.seen p.id)) ids) + length ps = asked_left ids rest in
      let short : length ps ≤ suc (length w.pending) = f.shorter in
      omega arith

  follows_left : (ids : List ObjectId) {w v : SimpleWalk F P} → Follows objects faulty answers w v → left_of ids v ≤ left_of ids w
  follows_left ids {w} {v} f =
      let e : length (fresh (set.contains v.seen) ids) ≡ length (fresh (set.contains w.seen) ids) = ap (λ x. length (fresh (set.contains x.seen) ids)) f.same in
      let short : length v.pending ≤ length w.pending = f.fewer.shorter in
      omega arith

  moves_left : {w : SimpleWalk F P} {answer : Result Info Error} {new : SimpleWalk F P} → Moves objects faulty answers w answer new → suc (answers_left objects new) ≤ answers_left objects w
  moves_left {w} {new = new} m =
      let less : length (fresh (set.contains new.seen) (named_in objects new)) ≤ length (fresh (set.contains new.seen) ids) =
      fewer_new (set.contains new.seen) (named_in objects new) ids (listed_before objects faulty answers m) in
      let k : suc (left_of ids new) ≤ left_of ids w = go m in
      omega arith
    where
      ids : List ObjectId
      ids = named_in objects w

      go : {answer : Result Info Error} {new : SimpleWalk F P} → Moves objects faulty answers w answer new → suc (left_of ids new) ≤ left_of ids w
      go (fails {new = new} some gone f) =
          let e : length (fresh (set.contains new.seen) ids) ≡ length (fresh (set.contains w.seen) ids) = ap (λ x. length (fresh (set.contains x.seen) ids)) f.same in
          let n : length new.pending ≡ 0 = ap length gone in
          omega arith
      go (takes {p = p} {mid = mid} {walk = walk} {new = new} generation f asked g of) =
          let a : left_of ids (record mid { pending = p ∷ mid.pending }) ≤ left_of ids w = follows_left ids f in
          let b : left_of ids walk ≤ left_of ids mid = asked_left ids asked in
          let c : left_of ids new ≤ left_of ids walk = follows_left ids g in
          omega arith

  -- each answer lowers how many are left
  pub next_left : (w : SimpleWalk F P) {answer : Result Info Error} {new : SimpleWalk F P} → Next objects faulty answers w (Some answer) new → suc (answers_left objects new) ≤ answers_left objects w
  next_left w n = moves_left (next_moves objects faulty answers n)

  -- a list that may follow a walk is no longer than that
  pub drawn_left : (list : List (Result Info Error)) (w new : SimpleWalk F P) → Yields (Next objects faulty answers) w list new → length list ≤ answers_left objects w
  drawn_left [] w new d = Prim.Native.Nat.zero-le
  drawn_left (answer ∷ list) w new d =
      let a : suc (answers_left objects d.0) ≤ answers_left objects w = next_left w d.1 in
      let b : length list ≤ answers_left objects d.0 = drawn_left list d.0 new d.2 in
      omega arith

-- The trees that a walk by levels has met, each with the known ids down to it.
use Rattle.std.proofs.Common.{◌≡◌, ℕ, zero, suc, ◌+◌, ◌-◌, ◌<◌, ◌≤◌, List, [], ◌∷◌, ◌++◌, length, drop, get_or, ◌||◌, Some, refl, sym, ap, ◌∙◌, subst, arith, length-append, zero-add, slice_get}
use Rattle.std.proofs.lemmas.List.{drop_all, drop-append-le}
use Rattle.std.proofs.lemmas.Option.{slice_get_read}
use Rattle.gix_tree.proofs.Common.{ObjectId, is_same, is_among, Waiting, queued, ids_or_none, known_at, met_behind, AreAbove}
use Rattle.gix_tree.specs.declared.breadthfirst.Tree.{Tree}
use Rattle.gix_tree.specs.Inside.LevelQueue.{level_queue}

get_in_front : {X : Type 0} (xs ys : List X) (k : ℕ) → k < length xs → slice_get (xs ++ ys) k ≡ slice_get xs k
get_in_front [] ys k h = absurd (omega arith)
get_in_front (x ∷ xs) ys zero h = refl
get_in_front (x ∷ xs) ys (suc k) h = get_in_front xs ys k (omega arith)

pub get_behind : {X : Type 0} (xs ys : List X) → slice_get (xs ++ ys) (length xs) ≡ slice_get ys 0
get_behind [] ys = refl
get_behind (x ∷ xs) ys = get_behind xs ys

drop_at : {X : Type 0} (xs : List X) (k : ℕ) (x : X) → slice_get xs k ≡ Some x → drop k xs ≡ x ∷ drop (suc k) xs
drop_at [] k x e = cc
drop_at (y ∷ xs) zero x e = let same : y ≡ x = cc in ap (λ z. z ∷ xs) same
drop_at (y ∷ xs) (suc k) x e = drop_at xs k x e

-- what a tree is met as
abbrev met_as : List Waiting → Tree → Waiting
met_as met t = (t.oid, t.oid ∷ known_at met t.turn)

one_more : (met : List Waiting) (w : Waiting) → length (met ++ w ∷ []) ≡ suc (length met)
one_more met w = omega (arith, length-append met (w ∷ []))

met_stays : (met : List Waiting) (trees : List Tree) (k : ℕ) → k < length met → slice_get (met_behind met trees) k ≡ slice_get met k
met_stays met [] k h = refl
met_stays met (t ∷ trees) k h = met_stays (met ++ met_as met t ∷ []) trees k (omega (arith, one_more met (met_as met t))) ∙ get_in_front met (met_as met t ∷ []) k h

known_stays : (met : List Waiting) (trees : List Tree) (turn : ℕ) → turn ≤ length met → known_at (met_behind met trees) turn ≡ known_at met turn
known_stays met trees zero h = refl
known_stays met trees (suc turn) h = ap ids_or_none (met_stays met trees turn (omega arith))

met_length : (met : List Waiting) (trees : List Tree) → length (met_behind met trees) ≡ length met + length trees
met_length met [] = omega arith
met_length met (t ∷ trees) = omega (arith, met_length (met ++ met_as met t ∷ []) trees, one_more met (met_as met t))

met_more : (met : List Waiting) (trees : List Tree) (t : Tree) → met_behind met (trees ++ t ∷ []) ≡ met_behind met trees ++ met_as (met_behind met trees) t ∷ []
met_more met [] t = refl
met_more met (u ∷ trees) t = met_more (met ++ met_as met u ∷ []) trees t

met_at : (met : List Waiting) (trees : List Tree) (k : ℕ) (t : Tree) → AreAbove (length met) trees → slice_get trees k ≡ Some t → slice_get (met_behind met trees) (length met + k) ≡ Some (met_as (met_behind met trees) t)
met_at met [] k t a e = cc
met_at met (u ∷ trees) zero t a e =
    let same : u ≡ t = cc in
    let more = met ++ met_as met u ∷ [] in
    let here : slice_get (met_behind more trees) (length met) ≡ Some (met_as met u) = met_stays more trees (length met) (omega (arith, one_more met (met_as met u))) ∙ get_behind met (met_as met u ∷ []) in
    grind (arith, here, same, known_stays met (u ∷ trees) u.turn a.0)
met_at met (u ∷ trees) (suc k) t a e =
    let more = met ++ met_as met u ∷ [] in
    let above : AreAbove (length more) trees = subst (λ n. AreAbove n trees) (sym (one_more met (met_as met u))) a.1 in
    subst (λ n. slice_get (met_behind more trees) n ≡ Some (met_as (met_behind more trees) t)) (omega (arith, one_more met (met_as met u))) (met_at more trees k t above e)

pub above_more : (n : ℕ) (trees : List Tree) (t : Tree) → AreAbove n trees → t.turn ≤ n + length trees → AreAbove n (trees ++ t ∷ [])
above_more n [] t a h = (omega arith, tt)
above_more n (u ∷ trees) t a h = (a.0, above_more (suc n) trees t a.1 (omega arith))

pub above_at : (n : ℕ) (trees : List Tree) (k : ℕ) (t : Tree) → AreAbove n trees → slice_get trees k ≡ Some t → t.turn ≤ n + k
above_at n [] k t a e = cc
above_at n (u ∷ trees) zero t a e = let same : u ≡ t = cc in subst (λ x. x.turn ≤ n + 0) same (omega (arith, a.0))
above_at n (u ∷ trees) (suc k) t a e = omega (arith, above_at (suc n) trees k t a.1 e)

met_first : (trees : List Tree) (turn : ℕ) (t : Tree) → AreAbove 0 trees → slice_get trees turn ≡ Some t → slice_get (met_behind [] trees) turn ≡ Some (met_as (met_behind [] trees) t)
met_first trees turn t a e = subst (λ n. slice_get (met_behind [] trees) n ≡ Some (met_as (met_behind [] trees) t)) (zero-add turn) (met_at [] trees turn t a e)

-- the known ids down to a tree are its own and those down to the tree that holds it
pub known_up : (trees : List Tree) (turn : ℕ) (t : Tree) → AreAbove 0 trees → slice_get trees turn ≡ Some t → known_at (met_behind [] trees) (suc turn) ≡ t.oid ∷ known_at (met_behind [] trees) t.turn
known_up trees turn t a e = ap ids_or_none (met_first trees turn t a e)

before : (trees : List Tree) (turn : ℕ) (t : Tree) → suc turn - 1 < length trees → t ≡ get_or trees (suc turn - 1) t → slice_get trees turn ≡ Some t
before trees turn t h e =
    let one : suc turn - 1 ≡ turn = omega arith in
    slice_get_read trees (length trees) turn t refl (omega (arith, h)) (subst (λ n. t ≡ get_or trees n t) one e)

-- whether an id is known is whether it is the tree's own or known above it
pub known_among : (trees : List Tree) (turn : ℕ) (t : Tree) (i : ObjectId) → AreAbove 0 trees → 0 < turn → turn - 1 < length trees → t ≡ get_or trees (turn - 1) t → is_among i (known_at (met_behind [] trees) turn) ≡ (is_same i t.oid || is_among i (known_at (met_behind [] trees) t.turn))
known_among trees zero t i a w h e = absurd (omega (arith, w))
known_among trees (suc turn) t i a w h e = ap (λ ids. is_among i ids) (known_up trees turn t a (before trees turn t h e))

pub turns_back : (trees : List Tree) (turn : ℕ) (t : Tree) → AreAbove 0 trees → 0 < turn → turn - 1 < length trees → t ≡ get_or trees (turn - 1) t → t.turn < turn
turns_back trees zero t a w h e = absurd (omega (arith, w))
turns_back trees (suc turn) t a w h e = omega (arith, above_at 0 trees turn t a (before trees turn t h e))

pub queue_more : (trees : List Tree) (turn : ℕ) (i : ObjectId) → turn ≤ length trees → level_queue turn (trees ++ record { oid = i; turn = turn } ∷ []) ≡ queued (level_queue turn trees) i
queue_more trees turn i h =
    let met = met_behind [] trees in
    let w : Waiting = (i, i ∷ known_at met turn) in
    let all : met_behind [] (trees ++ record { oid = i; turn = turn } ∷ []) ≡ met ++ w ∷ [] = met_more [] trees (record { oid = i; turn = turn }) in
    let within : turn ≤ length met = omega (arith, h, met_length [] trees) in
    λ j. record {
      known = (ap (λ l. known_at l turn) all ∙ known_stays met (record { oid = i; turn = turn } ∷ []) turn within) j;
      waiting = (ap (λ l. drop turn l) all ∙ drop-append-le turn met (w ∷ []) within) j;
    }

pub queue_turns : (trees : List Tree) (turn : ℕ) (t : Tree) → AreAbove 0 trees → turn < length trees → t ≡ get_or trees turn t → (level_queue turn trees).waiting ≡ (t.oid, (level_queue (turn + 1) trees).known) ∷ (level_queue (turn + 1) trees).waiting
queue_turns trees turn t a w h =
    let e : slice_get trees turn ≡ Some t = slice_get_read trees (length trees) turn t refl w h in
    let met = met_behind [] trees in
    let one : suc turn ≡ turn + 1 = omega arith in
    subst (λ n. drop turn met ≡ (t.oid, known_at met n) ∷ drop n met) one
    (drop_at met turn _ (met_first trees turn t a e) ∙ ap (λ ids. (t.oid, ids) ∷ drop (suc turn) met) (sym (known_up trees turn t a e)))

pub queue_ends : (trees : List Tree) (turn : ℕ) → length trees ≤ turn → (level_queue turn trees).waiting ≡ []
queue_ends trees turn h = drop_all turn (met_behind [] trees) (omega (arith, met_length [] trees, h))

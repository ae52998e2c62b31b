-- No id is given twice, whatever the store, the rows and the predicate do.
use Rattle.std.proofs.Common.{◌≡◌, ◌+◌, ◌≤◌, List, [], ◌∷◌, Bool, true, false, cond, Result, Ok, Err, sym, ap, subst, ◌∙◌, arith}
use Rattle.std.specs.FinSet as set
use Rattle.gix_simple.proofs.Common.{Yields, ObjectId, is_same, Objects, Info, Error, SimpleWalk, Treated, Next, ids_of, AreDistinct, given_ids, id_total, same_is, times_once}
use Rattle.gix_revwalk.proofs.NewIds.{times}
use Rattle.gix_simple.proofs.Moves.{Asking, rests, asks, Follows, IsGivenAs, Moves, fails, takes, next_moves}

module _ {F P : Type 0} (objects : F → Objects) (faulty : F → ObjectId → Type 0) (answers : P → ObjectId → Bool → P → Type 0) where
  -- an id is pending or gone at most once, and only if it was seen
  abbrev pub IsSole : List ObjectId → SimpleWalk F P → Type 0
  IsSole gone w = (i : ObjectId) → times i (ids_of w.pending) + times i gone ≤ cond (set.contains w.seen i) 1 0

  pub asked_sole : (gone : List ObjectId) {Named : ObjectId → Type 0} {how : Treated} {w v : SimpleWalk F P} → Asking objects faulty answers Named w how v → IsSole gone w → IsSole gone v
  asked_sole gone (rests f) h = h
  asked_sole gone {w = w} (asks {p = p} {ps = ps} n is_new a f rest) h =
      asked_sole gone rest (λ j.
      let often = f.as_often j in
      let sole : times j (ids_of w.pending) + times j gone ≤ cond (set.contains w.seen j) 1 0 = h j in
      let now = set.contains-insert id_total w.seen p.id j in
      let unseen : is_same j p.id ≡ true → set.contains w.seen j ≡ false = λ t. ap (set.contains w.seen) (same_is j p.id t) ∙ is_new.unseen in
      grind arith)

  follows_sole : (gone : List ObjectId) {w v : SimpleWalk F P} → Follows objects faulty answers w v → IsSole gone w → IsSole gone v
  follows_sole gone {w} {v} f h i =
      let k : times i (ids_of w.pending) + times i gone ≤ cond (set.contains w.seen i) 1 0 = h i in
      let less : times i (ids_of v.pending) ≤ times i (ids_of w.pending) = f.fewer.as_often i in
      subst (λ b. times i (ids_of v.pending) + times i gone ≤ cond b 1 0) (ap (λ x. set.contains x.seen i) (sym f.same)) (omega arith)

  -- what was gone before, and this answer
  abbrev with_answer : Result Info Error → List ObjectId → List ObjectId
  with_answer (Ok info) gone = info.id ∷ gone
  with_answer (Err e) gone = gone

  moves_sole : (gone : List ObjectId) {w : SimpleWalk F P} {answer : Result Info Error} {new : SimpleWalk F P} → Moves objects faulty answers w answer new → IsSole gone w → IsSole (with_answer answer gone) new
  moves_sole gone (fails some none f) h = follows_sole gone f h
  moves_sole gone (takes {p = p} {answer = answer} {mid = mid} {walk = walk} {new = new} generation f asked g of) h = said answer of
    where
      taken : IsSole (p.id ∷ gone) mid
      taken i = let k : (cond (is_same i p.id) 1 0 + times i (ids_of mid.pending)) + times i gone ≤ cond (set.contains mid.seen i) 1 0 = follows_sole gone f h i in omega arith

      given : IsSole (p.id ∷ gone) new
      given = follows_sole (p.id ∷ gone) g (asked_sole (p.id ∷ gone) asked taken)

      said : (a : Result Info Error) → IsGivenAs p.id generation a → IsSole (with_answer a gone) new
      said (Ok info) of = subst (λ x. IsSole (x ∷ gone) new) (sym of.0) given
      said (Err e) of = λ i. let k : times i (ids_of new.pending) + (cond (is_same i p.id) 1 0 + times i gone) ≤ cond (set.contains new.seen i) 1 0 = given i in omega arith

  drawn_sole : (list : List (Result Info Error)) (gone : List ObjectId) (w new : SimpleWalk F P) → Yields (Next objects faulty answers) w list new → IsSole gone w
      → (i : ObjectId) → times i (given_ids list) + times i gone ≤ 1
  drawn_sole [] gone w new d h i =
      let k : times i (ids_of w.pending) + times i gone ≤ cond (set.contains w.seen i) 1 0 = h i in
      grind arith
  drawn_sole (answer ∷ list) gone w new d h i = go answer (drawn_sole list (with_answer answer gone) d.0 new d.2 (moves_sole gone (next_moves objects faulty answers d.1) h) i)
    where
      go : (a : Result Info Error) → times i (given_ids list) + times i (with_answer a gone) ≤ 1 → times i (given_ids (a ∷ list)) + times i gone ≤ 1
      go (Ok info) k = let l : times i (given_ids list) + (cond (is_same i info.id) 1 0 + times i gone) ≤ 1 = k in omega arith
      go (Err e) k = k

  -- what is given is given once, if nothing is pending twice, and all that is pending was seen
  pub drawn_once : (w new : SimpleWalk F P) (list : List (Result Info Error)) → IsSole [] w → Yields (Next objects faulty answers) w list new → AreDistinct (given_ids list)
  drawn_once w new list sole d = times_once (given_ids list) (λ i. let k : times i (given_ids list) + 0 ≤ 1 = drawn_sole list [] w new d sole i in omega arith)

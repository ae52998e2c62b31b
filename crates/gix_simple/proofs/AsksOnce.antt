-- No id is asked about twice, whatever faults come, and only ids that tips, rows and stored texts name.
use Rattle.std.proofs.Common.{◌≡◌, ◌⊎◌, List, [], ◌∷◌, ◌++◌, Bool, true, Result, Contains, sym, ap, subst, inl, ⊎_elim, ◌∙◌, arith, true≢false}
use Rattle.gix_simple.proofs.Common.{Yields, or_right, or_left, Contains-append_cases, ObjectId, id_cmp, is_among, Objects, Info, Error, SimpleWalk, Treated, IsNew, Asks, remembers, Next, IsBuilt, AreDistinct, named_in, AsksAll}
use Rattle.gix_simple.proofs.Common.{id_total, same_from, among-append, among_from, among_is, Contains-here, Contains-there, no_member, only_member}
use Rattle.std.specs.FinSet as set
use Rattle.gix_simple.specs.Walk.{asks}
use Rattle.gix_simple.specs.Building.{made, breadth_first, by_time, hides, walks, reads}
use Rattle.gix_simple.specs.Runs.{AsksOnce}
use Rattle.gix_revwalk.specs.Asking as asking
use Rattle.gix_simple.proofs.Moves as moves
use Rattle.gix_simple.proofs.Moves.{Asking, Follows, IsListed, Moves, fails, takes, next_moves, listed_before}

asks_then : {P : Type 0} {answers : P → ObjectId → Bool → P → Type 0} {p q r : P} {ids : List ObjectId} {i : ObjectId} {answer : Bool} → AsksAll answers p ids q → answers q i answer r → AsksAll answers p (ids ++ i ∷ []) r
asks_then asking.none a = asking.more a asking.none
asks_then (asking.more b rest) a = asking.more b (asks_then rest a)

distinct_then : (ids : List ObjectId) (i : ObjectId) → AreDistinct ids → (Contains ids i → ⊥) → AreDistinct (ids ++ i ∷ [])
distinct_then [] i d n = ((λ m. no_member i m), tt)
distinct_then (x ∷ ids) i d n =
    ((λ m. ⊎_elim d.0 (λ k. n (subst (λ y. Contains (y ∷ ids) i) (only_member i x k) (Contains-here i ids))) (Contains-append_cases ids (i ∷ []) x m)), distinct_then ids i d.1 (λ m. n (Contains-there i x ids m)))

module _ {F P : Type 0} (objects : F → Objects) (faulty : F → ObjectId → Type 0) (answers : P → ObjectId → Bool → P → Type 0) (first : P) (named : List ObjectId) where
  abbrev Ids : Type 0
  Ids = set.FinSet id_cmp

  -- what was asked about, all of it seen or remembered
  record Asked (predicate : P) (seen remembered : Ids) : Type 0 where
    so_far : AsksOnce answers named first predicate
    known : (i : ObjectId) → Contains so_far.ids i → (set.contains seen i ≡ true) ⊎ (set.contains remembered i ≡ true)

  abbrev AskedOf : SimpleWalk F P → Type 0
  AskedOf w = Asked w.predicate w.seen w.remembered

  -- an id is seen, and remembered no more
  still_known : (seen remembered : Ids) (i j : ObjectId) → (set.contains seen j ≡ true) ⊎ (set.contains remembered j ≡ true)
      → (set.contains (set.insert seen i) j ≡ true) ⊎ (set.contains (set.remove remembered i) j ≡ true)
  still_known seen remembered i j known = let s = set.contains-insert id_total seen i j in let r = set.contains-remove id_total remembered i j in grind arith

  asked_one : (w : SimpleWalk F P) (i : ObjectId) {b : Bool} {q : P} → is_among i named ≡ true → IsNew objects faulty answers w i
      → Asks objects faulty answers w i b q → AskedOf w → Asked q (set.insert w.seen i) (set.remove w.remembered i)
  asked_one w i n is_new (remembers e) a = record { so_far = a.so_far; known = λ j m. still_known w.seen w.remembered i j (a.known j m) }
  asked_one w i n is_new (asks e answer) a = record {
    so_far = record {
      ids = a.so_far.ids ++ i ∷ [];
      run = asks_then a.so_far.run answer;
      distinct = distinct_then a.so_far.ids i a.so_far.distinct (λ m. ⊎_elim (λ s. true≢false (sym s ∙ is_new.unseen)) (λ r. true≢false (sym r ∙ e)) (a.known i m));
      named = λ j m. ⊎_elim (a.so_far.named j) (λ k. subst (Contains named) (only_member i j k) (among_is i named n)) (Contains-append_cases a.so_far.ids (i ∷ []) j m);
    };
    known = λ j m.
        ⊎_elim (λ k. still_known w.seen w.remembered i j (a.known j k)) (λ k. inl (set.contains-insert id_total w.seen i j ∙ or_left _ _ (same_from j i (sym (only_member i j k))))) (Contains-append_cases a.so_far.ids (i ∷ []) j m);
  }

  all_asked : {Named : ObjectId → Type 0} {how : Treated} {w v : SimpleWalk F P} → ((i : ObjectId) → Named i → is_among i named ≡ true) → Asking objects faulty answers Named w how v → AskedOf w → AskedOf v
  all_asked n (moves.rests f) a = a
  all_asked {w = w} n (moves.asks {p = p} m is_new b f rest) a = all_asked n rest (asked_one w p.id (n p.id m) is_new b a)

  follows_asked : {w v : SimpleWalk F P} → Follows objects faulty answers w v → AskedOf w → AskedOf v
  follows_asked f a = subst AskedOf (sym f.same) a

  moves_asked : {w : SimpleWalk F P} {answer : Result Info Error} {new : SimpleWalk F P} → Moves objects faulty answers w answer new
      → ((i : ObjectId) → IsListed objects faulty answers w i → is_among i named ≡ true) → AskedOf w → AskedOf new
  moves_asked (fails some gone f) n a = follows_asked f a
  moves_asked (takes generation f asked g of) n a = follows_asked g (all_asked n asked (follows_asked f a))

  drawn_asked : (list : List (Result Info Error)) (w new : SimpleWalk F P) → Yields (Next objects faulty answers) w list new
      → ((i : ObjectId) → IsListed objects faulty answers w i → is_among i named ≡ true) → AskedOf w → AskedOf new
  drawn_asked [] w new d n a = subst AskedOf d a
  drawn_asked (answer ∷ list) w new d n a =
      let m = next_moves objects faulty answers d.1 in
      drawn_asked list d.0 new d.2 (λ i l. n i (listed_before objects faulty answers m i l)) (moves_asked m n a)

  module _ (store : F) (tips : List ObjectId) (within : (i : ObjectId) → Contains tips i → is_among i named ≡ true) where
    -- the calls that choose the order ask nobody
    built_asked : {w : SimpleWalk F P} → IsBuilt objects faulty answers store first tips w → AskedOf w
    built_asked (made m) = all_asked (λ i k. k) (moves.asking objects faulty answers {Named = λ i. is_among i named ≡ true} within m)
        (record { so_far = record { ids = []; run = asking.none; distinct = tt; named = λ i k. absurd (no_member i k) }; known = λ i k. absurd (no_member i k) })
    built_asked (breadth_first b) = built_asked b
    built_asked (by_time {walk = w} {new = new} {by = by} b s) =
        let a = built_asked b in
        record {
          so_far = record { ids = a.so_far.ids; run = subst (AsksAll answers first a.so_far.ids) (sym (ap (λ x. x.predicate) s.others)) a.so_far.run; distinct = a.so_far.distinct; named = a.so_far.named };
          known = λ i m. let seen = s.seen i in let remembered = s.remembered i in let before = a.known i m in grind arith;
        }
    built_asked (hides b) = built_asked b
    built_asked (walks b) = built_asked b
    built_asked (reads b) = built_asked b

-- the law
pub asks_once : {F P : Type 0} (objects : F → Objects) (faulty : F → ObjectId → Type 0) (answers : P → ObjectId → Bool → P → Type 0) (store : F) (predicate : P) (tips : List ObjectId) (walk new : SimpleWalk F P) (list : List (Result Info Error))
    → IsBuilt objects faulty answers store predicate tips walk → Yields (Next objects faulty answers) walk list new → AsksOnce answers (tips ++ named_in objects walk) predicate new.predicate
asks_once objects faulty answers store predicate tips walk new list built drawn =
    let all : List ObjectId = tips ++ named_in objects walk in
    let start = built_asked objects faulty answers predicate all store tips (λ i m. among-append i tips (named_in objects walk) ∙ or_left _ _ (among_from i tips m)) built in
    (drawn_asked objects faulty answers predicate all list walk new drawn (λ i m. among-append i tips (named_in objects walk) ∙ or_right (is_among i tips) _ m) start).so_far

-- How a walk treats the ids that tips or a parent list name, one after the other.
use Rattle.std.proofs.Common.{◌≡◌, ℤ, List, [], ◌∷◌, ◌++◌, Bool, true, false, not, ◌||◌, Some, Result, Ok, Err, IfOk, IfErr, refl, sym, ap, subst, inl, inr, ◌∙◌, arith, ⊎_elim, true≢false}
use Rattle.gix_simple.proofs.Common.{false≢true, ObjectId, id_cmp, is_same, Objects, id_total, id_apart, same_is, CommitTimeOrder, Pending, time_of, Meets, TimeIs, SimpleWalk, bare, asked, Treated, GoesOn, NoMemory, StoreFails, Asks}
use Rattle.gix_simple.proofs.Common.{remembers, ReadsTime, unasked, from_row, from_store, store_fails, Enqueues, enqueued, is_older, time_order, cutoff, IsNew, Treats, hidden, refused, accepted, no_memory_after, TreatsAll, stops}
use Rattle.gix_simple.proofs.Common.{IsMade, how_ended}
use Rattle.std.specs.FinSet as set
use Rattle.gix_simple.specs.declared.step.Stop.{Stop}
use Rattle.gix_simple.specs.declared.step.Stop.TheVariants as stop
use Rattle.gix_simple.specs.Walk.{asks, known, no_memory, none, more}

-- to put an id in again
pub insert_again : (s : set.FinSet id_cmp) (i : ObjectId) → set.contains s i ≡ true → set.insert s i ≡ s
insert_again s i h = set.same_set id_total id_apart _ _ (λ q. set.contains-insert id_total s i q ∙ there q (is_same q i) refl)
  where
    there : (q : ObjectId) (b : Bool) → is_same q i ≡ b → (b || set.contains s q) ≡ set.contains s q
    there q b e = let same : is_same q i ≡ true → set.contains s q ≡ set.contains s i = λ t. ap (set.contains s) (same_is q i t) in grind arith

module _ {F P : Type 0} (objects : F → Objects) (faulty : F → ObjectId → Type 0) (answers : P → ObjectId → Bool → P → Type 0) (i : ObjectId) (inside old : SimpleWalk F P) (is : inside ≡ old) where
  -- an id that isn't hidden is put among the seen ones
  pub meets_shown : (E : Type 0) (added : Bool) (seen : set.FinSet id_cmp) → set.contains inside.hidden i ≡ false → added ≡ not (set.contains inside.seen i) → seen ≡ set.insert inside.seen i → Meets objects faulty answers {E = E} old i (Ok added) (record inside { seen = seen })
  meets_shown E added seen h a s = subst (λ w. Meets objects faulty answers {E = E} w i (Ok added) (record inside { seen = seen })) is (go added (set.contains inside.seen i) refl a)
    where
      go : (a there : Bool) → set.contains inside.seen i ≡ there → a ≡ not there → Meets objects faulty answers {E = E} inside i (Ok a) (record inside { seen = seen })
      go true true t e = absurd (true≢false e)
      go true false t e = (record { open_to = h; unseen = t }, (λ j. record inside { seen = s j }))
      go false true t e = (inr t, (λ j. record inside { seen = (s ∙ insert_again inside.seen i t) j }))
      go false false t e = absurd (false≢true e)

  -- a yes is remembered
  pub yes_before : (there : Bool) → there ≡ set.contains inside.remembered i → there ≡ true → Asks objects faulty answers old i there inside.predicate
  yes_before there r t = subst (λ w. Asks objects faulty answers w i there inside.predicate) is (subst (λ b. Asks objects faulty answers inside i b inside.predicate) (sym t) (remembers (sym r ∙ t)))

  -- or the predicate is asked
  pub asked_now : (there answer : Bool) (predicate : P) → there ≡ set.contains inside.remembered i → there ≡ false → answers inside.predicate i answer predicate → Asks objects faulty answers old i answer predicate
  asked_now there answer predicate r t a = subst (λ w. Asks objects faulty answers w i answer predicate) is (asks (sym r ∙ t) a)

module _ {F P : Type 0} (objects : F → Objects) (faulty : F → ObjectId → Type 0) (answers : P → ObjectId → Bool → P → Type 0) (by_row : Bool) (i : ObjectId) where
  -- a parent that isn't older than the cutoff becomes pending
  pub enqueued_so : (inside old : SimpleWalk F P) → inside ≡ old → (time : ℤ) (pending : List Pending) → is_older time (cutoff old.parents old.sorting) ≡ false → pending ≡ inside.pending ++ record { id = i; time = time } ∷ [] → Enqueues objects faulty answers (cutoff old.parents old.sorting) old.pending i time pending
  enqueued_so inside old is time pending young h = enqueued young (h ∙ ap (λ w. w.pending ++ record { id = i; time = time } ∷ []) is)

  -- the time that the stored text has
  pub stored_time : (old : SimpleWalk F P) (order : CommitTimeOrder) → time_order old.parents old.sorting ≡ Some order → by_row ≡ false → (result : Result ℤ Stop) → IfOk result (λ time. time ≡ time_of (objects old.store) i) → IfErr result (λ why. why ≡ stop.Store → faulty old.store i) → TimeIs objects faulty answers old by_row i result
  stored_time old order o b (Ok time) t f = subst (λ t. ReadsTime objects faulty answers old by_row i (Ok t)) (sym t) (from_store o b)
  stored_time old order o b (Err stop.Store) t f = store_fails o b (f refl)
  stored_time old order o b (Err stop.Memory) t f = tt

  -- the id has been met by `old`, asked about, and its time read
  module _ (old met : SimpleWalk F P) (is_met : met ≡ record old { seen = set.insert old.seen i }) (new : IsNew objects faulty answers old i) where
    asks_before : {w : SimpleWalk F P} {answer : Bool} {predicate : P} → w ≡ record old { seen = set.insert old.seen i } → Asks objects faulty answers w i answer predicate → Asks objects faulty answers old i answer predicate
    asks_before {w} {answer} {predicate} e a = go (subst (λ w. Asks objects faulty answers w i answer predicate) e a)
      where
        go : {answer : Bool} {predicate : P} → Asks objects faulty answers (record old { seen = set.insert old.seen i }) i answer predicate → Asks objects faulty answers old i answer predicate
        go (remembers r) = remembers r
        go (asks r b) = asks r b

    module _ (predicate : P) (then : SimpleWalk F P) (is_asked : then ≡ record met { predicate = predicate; remembered = set.remove met.remembered i }) where
      after : then ≡ asked objects faulty answers old i predicate old.pending
      after = is_asked ∙ ap {A = SimpleWalk F P} (λ w. record w { predicate = predicate; remembered = set.remove w.remembered i }) is_met

      pub treats_refused : Asks objects faulty answers met i false predicate → Treats objects faulty answers old by_row i GoesOn then
      treats_refused a = subst (Treats objects faulty answers old by_row i GoesOn) (sym after) (refused new (asks_before is_met a))

      time_before : {r : Result ℤ Treated} → ReadsTime objects faulty answers then by_row i r → ReadsTime objects faulty answers old by_row i r
      time_before {r} t = go (subst (λ w. ReadsTime objects faulty answers w by_row i r) after t)
        where
          go : {r : Result ℤ Treated} → ReadsTime objects faulty answers (asked objects faulty answers old i predicate old.pending) by_row i r → ReadsTime objects faulty answers old by_row i r
          go (unasked e) = unasked e
          go (from_row e b) = from_row e b
          go (from_store e b) = from_store e b
          go (store_fails e b f) = store_fails e b f

      module _ (read : SimpleWalk F P) (is_read : read ≡ then) (yes : Asks objects faulty answers met i true predicate) where
        still : read ≡ asked objects faulty answers old i predicate old.pending
        still = is_read ∙ after

        pub treats_time_fails : (why : Stop) → TimeIs objects faulty answers then by_row i (Err why) → Treats objects faulty answers old by_row i (how_ended (Err why)) read
        treats_time_fails stop.Store t = subst (Treats objects faulty answers old by_row i StoreFails) (sym still) (store_fails new (asks_before is_met yes) (time_before t))
        treats_time_fails stop.Memory t = subst (Treats objects faulty answers old by_row i NoMemory) (sym still) (no_memory_after new (asks_before is_met yes) (inl refl))

        module _ (pending : List Pending) (last : SimpleWalk F P) (is_last : last ≡ record read { pending = pending }) where
          ends : last ≡ asked objects faulty answers old i predicate pending
          ends = is_last ∙ ap {A = SimpleWalk F P} (λ w. record w { pending = pending }) still

          pub treats_accepted : (time : ℤ) → ReadsTime objects faulty answers then by_row i (Ok time) → Enqueues objects faulty answers (cutoff read.parents read.sorting) read.pending i time pending → Treats objects faulty answers old by_row i GoesOn last
          treats_accepted time t q = subst (Treats objects faulty answers old by_row i GoesOn) (sym ends)
              (accepted new (asks_before is_met yes) (time_before t) (subst (λ w. Enqueues objects faulty answers (cutoff w.parents w.sorting) w.pending i time pending) still q))

          pub treats_stopped : pending ≡ [] → Treats objects faulty answers old by_row i NoMemory last
          treats_stopped e = subst (Treats objects faulty answers old by_row i NoMemory) (sym ends) (no_memory_after new (asks_before is_met yes) (inr e))

  -- what was met, by what the meeting answered
  pub met_new : (old met : SimpleWalk F P) (E : Type 0) (is_new : Bool) → Meets objects faulty answers {E = E} old i (Ok is_new) met → is_new ≡ true → IsNew objects faulty answers old i × (met ≡ record old { seen = set.insert old.seen i })
  met_new old met E is_new h e = subst (λ b. Meets objects faulty answers {E = E} old i (Ok b) met) e h

  pub treats_met : (old met : SimpleWalk F P) (E : Type 0) (is_new : Bool) → Meets objects faulty answers {E = E} old i (Ok is_new) met → is_new ≡ false → Treats objects faulty answers old by_row i GoesOn met
  treats_met old met E is_new h e =
      let k : Meets objects faulty answers {E = E} old i (Ok false) met = subst (λ b. Meets objects faulty answers {E = E} old i (Ok b) met) e h in
      subst (Treats objects faulty answers old by_row i GoesOn) (sym k.1) (⊎_elim hidden known k.0)

  pub treats_unmet : (old met : SimpleWalk F P) → met ≡ old → Treats objects faulty answers old by_row i NoMemory met
  treats_unmet old met e = subst (Treats objects faulty answers old by_row i NoMemory) (sym e) no_memory

module _ {F P : Type 0} (objects : F → Objects) (faulty : F → ObjectId → Type 0) (answers : P → ObjectId → Bool → P → Type 0) (by_row : Bool) where
  -- where the first id of a list stops, the others are left
  pub stopped_first : {old new : SimpleWalk F P} (i : ObjectId) (rest ids : List ObjectId) (why : Stop) → ids ≡ i ∷ rest → Treats objects faulty answers old by_row i (how_ended (Err why)) new → TreatsAll objects faulty answers by_row old ids (how_ended (Err why)) new
  stopped_first {old} {new} i rest ids why e h = subst (λ ids. TreatsAll objects faulty answers by_row old ids (how_ended (Err why)) new) (sym e) (stops (λ k. grind arith) h)

  -- one more id is treated behind the ids of a list
  pub treats_last : {new : SimpleWalk F P} {i : ObjectId} {mid old : SimpleWalk F P} {ids : List ObjectId} → TreatsAll objects faulty answers by_row old ids GoesOn mid → Treats objects faulty answers mid by_row i GoesOn new → TreatsAll objects faulty answers by_row old (ids ++ i ∷ []) GoesOn new
  treats_last none h = more h none
  treats_last (more t rest) h = more t (treats_last rest h)
  treats_last (stops f t) h = absurd (f refl)

module _ {F P : Type 0} (objects : F → Objects) (faulty : F → ObjectId → Type 0) (answers : P → ObjectId → Bool → P → Type 0) where
  -- a walk that holds nothing yet
  pub made_of_none : (store : F) (predicate : P) (walk : SimpleWalk F P) → walk ≡ bare store predicate → IsMade objects faulty answers store predicate [] walk
  made_of_none store predicate walk e = subst (λ w. IsMade objects faulty answers store predicate [] w) (sym e) none

-- A walk gives what the definitions say, drawn to its end or as far as one likes.
use Rattle.std.proofs.Common.{◌≡◌, ℤ, List, [], ◌∷◌, ◌++◌, Bool, true, ◌&&◌, ◌||◌, Option, Some, None, Result, Err, Contains, All, refl, sym, ap, subst, inl, ⊎_elim, ◌∙◌, append_assoc, append-nil, arith}
use Rattle.std.proofs.Common.{true≢false}
use Rattle.gix_simple.proofs.Common.{Yields, AllZip, Contains-permutation, Contains-push_cases, IsPermutation-sym, All-head, All-tail, or_cases, or_left, and_parts, ObjectId, is_among, Objects, Info, CommitTimeOrder, Error, named_by, Reaches, time_of}
use Rattle.gix_simple.proofs.Common.{Pending, SimpleWalk, time_order, Chooses, first, best, TakesBest, Takes, Steps, ended, took, Next, initial, later, ids_of, IsGivenBy, same_is, among-append, among-one, among_is, Contains-here, Contains-there}
use Rattle.gix_simple.proofs.Common.{among-filter, named-push}
use Rattle.std.specs.FinSet as set
use Rattle.gix_simple.specs.declared.Error.TheVariants as error
use Rattle.gix_simple.specs.Walk.{no_memory}
use Rattle.gix_revwalk.specs.ListsByTurn.{IsBeginningBy}
use Rattle.gix_revwalk.specs.TimeOrder.{IsNextOne}
use Rattle.gix_revwalk.proofs.Beginnings.{begins_more}
use Rattle.gix_revwalk.proofs.Orders.{reached_by_named}
use Rattle.gix_simple.proofs.Treated.{Setting, order_of, keep, Stands, best_moved}
use Rattle.gix_simple.proofs.OneStep.{IsCommit, walked, next, Reads, Took, stands_left, took_well}
use Rattle.gix_simple.proofs.PendingIs.{IsQueue, IsRest, grows, ends, heads, bests}

-- the choice of the next one
chosen : {F P : Type 0} (objects : F → Objects) (faulty : F → ObjectId → Type 0) (answers : P → ObjectId → Bool → P → Type 0) (time : ObjectId → ℤ) (next : ObjectId → List ObjectId) (starts taken : List ObjectId) (w : SimpleWalk F P) (p : Pending) (others : List Pending) (o : Option CommitTimeOrder) →
    time_order w.parents w.sorting ≡ o → IsQueue (named_by next starts taken) taken (ids_of w.pending) → ((order : CommitTimeOrder) → o ≡ Some order → (q : Pending) → Contains w.pending q → q.time ≡ time q.id) → Chooses objects faulty answers w p others →
    IsNextOne o time next starts taken p.id × IsRest (named_by next starts taken) taken p.id (ids_of others) × (is_among p.id (named_by next starts taken) ≡ true)
chosen objects faulty answers time next starts taken w p others None e q timed (first t is) = heads time next starts taken p.id (ids_of others) (sym (ap ids_of is) ∙ q)
chosen objects faulty answers time next starts taken w p others None e q timed (best t takes) = cc
chosen objects faulty answers time next starts taken w p others (Some order) e q timed (first t is) = cc
chosen objects faulty answers time next starts taken w p others (Some order) e q timed (best {order = o} t takes) =
    let same : o ≡ order = let s : Some o ≡ Some order = sym t ∙ e in cc in
    bests order time next starts taken w.pending p others q (subst (λ x. TakesBest x w.pending p others) same takes) (timed order refl)

others_pending : {F P : Type 0} (objects : F → Objects) (faulty : F → ObjectId → Type 0) (answers : P → ObjectId → Bool → P → Type 0) (w : SimpleWalk F P) (p : Pending) (others : List Pending) → Chooses objects faulty answers w p others → (q : Pending) → Contains (p ∷ others) q → Contains w.pending q
others_pending objects faulty answers w p others (first t is) q m = subst (λ ps. Contains ps q) (sym is) m
others_pending objects faulty answers w p others (best t takes) q m = Contains-permutation (p ∷ others) w.pending q (IsPermutation-sym w.pending (p ∷ others) (best_moved takes)) m

module _ {F P : Type 0} (objects : F → Objects) (faulty : F → ObjectId → Type 0) (answers : P → ObjectId → Bool → P → Type 0) where
  abbrev pub named : Setting objects faulty answers → List ObjectId → List ObjectId
  named s taken = named_by (next objects faulty answers s) s.starts taken

  -- what is known of the history, behind the first step, and that answers of this kind are commits
  pub record Known (s : Setting objects faulty answers) (Allowed : Result Info Error → Type 0) : Type 0 where
    pub begun : s.begun ≡ true
    pub reads : (i : ObjectId) → Reaches (next objects faulty answers s) s.starts i → Reads objects faulty answers s i
    pub marked : (c i : ObjectId) → Reaches (next objects faulty answers s) s.starts c → Contains (s.named c) i → set.contains s.marks i ≡ s.hidden i
    pub commits : (w : SimpleWalk F P) (p : Pending) → Stands objects faulty answers s w → Reaches (next objects faulty answers s) s.starts p.id → (answer : Result Info Error) (new : SimpleWalk F P) → Takes objects faulty answers w p answer new → Allowed answer → IsCommit answer
    pub unfailed : Allowed (Err error.Memory) → ⊥

  -- the invariant of a whole walk
  pub record Runs (s : Setting objects faulty answers) (w : SimpleWalk F P) (taken : List ObjectId) : Type 0 where
    pub rest : Stands objects faulty answers s w
    pub seen : (i : ObjectId) → keep objects faulty answers s i ≡ true → set.contains w.seen i ≡ is_among i (named s taken)
    pub queue : IsQueue (named s taken) taken (ids_of w.pending)
    pub reached : (c : ObjectId) → Contains taken c → Reaches (next objects faulty answers s) s.starts c
    pub within : (c : ObjectId) → is_among c taken ≡ true → is_among c (named s taken) ≡ true

  abbrev pub given : Setting objects faulty answers → Result Info Error → ObjectId → Type 0
  given s = IsGivenBy (objects s.store) s.named s.rows s.parents (order_of objects faulty answers s)

  abbrev pub IsNext : Setting objects faulty answers → List ObjectId → ObjectId → Type 0
  IsNext s = IsNextOne (order_of objects faulty answers s) (time_of (objects s.store)) (next objects faulty answers s) s.starts

  record Stepped (s : Setting objects faulty answers) (taken : List ObjectId) (answer : Result Info Error) (new : SimpleWalk F P) : Type 0 where
    i : ObjectId
    given_as : given s answer i
    turn : IsNext s taken i
    runs : Runs s new (taken ++ i ∷ [])

  stepped : (s : Setting objects faulty answers) {Allowed : Result Info Error → Type 0} → Known s Allowed → (w : SimpleWalk F P) (taken : List ObjectId) → Runs s w taken → {answer : Result Info Error} {new : SimpleWalk F P} → Steps objects faulty answers w (Some answer) new → Allowed answer → Stepped s taken answer new
  stepped s known w done h (no_memory some) ok = absurd (known.unfailed ok)
  stepped s known w done h (took {taken = p} {others = others} {answer = answer} {new = new} chooses takes) ok =
      let stands : Stands objects faulty answers s w = h.rest in
      let same : time_order w.parents w.sorting ≡ order_of objects faulty answers s = (λ k. time_order (stands.parents k) (stands.sorting k)) in
      let c : IsNext s done p.id × IsRest (named s done) done p.id (ids_of others) × (is_among p.id (named s done) ≡ true) =
      chosen objects faulty answers (time_of (objects s.store)) (next objects faulty answers s) s.starts done w p others (order_of objects faulty answers s) same h.queue stands.timed chooses in
      let r : Reaches (next objects faulty answers s) s.starts p.id = reached_by_named (next objects faulty answers s) s.starts done h.reached p.id (among_is p.id _ c.2) in
      let left : Stands objects faulty answers s (record w { pending = others }) =
      stands_left objects faulty answers s w w.rows others w.text w.current stands (inl refl) (λ q m. others_pending objects faulty answers w p others chooses q (Contains-there q p others m)) in
      let t : Took objects faulty answers s p.id (record w { pending = others }) answer new =
      took_well objects faulty answers s (record w { pending = others }) left p (known.reads p.id r) (λ i m. known.marked p.id i r m) (λ order e. stands.timed order e p (others_pending objects faulty answers w p others chooses p (Contains-here p others))) takes (known.commits (record w { pending = others }) p left r answer new takes ok) in
      let push : named s (done ++ p.id ∷ []) ≡ named s done ++ next objects faulty answers s p.id = named-push (next objects faulty answers s) s.starts done p.id in
      let kept : (j : ObjectId) → is_among j (next objects faulty answers s p.id) ≡ (keep objects faulty answers s j && is_among j (walked objects faulty answers s p.id)) = λ j. among-filter j (keep objects faulty answers s) (walked objects faulty answers s p.id) in
      let among_push : (j : ObjectId) → is_among j (named s (done ++ p.id ∷ [])) ≡ (is_among j (named s done) || is_among j (next objects faulty answers s p.id)) = λ j. ap (is_among j) push ∙ among-append j (named s done) (next objects faulty answers s p.id) in
      record {
        i = p.id;
        given_as = t.given_as;
        turn = c.0;
        runs = record {
          rest = t.rest;
          seen = λ j k. let after = t.seen j k in let before = h.seen j k in let names = among_push j in let keeps = kept j in grind arith;
          queue = subst (λ xs. IsQueue xs (done ++ p.id ∷ []) (ids_of new.pending)) (sym push)
              (grows (named s done) done p.id (ids_of others) (ids_of new.pending) (next objects faulty answers s p.id) (set.contains w.seen) c.1 t.pending
              (λ j n. h.seen j (and_parts _ _ (sym (kept j) ∙ n)).0) h.within c.2);
          reached = λ d m. ⊎_elim (λ n. h.reached d n) (λ e. subst (Reaches (next objects faulty answers s) s.starts) e r) (Contains-push_cases done p.id d m);
          within = λ d m. among_push d ∙ or_left _ _ (⊎_elim (λ n. h.within d n) (λ e. subst (λ y. is_among y (named s done) ≡ true) (sym (same_is d p.id (sym (among-one d p.id) ∙ e))) c.2) (or_cases _ _ (sym (among-append d done (p.id ∷ [])) ∙ m)));
        };
      }

  -- behind the first step
  pub next_steps : (w : SimpleWalk F P) → w.begun ≡ true → {o : Option (Result Info Error)} {new : SimpleWalk F P} → Next objects faulty answers w o new → Steps objects faulty answers w o new
  next_steps w begun (initial fresh s) = absurd (true≢false (sym begun ∙ fresh))
  next_steps w begun (later b s) = s

  -- these answers lead to a walk
  pub record RunsTo (s : Setting objects faulty answers) (done : List ObjectId) (list : List (Result Info Error)) (last : SimpleWalk F P) : Type 0 where
    pub ids : List ObjectId
    pub given_as : AllZip (given s) list ids
    pub begins : IsBeginningBy (IsNext s) done → IsBeginningBy (IsNext s) (done ++ ids)
    pub runs : Runs s last (done ++ ids)

  pub none_yet : (s : Setting objects faulty answers) (done : List ObjectId) (w : SimpleWalk F P) → Runs s w done → RunsTo s done [] w
  none_yet s done w h = record { ids = []; given_as = tt; begins = subst (IsBeginningBy (IsNext s)) (sym (append-nil done)); runs = subst (Runs s w) (sym (append-nil done)) h }

  one_more : (s : Setting objects faulty answers) (done : List ObjectId) {answer : Result Info Error} {left : List (Result Info Error)} {new last : SimpleWalk F P} (t : Stepped s done answer new) → RunsTo s (done ++ t.i ∷ []) left last → RunsTo s done (answer ∷ left) last
  one_more s done {last = last} t r = record {
    ids = t.i ∷ r.ids;
    given_as = (t.given_as, r.given_as);
    begins = λ b. subst (IsBeginningBy (IsNext s)) (append_assoc done (t.i ∷ []) r.ids) (r.begins (begins_more (IsNext s) done t.i b t.turn));
    runs = subst (Runs s last) (append_assoc done (t.i ∷ []) r.ids) r.runs;
  }

  -- drawn as far as one likes
  begun : (s : Setting objects faulty answers) {Allowed : Result Info Error → Type 0} → Known s Allowed → (list : List (Result Info Error)) (w last : SimpleWalk F P) (done : List ObjectId) → Runs s w done → All Allowed list → Yields (Next objects faulty answers) w list last → RunsTo s done list last
  begun s known [] w last done h ok drawn = subst (RunsTo s done []) drawn (none_yet s done w h)
  begun s {Allowed} known (answer ∷ left) w last done h ok drawn =
      let here : Allowed answer = All-head Allowed answer left ok in
      let t : Stepped s done answer drawn.0 = stepped s known w done h (next_steps w (h.rest.begun ∙ known.begun) drawn.1) here in
      one_more s done t (begun s known left drawn.0 last (done ++ t.i ∷ []) t.runs (All-tail Allowed answer left ok) drawn.2)

  -- from a walk whose hidden tips are painted
  pub begun_run : (s : Setting objects faulty answers) {Allowed : Result Info Error → Type 0} → Known s Allowed → (answer : Result Info Error) (left : List (Result Info Error)) (w new last : SimpleWalk F P) (done : List ObjectId) → Runs s w done → All Allowed (answer ∷ left) → Steps objects faulty answers w (Some answer) new → Yields (Next objects faulty answers) new left last → RunsTo s done (answer ∷ left) last
  begun_run s {Allowed} known answer left w new last done h ok steps drawn =
      let t : Stepped s done answer new = stepped s known w done h steps (All-head Allowed answer left ok) in
      one_more s done t (begun s known left new last (done ++ t.i ∷ []) t.runs (All-tail Allowed answer left ok) drawn)

  -- where the walk ends there is no next one
  pub ended_run : (s : Setting objects faulty answers) (done : List ObjectId) {list : List (Result Info Error)} {last new : SimpleWalk F P} (r : RunsTo s done list last) → Steps objects faulty answers last None new → (i : ObjectId) → IsNext s (done ++ r.ids) i → ⊥
  ended_run s done r (ended e) = ends (order_of objects faulty answers s) (time_of (objects s.store)) (next objects faulty answers s) s.starts (done ++ r.ids)
      (subst (IsQueue (named s (done ++ r.ids)) (done ++ r.ids)) (ap ids_of e) r.runs.queue)

-- What a checked walk gives, its walk gives, and the parents of each commit behind which it goes on are there.
use Rattle.std.proofs.Common.{◌<◌, nat_lt, ltb-true, ◌≡◌, ◌+◌, ◌-◌, ◌⊎◌, ℕ, zero, suc, List, [], ◌∷◌, ◌++◌, length, take, Contains, Option, None, Some, Result, Ok, Err, refl, sym, ap, subst, ◌∙◌, ⊎_elim, arith, inl, inr, take_at}
use Rattle.std.specs.Iterator.{Yields, YieldsThen}
use Rattle.gix_commands.proofs.Common.{ObjectId, cond-true, cond-false, false_from_ne_true, Contains-cons_cases, Contains-append_cases, no_member, only_member, Objects, GraphRow, Info, Fault, Ends, EndsBy, finished, cut_short, enough, before}
use Rattle.std.proofs.lemmas.Bool.{lt-ltb}
use Rattle.std.proofs.lemmas.List.{length-append}
use Rattle.gix_simple.specs.declared.Error.{Error}
use Rattle.gix_words.specs.declared.fault.Fault.TheVariants as fault
use Rattle.gix_words.specs.Faults.{fault_of_walk}
use Rattle.gix_commands.specs.Checked.{CheckedWalk, Checks, HasParents, HaveParents, LacksParent, Looks, gone_on, ended, failed, gave, lost}
use Rattle.gix_revwalk.specs.Infos.{given}
use Rattle.gix_commands.specs.Walked.{Walk, Answers, AsksForMore, IsWalkFault, unstored}
use Rattle.gix_commands.specs.Walked as walked

-- which fault of a run a fault of a checked walk is: itself
abbrev pub IsItself : Fault → Fault → Type 0
IsItself e f = f ≡ e

take_none : (n : ℕ) → ◌≡◌ {A = List Info} (take n []) []
take_none zero = refl
take_none (suc n) = refl

module _ (objects : Objects) (rows : List GraphRow) where
  -- a checked walk over these objects and rows
  abbrev checked : Walk → Option Fault → CheckedWalk
  checked walk found = record { walk = walk; objects = objects; rows = rows; lost = found }

  none_have : HaveParents objects rows []
  none_have info c = absurd (no_member info c)

  one_more : (info : Info) (infos : List Info) → HasParents objects rows info → HaveParents objects rows infos → HaveParents objects rows (info ∷ infos)
  one_more info infos one all other c = ⊎_elim (λ e. subst (HasParents objects rows) e one) (all other) (Contains-cons_cases other info infos c)

  joined : (infos : List Info) (last : Info) → HaveParents objects rows infos → HasParents objects rows last → HaveParents objects rows (infos ++ last ∷ [])
  joined infos last all one other c = ⊎_elim (all other) (λ m. subst (HasParents objects rows) (only_member last other m) one) (Contains-append_cases infos (last ∷ []) other c)

  -- nothing was found behind a commit
  none_found : (info : Info) (found : Option Fault) → Looks objects rows info.parent_ids.items found → found ≡ None → HasParents objects rows info
  none_found info found looks none = sym (sym none ∙ looks (λ e. let no : None ≡ Some fault.Memory = sym none ∙ e in cc))

  -- the last of the commits that it gave, and those before
  record Gave (infos : List Info) (found : Option Fault) : Type 0 where
    before : List Info
    last : Info
    place : infos ≡ before ++ last ∷ []
    whole : HaveParents objects rows before
    looks : Looks objects rows last.parent_ids.items found

  gave_one : (info : Info) (found : Option Fault) → Looks objects rows info.parent_ids.items found → Gave (info ∷ []) found
  gave_one info found looks = record { before = []; last = info; place = refl; whole = none_have; looks = looks }

  gave_more : (info : Info) (infos : List Info) (found : Option Fault) → HasParents objects rows info → Gave infos found → Gave (info ∷ infos) found
  gave_more info infos found one g = record { before = info ∷ g.before; last = g.last; place = ap (λ xs. info ∷ xs) g.place; whole = one_more info g.before one g.whole; looks = g.looks }

  -- what was drawn of it was drawn of its walk
  record Drawn (walk : Walk) (found : Option Fault) (infos : List Info) (at : CheckedWalk) : Type 0 where
    inner : Yields Answers walk (given infos) at.walk
    over : at ≡ checked at.walk at.lost
    so : (infos ≡ []) × (at.lost ≡ found) ⊎ Gave infos at.lost

  -- how one answer came
  data Came (walk : Walk) (found : Option Fault) : Option (Result Info Fault) → CheckedWalk → Type 0 where
    no_more : {last : Walk} → found ≡ None → Answers walk None last → Came walk found None (checked last found)
    by_walk : {last : Walk} (e : Error) → found ≡ None → Answers walk (Some (Err e)) last → Came walk found (Some (Err (fault_of_walk e))) (checked last found)
    commit : {last : Walk} {info : Info} {next : Option Fault} → found ≡ None → Answers walk (Some (Ok info)) last → Looks objects rows info.parent_ids.items next → Came walk found (Some (Ok info)) (checked last next)
    by_parent : (why : Fault) → found ≡ Some why → Came walk found (Some (Err why)) (checked walk None)

  came : (walk : Walk) (found : Option Fault) {answer : Option (Result Info Fault)} {new : CheckedWalk} → Checks (checked walk found) answer new → Came walk found answer new
  came walk found (ended n a) = no_more n a
  came walk found (failed e n a) = by_walk e n a
  came walk found (gave n a looks) = commit n a looks
  came walk found (lost why is) = by_parent why is

  -- a commit that it gave was given by its walk
  record One (walk : Walk) (found : Option Fault) (info : Info) (mid : CheckedWalk) : Type 0 where
    last : Walk
    next : Option Fault
    open_to : found ≡ None
    answered : Answers walk (Some (Ok info)) last
    looks : Looks objects rows info.parent_ids.items next
    leaves : mid ≡ checked last next

  one_of : (walk : Walk) (found : Option Fault) (info : Info) {answer : Option (Result Info Fault)} {mid : CheckedWalk} → Came walk found answer mid → answer ≡ Some (Ok info) → One walk found info mid
  one_of walk found info (no_more n a) e = cc
  one_of walk found info (by_walk why n a) e = cc
  one_of walk found info (by_parent why is) e = cc
  one_of walk found info (commit {last = last} {info = other} {next = next} n a looks) e =
      let same : other ≡ info = cc in
      record { last = last; next = next; open_to = n; answered = subst (λ i. Answers walk (Some (Ok i)) last) same a; looks = subst (λ (i : Info). Looks objects rows i.parent_ids.items next) same looks; leaves = refl }

  one : (walk : Walk) (found : Option Fault) (info : Info) (mid : CheckedWalk) → Checks (checked walk found) (Some (Ok info)) mid → One walk found info mid
  one walk found info mid h = one_of walk found info (came walk found h) refl

  drawn : (infos : List Info) (walk : Walk) (found : Option Fault) (at : CheckedWalk) → Yields Checks (checked walk found) (given infos) at → Drawn walk found infos at
  drawn [] walk found at h = record { inner = ap (λ c. c.walk) h; over = subst (λ c. c ≡ checked c.walk c.lost) h refl; so = inl (refl, ap (λ c. c.lost) (sym h)) }
  drawn (info ∷ []) walk found at h =
      let o : One walk found info h.0 = one walk found info h.0 h.1 in
      let d : Drawn o.last o.next [] at = drawn [] o.last o.next at (subst (λ c. c ≡ at) o.leaves h.2) in
      record {
        inner = (o.last, o.answered, d.inner);
        over = d.over;
        so = inr (gave_one info at.lost (subst (Looks objects rows info.parent_ids.items) (ap (λ c. c.lost) (sym o.leaves ∙ h.2)) o.looks));
      }
  drawn (info ∷ other ∷ infos) walk found at h =
      let o : One walk found info h.0 = one walk found info h.0 h.1 in
      let rest : Yields Checks (checked o.last o.next) (given (other ∷ infos)) at = subst (λ c. Yields Checks c (given (other ∷ infos)) at) o.leaves h.2 in
      let d : Drawn o.last o.next (other ∷ infos) at = drawn (other ∷ infos) o.last o.next at rest in
      let next : One o.last o.next other rest.0 = one o.last o.next other rest.0 rest.1 in
      record {
        inner = (o.last, o.answered, d.inner);
        over = d.over;
        so = ⊎_elim (λ (p : (other ∷ infos ≡ []) × (at.lost ≡ o.next)). let e : other ∷ infos ≡ [] = p.0 in cc) (λ g. inr (gave_more info (other ∷ infos) at.lost (none_found info o.next o.looks next.open_to) g)) d.so;
      }

  -- where nothing is found behind the last commit all have their parents
  all_have : (walk : Walk) (infos : List Info) (at : CheckedWalk) → Drawn walk None infos at → at.lost ≡ None → HaveParents objects rows infos
  all_have walk infos at d none =
      ⊎_elim
      (λ (p : (infos ≡ []) × (at.lost ≡ None)). subst (HaveParents objects rows) (sym p.0) none_have)
      (λ (g : Gave infos at.lost). subst (HaveParents objects rows) (sym g.place) (joined g.before g.last g.whole (none_found g.last at.lost g.looks none)))
      d.so

  -- in any case those before the last have theirs
  before_have : (walk : Walk) (n : ℕ) (infos : List Info) (at : CheckedWalk) → Drawn walk None infos at → n ≡ length infos → HaveParents objects rows (take (n - 1) infos)
  before_have walk n infos at d all =
      ⊎_elim
      (λ (p : (infos ≡ []) × (at.lost ≡ None)). subst (λ xs. HaveParents objects rows (take (n - 1) xs)) (sym p.0) (λ info c. absurd (no_member info (subst (λ xs. Contains xs info) (take_none (n - 1)) c))))
      (λ (g : Gave infos at.lost). subst (HaveParents objects rows) (sym (front g)) g.whole)
      d.so
    where
      front : (g : Gave infos at.lost) → take (n - 1) infos ≡ g.before
      front g = ap (take (n - 1)) g.place ∙ take_at g.before (g.last ∷ []) (n - 1) (let same : length infos ≡ length (g.before ++ g.last ∷ []) = ap length g.place in let sum : length (g.before ++ g.last ∷ []) ≡ length g.before + length (g.last ∷ []) = length-append g.before (g.last ∷ []) in omega (arith, same, sum, all))

  -- what a limit says of those behind which the walk goes on
  pub less_on : (n k : ℕ) (infos : List Info) → k < n → gone_on (Some n) k infos ≡ infos
  less_on n k infos less = cond-true (nat_lt k n) _ _ (lt-ltb k n less)

  pub enough_on : (n k : ℕ) (infos : List Info) → k ≡ n → gone_on (Some n) k infos ≡ take (length infos - 1) infos
  enough_on n k infos all = cond-false (nat_lt k n) _ _ (false_from_ne_true (nat_lt k n) (λ e. let less : k < n = ltb-true k n e in omega (arith, less, all)))

  module _ (Has : ObjectId → Type 0) (those : List Info → List ObjectId) where
    -- how the walk below ended, or that a parent isn't there
    pub data IsChecked (walk : Walk) (limit : Option ℕ) (infos : List Info) : Result (Unit {0}) Fault → Type 0 where
      well : {answer : Result (Unit {0}) Fault} → EndsBy Answers IsWalkFault Has those limit walk infos answer → HaveParents objects rows (gone_on limit (length (those infos)) infos) → IsChecked walk limit infos answer
      lacking : {why : Fault} (at : Walk) → Yields Answers walk (given infos) at → AsksForMore limit (length (those infos)) → LacksParent objects rows infos why → IsChecked walk limit infos (Err why)

    -- with a limit or without
    abbrev ByLimit : Walk → Option ℕ → List Info → Type 0
    ByLimit walk limit infos = (answer : Result (Unit {0}) Fault) → Ends Answers IsWalkFault Has walk infos answer → EndsBy Answers IsWalkFault Has those limit walk infos answer

    module _ (walk : Walk) (limit : Option ℕ) (infos : List Info) (by : ByLimit walk limit infos) (keep : HaveParents objects rows infos → HaveParents objects rows (gone_on limit (length (those infos)) infos)) (more : AsksForMore limit (length (those infos))) where
      -- the walk had no more commits
      no_commit : (at new : CheckedWalk) (d : Drawn walk None infos at) {answer : Option (Result Info Fault)} → Came at.walk at.lost answer new → answer ≡ None → IsChecked walk limit infos (Ok tt)
      no_commit at new d (no_more {last = last} n a) e = well (by (Ok tt) (finished last (at.walk, d.inner, a))) (keep (all_have walk infos at d n))
      no_commit at new d (by_walk why n a) e = cc
      no_commit at new d (commit n a looks) e = cc
      no_commit at new d (by_parent why is) e = cc

      -- no line of a commit was written
      no_line : (at new : CheckedWalk) (d : Drawn walk None infos at) (info : Info) → One at.walk at.lost info new → (e : Fault) → ((last : Walk) → YieldsThen Answers walk (given infos) (Some (Ok info)) last → Ends Answers IsWalkFault Has walk infos (Err e)) → IsChecked walk limit infos (Err e)
      no_line at new d info o e ends = well (by (Err e) (ends o.last (at.walk, d.inner, o.answered))) (keep (all_have walk infos at d o.open_to))

      -- a parent isn't there
      lacks : (at : CheckedWalk) (d : Drawn walk None infos at) (why : Fault) → at.lost ≡ Some why → IsChecked walk limit infos (Err why)
      lacks at d why is =
          ⊎_elim
          (λ (p : (infos ≡ []) × (at.lost ≡ None)). let no : None ≡ Some why = sym p.1 ∙ is in cc)
          (λ (g : Gave infos at.lost).
          lacking at.walk d.inner more
          (record { before = g.before; last = g.last; place = g.place; whole = g.whole; lacks = λ other. sym (sym is ∙ g.looks (λ e. other (let same : Some why ≡ Some fault.Memory = sym is ∙ e in cc))) }))
          d.so

      -- the answer was a fault
      a_fault : (at new : CheckedWalk) (d : Drawn walk None infos at) (e f : Fault) {answer : Option (Result Info Fault)} → Came at.walk at.lost answer new → answer ≡ Some (Err e) → f ≡ e → IsChecked walk limit infos (Err f)
      a_fault at new d e f (no_more n a) same is = cc
      a_fault at new d e f (commit n a looks) same is = cc
      a_fault at new d e f (by_walk {last = last} why n a) same is =
          let whose : f ≡ fault_of_walk why = cc in
          well (by (Err f) (walked.failed why f last (at.walk, d.inner, a) whose)) (keep (all_have walk infos at d n))
      a_fault at new d e f (by_parent why here) same is =
          let whose : why ≡ f = cc in
          subst (λ (x : Fault). IsChecked walk limit infos (Err x)) whose (lacks at d why here)

      from_ends : (answer : Result (Unit {0}) Fault) → Ends Checks IsItself Has (checked walk None) infos answer → IsChecked walk limit infos answer
      from_ends answer (finished new h) =
          let d = drawn infos walk None h.0 h.1 in
          no_commit h.0 new d (came h.0.walk h.0.lost (subst (λ c. Checks c None new) d.over h.2)) refl
      from_ends answer (walked.failed e f new h is) =
          let d = drawn infos walk None h.0 h.1 in
          a_fault h.0 new d e f (came h.0.walk h.0.lost (subst (λ c. Checks c (Some (Err e)) new) d.over h.2)) refl is
      from_ends answer (cut_short info new h) =
          let d = drawn infos walk None h.0 h.1 in
          no_line h.0 new d info (one h.0.walk h.0.lost info new (subst (λ c. Checks c (Some (Ok info)) new) d.over h.2)) fault.Memory (λ last. cut_short info last)
      from_ends answer (unstored info new h none) =
          let d = drawn infos walk None h.0 h.1 in
          no_line h.0 new d info (one h.0.walk h.0.lost info new (subst (λ c. Checks c (Some (Ok info)) new) d.over h.2)) (fault.Missing info.id) (λ last given. unstored info last given none)

    -- how a checked walk ended that was drawn so far
    pub from_by : (walk : Walk) (limit : Option ℕ) (infos : List Info) (answer : Result (Unit {0}) Fault) → EndsBy Checks IsItself Has those limit (checked walk None) infos answer → IsChecked walk limit infos answer
    from_by walk None infos answer ends = from_ends walk None infos (λ _ e. e) (λ all. all) tt answer ends
    from_by walk (Some n) infos answer (enough at h all) =
        let d = drawn infos walk None at h in
        well (enough at.walk d.inner all) (subst (HaveParents objects rows) (sym (enough_on n (length (those infos)) infos all)) (before_have walk (length infos) infos at d refl))
    from_by walk (Some n) infos answer (before ends less) =
        from_ends walk (Some n) infos (λ _ e. before e less) (λ all. subst (HaveParents objects rows) (sym (less_on n (length (those infos)) infos less)) all) less answer ends

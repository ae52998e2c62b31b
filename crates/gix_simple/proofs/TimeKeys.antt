-- The keys of pending commits in an order by time.
use Rattle.std.proofs.Common.{◌≡◌, ◌<ℤ◌, ◌≤ℤ◌, ℤ, List, [], ◌∷◌, ◌++◌, Contains, Option, Some, sym, ap, subst, ⊎_elim, ◌∙◌, arith}
use Rattle.std.proofs.lemmas.Int.{ints}
use Rattle.std.proofs.lemmas.List.Elements.{All-append, All-contains, All-contains_itself, All-weaker}
use Rattle.gix_simple.proofs.Common.{All-cons, All-nil, map-append, values, Contains-here, Contains-there, Contains-cons_cases, Contains-append_cases, Contains-append_left, Contains-append_right, no_member, CommitTimeOrder, Pending, time_key, AreKeyed, TakesBest, TakesOut}
use Rattle.gix_revwalk.specs.Turns.{TakesFirst}
use Rattle.gix_revwalk.specs.TimeOrder.{IsNoWorse}

abbrev Keyed : CommitTimeOrder → ℤ × Pending → Type 0
Keyed order pair = pair.0 ≡ time_key order pair.1.time

-- one more, under its key
pub keyed_more : (order : CommitTimeOrder) (pair : ℤ × Pending) (old new : List (ℤ × Pending)) → Keyed order pair → AreKeyed order old → new ≡ old ++ pair ∷ [] → AreKeyed order new
keyed_more order pair old new k ks e = subst (AreKeyed order) (sym e) (All-append (Keyed order) old (pair ∷ []) ks (All-cons (Keyed order) pair [] k (All-nil (Keyed order))))

pub values_more : (pair : ℤ × Pending) (old new : List (ℤ × Pending)) → new ≡ old ++ pair ∷ [] → values new ≡ values old ++ pair.1 ∷ []
values_more pair old new e = ap values e ∙ map-append (λ x. x.1) old (pair ∷ [])

-- a key that isn't less is that of a time that is as good, and a lesser one isn't
as_good : (order : CommitTimeOrder) (a b : ℤ) → time_key order b ≤ℤ time_key order a → IsNoWorse order a b
as_good order a b h = grind (arith, ints)

not_as_good : (order : CommitTimeOrder) (a b : ℤ) → time_key order a <ℤ time_key order b → IsNoWorse order a b → ⊥
not_as_good order a b h w = grind (arith, ints)

from_values : (pairs : List (ℤ × Pending)) (p : Pending) → Contains (values pairs) p → (pair : ℤ × Pending) × Contains pairs pair × (pair.1 ≡ p)
from_values [] p c = absurd (no_member p c)
from_values (x ∷ pairs) p c = ⊎_elim (λ e. (x, Contains-here x pairs, e)) (λ m. let r = from_values pairs p m in (r.0, Contains-there r.0 x pairs r.1, r.2)) (Contains-cons_cases p x.1 (values pairs) c)

module _ (order : CommitTimeOrder) (pair : ℤ × Pending) (old new : List (ℤ × Pending)) (keyed : AreKeyed order old) (takes : TakesFirst old (Some pair) new) where
  abbrev before : List (ℤ × Pending)
  before = takes.0

  abbrev behind : List (ℤ × Pending)
  behind = takes.1

  own : (p : ℤ × Pending) → Contains (before ++ pair ∷ behind) p → Keyed order p
  own p c = All-contains (Keyed order) (before ++ pair ∷ behind) p (subst (AreKeyed order) takes.2 keyed) c

  here : Keyed order pair
  here = own pair (Contains-append_right before (pair ∷ behind) pair (Contains-here pair behind))

  -- one less
  pub keyed_less : AreKeyed order new
  keyed_less = subst (AreKeyed order) (sym takes.3) (All-append (Keyed order) before behind (All-weaker (Contains before) (Keyed order) (λ p c. own p (Contains-append_left before (pair ∷ behind) p c)) before (All-contains_itself before))
      (All-weaker (Contains behind) (Keyed order) (λ p c. own p (Contains-append_right before (pair ∷ behind) p (Contains-there p pair behind c))) behind (All-contains_itself behind)))

  -- the first commit under a greatest key is the first of best time
  pub best_chosen : TakesBest order (values old) pair.1 (values new)
  best_chosen = record {
    before = values before;
    behind = values behind;
    place = ap values takes.2 ∙ map-append (λ x. x.1) before (pair ∷ behind);
    left = ap values takes.3 ∙ map-append (λ x. x.1) before behind;
    best = λ other c.
        let p = from_values old other c in
        let m : Contains (before ++ pair ∷ behind) p.0 = subst (λ ps. Contains ps p.0) takes.2 p.1 in
        let k : p.0.0 ≡ time_key order p.0.1.time = own p.0 m in
        let l : p.0.0 ≤ℤ pair.0 =
        ⊎_elim (λ b. let s : p.0.0 <ℤ pair.0 = All-contains (λ q. q.0 <ℤ pair.0) before p.0 takes.4 b in omega (arith, ints))
        (λ b. ⊎_elim (λ e. subst (λ q. q.0 ≤ℤ pair.0) e (omega (arith, ints))) (λ d. All-contains (λ q. q.0 ≤ℤ pair.0) behind p.0 takes.5 d) (Contains-cons_cases p.0 pair behind b)) (Contains-append_cases before (pair ∷ behind) p.0 m) in
        subst (λ q. IsNoWorse order pair.1.time q.time) p.2 (as_good order pair.1.time p.0.1.time (let h = here in grind (arith, ints)));
    first = λ other c w.
        let p = from_values before other c in
        let k : p.0.0 ≡ time_key order p.0.1.time = own p.0 (Contains-append_left before (pair ∷ behind) p.0 p.1) in
        let s : p.0.0 <ℤ pair.0 = All-contains (λ q. q.0 <ℤ pair.0) before p.0 takes.4 p.1 in
        not_as_good order p.0.1.time pair.1.time (let h = here in grind (arith, ints)) (subst (λ q. IsNoWorse order q.time pair.1.time) (sym p.2) w);
  }

-- what is taken out of commits that are held in another order
pub takes_out : (o by : Option CommitTimeOrder) (old mid new : List Pending) → (by ≡ o) × (mid ≡ old) → (taken : Option Pending) → TakesOut by mid taken new → TakesOut o old taken new
takes_out o by old mid new held taken h = subst (λ ps. TakesOut o ps taken new) held.1 (subst (λ x. TakesOut x mid taken new) held.0 h)

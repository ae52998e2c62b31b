-- How the pending commits of a walk are held, and which comes next.
use Rattle.std.specs.Prelude.{◌≡◌, ℤ, List, [], ◌∷◌, All, Option, Some, None, neg_ℤ, pos, ◌-ℤ◌}
use Rattle.gix_revwalk.specs.PriorityQueue.{values}
use Rattle.gix_revwalk.specs.declared.CommitTimeOrder.{CommitTimeOrder}
use Rattle.gix_revwalk.specs.declared.CommitTimeOrder.TheVariants.{NewestFirst, OldestFirst}
use Rattle.gix_revwalk.specs.Pending.{Pending}
use Rattle.gix_simple.specs.declared.pending.Held.{Held}
use Rattle.gix_simple.specs.declared.pending.Held.TheVariants.{Listed, ByTime}
use Rattle.gix_simple.specs.Walk.{TakesBest}

-- The pending commits, in the order in which they became pending, and the order by time in which they are held, if there is one.
pub record Queued : Type 0 where
  pub order : Option CommitTimeOrder
  pub items : List Pending

abbrev pub held_order : Held → Option CommitTimeOrder
held_order (Listed list) = None
held_order (ByTime order queue) = Some order

-- the commits, in either form
abbrev pub held_items : Held → List Pending
held_items (Listed list) = list.items
held_items (ByTime order queue) = values queue

-- a key that is greater where the time is better
abbrev pub time_key : CommitTimeOrder → ℤ → ℤ
time_key NewestFirst time = time
time_key OldestFirst time = neg_ℤ (pos 1) -ℤ time

-- each commit is under the key of its time
abbrev pub AreKeyed : CommitTimeOrder → List (ℤ × Pending) → Type 0
AreKeyed order pairs = All (λ pair. pair.0 ≡ time_key order pair.1.time) pairs

abbrev pub IsKeyed : Held → Type 0
IsKeyed (Listed list) = Unit {0}
IsKeyed (ByTime order queue) = AreKeyed order queue

-- the pending commit whose turn it is, and the others: what came first, or where an order by time is in force the first of best time
abbrev pub IsChosen : Option CommitTimeOrder → List Pending → Pending → List Pending → Type 0
IsChosen None pending taken others = pending ≡ taken ∷ others
IsChosen (Some order) pending taken others = TakesBest order pending taken others

-- the next pending commit is taken out, if there is one
abbrev pub TakesOut : Option CommitTimeOrder → List Pending → Option Pending → List Pending → Type 0
TakesOut order old None new = (old ≡ []) × (new ≡ [])
TakesOut order old (Some taken) new = IsChosen order old taken new

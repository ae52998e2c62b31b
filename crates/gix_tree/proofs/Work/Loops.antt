-- The walks end: each turn leaves less to be done than there was.
use Rattle.std.proofs.Common.{◌≡◌, ℕ, ◌+◌, ◌*◌, ◌<◌, ◌≤◌, false, List, [], ◌∷◌, ◌++◌, length, Some, Ok, refl, sym, ap, ◌∙◌, subst, arith}
use Rattle.std.proofs.Math.Nat.{mul-le-mul_right}
use Rattle.gix_tree.proofs.Common.{ObjectId, is_among, Objects, TreeEntry, is_tree, Call, LevelQueue, Waiting, items_or_none, ShowsEntry, ShowsTree, ShowsUpTo, trees_of, Items, Enters}
use Rattle.gix_tree.specs.Inside.ShowsEntry as shows
use Rattle.gix_tree.specs.declared.depthfirst.Stop.TheVariants as stop
use Rattle.gix_tree.specs.Inside.ShowsBelow as below
use Rattle.gix_tree.proofs.Depth.Stack.{Above}
use Rattle.gix_tree.proofs.Outcomes.{says}
use Rattle.gix_tree.proofs.Work.Measure.{entry_bound, wait_less}

module _ (objects : Objects) where
  abbrev pub turn_bound : Waiting → ℕ
  turn_bound w = 1 + length (items_or_none (trees_of objects w.0)) * entry_bound objects w.1

  -- a bound on the turns that trees that wait lead to
  pub waiting_work : List Waiting → ℕ
  waiting_work [] = 0
  waiting_work (w ∷ waiting) = turn_bound w + waiting_work waiting

  work_more : (waiting : List Waiting) (w : Waiting) → waiting_work (waiting ++ w ∷ []) ≡ waiting_work waiting + turn_bound w
  unfolding waiting_work
  work_more [] w = omega arith
  work_more (v ∷ waiting) w = omega (arith, work_more waiting w)

  -- a bound on the turns that what is left of trees leads to
  pub stack_work : List Above → ℕ
  stack_work [] = 0
  stack_work (a ∷ above) = 1 + length a.1 * entry_bound objects a.0 + stack_work above

  pub end_lessens : (ids : List ObjectId) (items : Items) (above : List Above) → stack_work above < stack_work ((ids, items) ∷ above)
  unfolding stack_work
  end_lessens ids items above = omega arith

  -- what showing an entry queues
  record Grows (queue left : LevelQueue) (by : ℕ) : Type 0 where
    same : left.known ≡ queue.known
    work : waiting_work left.waiting ≤ waiting_work queue.waiting + by

  module _ {V : Type 0} (steps : V → Call → V → Type 0) where
    entry_grows : {e : TreeEntry} {old new : V} {queue left : LevelQueue} → ShowsEntry steps e old queue new left (Ok tt) → Grows queue left (entry_bound objects queue.known)
    entry_grows (shows.left a o run) = record { same = refl; work = omega arith }
    entry_grows {e = e} {queue = queue} (shows.entered a o run) =
        let new = (says (is_tree e.mode) (is_among e.id queue.known) a Enters o).1 in
        record {
          same = refl;
          work = omega (arith, work_more queue.waiting (e.id, e.id ∷ queue.known), wait_less objects e.id queue.known (trees_of objects e.id) refl new);
        }

    tree_grows : {items : Items} {old new : V} {queue left : LevelQueue} → ShowsTree steps items old queue new left (Ok tt) → Grows queue left (length items * entry_bound objects queue.known)
    tree_grows shows.whole = record { same = refl; work = omega arith }
    tree_grows {queue = queue} (shows.goes_on {items = items} {more = more} {left = left} shown rest) =
        let one = entry_grows shown in
        let others = tree_grows rest in
        let bound : waiting_work left.waiting ≤ waiting_work more.waiting + length items * entry_bound objects queue.known =
        subst (λ ids. waiting_work left.waiting ≤ waiting_work more.waiting + length items * entry_bound objects ids) one.same others.work in
        record { same = others.same ∙ one.same; work = omega (arith, bound, one.work) }

    pub turn_lessens : (i : ObjectId) (items : Items) (waiting : List Waiting) {old new : V} {queue left : LevelQueue} → waiting ≡ (i, queue.known) ∷ queue.waiting → trees_of objects i ≡ Some items → ShowsTree steps items old queue new left (Ok tt) → waiting_work left.waiting < waiting_work waiting
    unfolding waiting_work
    turn_lessens i items waiting {queue = queue} {left = left} was found shown =
        let grown = tree_grows shown in
        let here : turn_bound (i, queue.known) ≡ 1 + length items * entry_bound objects queue.known = ap (λ o. 1 + length (items_or_none o) * entry_bound objects queue.known) found in
        let less : waiting_work left.waiting < waiting_work ((i, queue.known) ∷ queue.waiting) = omega (arith, here, grown.work) in
        subst (λ l. waiting_work left.waiting < waiting_work l) (sym was) less

    record GoesInto (ids : List ObjectId) (items left : Items) (i : ObjectId) : Type 0 where
      fewer : length left < length items
      new : is_among i ids ≡ false

    goes_into : {ids : List ObjectId} {items left : Items} {old now : V} {i : ObjectId} → ShowsUpTo steps ids items old now (Ok (stop.Into i)) left → GoesInto ids items left i
    goes_into {ids = ids} (below.stops {e = e} (below.entered a o run)) = record { fewer = omega arith; new = (says (is_tree e.mode) (is_among e.id ids) a Enters o).1 }
    goes_into (below.goes_on shown rest) = let h = goes_into rest in record { fewer = omega (arith, h.fewer); new = h.new }

    pub descent_lessens : (ids : List ObjectId) (items left sub : Items) (above : List Above) (i : ObjectId) {old now : V} → ShowsUpTo steps ids items old now (Ok (stop.Into i)) left → trees_of objects i ≡ Some sub → stack_work ((i ∷ ids, sub) ∷ (ids, left) ∷ above) < stack_work ((ids, items) ∷ above)
    unfolding stack_work
    descent_lessens ids items left sub above i shown found =
        let h = goes_into shown in
        let more : 1 + length left ≤ length items = omega (arith, h.fewer) in
        let wide : (1 + length left) * entry_bound objects ids ≤ length items * entry_bound objects ids = mul-le-mul_right (entry_bound objects ids) more in
        omega (arith, wide, wait_less objects i ids (Some sub) found h.new)

-- What is put into the queue, and what comes first of it.
use Rattle.std.proofs.Common.{◌≡◌, ◌≤◌, ℕ, List, [], ◌∷◌, ◌++◌, map, length, ◌==◌, true, false, arith, Contains, IsPermutation, nat_cmp, refl, sym, ap, subst, ⊎_elim, ◌∙◌}
use Rattle.std.specs.BinaryHeap.{IsUpperBound}
use Rattle.std.proofs.lemmas.List.{append_assoc, map-append, nil_from_length}
use Rattle.std.proofs.lemmas.List.Elements.{All-contains}
use Rattle.std.proofs.lemmas.List.Sorted.{IsPermutation-sym, IsPermutation-trans, IsPermutation-map, IsPermutation-middle, IsPermutation-append_right, le_from_greatest}
use Rattle.gix_revwalk.specs.PriorityQueue.{keys}
use Rattle.gix_paint.proofs.Common.{Told, Infinite, QueueEntry, AreAllTold, is_told, IsNoneAbove, Contains-here, Contains-cons_cases, no_member}
use Rattle.gix_paint.specs.declared.queue.Entry.{Entry}
use Rattle.gix_paint.specs.Inside.Queue.{queue_entries}

abbrev with_row : ℕ × Entry → QueueEntry
with_row q = (Told q.0, q.1)

abbrev without_row : Entry → QueueEntry
without_row entry = (Infinite, entry)

pub no_items : {X : Type 0} (xs : List X) → (length xs == 0) ≡ true → xs ≡ []
no_items xs e = nil_from_length xs (grind arith)

pub entries-empty : queue_entries [] [] ≡ []
unfolding queue_entries
entries-empty = refl

pub entries-none : (unrowed : List Entry) (rowed : List (ℕ × Entry)) → queue_entries unrowed rowed ≡ [] → (unrowed ≡ []) × (rowed ≡ [])
unfolding queue_entries
entries-none [] [] e = (refl, refl)
entries-none [] (q ∷ rowed) e = cc
entries-none (entry ∷ unrowed) rowed e = cc

all_told : (rowed : List (ℕ × Entry)) → AreAllTold (map with_row rowed)
all_told [] q c = absurd (no_member q c)
all_told (x ∷ rowed) q c = ⊎_elim (λ e. ap (λ w. is_told w.0) (sym e)) (λ there. all_told rowed q there) (Contains-cons_cases q (with_row x) (map with_row rowed) c)

pub entries-told : (unrowed : List Entry) (rowed : List (ℕ × Entry)) → unrowed ≡ [] → AreAllTold (queue_entries unrowed rowed)
unfolding queue_entries
entries-told [] rowed e = all_told rowed
entries-told (entry ∷ unrowed) rowed e = cc

pub entries-untold : (unrowed : List Entry) (rowed : List (ℕ × Entry)) → AreAllTold (queue_entries unrowed rowed) → unrowed ≡ []
unfolding queue_entries
entries-untold [] rowed all = refl
entries-untold (entry ∷ unrowed) rowed all = let bad : false ≡ true = all (without_row entry) (Contains-here (without_row entry) (map without_row unrowed ++ map with_row rowed)) in cc

module _ (unrowed : List Entry) (rowed : List (ℕ × Entry)) {all : List QueueEntry} (view : queue_entries unrowed rowed ≡ all) where
  pub push_rowed : (q : ℕ × Entry) (new : List (ℕ × Entry)) → IsPermutation (q ∷ rowed) new → IsPermutation (with_row q ∷ all) (queue_entries unrowed new)
  unfolding queue_entries
  push_rowed q new p =
      subst (λ was. IsPermutation (with_row q ∷ was) (queue_entries unrowed new)) view
      (IsPermutation-trans _ _ _ (IsPermutation-sym _ _ (IsPermutation-middle (map without_row unrowed) (with_row q) (map with_row rowed)))
      (IsPermutation-append_right (map without_row unrowed) (map with_row (q ∷ rowed)) (map with_row new) (IsPermutation-map with_row (q ∷ rowed) new p)))

  pub pop_rowed : (q : ℕ × Entry) (new : List (ℕ × Entry)) → IsPermutation rowed (q ∷ new) → IsPermutation all (with_row q ∷ queue_entries unrowed new)
  unfolding queue_entries
  pop_rowed q new p =
      subst (λ was. IsPermutation was (with_row q ∷ queue_entries unrowed new)) view
      (IsPermutation-trans _ _ _ (IsPermutation-append_right (map without_row unrowed) (map with_row rowed) (map with_row (q ∷ new)) (IsPermutation-map with_row rowed (q ∷ new) p))
      (IsPermutation-middle (map without_row unrowed) (with_row q) (map with_row new)))

  pub push_unrowed : (entry : Entry) (new : List Entry) → new ≡ unrowed ++ entry ∷ [] → IsPermutation (without_row entry ∷ all) (queue_entries new rowed)
  unfolding queue_entries
  push_unrowed entry new pushed =
      let same : map without_row unrowed ++ without_row entry ∷ map with_row rowed ≡ queue_entries new rowed =
      sym (append_assoc (map without_row unrowed) (without_row entry ∷ []) (map with_row rowed)) ∙ ap (λ entries. entries ++ map with_row rowed) (sym (map-append without_row unrowed (entry ∷ []))) ∙ ap (λ entries. queue_entries entries rowed) (sym pushed) in
      subst (λ was. IsPermutation (without_row entry ∷ was) (queue_entries new rowed)) view
      (subst (IsPermutation (without_row entry ∷ (map without_row unrowed ++ map with_row rowed))) same (IsPermutation-sym _ _ (IsPermutation-middle (map without_row unrowed) (without_row entry) (map with_row rowed))))

none_above : (rowed : List (ℕ × Entry)) (top : ℕ) → IsUpperBound nat_cmp top (keys rowed) → (q : QueueEntry) → Contains (map with_row rowed) q → (m : ℕ) × (q.0 ≡ Told m) × (m ≤ top)
none_above [] top greatest q c = absurd (no_member q c)
none_above (x ∷ rowed) top greatest q c =
    ⊎_elim (λ e. subst (λ w. (m : ℕ) × (w.0 ≡ Told m) × (m ≤ top)) e (x.0, refl, All-contains (λ n. n ≤ top) (keys (x ∷ rowed)) x.0 (le_from_greatest top (keys (x ∷ rowed)) greatest) (Contains-here x.0 (keys rowed)))) (λ there. none_above rowed top greatest.1 q there)
    (Contains-cons_cases q (with_row x) (map with_row rowed) c)

pub entries-greatest : (unrowed : List Entry) (rowed : List (ℕ × Entry)) (top : ℕ) → unrowed ≡ [] → IsUpperBound nat_cmp top (keys rowed) → IsNoneAbove (Told top) (queue_entries unrowed rowed)
unfolding queue_entries
entries-greatest [] rowed top e greatest = λ n same q c. let it : top ≡ n = cc in subst (λ k. (m : ℕ) × (q.0 ≡ Told m) × (m ≤ k)) it (none_above rowed top greatest q c)
entries-greatest (entry ∷ unrowed) rowed top e greatest = cc

-- A search that meets, reads and finishes ids, and what it has found when little is left in its queue.
use Rattle.std.proofs.Common.{◌≡◌, ◌≤◌, ◌<◌, ◌⊎◌, ℕ, ◌+◌, List, [], ◌∷◌, Bool, true, not, ◌&&◌, cond, Contains, subst, ⊎_elim, arith}
use Rattle.gix_topo.proofs.Common.{ObjectId, is_same, is_among, same_is, same_itself, Progress, Queued, Done, Reaches, start, step, is_seen, is_queued, is_done, IsSearch, only_member}
use Rattle.gix_revwalk.proofs.Reached.{done_or_waits}

-- what is seen after a step did it, or was met by it, or was seen before
seen_by : (done met : Bool) (old new : Progress) → new ≡ cond done Done (cond (met && not (is_seen old)) Queued old) → is_seen new ≡ true → (done ≡ true) ⊎ ((met ≡ true) ⊎ (is_seen old ≡ true))
seen_by done met old new p e = grind arith

done_or_queued : (p : Progress) → is_seen p ≡ true → (is_done p ≡ true) ⊎ (is_queued p ≡ true)
done_or_queued p e = grind arith

module _ (next : ObjectId → List ObjectId) (starts : List ObjectId) where
  -- A queued id is done, and those of its next ids wait that were unseen; or this is another search, and nothing changes.
  pub search_steps : (here : Bool) (i : ObjectId) (ids : List ObjectId) (old new : ObjectId → Progress) (before left after : ObjectId → ℕ)
      → (here ≡ true → (j : ObjectId) → is_among j ids ≡ true → Contains (next i) j) → (here ≡ true → (j : ObjectId) → Contains (next i) j → is_among j ids ≡ true)
      → ((j : ObjectId) → new j ≡ cond (is_same j i && here) Done (cond ((here && is_among j ids) && not (is_seen (old j))) Queued (old j)))
      → ((j : ObjectId) → before j ≡ cond (is_same j i && here) 1 0 + left j) → ((j : ObjectId) → after j ≡ cond ((here && is_among j ids) && not (is_seen (old j))) 1 0 + left j)
      → IsSearch next starts old before → IsSearch next starts new after
  search_steps here i ids old new before left after from all p w l h = record {
    within = λ j e. ⊎_elim (λ (a : (is_same j i && here) ≡ true). subst (Reaches next starts) (grind (arith, same_is j i)) (h.within i (found (grind arith))))
        (λ r. ⊎_elim (λ (b : (here && is_among j ids) ≡ true). step (h.within i (found (grind arith))) (from (grind arith) j (grind arith))) (h.within j) r) (seen_by _ _ _ _ (p j) e);
    queued = λ j. grind (arith, p j, w j, l j, h.queued j);
    closed = λ c j d m. grind (arith, p j, p c, same_is c i, all, h.closed c j, m, d);
  }
    where
      found : here ≡ true → is_seen (old i) ≡ true
      found e = grind (arith, same_itself i, w i, h.queued i)

  -- along a path a measure that no step raises doesn't rise
  pub no_higher : (g : ObjectId → ℕ) → ((c i : ObjectId) → Contains (next c) i → g i ≤ g c) → (q x : ObjectId) → Reaches next (q ∷ []) x → g x ≤ g q
  no_higher g low q x (start m) = subst (λ y. g y ≤ g q) (only_member q x m) (let r : g q ≤ g q = omega arith in r)
  no_higher g low q x (step {c = c} r m) = let a : g c ≤ g q = no_higher g low q c r in let b : g x ≤ g c = low c x m in omega arith

  -- what is reached, and not below a depth that no queued id reaches, is done
  pub explored : (g : ObjectId → ℕ) (depth : ℕ) (progress : ObjectId → Progress) (waits : ObjectId → ℕ) → ((c i : ObjectId) → Contains (next c) i → g i ≤ g c) → IsSearch next starts progress waits → ((i : ObjectId) → Contains starts i → is_seen (progress i) ≡ true) → ((i : ObjectId) → is_queued (progress i) ≡ true → g i < depth) → (x : ObjectId) → Reaches next starts x → depth ≤ g x → is_done (progress x) ≡ true
  explored g depth progress waits low h b rests x r high =
      ⊎_elim (λ d. d) (λ w. let l : g w.0 < depth = rests w.0 w.1 in let u : g x ≤ g w.0 = no_higher g low w.0 x w.2 in absurd (omega arith))
      (done_or_waits next starts (λ i. is_queued (progress i) ≡ true) (λ i. is_done (progress i) ≡ true) (λ i m. done_or_queued _ (b i m)) (λ c i d m. done_or_queued _ (h.closed c i d m)) x r)

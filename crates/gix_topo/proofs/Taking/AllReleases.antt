-- What releasing all the parents of a taken commit does.
use Rattle.std.proofs.Common.{◌≡◌, ◌≤◌, ℕ, ◌+◌, List, [], ◌∷◌, Bool, true, false, ◌||◌, cond, refl, sym, ap, subst, ◌∙◌, arith}
use Rattle.gix_topo.proofs.Common.{false≢true, ObjectId, is_same, is_among, Objects, same_is, same_itself, Side, Frontier, Walk, is_due, known_of, reached, Uncounts, Releases, ReleasesAll, Keeps, distinct_after, Ready, ready_ids}
use Rattle.gix_topo.specs.Inside.Releasing.{waits, frees, none, more}
use Rattle.gix_revwalk.specs.Ids.{times}
use Rattle.gix_topo.proofs.Counts.Frontier.{known-insert, unmoved}
use Rattle.gix_topo.proofs.Counts.Children.{children_of, was_ready_of}
use Rattle.gix_topo.proofs.Starting.OneByOne.{IsDue, Frees, frees_none, waits_one, frees_one, frees_more}

-- different ids are at their first places
first_distinct : (seen ids : List ObjectId) → ((j : ObjectId) → cond (is_among j seen) 1 0 + times j ids ≤ 1) → distinct_after seen ids ≡ ids
first_distinct seen [] h = refl
first_distinct seen (x ∷ ids) h = ap (λ b. cond b (distinct_after seen ids) (x ∷ distinct_after (x ∷ seen) ids)) (unseen (is_among x seen) (times x ids) (subst (λ b. cond (is_among x seen) 1 0 + (cond b 1 0 + times x ids) ≤ 1) (same_itself x) (h x)))
    ∙ ap (λ xs. x ∷ xs) (first_distinct (x ∷ seen) ids (λ j. moved (is_same j x) (is_among j seen) (times j ids) (h j)))
  where
    unseen : (b : Bool) (n : ℕ) → cond b 1 0 + (1 + n) ≤ 1 → b ≡ false
    unseen b n l = grind arith

    moved : (a b : Bool) (n : ℕ) → cond b 1 0 + (cond a 1 0 + n) ≤ 1 → cond (a || b) 1 0 + n ≤ 1
    moved a b n l = grind arith

module _ {F : Type 0} (objects : F → Objects) (faulty : F → ObjectId → Type 0) where
  -- one child less of one id
  uncounted_children : (f g : Frontier) (i : ObjectId) (n : ℕ) → (known_of f.known i).indegree ≡ n + 1 → Uncounts f i g → (p : ObjectId) → (cond (is_same p i) 1 0 + 0) + children_of g p ≡ children_of f p
  uncounted_children f g i n c u p = ap (λ k. (cond (is_same p i) 1 0 + 0) + (known_of k p).indegree) (u.known n c) ∙ ap (λ k. (cond (is_same p i) 1 0 + 0) + k.indegree) (known-insert f.known i (record (known_of f.known i) { indegree = n }) p) ∙ go (is_same p i) refl
    where
      go : (b : Bool) → is_same p i ≡ b → (cond b 1 0 + 0) + (cond b (record (known_of f.known i) { indegree = n }) (known_of f.known p)).indegree ≡ children_of f p
      go true s = let e : children_of f p ≡ n + 1 = ap (λ j. children_of f j) (same_is p i s) ∙ c in omega arith
      go false s = omega arith

  uncounted_here : (f g : Frontier) (i : ObjectId) (n : ℕ) → (known_of f.known i).indegree ≡ n + 1 → Uncounts f i g → children_of g i ≡ n
  uncounted_here f g i n c u = let e = uncounted_children f g i n c u i in let s : ◌≡◌ {A = ℕ} (cond (is_same i i) 1 0) 1 = ap (λ b. cond b 1 0) (same_itself i) in omega arith

  pub uncounted_made : (f g : Frontier) (i : ObjectId) (n : ℕ) → (known_of f.known i).indegree ≡ n + 1 → Uncounts f i g → (p : ObjectId) → was_ready_of g p ≡ was_ready_of f p
  uncounted_made f g i n c u p = ap (λ k. (known_of k p).was_ready) (u.known n c) ∙ ap (λ k. k.was_ready) (known-insert f.known i (record (known_of f.known i) { indegree = n }) p) ∙ go (is_same p i) refl
    where
      go : (b : Bool) → is_same p i ≡ b → (cond b (record (known_of f.known i) { indegree = n }) (known_of f.known p)).was_ready ≡ was_ready_of f p
      go true s = ap (λ j. was_ready_of f j) (sym (same_is p i s))
      go false s = refl

  pub uncounted_moved : (f g : Frontier) (i : ObjectId) (n : ℕ) → (known_of f.known i).indegree ≡ n + 1 → Uncounts f i g → (s : Side) (p : ObjectId) → reached g.known s p ≡ reached f.known s p
  uncounted_moved f g i n c u s p = ap (λ k. reached k s p) (u.known n c) ∙ unmoved f.known i n s p

  abbrev pub IsReleased : Walk F → List ObjectId → List Ready → Walk F → Type 0
  IsReleased = Frees objects faulty true

  released_one : {old : Walk F} {i : ObjectId} {first : List Ready} {new : Walk F} → Releases objects faulty old i first new → IsReleased old (i ∷ []) first new
  released_one {old} {i} (waits {f = f} n c u d) = waits_one objects faulty true old f i u.queue (uncounted_moved old.counting.frontier f i n c u) (uncounted_made old.counting.frontier f i n c u) (uncounted_children old.counting.frontier f i n c u)
      (subst (λ m. is_due m (known_of f.known i) ≡ false) (sym (uncounted_here old.counting.frontier f i n c u)) d)
  released_one {old} {i} (frees {f = f} n c u d p) = frees_one objects faulty true old f i u.queue (uncounted_moved old.counting.frontier f i n c u) (uncounted_made old.counting.frontier f i n c u) (uncounted_children old.counting.frontier f i n c u)
      (subst (λ m. is_due m (known_of f.known i) ≡ true) (sym (uncounted_here old.counting.frontier f i n c u)) d) p

  pub released : {old : Walk F} {ids : List ObjectId} {added : List Ready} {new : Walk F} → ReleasesAll objects faulty old ids added new → IsReleased old ids added new
  released {old} none = frees_none objects faulty true old
  released {old} {new = new} (more {mid = mid} {i = i} {ids = ids} {first = first} {others = others} r rest) = frees_more objects faulty true old mid new i ids first others (released_one r) (released rest)

  -- different parents become ready where they are due
  pub released_due : {old : Walk F} {ids : List ObjectId} {added : List Ready} {new : Walk F} → IsReleased old ids added new → ((j : ObjectId) → times j ids ≤ 1) → Keeps (IsDue objects faulty old new) ids (ready_ids added)
  released_due {old} {ids} {added} {new} h once = subst (λ xs. Keeps (IsDue objects faulty old new) xs (ready_ids added)) (first_distinct [] ids (λ j. omega (arith, once j))) (h.due once [] (λ j e. absurd (false≢true e)))

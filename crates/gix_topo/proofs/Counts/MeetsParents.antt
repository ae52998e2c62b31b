-- What a side does by meeting ids, to what is known of all and to what waits.
use Rattle.std.proofs.Common.{◌≡◌, ◌≤◌, ◌⊎◌, ℕ, suc, ◌+◌, List, [], ◌∷◌, ◌&&◌, ◌||◌, Bool, true, false, not, cond, Contains, IsPermutation, length, sum_by, refl, sym, ap, subst, inl, inr, ⊎_elim, ◌∙◌, arith}
use Rattle.gix_topo.proofs.Common.{Contains-permutation, IsPermutation-sym, length_permutation, ObjectId, is_same, is_among, same_is, same_itself, Contains-here, Contains-there, Contains-cons_cases, only_member, GraphRow, Side, Tips}
use Rattle.gix_topo.proofs.Common.{Ends, Queued, Waiting, waiting_by, Frontier, known_generation, is_side, is_seen, is_done, known_of, with_progress, reached, waiting, Meets, seen, Counts, Follows, MeetsAll, met, meets}
use Rattle.std.specs.FinMap as map
use Rattle.gix_frontier.specs.Inside.Frontier.{unseen}
use Rattle.gix_topo.specs.Inside.Exploring.{none, more}
use Rattle.gix_revwalk.specs.Ids.{times}
use Rattle.gix_topo.proofs.Counts.Frontier.{known-insert, kept, moved, unmoved, side_is, has_seen, unseen_by, to_do, sum_less, waiting-permutation}
use Rattle.gix_topo.proofs.Counts.Children.{children_of, was_ready_of}

pub no_items : {X : Type 0} (xs : List X) → length xs ≡ 0 → xs ≡ []
no_items [] e = refl
no_items (x ∷ xs) e = absurd (omega arith)

pub no_members : {X : Type 0} (xs : List X) → ((x : X) → Contains xs x → ⊥) → xs ≡ []
no_members [] absent = refl
no_members (x ∷ xs) absent = absurd (absent x (Contains-here x xs))

-- a side meets an id of these for the first time
abbrev pub is_new : Side → List ObjectId → Frontier → Side → ObjectId → Bool
is_new side ids f s j = (is_side s side && is_among j ids) && not (has_seen f s j)

-- ids that are new to a side wait, each under its generation, and so many children are counted
pub record AreMet (rows : List GraphRow) (side : Side) (ids : List ObjectId) (counted : ObjectId → ℕ) (old new : Frontier) : Type 0 where
  pub moved : (s : Side) (j : ObjectId) → reached new.known s j ≡ cond (is_new side ids old s j) Queued (reached old.known s j)
  pub waits : (s : Side) (j : ObjectId) → waiting new.queue s j ≡ cond (is_new side ids old s j) 1 0 + waiting old.queue s j
  pub keyed : (entry : ℕ × Waiting) → Contains new.queue entry → (entry.0 ≡ known_generation rows entry.1.id) ⊎ Contains old.queue entry
  pub children : (j : ObjectId) → children_of new j ≡ counted j + children_of old j
  pub made : (j : ObjectId) → was_ready_of new j ≡ was_ready_of old j
  -- over names that have these there is no more to do than before
  pub less : (names : List ObjectId) → ((j : ObjectId) → Contains ids j → Contains names j) → to_do names new ≤ to_do names old

-- the tips' side counts the parents that it meets
abbrev pub counted_of : Side → List ObjectId → ObjectId → ℕ
counted_of Tips ids j = times j ids
counted_of Ends ids j = 0

module _ (rows : List GraphRow) where
  -- ids that a side has seen are met again
  met_again : (side : Side) (ids : List ObjectId) (f : Frontier) → ((j : ObjectId) → is_among j ids ≡ true → has_seen f side j ≡ true) → AreMet rows side ids (λ j. 0) f f
  met_again side ids f known = record {
    moved = λ s j. grind (arith, known j, side_is s side);
    waits = λ s j. grind (arith, known j, side_is s side);
    keyed = λ entry m. inr m;
    children = λ j. omega arith;
    made = λ j. refl;
    less = λ names h. omega arith;
  }

  met_none : (side : Side) (f : Frontier) → AreMet rows side [] (λ j. 0) f f
  met_none side f = met_again side [] f (λ j e. cc)

  met_first : (side : Side) (i : ObjectId) (old new : Frontier) → has_seen old side i ≡ false
      → IsPermutation ((known_generation rows i, waiting_by i side) ∷ old.queue) new.queue → new.known ≡ map.insert old.known i (with_progress side Queued (known_of old.known i)) → AreMet rows side (i ∷ []) (λ j. 0) old new
  met_first side i old new u p k = record {
    moved = λ s j. grind (arith, now s j, u, side_is s side, same_is j i);
    waits = λ s j. grind (arith, waiting-permutation s j ((known_generation rows i, waiting_by i side) ∷ old.queue) new.queue p, u, side_is s side, same_is j i);
    keyed = λ entry m. ⊎_elim (λ e. inl (subst (λ x. x.0 ≡ known_generation rows x.1.id) e refl)) (λ t. inr t)
        (Contains-cons_cases entry (known_generation rows i, waiting_by i side) old.queue (Contains-permutation new.queue ((known_generation rows i, waiting_by i side) ∷ old.queue) entry (IsPermutation-sym ((known_generation rows i, waiting_by i side) ∷ old.queue) new.queue p) m));
    children = λ j. let e : children_of new j ≡ children_of old j = ap (λ those. (known_of those j).indegree) k ∙ kept (λ x. x.indegree) old.known i (with_progress side Queued (known_of old.known i)) j (grind arith) in omega arith;
    made = λ j. ap (λ those. (known_of those j).was_ready) k ∙ kept (λ x. x.was_ready) old.known i (with_progress side Queued (known_of old.known i)) j (grind arith);
    less = λ names h.
        let l : suc (sum_by (unseen_by new) names) ≤ sum_by (unseen_by old) names = sum_less (unseen_by new) (unseen_by old) i names (λ j. grind (arith, now Tips j, now Ends j)) (grind (arith, now Tips i, now Ends i, u, same_itself i)) (h i (Contains-here i [])) in
        let q : length new.queue ≡ suc (length old.queue) = length_permutation _ _ p in
        omega arith;
  }
    where
      now : (s : Side) (j : ObjectId) → reached new.known s j ≡ cond (is_same j i && is_side s side) Queued (reached old.known s j)
      now s j = ap (λ those. reached those s j) k ∙ moved old.known i side s Queued j

  met_one : {side : Side} {old : Frontier} {i : ObjectId} {new : Frontier} → Meets old (known_generation rows i) i side new → AreMet rows side (i ∷ []) (λ j. 0) old new
  met_one {side} {old} {i} (seen e same) = subst (AreMet rows side (i ∷ []) (λ j. 0) old) (sym same) (met_again side (i ∷ []) old (λ j a. grind (arith, e, same_is j i)))
  met_one {side} {old} {i} {new} (unseen u p k) = met_first side i old new u p k

  -- a child is counted, and then the tips' side meets its parent
  met_counted : (i : ObjectId) (old mid new : Frontier) → Counts old i mid → AreMet rows Tips (i ∷ []) (λ j. 0) mid new → AreMet rows Tips (i ∷ []) (λ j. cond (is_same j i) 1 0) old new
  met_counted i old mid new c a = record {
    moved = λ s j. grind (arith, a.moved s j, same s j);
    waits = λ s j. grind (arith, a.waits s j, same s j, ap (λ q. waiting q s j) c.queue);
    keyed = λ entry m. ⊎_elim (λ e. inl e) (λ t. inr (subst (λ q. Contains q entry) c.queue t)) (a.keyed entry m);
    children = λ j. grind (arith, a.children j, ap (λ those. known_of those j) c.known, known-insert old.known i (record (known_of old.known i) { indegree = (known_of old.known i).indegree + 1 }) j, same_is j i);
    made = λ j. a.made j ∙ ap (λ those. (known_of those j).was_ready) c.known ∙ kept (λ x. x.was_ready) old.known i (record (known_of old.known i) { indegree = (known_of old.known i).indegree + 1 }) j refl;
    less = λ names h. subst (λ n. to_do names new ≤ n) (λ k. sum_by (λ j. cond (is_seen (same Tips j k)) 0 1 + cond (is_seen (same Ends j k)) 0 1) names + length (c.queue k)) (a.less names h);
  }
    where
      same : (s : Side) (j : ObjectId) → reached mid.known s j ≡ reached old.known s j
      same s j = ap (λ those. reached those s j) c.known ∙ unmoved old.known i ((known_of old.known i).indegree + 1) s j

  met_more : {side : Side} {i : ObjectId} {ids : List ObjectId} {a b : ObjectId → ℕ} {old mid new : Frontier} → AreMet rows side (i ∷ []) a old mid → AreMet rows side ids b mid new → AreMet rows side (i ∷ ids) (λ j. a j + b j) old new
  met_more {i = i} {ids = ids} {a = a} {b = b} {old = old} {mid = mid} {new = new} f g = record {
    moved = λ s j. grind (arith, f.moved s j, g.moved s j);
    waits = λ s j. grind (arith, f.moved s j, f.waits s j, g.waits s j);
    keyed = λ entry m. ⊎_elim (λ e. inl e) (f.keyed entry) (g.keyed entry m);
    children = λ j. let x : children_of mid j ≡ a j + children_of old j = f.children j in let y : children_of new j ≡ b j + children_of mid j = g.children j in omega arith;
    made = λ j. g.made j ∙ f.made j;
    less = λ names h.
        let x : to_do names mid ≤ to_do names old = f.less names (λ j m. subst (Contains names) (only_member i j m) (h i (Contains-here i ids))) in
        let y : to_do names new ≤ to_do names mid = g.less names (λ j m. h j (Contains-there j i ids m)) in
        omega arith;
  }

  -- a side's starts are met
  pub all_met : {side : Side} {old : Frontier} {ids : List ObjectId} {new : Frontier} → MeetsAll rows side old ids new → AreMet rows side ids (λ j. 0) old new
  all_met {side} {old} met = met_none side old
  all_met (meets n f) = met_more (met_one n) (all_met f)

  pub parents_met : {side : Side} {old : Frontier} {ids : List ObjectId} {new : Frontier} → Follows rows side old ids new → AreMet rows side ids (counted_of side ids) old new
  parents_met {side = Tips} {old = old} none = met_none Tips old
  parents_met {side = Ends} {old = old} none = met_none Ends old
  parents_met {side = Tips} {old = old} (more {mid = mid} {i = i} n f) = met_more (met_counted i old n.0 mid n.1 (met_one n.2)) (parents_met f)
  parents_met {side = Ends} (more n f) = met_more (met_one n) (parents_met f)

  -- to meet parents finishes no id
  pub follows_done : {side : Side} {old : Frontier} {ids : List ObjectId} {new : Frontier} → Follows rows side old ids new → (i : ObjectId) → (is_done (reached new.known Tips i) || is_done (reached new.known Ends i)) ≡ (is_done (reached old.known Tips i) || is_done (reached old.known Ends i))
  follows_done f i = grind (arith, (parents_met f).moved Tips i, (parents_met f).moved Ends i)

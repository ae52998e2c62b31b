-- Counts of children: what is done or taken does to them, and what a count of 0 says.
use Rattle.std.proofs.Common.{◌≡◌, ◌≤◌, ℕ, ◌+◌, List, ◌∷◌, Bool, true, false, ◌&&◌, ◌||◌, cond, Contains, IsPermutation, sum_by, get_or, refl, sym, ap, subst, ◌∙◌, arith, remove}
use Rattle.std.proofs.lemmas.List.Recursion.{is_sum_by}
use Rattle.gix_topo.proofs.Common.{IsPermutation-remove, sum_by-IsPermutation, ObjectId, is_same, is_among, same_is, among_from, among_is, Frontier, known_of, IsTally, naming, among_times, times_is_among, times_moved}
use Rattle.std.proofs.lemmas.List.Sums.{get_or-le-sum_by}
use Rattle.gix_revwalk.specs.Ids.{times}
use Rattle.gix_topo.proofs.Counts.Frontier.{some_term}

abbrev pub children_of : Frontier → ObjectId → ℕ
children_of f p = (known_of f.known p).indegree

abbrev pub was_ready_of : Frontier → ObjectId → Bool
was_ready_of f p = (known_of f.known p).was_ready

module _ (walked : ObjectId → List ObjectId) where
  naming_sum : (p : ObjectId) (ds : List ObjectId) → naming walked p ds ≡ sum_by (λ d. cond (is_among p (walked d)) 1 0) ds
  naming_sum p ds = is_sum_by (naming walked p) (λ d. cond (is_among p (walked d)) 1 0) refl (λ d ds. refl) ds

  -- one more is done; or none is, and nothing changes
  pub tally_steps : (here : Bool) (done after taken : ObjectId → Bool) (old new : ObjectId → ℕ) (i : ObjectId) → (here ≡ true → done i ≡ false)
      → ((j : ObjectId) → after j ≡ ((is_same j i && here) || done j)) → ((p : ObjectId) → new p ≡ cond (here && is_among p (walked i)) 1 0 + old p) → IsTally walked done taken old → IsTally walked after taken new
  tally_steps here done after taken old new i u d c h = record {
    open_to = cond here (i ∷ h.open_to) h.open_to;
    each = λ j. grind (arith, h.each j, d j, same_is j i, h.taken_done i, u);
    counts = λ p. grind (arith, c p, h.counts p);
    taken_done = λ j t. grind (arith, d j, h.taken_done j t);
  }

  pub tally_same : (done after taken : ObjectId → Bool) (old new : ObjectId → ℕ) → ((j : ObjectId) → after j ≡ done j) → ((p : ObjectId) → new p ≡ old p) → IsTally walked done taken old → IsTally walked after taken new
  tally_same done after taken old new d c h = subst (λ (t : (ObjectId → Bool) × (ObjectId → ℕ)). IsTally walked t.0 taken t.1) (λ k. ((λ j. sym (d j) k), (λ p. sym (c p) k))) h

  -- an id that names it, is done and isn't taken counts
  pub tally_counts : (done taken : ObjectId → Bool) (children : ObjectId → ℕ) → IsTally walked done taken children → (p d : ObjectId) → done d ≡ true → taken d ≡ false → is_among p (walked d) ≡ true → 1 ≤ children p
  tally_counts done taken children h p d u t e =
      let m : Contains h.open_to d = among_is d h.open_to (times_is_among d h.open_to (grind (arith, h.each d))) in
      let l : cond (is_among p (walked (get_or h.open_to m.0 d))) 1 0 ≤ sum_by (λ d. cond (is_among p (walked d)) 1 0) h.open_to = get_or-le-sum_by (λ d. cond (is_among p (walked d)) 1 0) h.open_to m.0 d m.1 in
      let s : is_among p (walked (get_or h.open_to m.0 d)) ≡ true = ap (λ x. is_among p (walked x)) m.2 ∙ e in
      grind (arith, naming_sum p h.open_to, h.counts p)

  -- a commit that is done is taken, and its parents have a child less
  pub tally_takes : (done taken after : ObjectId → Bool) (old new : ObjectId → ℕ) (c : ObjectId) → done c ≡ true → taken c ≡ false → ((j : ObjectId) → after j ≡ (is_same j c || taken j)) → ((p : ObjectId) → cond (is_among p (walked c)) 1 0 + new p ≡ old p) → IsTally walked done taken old → IsTally walked done after new
  tally_takes done taken after old new c u t a n h =
      let m : Contains h.open_to c = among_is c h.open_to (times_is_among c h.open_to (grind (arith, h.each c))) in
      let rest : List ObjectId = remove h.open_to m.0 in
      let q : IsPermutation h.open_to (c ∷ rest) = IsPermutation-remove h.open_to m.0 c m.1 (sym m.2) in
      record {
        open_to = rest;
        each = λ j. grind (arith, times_moved j h.open_to (c ∷ rest) q, h.each j, a j, same_is j c, u, t);
        counts = λ p. grind (arith, naming_sum p h.open_to, naming_sum p (c ∷ rest), sum_by-IsPermutation (λ d. cond (is_among p (walked d)) 1 0) h.open_to (c ∷ rest) q, n p, h.counts p);
        taken_done = λ j e. grind (arith, a j, same_is j c, h.taken_done j, u, e);
      }

  -- one that names an id, is done and isn't taken
  pub record IsOpenChild (done taken : ObjectId → Bool) (p : ObjectId) : Type 0 where
    pub id : ObjectId
    pub done_now : done id ≡ true
    pub untaken : taken id ≡ false
    pub names : Contains (walked id) p

  pub tally_child : (done taken : ObjectId → Bool) (children : ObjectId → ℕ) → IsTally walked done taken children → (p : ObjectId) → 1 ≤ children p → IsOpenChild done taken p
  tally_child done taken children h p l =
      let k : (d : ObjectId) × Contains h.open_to d × (1 ≤ cond (is_among p (walked d)) 1 0) = some_term (λ d. cond (is_among p (walked d)) 1 0) h.open_to (grind (arith, naming_sum p h.open_to, h.counts p)) in
      let m : 1 ≤ times k.0 h.open_to = among_times k.0 h.open_to (among_from k.0 h.open_to k.1) in
      record { id = k.0; done_now = grind (arith, h.each k.0); untaken = grind (arith, h.each k.0); names = among_is p (walked k.0) (grind arith) }

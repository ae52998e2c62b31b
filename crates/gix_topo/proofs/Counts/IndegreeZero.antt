-- What indegree 0 means after exploring: no child is left that wasn't taken; and what the ends reach was seen.
use Rattle.std.proofs.Common.{◌≡◌, ◌≤◌, ℕ, List, Bool, true, false, Contains, sym, ◌∙◌, arith, true≢false}
use Rattle.gix_topo.proofs.Common.{true_from_ne_false, false_from_ne_true, ObjectId, Objects, GraphRow, among_from, Parents, Side, Tips, Ends, Progress, Frontier, IsAgreeing, known_generation, is_seen, is_done, reached, by_mode, Reaches}
use Rattle.gix_topo.proofs.Common.{step, IsExplored, IsTally, next_by, starts_by, IsInWalk, IsChild, walked_within}
use Rattle.gix_topo.specs.Inside.Searched.{text_next}
use Rattle.gix_topo.proofs.Counts.Children.{tally_counts, tally_child, IsOpenChild}
use Rattle.gix_topo.proofs.Reading.ReadsCommit.{parents_lower}

pub done_seen : (p : Progress) → is_done p ≡ true → is_seen p ≡ true
done_seen p e = grind arith

-- by the texts alone, after exploring
module _ (objects : Objects) (faulty : ObjectId → Type 0) (rows : List GraphRow) (parents : Parents) (tips ends : List ObjectId) (agrees : IsAgreeing objects rows) (f : Frontier) (depth : ℕ) (explored : (side : Side) → IsExplored objects rows parents tips ends depth side f) where
  -- no child is left that wasn't taken
  pub text_left : (taken : ObjectId → Bool) (children : ObjectId → ℕ) → IsTally (next_by objects parents Tips) (λ i. is_done (reached f.known Tips i)) taken children → (p : ObjectId) → children p ≡ 0 → depth ≤ known_generation rows p → (d : ObjectId) → Reaches (next_by objects parents Tips) tips d → Contains (next_by objects parents Tips d) p → taken d ≡ true
  text_left taken children tally p z high d reach text =
      let lower : known_generation rows p ≤ known_generation rows d = parents_lower objects faulty rows agrees d p (walked_within parents (text_next objects d) p text) in
      let done : is_done (reached f.known Tips d) ≡ true = explored Tips d reach (omega arith) in
      true_from_ne_false _ (λ e. let n : 1 ≤ children p = tally_counts (next_by objects parents Tips) (λ i. is_done (reached f.known Tips i)) taken children tally p d done e (among_from p (next_by objects parents Tips d) text) in omega arith)

  -- what ends reach was seen by their side
  pub text_outside : (p : ObjectId) → is_seen (reached f.known Ends p) ≡ false → depth ≤ known_generation rows p → Reaches (next_by objects parents Ends) ends p → ⊥
  text_outside p e high r = true≢false (sym (done_seen (reached f.known Ends p) (explored Ends p r high)) ∙ e)

module _ (objects : Objects) (faulty : ObjectId → Type 0) (rows : List GraphRow) (parents : Parents) (tips ends : List ObjectId) where
  abbrev walked : ObjectId → List ObjectId
  walked i = by_mode parents (text_next objects i)

  abbrev In : ObjectId → Type 0
  In = IsInWalk walked (text_next objects) tips ends

  -- after exploring, and after one commit more was taken
  module _ (agrees : IsAgreeing objects rows) (f : Frontier) (depth : ℕ) (explored : (side : Side) → IsExplored objects rows parents tips ends depth side f)
      (within : (side : Side) (i : ObjectId) → is_seen (reached f.known side i) ≡ true → Reaches (next_by objects parents side) (starts_by tips ends side) i)
      (taken : ObjectId → Bool) (children : ObjectId → ℕ) (tally : IsTally (next_by objects parents Tips) (λ i. is_done (reached f.known Tips i)) taken children) where
    -- no child is left that wasn't taken
    pub none_left : (p : ObjectId) → children p ≡ 0 → depth ≤ known_generation rows p → (d : ObjectId) → IsChild walked In d p → taken d ≡ true
    none_left p z high d c = text_left objects faulty rows parents tips ends agrees f depth explored taken children tally p z high d c.child.reached c.named

    -- what ends reach was seen by their side
    pub outside : (p : ObjectId) → is_seen (reached f.known Ends p) ≡ false → depth ≤ known_generation rows p → Reaches (text_next objects) ends p → ⊥
    outside p e high r = text_outside objects faulty rows parents tips ends agrees f depth explored p e high r

    pub unseen : (p : ObjectId) → In p → is_seen (reached f.known Ends p) ≡ false
    unseen p m = false_from_ne_true _ (λ e. m.outside (within Ends p e))

    -- where all children were taken, none is left
    pub all_taken : (p : ObjectId) → In p → ((d : ObjectId) → IsChild walked In d p → taken d ≡ true) → children p ≡ 0
    all_taken p m all =
        let none : 1 ≤ children p → ⊥ = λ l.
        let k : IsOpenChild (next_by objects parents Tips) (λ i. is_done (reached f.known Tips i)) taken p = tally_child (next_by objects parents Tips) (λ i. is_done (reached f.known Tips i)) taken children tally p l in
        let c : IsChild walked In k.id p = record { child = record { reached = within Tips k.id (done_seen (reached f.known Tips k.id) k.done_now); outside = λ e. m.outside (step e (walked_within parents (text_next objects k.id) p k.names)) }; parent = m; named = k.names } in
        true≢false (sym (all k.id c) ∙ k.untaken) in
        grind arith

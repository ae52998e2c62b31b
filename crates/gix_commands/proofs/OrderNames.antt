-- What the names of orders say.
use Rattle.std.proofs.Common.{◌≡◌, ◌≢◌, ℕ, List, [], ◌∷◌, Contains, codes, refl, sym, ap, length, ⊎_elim, ◌∙◌, arith}
use Rattle.gix_commands.proofs.Common.{Contains-cons_cases, no_member, Order, Parents, Simple, Topo}
use Rattle.gix_revwalk.specs.declared.CommitTimeOrder.TheVariants as order
use Rattle.gix_revwalk.specs.declared.Parents.TheVariants as mode
use Rattle.gix_simple.specs.declared.Sorting.{Sorting}
use Rattle.gix_simple.specs.declared.Sorting.TheVariants as sorting
use Rattle.gix_topo.specs.declared.Sorting.{Sorting as TopoSorting}
use Rattle.gix_topo.specs.declared.Sorting.TheVariants as topo
use Rattle.gix_statement.proofs.Descents.{IsDown}
use Rattle.gix_statement.proofs.Heart.{IsSimple}
use Rattle.gix_commands.proofs.SameWords.{IsNameOf, IsOptionOf}

-- a name of an order is one of five
pub is_order : (name : List ℕ) (by : Order) → IsNameOf name by → Contains (codes "breadth" ∷ codes "newest" ∷ codes "oldest" ∷ codes "topo" ∷ codes "date" ∷ []) name
is_order name (Simple m sorting.BreadthFirst) e = (0, omega arith, sym e)
is_order name (Simple m (sorting.ByCommitTime order.NewestFirst)) e = (1, omega arith, sym e)
is_order name (Simple m (sorting.ByCommitTime order.OldestFirst)) e = (2, omega arith, sym e)
is_order name (Simple m (sorting.ByCommitTimeCutoff order.NewestFirst seconds)) e = (1, omega arith, sym e)
is_order name (Simple m (sorting.ByCommitTimeCutoff order.OldestFirst seconds)) e = (2, omega arith, sym e)
is_order name (Topo m topo.TopoOrder) e = (3, omega arith, sym e)
is_order name (Topo m topo.DateOrder) e = (4, omega arith, sym e)

-- and three of them are of no topological order
longer : (name : List ℕ) (k : ℕ) → length name ≡ k → (k ≡ 4 → ⊥) → IsSimple name
longer name k e other c = ⊎_elim
    (λ s. other (sym e ∙ sym (ap length s)))
    (λ n. ⊎_elim (λ s. other (sym e ∙ sym (ap length s))) (no_member name) (Contains-cons_cases name (codes "date") [] n))
    (Contains-cons_cases name (codes "topo") (codes "date" ∷ []) c)

pub simple_name : (name : List ℕ) (m : Parents) (by : Sorting) → IsNameOf name (Simple m by) → IsSimple name
simple_name name m sorting.BreadthFirst e = longer name 7 (ap length e) (λ h. omega (arith, h))
simple_name name m (sorting.ByCommitTime order.NewestFirst) e = longer name 6 (ap length e) (λ h. omega (arith, h))
simple_name name m (sorting.ByCommitTime order.OldestFirst) e = longer name 6 (ap length e) (λ h. omega (arith, h))
simple_name name m (sorting.ByCommitTimeCutoff order.NewestFirst seconds) e = longer name 6 (ap length e) (λ h. omega (arith, h))
simple_name name m (sorting.ByCommitTimeCutoff order.OldestFirst seconds) e = longer name 6 (ap length e) (λ h. omega (arith, h))

-- by time all parents are followed
pub all_parents : (m : Parents) (by : Sorting) (option : List (List ℕ)) → IsOptionOf option (Simple m by) → by ≢ sorting.BreadthFirst → m ≡ mode.All
all_parents mode.All by option chosen other = refl
all_parents mode.First sorting.BreadthFirst option chosen other = absurd (other refl)
all_parents mode.First (sorting.ByCommitTime order) option chosen other = absurd chosen
all_parents mode.First (sorting.ByCommitTimeCutoff order seconds) option chosen other = absurd chosen

four : (name : List ℕ) → length name ≡ 4 → IsDown name
four name e = (
  λ s. let h : length name ≡ 7 = ap length s in omega (arith, e, h),
  λ s. let h : length name ≡ 6 = ap length s in omega (arith, e, h),
  λ s. let h : length name ≡ 6 = ap length s in omega (arith, e, h),
)

pub down_name : (name : List ℕ) (m : Parents) (by : TopoSorting) → IsNameOf name (Topo m by) → IsDown name
down_name name m topo.TopoOrder e = four name (ap length e)
down_name name m topo.DateOrder e = four name (ap length e)

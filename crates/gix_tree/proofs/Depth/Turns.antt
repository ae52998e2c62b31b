-- A walk in depth, by the trees that it is in.
use Rattle.std.proofs.Common.{◌≡◌, ◌<◌, ℕ, List, [], ◌∷◌, ◌++◌, reverse, Ok, sym, ap, ◌∙◌, subst}
use Rattle.gix_tree.proofs.Common.{ObjectId, Objects, Call, PopBack, ShowsUpTo, FoundTree, ids_down, items_at}
use Rattle.gix_tree.specs.declared.depthfirst.Stop.TheVariants as stop
use Rattle.gix_tree.specs.declared.depthfirst.Tree.{Tree}
use Rattle.gix_tree.proofs.Depth.Loop.{DepthSoFar, so_far_start, so_far_shown, so_far_into, so_far_resumes, found_tree}
use Rattle.gix_tree.proofs.Depth.Stack.{AreWithin, left_above, last_first}
use Rattle.gix_tree.proofs.Work.Loops.{stack_work, descent_lessens, end_lessens}

-- one more tree, the nearest
pub stack_more : (before after : List Tree) (t : Tree) → after ≡ before ++ t ∷ [] → reverse after ≡ t ∷ reverse before
stack_more before after t e = ap (λ l. reverse l) e ∙ last_first before t

pub within_again : (t u : Tree) (ts us : List Tree) → t ≡ u → ts ≡ us → AreWithin (u ∷ us) → AreWithin (t ∷ ts)
within_again t u ts us e f h = subst (λ x. AreWithin (x ∷ ts)) (sym e) (subst (λ l. AreWithin (u ∷ l)) (sym f) h)

module _ {V : Type 0} (objects : Objects) (faulty : ObjectId → Type 0) (steps : V → Call → V → Type 0) (root : ObjectId) (old : V) where
  -- the walk goes on with what is left of the tree, and then of those above it, the nearest first
  abbrev pub WalksOn : V → Tree → List Tree → Type 0
  WalksOn now t trees = DepthSoFar objects faulty steps root old now (ids_down (t ∷ trees)) (items_at t) (left_above trees)

  pub walk_again : (now : V) (t u : Tree) (ts us : List Tree) → t ≡ u → ts ≡ us → WalksOn now u us → WalksOn now t ts
  walk_again now t u ts us e f h = subst (λ x. WalksOn now x ts) (sym e) (subst (λ l. WalksOn now u l) (sym f) h)

  pub walk_starts : (now : V) (t : Tree) → FoundTree objects faulty root (Ok t) → steps old PopBack now → WalksOn now t []
  walk_starts now t found step =
      subst (λ i. DepthSoFar objects faulty steps root old now (i ∷ []) (items_at t) []) (sym found.0)
      (so_far_start objects faulty steps root old now (items_at t) (found_tree objects faulty root t found) step)

  pub walk_descends : (mid low now : V) (t left below : Tree) (trees : List Tree) (i : ObjectId) → WalksOn mid t trees → ShowsUpTo steps (t.oid ∷ ids_down trees) (items_at t) mid low (Ok (stop.Into i)) (items_at left) → left.oid ≡ t.oid → FoundTree objects faulty i (Ok below) → steps low PopBack now → WalksOn now below (left ∷ trees)
  walk_descends mid low now t left below trees i h shown same found step =
      let gone = so_far_into objects faulty steps root old low now i (items_at below) (so_far_shown objects faulty steps root old mid low h shown) (found_tree objects faulty i below found) step in
      subst (λ j. DepthSoFar objects faulty steps root old now (j ∷ left.oid ∷ ids_down trees) (items_at below) ((left.oid ∷ ids_down trees, items_at left) ∷ left_above trees)) (sym found.0)
      (subst (λ j. DepthSoFar objects faulty steps root old now (i ∷ j ∷ ids_down trees) (items_at below) ((j ∷ ids_down trees, items_at left) ∷ left_above trees)) (sym same) gone)

  pub walk_resumes : (mid low now : V) (t left upper : Tree) (trees rest : List Tree) → WalksOn mid t trees → ShowsUpTo steps (t.oid ∷ ids_down trees) (items_at t) mid low (Ok stop.End) (items_at left) → trees ≡ upper ∷ rest → steps low PopBack now → WalksOn now upper rest
  walk_resumes mid low now t left upper trees rest h shown is step =
      let ended = so_far_shown objects faulty steps root old mid low h shown in
      so_far_resumes objects faulty steps root old low now (subst (λ l. DepthSoFar objects faulty steps root old low (t.oid ∷ ids_down trees) [] (left_above l)) is ended) step

module _ (objects : Objects) where
  pub work_again : (n : ℕ) (t u : Tree) (ts us : List Tree) → t ≡ u → ts ≡ us → stack_work objects (left_above (u ∷ us)) < n → stack_work objects (left_above (t ∷ ts)) < n
  work_again n t u ts us e f h = subst (λ x. stack_work objects (left_above (x ∷ ts)) < n) (sym e) (subst (λ l. stack_work objects (left_above (u ∷ l)) < n) (sym f) h)

  pub walk_descends_less : {V : Type 0} (faulty : ObjectId → Type 0) (steps : V → Call → V → Type 0) (mid low : V) (t left below : Tree) (trees : List Tree) (i : ObjectId) → ShowsUpTo steps (t.oid ∷ ids_down trees) (items_at t) mid low (Ok (stop.Into i)) (items_at left) → left.oid ≡ t.oid → FoundTree objects faulty i (Ok below) → stack_work objects (left_above (below ∷ left ∷ trees)) < stack_work objects (left_above (t ∷ trees))
  walk_descends_less faulty steps mid low t left below trees i shown same found =
      let less = descent_lessens objects steps (t.oid ∷ ids_down trees) (items_at t) (items_at left) (items_at below) (left_above trees) i shown (found_tree objects faulty i below found) in
      let most = stack_work objects (left_above (t ∷ trees)) in
      subst (λ j. stack_work objects ((j ∷ left.oid ∷ ids_down trees, items_at below) ∷ (left.oid ∷ ids_down trees, items_at left) ∷ left_above trees) < most) (sym found.0)
      (subst (λ j. stack_work objects ((i ∷ j ∷ ids_down trees, items_at below) ∷ (j ∷ ids_down trees, items_at left) ∷ left_above trees) < most) (sym same) less)

  pub walk_resumes_less : (t upper : Tree) (trees rest : List Tree) → trees ≡ upper ∷ rest → stack_work objects (left_above (upper ∷ rest)) < stack_work objects (left_above (t ∷ trees))
  walk_resumes_less t upper trees rest is =
      subst (λ l. stack_work objects (left_above l) < stack_work objects (left_above (t ∷ trees))) is (end_lessens objects (ids_down (t ∷ trees)) (items_at t) (left_above trees))

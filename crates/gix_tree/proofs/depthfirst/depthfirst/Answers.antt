use Rattle.std.proofs.Common.{◌≡◌, ◌∷◌, ◌++◌, [], Ok, reverse, refl, sym, ap, subst, ◌∙◌, arith}
use Rattle.gix_tree.specs.declared.breadthfirst.Error.TheVariants as error
use Rattle.gix_tree.specs.declared.depthfirst.Stop.TheVariants as stop
use Rattle.gix_tree.proofs.Common.{ShowsUpTo, error_of_find, ids_down, items_at}
use Rattle.gix_tree.proofs.Depth.Stack.{AreWithin}
use Rattle.gix_tree.proofs.Depth.Loop.{so_far_shown, so_far_into_fails, so_far_into_no_memory, so_far_whole, root_fails}
use Rattle.gix_tree.proofs.Depth.Turns.{stack_more, within_again, walk_again, walk_starts, walk_descends, walk_resumes, work_again, walk_descends_less, walk_resumes_less}
use Rattle.gix_tree.proofs.Shown.{failed_so}
use Rattle.gix_tree.proofs.depthfirst.depthfirst.Goals as goal
use Rattle.gix_tree.proofs.depthfirst.depthfirst.Goals.{in-Into+in_ok-below-in-Into+in_ok-keep-in-Into, in-End+in-Some, in-Broken, in-End+in_default}

pub returns-in_err-tree : goal.returns-in_err-tree
returns-in_err-tree g c =
    rw (failed_so (error_of_find c.in_err-tree.field-0.0) c.from_residual.result c.from_residual.ensures.1)
    (root_fails (g.F.Find.objects c.args.objects) (g.F.Find.faulty c.args.objects) g.V.Visit.steps c.args.root c.args.delegate.now c.in_err-tree.field-0.0 c.in_err-tree.ensures)

pub walk-init : goal.walk-init
walk-init g c =
    let none : reverse c.new-above.result.items ≡ [] = ap (λ l. reverse l) c.new-above.ensures.items in
    let first : c.in_ok-tree.tree.next ≡ 0 = c.in_ok-tree.ensures.1 in
    let within : AreWithin (c.in_ok-tree.tree ∷ []) = (rw first (omega arith), tt) in
    record {
      walk = walk_again (g.F.Find.objects c.args.objects) (g.F.Find.faulty c.args.objects) g.V.Visit.steps c.args.root c.args.delegate.now _ c.in_ok-tree.tree c.in_ok-tree.tree (reverse c.new-above.result.items) [] refl none
          (walk_starts (g.F.Find.objects c.args.objects) (g.F.Find.faulty c.args.objects) g.V.Visit.steps c.args.root c.args.delegate.now _ c.in_ok-tree.tree c.in_ok-tree.ensures c.pop_back_tracked_path_and_set_current.ensures);
      within = within_again c.in_ok-tree.tree c.in_ok-tree.tree (reverse c.new-above.result.items) [] refl none within;
    }

pub returns-in_err-show_on : goal.returns-in_err-show_on
returns-in_err-show_on g c =
    rw (failed_so _ c.from_residual-in_err-show_on.result c.from_residual-in_err-show_on.ensures.1)
    (so_far_shown (g.F.Find.objects c.args.objects) (g.F.Find.faulty c.args.objects) g.V.Visit.steps c.args.root c.args.delegate.now _ _ c.walk.invariant.walk c.in_err-show_on.ensures.shows)

pub returns-in_err-below-in-Into : goal.returns-in_err-below-in-Into
returns-in_err-below-in-Into g c =
    rw (failed_so (error_of_find c.in_err-below-in-Into.field-0.0) c.from_residual-in_err-below-in-Into.result c.from_residual-in_err-below-in-Into.ensures.1)
    (so_far_into_fails (g.F.Find.objects c.args.objects) (g.F.Find.faulty c.args.objects) g.V.Visit.steps c.args.root c.args.delegate.now _ c.in-Into.oid c.in_err-below-in-Into.field-0.0
    (so_far_shown (g.F.Find.objects c.args.objects) (g.F.Find.faulty c.args.objects) g.V.Visit.steps c.args.root c.args.delegate.now _ _ c.walk.invariant.walk (rw c.in-Into.is at c.in_ok-show_on.ensures.shows))
    c.in_err-below-in-Into.ensures)

pub returns-in_err-keep-in-Into : goal.returns-in_err-keep-in-Into
returns-in_err-keep-in-Into g c =
    rw (failed_so error.Memory c.from_residual-in_err-keep-in-Into.result c.from_residual-in_err-keep-in-Into.ensures.1)
    (so_far_into_no_memory (g.F.Find.objects c.args.objects) (g.F.Find.faulty c.args.objects) g.V.Visit.steps c.args.root c.args.delegate.now _ c.in-Into.oid
    (so_far_shown (g.F.Find.objects c.args.objects) (g.F.Find.faulty c.args.objects) g.V.Visit.steps c.args.root c.args.delegate.now _ _ c.walk.invariant.walk (rw c.in-Into.is at c.in_ok-show_on.ensures.shows)))

pub walk-smaller : goal.walk-smaller
walk-smaller g c = elim c.match-branch-3.branch [
  | in-Into+in_ok-below-in-Into+in_ok-keep-in-Into w ↦
      let kept : c.match-branch-3.above.items ≡ c.walk.above.items ++ c.show_on.new.tree ∷ [] = rw (w.above-is, w.in_ok-keep-in-Into.ensures, w.replace.ensures.value, c.in_ok-show_on.ensures.same) refl in
      work_again (g.F.Find.objects c.args.objects) _ c.match-branch-3.tree w.in_ok-below-in-Into.below _ (c.show_on.new.tree ∷ reverse c.walk.above.items) (w.tree-is ∙ w.replace.ensures.after) (stack_more c.walk.above.items c.match-branch-3.above.items c.show_on.new.tree kept)
      (walk_descends_less (g.F.Find.objects c.args.objects) (g.F.Find.faulty c.args.objects) g.V.Visit.steps _ _ c.walk.tree c.show_on.new.tree w.in_ok-below-in-Into.below (reverse c.walk.above.items) w.in-Into.oid (rw w.in-Into.is at c.in_ok-show_on.ensures.shows) c.in_ok-show_on.ensures.oid w.in_ok-below-in-Into.ensures)
  | in-End+in-Some w ↦
      let popped : c.walk.above.items ≡ c.match-branch-3.above.items ++ w.in-Some.upper ∷ [] = rw (← c.in_ok-show_on.ensures.same, w.above-is) w.in-Some.ensures.items in
      work_again (g.F.Find.objects c.args.objects) _ c.match-branch-3.tree w.in-Some.upper _ (reverse c.match-branch-3.above.items) (w.tree-is ∙ w.replace-shown.ensures.after) refl
      (walk_resumes_less (g.F.Find.objects c.args.objects) c.walk.tree w.in-Some.upper (reverse c.walk.above.items) (reverse c.match-branch-3.above.items) (stack_more c.match-branch-3.above.items c.walk.above.items w.in-Some.upper popped))
]

pub walk-preserved : goal.walk-preserved
walk-preserved g c = elim c.match-branch-3.branch [
  | in-Into+in_ok-below-in-Into+in_ok-keep-in-Into w ↦
      let kept : c.match-branch-3.above.items ≡ c.walk.above.items ++ c.show_on.new.tree ∷ [] = rw (w.above-is, w.in_ok-keep-in-Into.ensures, w.replace.ensures.value, c.in_ok-show_on.ensures.same) refl in
      let stack = stack_more c.walk.above.items c.match-branch-3.above.items c.show_on.new.tree kept in
      let below : c.match-branch-3.tree ≡ w.in_ok-below-in-Into.below = w.tree-is ∙ w.replace.ensures.after in
      let first : w.in_ok-below-in-Into.below.next ≡ 0 = w.in_ok-below-in-Into.ensures.1 in
      let within : AreWithin (w.in_ok-below-in-Into.below ∷ c.show_on.new.tree ∷ reverse c.walk.above.items) = (rw first (omega arith), (c.in_ok-show_on.ensures.within, c.walk.invariant.within.1)) in
      record {
        walk = walk_again (g.F.Find.objects c.args.objects) (g.F.Find.faulty c.args.objects) g.V.Visit.steps c.args.root c.args.delegate.now _ c.match-branch-3.tree w.in_ok-below-in-Into.below _ (c.show_on.new.tree ∷ reverse c.walk.above.items) below stack
            (walk_descends (g.F.Find.objects c.args.objects) (g.F.Find.faulty c.args.objects) g.V.Visit.steps c.args.root c.args.delegate.now _ _ _ c.walk.tree c.show_on.new.tree w.in_ok-below-in-Into.below (reverse c.walk.above.items) w.in-Into.oid c.walk.invariant.walk (rw w.in-Into.is at c.in_ok-show_on.ensures.shows) c.in_ok-show_on.ensures.oid w.in_ok-below-in-Into.ensures c.pop_back_tracked_path_and_set_current-in-walk.ensures);
        within = within_again c.match-branch-3.tree w.in_ok-below-in-Into.below _ (c.show_on.new.tree ∷ reverse c.walk.above.items) below stack within;
      }
  | in-End+in-Some w ↦
      let popped : c.walk.above.items ≡ c.match-branch-3.above.items ++ w.in-Some.upper ∷ [] = rw (← c.in_ok-show_on.ensures.same, w.above-is) w.in-Some.ensures.items in
      let stack = stack_more c.match-branch-3.above.items c.walk.above.items w.in-Some.upper popped in
      let upper : c.match-branch-3.tree ≡ w.in-Some.upper = w.tree-is ∙ w.replace-shown.ensures.after in
      let within : AreWithin (w.in-Some.upper ∷ reverse c.match-branch-3.above.items) = subst (λ l. AreWithin l) stack c.walk.invariant.within.1 in
      record {
        walk = walk_again (g.F.Find.objects c.args.objects) (g.F.Find.faulty c.args.objects) g.V.Visit.steps c.args.root c.args.delegate.now _ c.match-branch-3.tree w.in-Some.upper _ (reverse c.match-branch-3.above.items) upper refl
            (walk_resumes (g.F.Find.objects c.args.objects) (g.F.Find.faulty c.args.objects) g.V.Visit.steps c.args.root c.args.delegate.now _ _ _ c.walk.tree c.show_on.new.tree w.in-Some.upper (reverse c.walk.above.items) (reverse c.match-branch-3.above.items) c.walk.invariant.walk (rw w.in-End.is at c.in_ok-show_on.ensures.shows) stack c.pop_back_tracked_path_and_set_current-in-walk.ensures);
        within = within_again c.match-branch-3.tree w.in-Some.upper _ (reverse c.match-branch-3.above.items) upper refl within;
      }
]

pub returns : goal.returns
returns g c = elim c.match-branch-3.branch [
  | in-Broken w ↦ so_far_shown (g.F.Find.objects c.args.objects) (g.F.Find.faulty c.args.objects) g.V.Visit.steps c.args.root c.args.delegate.now _ _ c.walk.invariant.walk (rw w.in-Broken.is at c.in_ok-show_on.ensures.shows)
  | in-End+in_default w ↦
      let left : w.pop.new.self.items ≡ [] = rw w.in_default.ensures.cases.0 at w.in_default.ensures.rest in
      let none : c.walk.above.items ≡ [] = sym c.in_ok-show_on.ensures.same ∙ w.in_default.ensures.items ∙ ap (λ l. l ++ []) left in
      let walk = walk_again (g.F.Find.objects c.args.objects) (g.F.Find.faulty c.args.objects) g.V.Visit.steps c.args.root c.args.delegate.now _ c.walk.tree c.walk.tree [] (reverse c.walk.above.items) refl (sym (ap (λ l. reverse l) none)) c.walk.invariant.walk in
      let shows = subst (λ l. ShowsUpTo g.V.Visit.steps (c.walk.tree.oid ∷ ids_down l) (items_at c.walk.tree) c.walk.delegate c.show_on.new.delegate (Ok stop.End) (items_at c.show_on.new.tree)) (ap (λ l. reverse l) none) (rw w.in-End.is at c.in_ok-show_on.ensures.shows) in
      so_far_whole (g.F.Find.objects c.args.objects) (g.F.Find.faulty c.args.objects) g.V.Visit.steps c.args.root c.args.delegate.now _ (so_far_shown (g.F.Find.objects c.args.objects) (g.F.Find.faulty c.args.objects) g.V.Visit.steps c.args.root c.args.delegate.now _ _ walk shows)
]

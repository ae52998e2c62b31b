use Rattle.std.proofs.Common.{◌≡◌, ap, ◌∙◌}
use Rattle.gix_tree.proofs.Common.{kind_of, tree_items, items_left, error_of_find, items_of_object}
use Rattle.gix_tree.proofs.Levels.Loop.{so_far_start, so_far_shown, so_far_found, so_far_look_up_fails, so_far_whole}
use Rattle.gix_tree.proofs.Shown.{failed_so}
use Rattle.gix_tree.proofs.Work.Loops.{turn_lessens}
use Rattle.gix_tree.proofs.breadthfirst.breadthfirst.Goals as goal

pub returns-in_err-show_all : goal.returns-in_err-show_all
returns-in_err-show_all g c =
    rw (failed_so _ c.from_residual.result c.from_residual.ensures.1)
    (so_far_shown (g.F.Find.objects c.args.objects) (g.F.Find.faulty c.args.objects) g.V.Visit.steps (items_left c.args.root) c.args.delegate.now _ _ (so_far_start _ _ _ _ _) (rw c.clear.ensures at c.in_err-show_all.ensures))

pub loop-oid-init : goal.loop-oid-init
loop-oid-init g c = so_far_shown (g.F.Find.objects c.args.objects) (g.F.Find.faulty c.args.objects) g.V.Visit.steps (items_left c.args.root) c.args.delegate.now _ _ (so_far_start _ _ _ _ _) (rw c.clear.ensures at c.in_ok-show_all.ensures)

pub returns-in_err-find_kind_into : goal.returns-in_err-find_kind_into
returns-in_err-find_kind_into g c =
    rw (failed_so (error_of_find c.in_err-find_kind_into.field-0.0) c.from_residual-in_err-find_kind_into.result c.from_residual-in_err-find_kind_into.ensures.1)
    (so_far_look_up_fails (g.F.Find.objects c.args.objects) (g.F.Find.faulty c.args.objects) g.V.Visit.steps (items_left c.args.root) c.args.delegate.now _ _ c.in-Some.oid _ c.loop-oid.invariant c.in-Some.ensures c.pop_front_tracked_path_and_set_current.ensures c.in_err-find_kind_into.ensures)

pub loop-oid-smaller : goal.loop-oid-smaller
loop-oid-smaller g c =
    let items : items_left c.from_bytes-entries.result ≡ tree_items (kind_of c.in-Some.oid) c.find_kind_into.new.buf.items = c.from_bytes-entries.ensures.items ∙ (λ i. tree_items (c.kind.ensures i) (c.deref.ensures.value i)) in
    turn_lessens (g.F.Find.objects c.args.objects) g.V.Visit.steps c.in-Some.oid _ _ c.in-Some.ensures (ap (λ o. items_of_object c.in-Some.oid o) c.in_ok-find_kind_into.ensures) (rw items at c.in_ok-show_all-2.ensures)

pub loop-oid-preserved : goal.loop-oid-preserved
loop-oid-preserved g c =
    let items : items_left c.from_bytes-entries.result ≡ tree_items (kind_of c.in-Some.oid) c.find_kind_into.new.buf.items = c.from_bytes-entries.ensures.items ∙ (λ i. tree_items (c.kind.ensures i) (c.deref.ensures.value i)) in
    so_far_shown (g.F.Find.objects c.args.objects) (g.F.Find.faulty c.args.objects) g.V.Visit.steps (items_left c.args.root) c.args.delegate.now _ _
    (so_far_found (g.F.Find.objects c.args.objects) (g.F.Find.faulty c.args.objects) g.V.Visit.steps (items_left c.args.root) c.args.delegate.now _ _ c.in-Some.oid _ c.loop-oid.invariant c.in-Some.ensures c.pop_front_tracked_path_and_set_current.ensures c.in_ok-find_kind_into.ensures)
    (rw items at c.in_ok-show_all-2.ensures)

pub returns-in_err-show_all-2 : goal.returns-in_err-show_all-2
returns-in_err-show_all-2 g c =
    let items : items_left c.from_bytes-entries.result ≡ tree_items (kind_of c.in-Some.oid) c.find_kind_into.new.buf.items = c.from_bytes-entries.ensures.items ∙ (λ i. tree_items (c.kind.ensures i) (c.deref.ensures.value i)) in
    rw (failed_so _ c.from_residual-in_err-show_all-2.result c.from_residual-in_err-show_all-2.ensures.1)
    (so_far_shown (g.F.Find.objects c.args.objects) (g.F.Find.faulty c.args.objects) g.V.Visit.steps (items_left c.args.root) c.args.delegate.now _ _
    (so_far_found (g.F.Find.objects c.args.objects) (g.F.Find.faulty c.args.objects) g.V.Visit.steps (items_left c.args.root) c.args.delegate.now _ _ c.in-Some.oid _ c.loop-oid.invariant c.in-Some.ensures c.pop_front_tracked_path_and_set_current.ensures c.in_ok-find_kind_into.ensures)
    (rw items at c.in_err-show_all-2.ensures))

pub returns : goal.returns
returns g c = let h = c.in_default.ensures in so_far_whole (g.F.Find.objects c.args.objects) (g.F.Find.faulty c.args.objects) g.V.Visit.steps (items_left c.args.root) c.args.delegate.now _ (rw h.0 at c.loop-oid.invariant)

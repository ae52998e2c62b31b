use Rattle.std.proofs.Common.{◌≡◌, ◌∷◌, Result, length, reverse}
use Rattle.gix_tree.proofs.Common.{kind_of, bytes_left, id_kind, items_left, IsEndOf, Error, Stop, ShowsUpTo, ids_down, items_at, Items}
use Rattle.gix_tree.proofs.depthfirst.show_on.Given as goal

-- to show the entries that are left is to show all from the next one on
abbrev pub invariant-loop-entry : goal.invariant-loop-entry
invariant-loop-entry g l = record {
  shows : (new : g.row.V.Denot) (answer : Result Stop Error) (left : Items) → ShowsUpTo g.V.Visit.steps (l.fn.tree.oid ∷ ids_down (reverse l.fn.above.items)) (items_left l.entries) l.delegate new answer left
      → ShowsUpTo g.V.Visit.steps (l.fn.tree.oid ∷ ids_down (reverse l.fn.above.items)) (items_at l.fn.tree) l.fn.delegate new answer left;
  same : l.above.items ≡ l.fn.above.items;
  end : IsEndOf (bytes_left l.entries) l.fn.tree.bytes.items;
  kind : id_kind l.entries ≡ kind_of l.fn.tree.oid;
}

abbrev pub decreases-loop-entry : goal.decreases-loop-entry
decreases-loop-entry g l = length (items_left l.entries)

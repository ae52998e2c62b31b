-- The common ancestors of pairs, so far.
use Rattle.std.proofs.Common.{◌++◌, ◌∷◌, List, [], refl, sym, ap, ◌∙◌, append_assoc, append-nil}
use Rattle.gix_hash.specs.declared.ObjectId.{ObjectId}
use Rattle.gix_commitgraph.specs.Rows.{GraphRow}
use Rattle.gix_graph_store.specs.WithRows.{with_rows}
use Rattle.gix_merge_base.specs.Bases.{FindsBases}
use Rattle.gix_object.specs.Object.{Objects}
use Rattle.gix_questions.specs.Common.{AreCommon}
use Rattle.gix_questions.specs.declared.chosen.Pair.{Pair}

pub one_more : (objects : Objects) (rows : List GraphRow) (pairs : List Pair) (ids : List ObjectId) (p : Pair) (found : List ObjectId)
    → AreCommon objects rows pairs ids → FindsBases (with_rows rows objects) rows p.one (p.other ∷ []) found
    → AreCommon objects rows (pairs ++ p ∷ []) (ids ++ found)
one_more objects rows [] ids p found h f = (found, [], f, refl, ap (λ xs. xs ++ found) h ∙ sym (append-nil found))
one_more objects rows (q ∷ pairs) ids p found (first, more, g, rest, is) f =
    (first, more ++ found, g, one_more objects rows pairs more p found rest f, ap (λ xs. xs ++ found) is ∙ append_assoc first more found)

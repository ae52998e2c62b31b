-- The best common ancestors of pairs.
use Rattle.std.specs.Prelude.{◌≡◌, ◌++◌, ◌∷◌, List, []}
use Rattle.gix_hash.specs.declared.ObjectId.{ObjectId}
use Rattle.gix_commitgraph.specs.Rows.{GraphRow}
use Rattle.gix_graph_store.specs.WithRows.{with_rows}
use Rattle.gix_merge_base.specs.Bases.{FindsBases}
use Rattle.gix_object.specs.Object.{Objects}
use Rattle.gix_questions.specs.declared.chosen.Pair.{Pair}

-- one after the other, the answers for each pair over these objects and rows
abbrev pub AreCommon : Objects → List GraphRow → List Pair → List ObjectId → Type 0
AreCommon objects rows [] ids = ids ≡ []
AreCommon objects rows (p ∷ pairs) ids =
    (found more : List ObjectId)
    × FindsBases (with_rows rows objects) rows p.one (p.other ∷ []) found
    × AreCommon objects rows pairs more × (ids ≡ found ++ more)

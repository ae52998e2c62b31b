use Rattle.std.proofs.Common.{◌≡◌, true, drop}
use Rattle.gix_hash.specs.declared.ObjectId.{ObjectId}
use Rattle.gix_hash.specs.Id.{is_among}
use Rattle.gix_graph_store.specs.StoredRows.{IsStoredAt}
use Rattle.gix_graph_store.proofs.stored.agree_at.Given as goal

-- if the ids that are left are right, all are
abbrev pub invariant-loop-id : goal.invariant-loop-id
invariant-loop-id g l = ((i : ObjectId) → is_among i (drop l.id-index l.ids) ≡ true → IsStoredAt l.graph (g.F.Find.objects l.store) i)
    → (i : ObjectId) → is_among i l.ids ≡ true → IsStoredAt l.graph (g.F.Find.objects l.store) i

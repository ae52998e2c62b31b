-- The row of an id, where it is looked for first.
use Rattle.std.proofs.Common.{◌≡◌, ℕ, List, true, Some, slice_get, sym, ap, ◌∙◌}
use Rattle.std.specs.Cmp.{Equal-is}
use Rattle.std.specs.List.Sorted.{IsStrictlySortedBy}
use Rattle.gix_revwalk.proofs.Common.{slice_get_within, get_or_from_slice_get, ObjectId, id_cmp, is_same, same_is, same_from, GraphRow, no_row, row_at, row_of}
use Rattle.gix_commitgraph.specs.Packed.{ids_of_rows}
use Rattle.gix_commitgraph.proofs.Packed.RowSearch.{row_of-found}

pub found_near : (rows : List GraphRow) (i : ObjectId) (n : ℕ) (row : GraphRow) (own : ObjectId) → IsStrictlySortedBy id_cmp (ids_of_rows rows) → slice_get rows n ≡ Some row → own ≡ row.id → is_same own i ≡ true → Some row ≡ row_of rows i
found_near rows i n row own rising there same e =
    let is : row.id ≡ i = sym same ∙ same_is own i e in
    let read : row_at rows n ≡ row = get_or_from_slice_get rows n row no_row there in
    let found : row_of rows i ≡ Some (row_at rows n) = row_of-found rows i n rising (slice_get_within rows n row there) ((Equal-is (id_cmp (row_at rows n).id i)).0 (same_from (row_at rows n).id i (ap (λ (r : GraphRow). r.id) read ∙ is))) in
    sym (found ∙ ap Some read)

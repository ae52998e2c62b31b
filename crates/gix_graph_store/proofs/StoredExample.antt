-- A worked store: where an object is stored at the id of a row, the row writes nothing.
use Rattle.std.proofs.Common.{◌≡◌, Some, codes}
use Rattle.std.specs.FinMap.{empty, get, insert, get-insert}
use Rattle.gix_hash.proofs.Ids.Membership.{id_total}
use Rattle.gix_object.specs.declared.Kind.TheVariants as kind
use Rattle.gix_object.specs.Object.{Object, Objects}
use Rattle.gix_graph_store.specs.WithRows.{with_rows}
use Rattle.gix_graph_store.specs.StoreExamples.{example_id, three_rows}
use Rattle.gix_graph_store.proofs.SoundRows.{stored-stays}

abbrev eleven : Object
eleven = record { kind = kind.Blob; bytes = codes "eleven" }

abbrev store : Objects
store = insert empty (example_id 0x11) eleven

pub stored_counts : get (with_rows three_rows store) (example_id 0x11) ≡ Some eleven
stored_counts = stored-stays three_rows store (example_id 0x11) eleven (get-insert id_total empty (example_id 0x11) eleven (example_id 0x11))

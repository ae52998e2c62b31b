use Rattle.gix_commitgraph.proofs.Packed.HandedRows.{is_of_kind_cases}
use Rattle.gix_commitgraph.proofs.rows.is_of_kind.Goals as goal

pub returns : goal.returns
returns c = is_of_kind_cases c.args.kind c.args.id.now c.as_bytes.result.now c.has_len_of.result c.as_bytes.ensures.value c.as_bytes.ensures.len c.has_len_of.ensures.bytes c.has_len_of.ensures.len

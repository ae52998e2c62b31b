use Rattle.std.proofs.Common.{ap, w64, ◌∙◌}
use Rattle.std.proofs.lemmas.Int.{to_z-of_z}
use Rattle.std.specs.Fmt.{signed_decimal}
use Rattle.gix_graph_store.proofs.Lines.{people_written}
use Rattle.gix_graph_store.proofs.text.add_people.Goals as goal

pub returns : goal.returns
returns c =
    people_written _ _ _ _ _ _ _ _ c.in_ok-extend_from_slice.ensures.items c.in_ok-extend_from_slice-2.ensures.items
    (c.as_bytes.ensures.value ∙ c.format.ensures.text ∙ ap signed_decimal (to_z-of_z w64 c.args.seconds c.ranges.seconds)) c.in_ok-extend_from_slice-3.ensures.items

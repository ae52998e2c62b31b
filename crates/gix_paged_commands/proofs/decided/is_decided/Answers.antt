use Rattle.std.proofs.Common.{false, sym, ap, subst}
use Rattle.gix_words.specs.Words.{Request, request_of_command}
use Rattle.gix_commands.specs.Readable.{readable}
use Rattle.gix_graph_pages.specs.PagedRows.{IsAbove}
use Rattle.gix_graph_store.specs.WithRows.{with_rows}
use Rattle.gix_paged_commands.specs.Decided.{AreAllAbove, DecidesRequest}
use Rattle.gix_paged_commands.proofs.decided.is_decided.Goals as goal

pub returns-in-Contained : goal.returns-in-Contained
returns-in-Contained g c t =
    let Above = IsAbove c.args.line.now.pages.now c.args.line.now.graph.now c.args.line.now.least in
    subst (λ (r : Request). DecidesRequest Above (readable false (with_rows c.args.line.now.graph.now c.args.store.now)) c.args.line.now.graph.now r) (sym (ap request_of_command c.in-Contained.is))
    (subst (AreAllAbove Above) c.as_slice-in-Contained.ensures.value (c.are_all_above.ensures t))

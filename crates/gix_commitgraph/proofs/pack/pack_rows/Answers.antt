use Rattle.std.proofs.Common.{ℕ, subst, sym, ◌∙◌, arith}
use Rattle.gix_commitgraph.proofs.Common.{rows_seen, arranged, HasPlaces, AreNumbers, IsHeadOf}
use Rattle.gix_commitgraph.proofs.Packed.Arrangement.{length-order, has_places, can_arrange, kind_of_graph, length-graph, words_of_graph, are_graph_rows, has_same_rows}
use Rattle.gix_commitgraph.proofs.pack.pack_rows.Goals as goal
use Rattle.gix_commitgraph.proofs.pack.pack_rows.Goals.{After-as_slice}

told : (c : After-as_slice) → AreNumbers c.args.order.now c.as_slice.result.now
told c = rw c.as_slice.ensures.value c.in_ok-numbers.ensures

head : (c : After-as_slice) → IsHeadOf c.args.layout (arranged (rows_seen c.args.rows.now) c.args.order.now c.as_slice.result.now)
head c =
    let rows = rows_seen c.args.rows.now in
    let layout = c.requires.layout in
    record {
      kind = sym (kind_of_graph rows c.args.order.now c.as_slice.result.now c.requires.same (told c) c.args.layout.kind (sym layout.head.kind) layout.kinds);
      count = layout.head.count ∙ sym (length-graph rows c.args.order.now c.as_slice.result.now c.requires.same (told c));
      words = layout.head.words ∙ sym (words_of_graph rows c.args.order.now c.as_slice.result.now c.requires.same (told c));
    }

pub numbers-requires-clause-few : goal.numbers-requires-clause-few
numbers-requires-clause-few c = omega (arith, c.requires.layout.few.0, length-order (rows_seen c.args.rows.now) c.args.order.now c.requires.same)

pub numbers-requires-clause-places : goal.numbers-requires-clause-places
numbers-requires-clause-places c =
    let rows = rows_seen c.args.rows.now in
    subst (λ (n : ℕ). HasPlaces n c.args.order.now) (sym (length-order rows c.args.order.now c.requires.same)) (has_places rows c.args.order.now c.requires.same c.requires.rising)

pub pack-requires-clause-arranged : goal.pack-requires-clause-arranged
pack-requires-clause-arranged c =
    can_arrange (rows_seen c.args.rows.now) c.args.order.now c.as_slice.result.now c.requires.same (told c) c.requires.rising c.requires.accepted.3 c.requires.layout.few.1

pub pack-requires-clause-head : goal.pack-requires-clause-head
pack-requires-clause-head c = head c

pub returns : goal.returns
returns c =
    let rows = rows_seen c.args.rows.now in
    let order = c.args.order.now in
    let numbers = c.as_slice.result.now in
    let here = (goal.at.returns c).After-as_slice in
    let layout = c.requires.layout in
    record {
      graph = arranged rows order numbers;
      kept = record {
        sound = are_graph_rows rows order numbers c.requires.same (told here) c.args.layout.kind (sym layout.head.kind) layout.kinds c.requires.rising c.requires.accepted.3 layout.few.0 layout.few.1 c.in_ok-packed.ensures.range;
        spelled = c.in_ok-packed.ensures.bytes;
        head = head here;
      };
      same = has_same_rows rows order numbers c.requires.same (told here);
    }

use Rattle.std.proofs.Common.{◌+◌, ◌<◌, ◌≤◌, List, Vec, Global, [], ◌∷◌, ◌++◌, length, ap, sym, ◌∙◌, arith, append_assoc, append-nil}
use Rattle.gix_hash.specs.declared.ObjectId.{ObjectId}
use Rattle.gix_commitgraph.specs.GraphCommit.{row_of_commit}
use Rattle.gix_graph_check.proofs.Marking.{left_heads, heads-start, heads-end, heads-same, heads-more}
use Rattle.gix_graph_check.proofs.named.unmarked.Goals as goal
use Rattle.gix_graph_check.proofs.named.unmarked.Goals.{then-not-named-number+in_ok-push, else-not-named-number}

pub loop-number-init : goal.loop-number-init
loop-number-init c = ap (λ ids. ids ++ left_heads c.args.graph.now 0) c.new-ids.ensures.items ∙ heads-start c.args.graph.now

pub loop-number-preserved : goal.loop-number-preserved
loop-number-preserved c =
    let lt : c.loop-number.number < length c.args.graph.now = omega arith in
    elim c.if-not-named-number.branch [
      | then-not-named-number+in_ok-push w ↦
          ap (λ (ids : Vec ObjectId Global). ids.items ++ left_heads c.args.graph.now (c.loop-number.number + 1)) w.ids-is
          ∙ ap (λ (ids : List ObjectId). ids ++ left_heads c.args.graph.now (c.loop-number.number + 1)) w.in_ok-push.ensures.items
          ∙ append_assoc c.loop-number.ids.items (w.id.result ∷ []) (left_heads c.args.graph.now (c.loop-number.number + 1))
          ∙ ap (λ more. c.loop-number.ids.items ++ more) (sym (heads-more c.args.graph.now c.args.named.now c.requires c.loop-number.number lt (row_of_commit w.commit_at.result) w.id.result w.if-not-named-number.true w.commit_at.ensures.row w.id.ensures))
          ∙ c.loop-number.invariant
      | else-not-named-number w ↦
          ap (λ (ids : Vec ObjectId Global). ids.items ++ left_heads c.args.graph.now (c.loop-number.number + 1)) w.ids-is
          ∙ ap (λ more. c.loop-number.ids.items ++ more) (sym (heads-same c.args.graph.now c.args.named.now c.requires c.loop-number.number lt w.if-not-named-number.false))
          ∙ c.loop-number.invariant
    ]

pub returns : goal.returns
returns c =
    let le : length c.args.graph.now ≤ c.loop-number.number = omega arith in
    sym (append-nil c.loop-number.ids.items) ∙ ap (λ more. c.loop-number.ids.items ++ more) (sym (heads-end c.args.graph.now c.loop-number.number le)) ∙ c.loop-number.invariant

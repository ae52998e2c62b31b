use Rattle.std.proofs.Common.{◌≡◌, ◌&&◌, is_some, [], sym, ap, subst, ◌∙◌, if◌then◌else◌}
use Rattle.gix_paint.proofs.Common.{err_from_is_err_and, Objects, Paints, hidden_of, ids_of}
use Rattle.gix_revwalk.specs.Agreeing.{rows_in, rows_of}
use Rattle.gix_paint.proofs.MarksAreWhole.{IsBlank, safe_start, holds_start, paints}
use Rattle.gix_paint.proofs.Faults.{turn_fails}
use Rattle.gix_paint.proofs.Ends.{turn_less}
use Rattle.gix_paint.proofs.Order.{holds_turn}
use Rattle.gix_paint.proofs.Turn.{turn_of, safe_turn}
use Rattle.gix_paint.proofs.paint.Goals as goal

pub loop-generation-init : goal.loop-generation-init
loop-generation-init g c =
    let blank : (history : Objects) → IsBlank g.F.Find.objects c.args.objects.now history (rows_in c.args.graph) (ids_of c.args.tips.now.items) c.args.hidden_tips.now _ = λ history. record { same_store = ap (λ o. o.now) c.new.ensures.objects; same_rows = ap rows_of c.new.ensures.graph ∙ c.in_ok-graph.ensures; in_use = c.new.ensures.in_use; marks = c.new-2.ensures; frontier = c.new-3.ensures; queue = c.new-4.ensures } in
    record {
      safe = safe_start g.F.Find.objects c.args.objects.now (g.F.Find.objects c.args.objects.now) (rows_in c.args.graph) (ids_of c.args.tips.now.items) c.args.hidden_tips.now (blank (g.F.Find.objects c.args.objects.now)) c.in_ok-show_all.ensures c.in_ok-meet_all.ensures;
      holds = λ history known. holds_start g.F.Find.objects c.args.objects.now history (rows_in c.args.graph) (ids_of c.args.tips.now.items) c.args.hidden_tips.now (blank history) c.in_ok-show_all.ensures c.in_ok-meet_all.ensures;
    }

pub loop-generation-preserved : goal.loop-generation-preserved
loop-generation-preserved g c =
    let pops = c.in-Some.ensures.some.1 in
    let turn = turn_of g.F.Find.objects (c.in-Some.generation, c.in-Some.entry) pops c.in_ok-treat.ensures.ok in
    record {
      safe = safe_turn g.F.Find.objects c.args.objects.now (g.F.Find.objects c.args.objects.now) (rows_in c.args.graph) (ids_of c.args.tips.now.items) c.args.hidden_tips.now (c.in-Some.generation, c.in-Some.entry) pops c.loop-generation.invariant.safe turn;
      holds = λ history known.
          holds_turn g.F.Find.objects c.args.objects.now history (rows_in c.args.graph) (ids_of c.args.tips.now.items) c.args.hidden_tips.now known (c.in-Some.generation, c.in-Some.entry) pops
          c.loop-generation.invariant.safe (c.loop-generation.invariant.holds history known) c.in-Some.ensures.some.0 turn;
    }

pub loop-generation-smaller : goal.loop-generation-smaller
loop-generation-smaller g c =
    let pops = c.in-Some.ensures.some.1 in
    turn_less g.F.Find.objects c.args.objects.now (rows_in c.args.graph) (c.in-Some.generation, c.in-Some.entry) pops c.loop-generation.invariant.safe
    (turn_of g.F.Find.objects (c.in-Some.generation, c.in-Some.entry) pops c.in_ok-treat.ensures.ok)

pub returns-in_err-treat-clause-fault : goal.returns-in_err-treat-clause-fault
returns-in_err-treat-clause-fault g c =
    let p = err_from_is_err_and c.from_residual-in_err-treat.result c.from_residual-in_err-treat.ensures.1 in
    rw (p.1, p.2)
    (turn_fails g.F.Find.objects g.F.Find.faulty c.args.objects.now (rows_in c.args.graph) (ids_of c.args.tips.now.items) c.args.hidden_tips.now _ (c.in-Some.generation, c.in-Some.entry) c.in-Some.ensures.some.1
    c.loop-generation.invariant.safe c.in-Some.ensures.some.0 c.loop-generation.invariant.holds c.in_err-treat.ensures.fault)

pub returns-clause-ok : goal.returns-clause-ok
returns-clause-ok g c =
    let told : c.uses_rows.result ≡ (c.loop-generation.painter.source.in_use && is_some c.loop-generation.painter.source.graph) = c.uses_rows.ensures ∙ ap (λ p. p.source.in_use && is_some p.source.graph) c.in_default.ensures.none.1 in
    subst (λ p. Paints (g.F.Find.objects c.args.objects.now) (rows_in c.args.graph) (ids_of c.args.tips.now.items) c.args.hidden_tips.now (hidden_of p.marks) (if c.uses_rows.result then rows_in c.args.graph else [])) (sym c.in_default.ensures.none.1)
    (paints g.F.Find.objects c.args.objects.now (rows_in c.args.graph) (ids_of c.args.tips.now.items) c.args.hidden_tips.now c.loop-generation.painter c.loop-generation.invariant.safe c.in_default.ensures.none.0 c.uses_rows.result told c.loop-generation.invariant.holds)

use Rattle.std.proofs.Common.{◌<◌, List, Contains, refl, sym, ap, ◌∙◌, subst, inl, inr, ⊎_elim, arith}
use Rattle.gix_hash.specs.declared.ObjectId.{ObjectId}
use Rattle.gix_contained.specs.declared.search.Search.{Search}
use Rattle.gix_contained.specs.Inside.Search.{AreAsked, Decides}
use Rattle.gix_contained.proofs.Deciding.{decided, goes_start, goes_by, by_less, goes_on, on_less, start_fails, turn_fails}
use Rattle.gix_contained.proofs.Meeting.{fails_as}
use Rattle.gix_revwalk.specs.Agreeing.{rows_in, rows_of}
use Rattle.gix_contained.proofs.search.reached.Goals as goal
use Rattle.gix_contained.proofs.search.reached.Goals.{in-Some+in_default-pop, in_default}
use Rattle.gix_hash.proofs.Ids.Membership.{no_member}

pub returns-in_err-meet_all-clause-fault : goal.returns-in_err-meet_all-clause-fault
returns-in_err-meet_all-clause-fault g c =
    let blank : Search g.row.F.Denot = record { source = c.new.result; met = c.new-2.result; queue = c.new-3.result } in
    fails_as _ c.from_residual-in_err-meet_all.result c.from_residual-in_err-meet_all.ensures.1
    (start_fails g.F.Find.objects g.F.Find.faulty c.args.objects.now (rows_in c.args.graph) c.args.tips.now c.args.asked blank (ap (λ o. o.now) c.new.ensures.objects) (ap rows_of c.new.ensures.graph ∙ c.in_ok-graph.ensures) c.new-2.ensures c.new-3.ensures c.new.ensures.in_use c.in_err-meet_all.field-0.0 c.in_err-meet_all.ensures.fault)

pub loop-lowest-init : goal.loop-lowest-init
loop-lowest-init g c = goes_start g.F.Find.objects g.F.Find.faulty c.args.objects.now (rows_in c.args.graph) c.args.tips.now c.args.asked (record { source = c.new.result; met = c.new-2.result; queue = c.new-3.result }) (ap (λ o. o.now) c.new.ensures.objects) (ap rows_of c.new.ensures.graph ∙ c.in_ok-graph.ensures) c.new-2.ensures c.new-3.ensures c.new.ensures.in_use c.in_ok-meet_all.ensures.ok

pub returns-clause-ok : goal.returns-clause-ok
returns-clause-ok g c =
    let Tells : Search g.row.F.Denot → Type 0 = λ s. (ids : List ObjectId) → AreAsked (rows_in c.args.graph) ids c.args.asked → Decides (g.F.Find.objects c.args.objects.now) (rows_in c.args.graph) c.args.tips.now ids s.met in
    elim c.match-lowest_left.branch [
      | in-Some+in_default-pop w ↦ subst Tells (sym w.search-is)
          (decided g.F.Find.objects g.F.Find.faulty c.args.objects.now (rows_in c.args.graph) c.args.tips.now c.args.asked c.loop-lowest.invariant (inr w.in_default-pop.ensures.empty.0))
      | in_default w ↦ subst Tells (sym w.search-is)
          (decided g.F.Find.objects g.F.Find.faulty c.args.objects.now (rows_in c.args.graph) c.args.tips.now c.args.asked c.loop-lowest.invariant
          (inl (λ q m. ⊎_elim (λ e. e) (λ n. absurd (no_member q (subst (λ qs. Contains qs q) w.in_default.ensures.none n))) (c.lowest_left.ensures.left q m))))
    ]

pub loop-lowest-preserved-else-key-lowest : goal.loop-lowest-preserved-else-key-lowest
loop-lowest-preserved-else-key-lowest g c =
    let mid : Search g.row.F.Denot = record { source = c.loop-lowest.search.source; met = c.loop-lowest.search.met; queue = c.pop.new.self } in
    goes_by g.F.Find.objects g.F.Find.faulty c.args.objects.now (rows_in c.args.graph) c.args.tips.now c.args.asked c.loop-lowest.asked c.lowest_left.new.asked c.loop-lowest.search mid c.loop-lowest.invariant
    c.lowest_left.ensures.left c.lowest_left.ensures.within c.in-Some.lowest c.in-Some.ensures.some (c.in-Some-pop.key, c.in-Some-pop.waiting) refl refl c.in-Some-pop.ensures.rest
    (let less : c.in-Some-pop.key.generation < c.in-Some.lowest = c.if-key-lowest.false in omega arith)

pub loop-lowest-smaller-else-key-lowest : goal.loop-lowest-smaller-else-key-lowest
loop-lowest-smaller-else-key-lowest g c =
    let mid : Search g.row.F.Denot = record { source = c.loop-lowest.search.source; met = c.loop-lowest.search.met; queue = c.pop.new.self } in
    by_less g.F.Find.objects g.F.Find.faulty c.args.objects.now (rows_in c.args.graph) c.args.tips.now c.args.asked c.loop-lowest.asked c.lowest_left.new.asked c.loop-lowest.search mid c.loop-lowest.invariant
    c.lowest_left.ensures.left c.lowest_left.ensures.within c.in-Some.lowest c.in-Some.ensures.some (c.in-Some-pop.key, c.in-Some-pop.waiting) refl refl c.in-Some-pop.ensures.rest

pub loop-lowest-preserved-else-key-lowest-2 : goal.loop-lowest-preserved-else-key-lowest-2
loop-lowest-preserved-else-key-lowest-2 g c =
    let mid : Search g.row.F.Denot = record { source = c.loop-lowest.search.source; met = c.loop-lowest.search.met; queue = c.pop.new.self } in
    goes_by g.F.Find.objects g.F.Find.faulty c.args.objects.now (rows_in c.args.graph) c.args.tips.now c.args.asked c.loop-lowest.asked c.lowest_left.new.asked c.loop-lowest.search mid c.loop-lowest.invariant
    c.lowest_left.ensures.left c.lowest_left.ensures.within c.in-Some.lowest c.in-Some.ensures.some (c.in-Some-pop.key, c.in-Some-pop.waiting) refl refl c.in-Some-pop.ensures.rest
    (let less : c.in-Some-pop.key.generation < c.in-Some.lowest = c.if-key-lowest.false in omega arith)

pub loop-lowest-smaller-else-key-lowest-2 : goal.loop-lowest-smaller-else-key-lowest-2
loop-lowest-smaller-else-key-lowest-2 g c =
    let mid : Search g.row.F.Denot = record { source = c.loop-lowest.search.source; met = c.loop-lowest.search.met; queue = c.pop.new.self } in
    by_less g.F.Find.objects g.F.Find.faulty c.args.objects.now (rows_in c.args.graph) c.args.tips.now c.args.asked c.loop-lowest.asked c.lowest_left.new.asked c.loop-lowest.search mid c.loop-lowest.invariant
    c.lowest_left.ensures.left c.lowest_left.ensures.within c.in-Some.lowest c.in-Some.ensures.some (c.in-Some-pop.key, c.in-Some-pop.waiting) refl refl c.in-Some-pop.ensures.rest

pub loop-lowest-preserved : goal.loop-lowest-preserved
loop-lowest-preserved g c =
    let mid : Search g.row.F.Denot = record { source = c.loop-lowest.search.source; met = c.loop-lowest.search.met; queue = c.pop.new.self } in
    goes_by g.F.Find.objects g.F.Find.faulty c.args.objects.now (rows_in c.args.graph) c.args.tips.now c.args.asked c.loop-lowest.asked c.lowest_left.new.asked c.loop-lowest.search mid c.loop-lowest.invariant
    c.lowest_left.ensures.left c.lowest_left.ensures.within c.in-Some.lowest c.in-Some.ensures.some (c.in-Some-pop.key, c.in-Some-pop.waiting) refl refl c.in-Some-pop.ensures.rest
    (let less : c.in-Some-pop.key.generation < c.in-Some.lowest = c.if-key-lowest.false in omega arith)

pub loop-lowest-smaller : goal.loop-lowest-smaller
loop-lowest-smaller g c =
    let mid : Search g.row.F.Denot = record { source = c.loop-lowest.search.source; met = c.loop-lowest.search.met; queue = c.pop.new.self } in
    by_less g.F.Find.objects g.F.Find.faulty c.args.objects.now (rows_in c.args.graph) c.args.tips.now c.args.asked c.loop-lowest.asked c.lowest_left.new.asked c.loop-lowest.search mid c.loop-lowest.invariant
    c.lowest_left.ensures.left c.lowest_left.ensures.within c.in-Some.lowest c.in-Some.ensures.some (c.in-Some-pop.key, c.in-Some-pop.waiting) refl refl c.in-Some-pop.ensures.rest

pub loop-lowest-preserved-in-Continue-branch-3 : goal.loop-lowest-preserved-in-Continue-branch-3
loop-lowest-preserved-in-Continue-branch-3 g c =
    let mid : Search g.row.F.Denot = record { source = c.loop-lowest.search.source; met = c.loop-lowest.search.met; queue = c.pop.new.self } in
    goes_on g.F.Find.objects g.F.Find.faulty c.args.objects.now (rows_in c.args.graph) c.args.tips.now c.args.asked c.loop-lowest.asked c.lowest_left.new.asked c.loop-lowest.search mid c.loop-lowest.invariant
    c.lowest_left.ensures.left c.lowest_left.ensures.within c.in-Some.lowest c.in-Some.ensures.some (c.in-Some-pop.key, c.in-Some-pop.waiting) refl refl c.in-Some-pop.ensures.rest
    c.if-key-lowest.true c.in_ok-follow.ensures.ok

pub loop-lowest-smaller-in-Continue-branch-3 : goal.loop-lowest-smaller-in-Continue-branch-3
loop-lowest-smaller-in-Continue-branch-3 g c =
    let mid : Search g.row.F.Denot = record { source = c.loop-lowest.search.source; met = c.loop-lowest.search.met; queue = c.pop.new.self } in
    on_less g.F.Find.objects g.F.Find.faulty c.args.objects.now (rows_in c.args.graph) c.args.tips.now c.args.asked c.loop-lowest.asked c.lowest_left.new.asked c.loop-lowest.search mid c.loop-lowest.invariant
    c.lowest_left.ensures.left c.lowest_left.ensures.within c.in-Some.lowest c.in-Some.ensures.some (c.in-Some-pop.key, c.in-Some-pop.waiting) refl refl c.in-Some-pop.ensures.rest
    c.if-key-lowest.true c.in_ok-follow.ensures.ok

pub returns-in_err-follow-clause-fault : goal.returns-in_err-follow-clause-fault
returns-in_err-follow-clause-fault g c =
    let mid : Search g.row.F.Denot = record { source = c.loop-lowest.search.source; met = c.loop-lowest.search.met; queue = c.pop.new.self } in
    fails_as _ c.from_residual-in_err-follow.result c.from_residual-in_err-follow.ensures.1
    (turn_fails g.F.Find.objects g.F.Find.faulty c.args.objects.now (rows_in c.args.graph) c.args.tips.now c.args.asked c.loop-lowest.asked c.lowest_left.new.asked c.loop-lowest.search mid c.loop-lowest.invariant
    c.lowest_left.ensures.left c.lowest_left.ensures.within c.in-Some.lowest c.in-Some.ensures.some (c.in-Some-pop.key, c.in-Some-pop.waiting) refl refl c.in-Some-pop.ensures.rest
    c.if-key-lowest.true c.in_err-follow.field-0.0 c.in_err-follow.ensures.fault)

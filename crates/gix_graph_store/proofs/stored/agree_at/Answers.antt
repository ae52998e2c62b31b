use Rattle.std.proofs.Common.{rules, arith, ◌≡◌, IsTrue, true, subst}
use Rattle.std.proofs.lemmas.Bool.{false≢true}
use Rattle.std.proofs.lemmas.List.{drop_more, drop_all}
use Rattle.gix_hash.specs.Id.{is_among}
use Rattle.gix_graph_store.proofs.StoredCommits.{next-stored, all-stored-at}
use Rattle.gix_graph_store.proofs.stored.agree_at.Goals as goal

pub loop-id-preserved : goal.loop-id-preserved
loop-id-preserved g c = λ rest.
    let is : IsTrue c.agrees_at.result = search rules in
    c.loop-id.invariant (next-stored c.args.graph.now (g.F.Find.objects c.args.store.now) _ _ _ (drop_more c.args.ids.now c.loop-id.id-index _ (search rules)) (c.agrees_at.ensures is) rest)

pub returns : goal.returns
returns g c = λ is. all-stored-at c.args.graph.now (g.F.Find.objects c.args.store.now) c.requires.rows c.args.ids.now c.requires.all
    (c.loop-id.invariant (λ i among. absurd (false≢true (subst (λ ids. is_among i ids ≡ true) (drop_all c.loop-id.id-index c.args.ids.now (omega arith)) among))))

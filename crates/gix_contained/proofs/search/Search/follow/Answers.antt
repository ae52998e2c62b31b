use Rattle.std.proofs.Common.{List, refl, subst}
use Rattle.std.proofs.lemmas.Result.{IfOk-weaker}
use Rattle.gix_hash.specs.declared.ObjectId.{ObjectId}
use Rattle.gix_contained.specs.declared.search.Search.{Search}
use Rattle.gix_contained.specs.Inside.Search.{Meets}
use Rattle.gix_contained.proofs.search.Search.follow.Goals as goal

pub returns-clause-ok : goal.returns-clause-ok
returns-clause-ok g c =
    let mid : Search g.row.F.Denot = record { source = c.parents.new.source; met = c.args.self.now.met; queue = c.args.self.now.queue } in
    IfOk-weaker c.meet_all.result _ _ (λ x met. record {
      mid = mid;
      ids = c.in_ok-parent_ids.field-0.parent_ids.items;
      objects_stay = c.in_ok-parent_ids.ensures.objects;
      graph_stays = c.in_ok-parent_ids.ensures.graph;
      met_stays = refl;
      queue_stays = refl;
      gives = c.in_ok-parent_ids.ensures.parents;
      meets = subst (λ (xs : List ObjectId). Meets g.F.Find.objects xs mid c.meet_all.new.self) c.as_slice.ensures met;
    }) c.meet_all.ensures.ok

use Rattle.std.proofs.Common.{[], false, ap, ◌∙◌, if◌then◌else◌}
use Rattle.gix_revwalk.specs.Reading.{rows_of}
use Rattle.gix_simple.proofs.TreatsId.{made_of_none, treats_last}
use Rattle.gix_simple.proofs.Simple.filtered.Goals as goal

pub loop-tip-init : goal.loop-tip-init
loop-tip-init g c =
    let rows = ap (λ b. if b then rows_of c.new.result.graph else []) c.new.ensures.in_use ∙ ap rows_of c.new.ensures.graph in record {
      made = made_of_none g.F.Find.objects g.F.Find.faulty g.P.Predicate.answers c.args.find c.args.predicate _ (cc (c.new.ensures.objects, rows, c.new-5.ensures.items, c.new-7.ensures.items));
      asks = c.requires.asks;
    }

pub loop-tip-preserved : goal.loop-tip-preserved
loop-tip-preserved g c = record {
  made = treats_last g.F.Find.objects g.F.Find.faulty g.P.Predicate.answers false c.loop-tip.invariant.made c.in-Ok.ensures.treats;
  asks = c.in-Ok.ensures.asks;
}

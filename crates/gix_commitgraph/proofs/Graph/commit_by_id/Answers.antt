use Rattle.std.proofs.Common.{◌≡◌, sym, ◌∙◌, arith, inl, inr, Equal}
use Rattle.std.proofs.lemmas.Bool.{cases_lt}
use Rattle.std.proofs.lemmas.Option.{slice_get-get_or}
use Rattle.gix_commitgraph.proofs.Common.{id_cmp, row_at, no_row}
use Rattle.gix_commitgraph.proofs.Packed.RowSearch.{lower_more, higher_more, row_of-found, row_of-none, other_from_less, other_from_greater}
use Rattle.gix_commitgraph.proofs.Graph.commit_by_id.Goals as goal

pub loop-low-preserved-in-Less : goal.loop-low-preserved-in-Less
loop-low-preserved-in-Less c = record {
  in_order = omega arith;
  within = c.loop-low.invariant.within;
  lower = lower_more c.args.self.now c.num_commits-high.ensures.sound.rising c.args.id.now c.probe-middle.result (omega arith) (sym c.compare_at.ensures ∙ c.in-Less.is);
  higher = c.loop-low.invariant.higher;
}

pub loop-low-preserved : goal.loop-low-preserved
loop-low-preserved c = record {
  in_order = omega arith;
  within = omega arith;
  lower = c.loop-low.invariant.lower;
  higher = higher_more c.args.self.now c.num_commits-high.ensures.sound.rising c.args.id.now c.probe-middle.result (omega arith) (sym c.compare_at.ensures ∙ c.in-Greater.is);
}

pub returns-in-Equal-clause-row : goal.returns-in-Equal-clause-row
returns-in-Equal-clause-row c =
    let rows = c.args.self.now in
    let middle = c.probe-middle.result in
    let compared : id_cmp (row_at rows middle).id c.args.id.now ≡ Equal = sym c.compare_at.ensures ∙ c.in-Equal.is in
    sym c.commit_at.ensures.row ∙ slice_get-get_or rows middle no_row (omega arith) ∙ sym (row_of-found rows c.args.id.now middle c.num_commits-high.ensures.sound.rising (omega arith) compared)

pub returns-clause-row : goal.returns-clause-row
returns-clause-row c =
    let rows = c.args.self.now in
    sym (row_of-none rows c.args.id.now (λ r lt. elim (cases_lt r c.loop-low.low) [
      | inl below ↦ other_from_less c.args.id.now (row_at rows r).id (c.loop-low.invariant.lower r below)
      | inr le ↦ other_from_greater c.args.id.now (row_at rows r).id (c.loop-low.invariant.higher r (omega arith) lt)
    ]))

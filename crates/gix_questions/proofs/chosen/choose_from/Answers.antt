use Rattle.std.proofs.Common.{◌≡◌, ◌+◌, ◌++◌, ◌∷◌, [], take, sym, ap, ◌∙◌}
use Rattle.std.proofs.lemmas.List.{take_more}
use Rattle.gix_questions.specs.Standing.{hidden_in, pairs_in, tips_in}
use Rattle.gix_questions.proofs.Standing.{one_more}
use Rattle.gix_questions.proofs.chosen.choose_from.Goals as goal

pub loop-one-preserved : goal.loop-one-preserved
loop-one-preserved c =
    let xs = c.deref-one-items.result.now in
    let i = c.loop-one.one-index in
    let r = c.one-item.result in
    let e : take (i + 1) xs ≡ take i xs ++ r ∷ [] = take_more xs i r c.loop-one-test.true ∙ ap (λ y. take i xs ++ y ∷ []) (sym c.one-item.is) in
    record {
      tips = one_more (λ r. tips_in r.chosen) (take i xs) (take (i + 1) xs) r _ _ e c.loop-one.invariant.tips c.in_ok-add.ensures.tips;
      hidden = one_more (λ r. hidden_in r.chosen) (take i xs) (take (i + 1) xs) r _ _ e c.loop-one.invariant.hidden c.in_ok-add.ensures.hidden;
      pairs = one_more (λ r. pairs_in r.chosen) (take i xs) (take (i + 1) xs) r _ _ e c.loop-one.invariant.pairs c.in_ok-add.ensures.pairs;
    }

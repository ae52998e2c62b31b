use Rattle.std.proofs.Common.{◌≡◌, ◌++◌, ◌∷◌, [], take, get_or, sym, ap, subst, ◌∙◌}
use Rattle.std.proofs.lemmas.List.{take_more}
use Rattle.gix_hash.specs.declared.ObjectId.TheVariants as id
use Rattle.gix_revwalk.specs.Agreeing.{rows_in}
use Rattle.gix_questions.specs.Common.{AreCommon}
use Rattle.gix_questions.specs.declared.chosen.Pair.{Pair}
use Rattle.gix_questions.proofs.CommonSoFar.{one_more}
use Rattle.gix_questions.proofs.symmetric.common_of_all.Goals as goal

pub loop-pair-preserved : goal.loop-pair-preserved
loop-pair-preserved c =
    let d : Pair = record { one = id.Sha1 []; other = id.Sha1 [] } in
    let xs = c.args.pairs.now in
    let i = c.loop-pair.pair-index in
    let all = c.loop-pair.all.items in
    let are = AreCommon c.args.store.now (rows_in c.args.graph) in
    let more = one_more c.args.store.now (rows_in c.args.graph) (take i xs) all (get_or xs i d) c.in_ok-ids.ids.items c.loop-pair.invariant c.in_ok-ids.ensures in
    let n : c.extend_from_slice.new.self.items ≡ all ++ c.in_ok-ids.ids.items = c.in_ok-extend_from_slice.ensures.items ∙ ap (λ l. all ++ l) c.as_slice.ensures.value in
    subst (λ ps. are ps c.extend_from_slice.new.self.items) (sym (take_more xs i d c.loop-pair-test.true)) (subst (are (take i xs ++ get_or xs i d ∷ [])) (sym n) more)

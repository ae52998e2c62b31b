use Rattle.std.proofs.Common.{[], ◌∷◌, ◌++◌, ap, ◌∙◌}
use Rattle.gix_graph_file.proofs.Common.{ParentPlace, words_of}
use Rattle.gix_graph_file.proofs.ChainParents.{parents-second}
use Rattle.gix_graph_file.proofs.chain.parents.Goals as goal

pub returns : goal.returns
returns c =
    let a = c.args in
    rw (parents-second a.limit a.at a.first a.second (words_of a.edges.now) a.out.now.items c.push.new.self.items c.if-first-eq-NONE.false (c.in_ok-push.ensures.ok ∙ ap (λ (p : ParentPlace). a.out.now.items ++ (p ∷ [])) c.place.ensures)) c.second_parents.ensures

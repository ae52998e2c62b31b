use Rattle.std.proofs.Common.{◌≡◌, [], ◌∷◌, ◌++◌, map, Some, rules, ap, ◌∙◌}
use Rattle.std.proofs.lemmas.List.{map-append}
use Rattle.gix_tree.proofs.Common.{Path}
use Rattle.gix_tree.proofs.Recording.Calls.{pops_last}
use Rattle.gix_tree.proofs.recorder.RecorderVisit.pop_back_tracked_path_and_set_current.Goals as goal

pub returns-in-Some : goal.returns-in-Some
returns-in-Some c =
    let queue : map (λ p. p.items) c.self.inside.queue.items ≡ map (λ p. p.items) c.pop_back.new.self.items ++ c.in-Some.path.items ∷ [] = ap (map (λ p. p.items)) c.in-Some.ensures.items ∙ map-append (λ p. p.items) c.pop_back.new.self.items (c.in-Some.path ∷ []) in
    let at : c.self.inside.location ≡ Some Path = search rules in
    pops_last c.args.self.now c.self.inside.location c.self.inside.path.items c.in-Some.path.items _ _ _ c.self.view_is at queue

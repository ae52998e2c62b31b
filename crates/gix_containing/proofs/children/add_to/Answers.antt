use Rattle.std.proofs.Common.{◌≡◌, ◌++◌, ◌∷◌, [], Vec, Global, sym, ap, ◌∙◌}
use Rattle.std.specs.FinMap as map_of
use Rattle.gix_hash.specs.declared.ObjectId.{ObjectId}
use Rattle.gix_containing.specs.Inside.Steps.{ids_in, children_in}
use Rattle.gix_containing.proofs.Gathered.{adds_to}
use Rattle.gix_containing.proofs.children.add_to.Goals as goal
use Rattle.gix_containing.proofs.children.add_to.Goals.{in-Some, in-None}

pub returns : goal.returns
returns c =
    let before : c.match-remove.ids.items ≡ children_in c.args.children.now c.args.parent = elim c.match-remove.branch [
      | in-Some w ↦ ap (λ (v : Vec ObjectId Global). v.items) w.ids-is ∙ ap ids_in (sym w.in-Some.is ∙ c.remove.ensures.value)
      | in-None w ↦ ap (λ (v : Vec ObjectId Global). v.items) w.ids-is ∙ w.new-ids.ensures.items ∙ ap ids_in (sym w.in-None.is ∙ c.remove.ensures.value)
    ] in
    adds_to c.args.child c.args.parent c.args.children.now c.insert.new.self c.push.new.self (c.in_ok-push.ensures.items ∙ ap (λ xs. xs ++ c.args.child ∷ []) before)
    (c.in_ok-insert.ensures.ok ∙ ap (λ m. map_of.insert m c.args.parent c.push.new.self) c.remove.ensures.map)

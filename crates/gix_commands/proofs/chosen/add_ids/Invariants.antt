use Rattle.std.proofs.Common.{◌≡◌, ◌++◌, ◌∷◌, take, flat_map}
use Rattle.gix_hash.specs.Id.{hex_of}
use Rattle.gix_commands.proofs.chosen.add_ids.Given as goal

abbrev pub invariant-loop-id : goal.invariant-loop-id
invariant-loop-id l = l.line.items ≡ l.fn.line.items ++ flat_map (λ p. 32 ∷ hex_of p) (take l.id-index l.ids)

use Rattle.std.proofs.Common.{◌≡◌, map}
use Rattle.serde_json.specs.View.{view}
use Rattle.gix_output.specs.Json.{bytes_data}
use Rattle.gix_output.proofs.json.parents_value.Given as goal

-- each value says what is said of the id of its place
abbrev pub invariant-loop-id : goal.invariant-loop-id
invariant-loop-id l = map view l.values.items ≡ map (λ id. bytes_data id.now) l.yielded

use Rattle.std.proofs.Common.{◌≡◌, map, take}
use Rattle.serde_json.specs.View.{view}
use Rattle.gix_certificate.specs.Written.{revision_data}
use Rattle.gix_certificate.proofs.value.revisions_value.Given as goal

-- each value says what is said of the revision of its place
abbrev pub invariant-revisions : goal.invariant-revisions
invariant-revisions l = map view l.values.items ≡ map revision_data (take l.revision-index l.revisions)

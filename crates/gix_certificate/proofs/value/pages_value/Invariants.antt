use Rattle.std.proofs.Common.{◌≡◌, map, take}
use Rattle.serde_json.specs.View.{view}
use Rattle.gix_certificate.specs.Written.{page_data}
use Rattle.gix_certificate.proofs.value.pages_value.Given as goal

-- each value says what is said of the page of its place
abbrev pub invariant-pages : goal.invariant-pages
invariant-pages l = map view l.values.items ≡ map page_data (take l.page-index l.pages)

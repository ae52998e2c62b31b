use Rattle.std.proofs.Common.{◌≡◌, ◌==◌, ℕ, List, [], ◌∷◌, length, map, false, rules, tests, refl, ap, sym, ◌∙◌, Bor}
use Rattle.std.proofs.lemmas.Simd.{map-map}
use Rattle.std.proofs.lemmas.Iterator.Consumers.{YieldsList-end}
use Rattle.std.proofs.lemmas.Iterator.Splits.{YieldsList-from_slice_split}
use Rattle.std.specs.List.{slice_split}
use Rattle.serde_json.specs.Data.{array}
use Rattle.serde_json.specs.View.{items_of}
use Rattle.serde_json.proofs.Views.{view-Array}
use Rattle.gix_output.specs.Json.{parts, bytes_data}
use Rattle.gix_output.proofs.json.parents_value.Goals as goal

some_parts : (ids : List ℕ) → (length ids == 0) ≡ false → parts ids ≡ slice_split (λ c. c == 32) ids
some_parts [] some = cc
some_parts (b ∷ ids) some = refl

said_of_each : (ids : List (Bor (List ℕ))) (all : List (List ℕ)) → map (λ id. id.now) ids ≡ all → map (λ id. bytes_data id.now) ids ≡ map bytes_data all
said_of_each ids all is = sym (map-map bytes_data (λ id. id.now) ids) ∙ ap (map bytes_data) is

pub returns : goal.returns
returns c =
    let ids = c.args.ids.now in
    let split = c.split-id-items.ensures in
    let gives = c.into_iter-id-iterator.ensures.into_iter_gives in
    let each = YieldsList-from_slice_split {s = c.into_iter-id-iterator.result} _ _ ids
    (rw gives split.rest) (rw gives split.done) (rw gives split.closure) (λ x r q k. search (rules, tests)) in
    let end = YieldsList-end each c.loop-id.yielded _ c.loop-id.yielded_by _ _ c.in-None.is c.next.ensures.steps in
    view-Array c.loop-id.values
    ∙ ap (λ values. array (items_of values))
    (c.loop-id.invariant ∙ said_of_each c.loop-id.yielded (parts ids) (end.0 ∙ sym (some_parts ids (sym c.is_empty.ensures ∙ c.if-is_empty.false))))

-- Sound layers are those of the page CommitGraph: their files have, one above the other, all their rows.
use Rattle.std.proofs.Common.{◌≡◌, ℕ, zero, suc, List, [], ◌∷◌, ◌++◌, length, map, take, slice_get, Some, refl, sym, ap, subst, ◌∙◌, append_assoc, append-nil}
use Rattle.std.proofs.lemmas.Grind.{flat_map-append}
use Rattle.std.proofs.lemmas.List.{map-append}
use Rattle.gix_hash.specs.declared.ObjectId.{ObjectId}
use Rattle.gix_statement.specs.CommitGraph.{AreLayers, IsLayer}
use Rattle.gix_statement.specs.WholeStatement.{Row}
use Rattle.gix_graph_pages.specs.GraphPages.{AreSoundLayers, IsSoundLayer, Layer, all_rows}

abbrev files_of : List Layer → List (List ℕ)
files_of layers = map (λ (l : Layer). l.file) layers

front_is : (before after : List Layer) → take (length before) (before ++ after) ≡ before
front_is [] after = refl
front_is (l ∷ before) after = ap (λ layers. l ∷ layers) (front_is before after)

next_is : (before after : List Layer) (layer : Layer) → slice_get (before ++ layer ∷ after) (length before) ≡ Some layer
next_is [] after layer = refl
next_is (l ∷ before) after layer = next_is before after layer

layers_from : (all before after : List Layer) (generation : ObjectId → ℕ) → all ≡ before ++ after → ((k : ℕ) (layer : Layer) → slice_get all k ≡ Some layer → IsSoundLayer (take k all) layer generation)
    → AreLayers (files_of before) (files_of after) (all_rows before) (all_rows all)
layers_from all before [] generation is each = ap all_rows (is ∙ append-nil before)
layers_from all before (layer ∷ after) generation is each =
    let here = each (length before) layer (ap (λ layers. slice_get layers (length before)) is ∙ next_is before after layer) in
    let below : take (length before) all ≡ before = ap (take (length before)) is ∙ front_is before (layer ∷ after) in
    let own = subst (λ lower. IsLayer (files_of lower) layer.file (all_rows lower) layer.rows) below here.has in
    let more = layers_from all (before ++ layer ∷ []) after generation (is ∙ sym (append_assoc before (layer ∷ []) after)) each in
    let rows : all_rows (before ++ layer ∷ []) ≡ all_rows before ++ layer.rows = flat_map-append (λ (l : Layer). l.rows) before (layer ∷ []) ∙ ap (λ xs. all_rows before ++ xs) (append-nil layer.rows) in
    (layer.rows, own, subst (λ (T : Type 0). T) (λ i. AreLayers (map-append (λ (l : Layer). l.file) before (layer ∷ []) i) (files_of after) (rows i) (all_rows all)) more)

pub layers_have_rows : (layers : List Layer) (generation : ObjectId → ℕ) → AreSoundLayers layers generation → AreLayers [] (files_of layers) [] (all_rows layers)
layers_have_rows layers generation sound = layers_from layers [] layers generation refl sound.each

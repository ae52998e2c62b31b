use Rattle.std.proofs.Common.{◌≡◌, ◌<◌, ◌+◌, ℕ, All, List, [], ◌∷◌, ◌++◌, Vec, vec_items, length, drop, get_or, sym, ap, subst, ◌∙◌, append_assoc}
use Rattle.std.proofs.lemmas.List.{map_push, drop_more}
use Rattle.std.proofs.lemmas.List.Elements.{All-push}
use Rattle.gix_commitgraph.specs.Packed.{AreBytes}
use Rattle.gix_graph_file.specs.ChainSteps.{files_seen, layers_seen}
use Rattle.gix_graph_file.proofs.owned.lend.Goals as goal

-- one more layer is lent
one_more : {Z : Type 0} (files all : List (List ℕ)) (layers : List (Vec ℕ Z)) (i : ℕ) (layer : Vec ℕ Z) (file : List ℕ) → i < length layers → layer ≡ get_or layers i layer → file ≡ vec_items layer
    → files ++ layers_seen (drop i layers) ≡ all → (files ++ file ∷ []) ++ layers_seen (drop (i + 1) layers) ≡ all
one_more files all layers i layer file l is same so_far =
    append_assoc files (file ∷ []) (layers_seen (drop (i + 1) layers))
    ∙ ap (λ (x : List ℕ). files ++ x ∷ layers_seen (drop (i + 1) layers)) (same ∙ ap vec_items is)
    ∙ ap (λ x. files ++ layers_seen x) (sym (drop_more layers i layer l)) ∙ so_far

pub loop-layer-preserved : goal.loop-layer-preserved
loop-layer-preserved c =
    let seen = ap files_seen c.in_ok-push.ensures.items ∙ map_push _ _ _ in
    let left = layers_seen (drop (c.loop-layer.layer-index + 1) c.args.layers.now) in
    let all = one_more _ _ c.args.layers.now c.loop-layer.layer-index c.layer-item.result _ c.loop-layer-test.true c.layer-item.is c.bytes_of.ensures.value c.loop-layer.invariant.0 in
    let bytes = All-push AreBytes _ _ c.loop-layer.invariant.1 c.bytes_of.ensures.bytes in
    (ap (λ x. x ++ left) seen ∙ all, subst (All AreBytes) (sym seen) bytes)

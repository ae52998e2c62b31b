-- Layers that are read one after the other.
use Rattle.std.proofs.Common.{◌≡◌, ◌≢◌, ℕ, ◌+◌, ◌-◌, ◌≤◌, ◌<◌, List, [], ◌∷◌, length, take, drop, get_or, Bor, Result, Ok, Err, refl, sym, ap, ◌∙◌, arith, take_all}
use Rattle.gix_graph_file.proofs.Common.{GraphRow, Error, ChainError, Lower, layer_then, with_layer, read_chain, RefusesChain, IsAtLayer, IsLayerFault, files_seen}
use Rattle.gix_graph_file.specs.declared.error.Error.TheVariants as error
use Rattle.gix_graph_file.specs.declared.error.ChainError.TheVariants as chain
use Rattle.gix_graph_file.specs.Chain.{chain_from}

chain-step : (number : ℕ) (lower : Lower) (file : List ℕ) (files : List (List ℕ)) → chain_from number lower (file ∷ files) ≡ layer_then number (with_layer number lower file) (λ (next : Lower). chain_from (number + 1) next files)
unfolding chain_from
chain-step number lower file files = refl

-- a layer is read
layer-more : (number : ℕ) (lower next : Lower) (file : List ℕ) (files : List (List ℕ)) → with_layer number lower file ≡ Ok next → chain_from (number + 1) next files ≡ chain_from number lower (file ∷ files)
layer-more number lower next file files read = sym (chain-step number lower file files ∙ ap (λ (x : Result Lower Error). layer_then number x (λ (next : Lower). chain_from (number + 1) next files)) read)

-- a layer has a fault
layer-fault : (number : ℕ) (lower : Lower) (file : List ℕ) (files all : List (List ℕ)) (e : Error) (found : ChainError) → IsAtLayer number e found → (e ≢ error.Memory → with_layer number lower file ≡ Err e) → chain_from number lower (file ∷ files) ≡ read_chain all → IsLayerFault all found
layer-fault number lower file files all e (chain.Layer n f) here fault so_far =
    rw (here.0, here.1) (sym so_far ∙ chain-step number lower file files ∙ ap (λ (x : Result Lower Error). layer_then number x (λ (next : Lower). chain_from (number + 1) next files)) (fault here.2))
layer-fault number lower file files all e (chain.Rows f) here fault so_far = absurd here
layer-fault number lower file files all e chain.Memory here fault so_far = tt

-- no layer is left
layers-end : (number : ℕ) (lower : Lower) → chain_from number lower [] ≡ Ok lower.rows
unfolding chain_from
layers-end number lower = refl

-- what is behind the first layer
behind : (file : Bor (List ℕ)) (left : List (Bor (List ℕ))) → take (length (file ∷ left) - 1) (drop 1 (file ∷ left)) ≡ left
behind file left =
    take_all (length (file ∷ left) - 1) left (omega arith)

-- the first of the layers that are left is read
pub more-read : (number : ℕ) (lower next : Lower) (left : List (Bor (List ℕ))) (d : Bor (List ℕ)) (all : Result (List GraphRow) ChainError) → 1 ≤ length left → with_layer number lower (get_or left 0 d).now ≡ Ok next
    → chain_from number lower (files_seen left) ≡ all → chain_from (number + 1) next (files_seen (take (length left - 1) (drop 1 left))) ≡ all
more-read number lower next [] d all some read so_far = absurd (omega (arith, some))
more-read number lower next (file ∷ left) d all some read so_far =
    rw (behind file left) (layer-more number lower next file.now (files_seen left) read ∙ so_far)

pub more-counted : (number all : ℕ) (left : List (Bor (List ℕ))) → 1 ≤ length left → number + length left ≡ all → number + 1 + length (take (length left - 1) (drop 1 left)) ≡ all
more-counted number all [] some so_far = absurd (omega (arith, some))
more-counted number all (file ∷ left) some so_far = rw (behind file left) (omega (arith, so_far))

-- the first of the layers that are left has a fault
pub fault-read : (number : ℕ) (lower : Lower) (left : List (Bor (List ℕ))) (d : Bor (List ℕ)) (all : List (List ℕ)) (e : Error) (found : ChainError) → 1 ≤ length left → IsAtLayer number e found → (e ≢ error.Memory → with_layer number lower (get_or left 0 d).now ≡ Err e)
    → chain_from number lower (files_seen left) ≡ read_chain all → IsLayerFault all found
fault-read number lower [] d all e found some here fault so_far = absurd (omega (arith, some))
fault-read number lower (file ∷ left) d all e found some here fault so_far = layer-fault number lower file.now (files_seen left) all e found here fault so_far

-- no layer is left
pub all-read : (number : ℕ) (lower : Lower) (left : List (Bor (List ℕ))) (all : Result (List GraphRow) ChainError) → length left < 1 → chain_from number lower (files_seen left) ≡ all → all ≡ Ok lower.rows
all-read number lower [] all none so_far = sym so_far ∙ layers-end number lower
all-read number lower (file ∷ left) all none so_far = absurd (omega (arith, none))

-- the first fault of the layers is the chain's
pub refused : (files : List (List ℕ)) (e : ChainError) → IsLayerFault files e → RefusesChain files e
refused files (chain.Layer n e) h = h
refused files (chain.Rows e) h = absurd h
refused files chain.Memory h = tt

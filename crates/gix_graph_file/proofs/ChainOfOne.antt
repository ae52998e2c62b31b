-- A chain of one file is the file, where it says no layers below it; and a graph has the rows that it has.
use Rattle.std.proofs.Common.{◌≡◌, ◌≢◌, ℕ, ◌+◌, true, false, cond, not, eqb, bytes_eq, List, [], ◌∷◌, ◌++◌, length, length-append, Vec, vec_items, map, get_or, Bor, Option, Some, None, Result, Ok, Err, IfOk, IfErr, refl, ap, ◌∙◌, arith, option_map, eqb-true}
use Rattle.std.specs.List.{AllByRecursion}
use Rattle.std.proofs.lemmas.Map.Keys.{IsDistinct-from_sorted}
use Rattle.gix_graph_file.proofs.Common.{Kind, id_cmp, ParentPlace, GraphRow, AreGraphRows, IsRowAmong, IsPlaceAmong, ids_of_rows, kind_of_rows, words_of, AreOfKind, moved, renumbered, HasSameRows, IsAccepted, Error, ChainError, ◌>>=◌}
use Rattle.gix_graph_file.proofs.Common.{Parts, read_layer, rows_from, rows_of, Lower, base_of, with_rows, with_parts, layer_then, nothing, read_chain, HasChain, files_seen, layers_seen}
use Rattle.gix_commitgraph.specs.declared.ParentPlace.TheVariants.{At, Fault}
use Rattle.gix_graph_file.specs.declared.error.Error.TheVariants as error
use Rattle.gix_graph_file.specs.declared.error.ChainError.TheVariants as chain
use Rattle.gix_graph_file.specs.Chain.{with_layer, chain_from}

-- what a chain of one file says, by what its parts say
abbrev pub alone : Result (List GraphRow) Error → Result (List GraphRow) ChainError
alone (Ok rows) = Ok rows
alone (Err e) = Err (chain.Layer 0 e)

alone-then : (file : List ℕ) (k : Kind) (read : Result (List GraphRow) Error)
    → layer_then 0 (read >>= (λ (rows : List GraphRow). Ok (with_rows nothing file k rows))) (λ (next : Lower). chain_from 1 next []) ≡ alone read
unfolding chain_from
alone-then file k (Ok rows) = refl
alone-then file k (Err e) = refl

with-alone : (file : List ℕ) (p : Parts) → base_of file ≡ [] → with_parts nothing file p ≡ (rows_of p >>= (λ (rows : List GraphRow). Ok (with_rows nothing file p.kind rows)))
with-alone file p base =
    let limit : 0 + p.count ≡ p.count = omega arith in
    let words = words_of p.edges in
    let read : ℕ → Result Lower Error = λ (n : ℕ). rows_from p.kind n (length words) p.count 0 None p.ids p.commits words >>= (λ (rows : List GraphRow). Ok (with_rows nothing file p.kind rows)) in
    ap (λ (base : List ℕ). cond (not (bytes_eq base [])) (Err error.Base) (read (0 + p.count))) base ∙ ap read limit

one-layer : (file : List ℕ) → read_chain (file ∷ []) ≡ layer_then 0 (with_layer 0 nothing file) (λ (next : Lower). chain_from 1 next [])
unfolding chain_from
one-layer file = refl

one-read : (file : List ℕ) (read : Result Parts Error) → read_layer 0 file ≡ read → read_chain (file ∷ []) ≡ layer_then 0 (read >>= with_parts nothing file) (λ (next : Lower). chain_from 1 next [])
unfolding with_layer
one-read file read parts = one-layer file ∙ ap (λ (x : Result Parts Error). layer_then 0 (x >>= with_parts nothing file) (λ (next : Lower). chain_from 1 next [])) parts

one-rows : (file : List ℕ) (p : Parts) (found : Result (List GraphRow) Error) → read_layer 0 file ≡ Ok p → base_of file ≡ [] → rows_of p ≡ found → read_chain (file ∷ []) ≡ alone found
one-rows file p found parts base rows =
    one-read file (Ok p) parts ∙ ap (λ (x : Result Lower Error). layer_then 0 x (λ (next : Lower). chain_from 1 next [])) (with-alone file p base) ∙ alone-then file p.kind (rows_of p) ∙ ap alone rows

none-left : (base : List ℕ) → eqb (length base) 0 ≡ true → base ≡ []
none-left [] none = refl
none-left (byte ∷ base) none = absurd (omega (arith, eqb-true (length (byte ∷ base)) 0 none))

-- the file's parts say the chain's rows
pub one-says : (file : List ℕ) (p : Parts) (result : Result (List GraphRow) Error) → read_layer 0 file ≡ Ok p → eqb (length (base_of file)) 0 ≡ true
    → IfOk result (λ (rows : List GraphRow). AreGraphRows rows × (rows_of p ≡ Ok rows)) → IfOk result (λ (rows : List GraphRow). AreGraphRows rows × (read_chain (file ∷ []) ≡ Ok rows))
one-says file p (Ok rows) parts none here = (here.0, one-rows file p (Ok rows) parts (none-left (base_of file) none) here.1)
one-says file p (Err e) parts none here = tt

-- the first fault of the rows is the chain's
pub one-refuses : (file : List ℕ) (p : Parts) (result : Result (List GraphRow) Error) → read_layer 0 file ≡ Ok p → eqb (length (base_of file)) 0 ≡ true
    → IfErr result (λ (e : Error). e ≢ error.Memory → rows_of p ≡ Err e) → IfErr result (λ (e : Error). e ≢ error.Memory → read_chain (file ∷ []) ≡ Err (chain.Layer 0 e))
one-refuses file p (Ok rows) parts none here = tt
one-refuses file p (Err e) parts none here = λ other. one-rows file p (Err e) parts (none-left (base_of file) none) (here other)

-- the first fault of the parts is the chain's
pub one-fault : (file : List ℕ) (e : Error) → read_layer 0 file ≡ Err e → read_chain (file ∷ []) ≡ Err (chain.Layer 0 e)
one-fault file e parts = one-read file (Err e) parts

-- the file says that there are layers below it
pub one-based : (file : List ℕ) (p : Parts) → read_layer 0 file ≡ Ok p → eqb (length (base_of file)) 0 ≡ false → read_chain (file ∷ []) ≡ Err (chain.Layer 0 error.Base)
one-based file p parts based =
    let none : with_parts nothing file p ≡ Err error.Base = by (base_of file) _ based in
    one-read file (Ok p) parts ∙ ap (λ (x : Result Lower Error). layer_then 0 x (λ (next : Lower). chain_from 1 next [])) none
  where
    by : (base : List ℕ) (more : Result Lower Error) → eqb (length base) 0 ≡ false → cond (not (bytes_eq base [])) (Err error.Base) more ≡ Err error.Base
    by [] more some = absurd cc
    by (byte ∷ base) more some = refl

-- ---- rows of a graph

kinds : (k : Kind) (n : ℕ) (rows : List GraphRow) → AllByRecursion (IsRowAmong k n) rows → AreOfKind k rows
kinds k n [] h = tt
kinds k n (row ∷ rows) h = ((h.0.id.kind, h.0.tree.kind), kinds k n rows h.1)

places : (k : Kind) (n : ℕ) (rows : List GraphRow) → AllByRecursion (IsRowAmong k n) rows → AllByRecursion (λ (row : GraphRow). AllByRecursion (IsPlaceAmong n) row.parents) rows
places k n [] h = tt
places k n (row ∷ rows) h = (h.0.parents, places k n rows h.1)

accepted : (rows : List GraphRow) → AreGraphRows rows → IsAccepted rows
accepted rows sound =
    ((sound.few, sound.few_words), kinds (kind_of_rows rows) (length rows) rows sound.each, IsDistinct-from_sorted id_cmp (ids_of_rows rows) sound.rising, places (kind_of_rows rows) (length rows) rows sound.each)

abbrev own : ℕ → ℕ
own n = n

own-places : (places : List ParentPlace) → places ≡ map (moved own) places
own-places [] = refl
own-places (At n ∷ places) = ap (λ (x : List ParentPlace). At n ∷ x) (own-places places)
own-places (Fault ∷ places) = ap (λ (x : List ParentPlace). Fault ∷ x) (own-places places)

own-row : (row : Option GraphRow) → row ≡ option_map (renumbered own) row
own-row None = refl
own-row (Some row) = ap (λ (x : List ParentPlace). Some (record row { parents = x })) (own-places row.parents)

same : (rows : List GraphRow) → HasSameRows rows rows
same rows = record { number = own; count = refl; same = λ place within. own-row _ }

-- a graph of just the rows that the chain says
pub has-chain : (files : List (List ℕ)) (graph : List GraphRow) → AreGraphRows graph → read_chain files ≡ Ok graph → HasChain files graph
has-chain files graph sound read = record { rows = graph; read = read; accepted = accepted graph sound; sound = sound; same = same graph }

-- ---- the one file of a list

files-one : (layers : List (Bor (List ℕ))) (d : Bor (List ℕ)) → length layers ≡ 1 → files_seen layers ≡ (get_or layers 0 d).now ∷ []
files-one [] d one = absurd (omega (arith, one))
files-one (file ∷ []) d one = refl
files-one (file ∷ other ∷ layers) d one = absurd (omega (arith, one))

pub one-has : (layers : List (Bor (List ℕ))) (d : Bor (List ℕ)) (graph : List GraphRow) → length layers ≡ 1 → AreGraphRows graph → read_chain ((get_or layers 0 d).now ∷ []) ≡ Ok graph → HasChain (files_seen layers) graph
one-has layers d graph one sound read = rw (files-one layers d one) (has-chain _ graph sound read)

-- the one file of a list that is given up
pub one-owned : {Z : Type 0} (layers others : List (Vec ℕ Z)) (file : Vec ℕ Z) (graph : List GraphRow) → length layers ≡ 1 → layers ≡ others ++ file ∷ [] → AreGraphRows graph → read_chain (vec_items file ∷ []) ≡ Ok graph
    → HasChain (layers_seen layers) graph
one-owned layers [] file graph one layers_is sound read = rw layers_is (has-chain (vec_items file ∷ []) graph sound read)
one-owned layers (other ∷ others) file graph one layers_is sound read = absurd (omega (arith, one, ap length layers_is, length-append others (file ∷ [])))

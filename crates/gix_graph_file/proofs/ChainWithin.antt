-- The rows of a chain are of one kind, and name rows of the chain.
use Rattle.std.proofs.Common.{◌≡◌, ℕ, zero, suc, ◌+◌, ◌-◌, ◌≤◌, ◌<◌, Bool, true, false, cond, not, ltb, eqb, bytes_eq, List, [], ◌∷◌, ◌++◌, length, take, drop, Option, Some, None, Result, Ok, Err, refl, sym, ap, subst, ◌∙◌, arith}
use Rattle.std.proofs.Common.{ltb-true, length-append}
use Rattle.std.specs.List.{AllByRecursion}
use Rattle.gix_graph_file.proofs.Common.{Kind, ObjectId, ParentPlace, GraphError, id_len, id_of, kind_of, GraphRow, IsPlaceAmong, word_at, words_of, is_above, AreOfKind, AreOfOneKind, HavePlacesWithin, Refuses, Error, ChainError, ◌>>=◌}
use Rattle.gix_graph_file.proofs.Common.{Parts, read_layer, no_parent, flag, place_named, Parents, with_parent, edge_list, long_edge_list, second_said, parents_said, row_said, with_row, row_then, Lower, is_kind, base_of, layer_rows}
use Rattle.gix_graph_file.proofs.Common.{with_rows, with_parts, layer_then, nothing, read_chain, IsOfRows, RefusesChain, IsForRows}
use Rattle.gix_hash.specs.declared.Kind.TheVariants as kind
use Rattle.gix_commitgraph.specs.declared.ParentPlace.TheVariants.{At, Fault}
use Rattle.gix_commitgraph.specs.declared.GraphError.TheVariants as refused
use Rattle.gix_graph_file.specs.declared.error.Error.TheVariants as error
use Rattle.gix_graph_file.specs.declared.error.ChainError.TheVariants as chain
use Rattle.gix_graph_file.specs.FileRows.{rows_from}
use Rattle.gix_graph_file.specs.Chain.{with_layer, chain_from}

choose : {A : Type 0} (P : A → Type 0) (b : Bool) (x y : A) → P x → P y → P (cond b x y)
choose P true x y p q = p
choose P false x y p q = q

-- ---- the parents of a row

abbrev AreAmong : ℕ → List ParentPlace → Type 0
AreAmong n places = AllByRecursion (IsPlaceAmong n) places

abbrev SaysAmong : ℕ → Option Parents → Type 0
SaysAmong n None = Unit {0}
SaysAmong n (Some p) = AreAmong n p.0

place-among : (n word : ℕ) → IsPlaceAmong n (place_named n word)
place-among n word = go (ltb word n) refl
  where
    go : (b : Bool) → ltb word n ≡ b → IsPlaceAmong n (cond b (At word) Fault)
    go true e = ltb-true word n e
    go false e = tt

with-among : (n : ℕ) (p : ParentPlace) (said : Option Parents) → IsPlaceAmong n p → SaysAmong n said → SaysAmong n (with_parent p said)
with-among n p None here more = tt
with-among n p (Some said) here more = (here, more)

edge-among : (n : ℕ) (words : List ℕ) → SaysAmong n (edge_list n words)
edge-among n [] = tt
edge-among n (word ∷ words) =
    choose (SaysAmong n) (ltb word flag) (with_parent (place_named n word) (edge_list n words)) (Some (place_named n (word - flag) ∷ [], words))
    (with-among n (place_named n word) (edge_list n words) (place-among n word) (edge-among n words)) (place-among n (word - flag), tt)

long-among : (n : ℕ) (words : List ℕ) → SaysAmong n (long_edge_list n words)
long-among n [] = tt
long-among n (word ∷ words) = choose (SaysAmong n) (ltb word flag) (edge_list n (word ∷ words)) None (edge-among n (word ∷ words)) tt

second-among : (n k second : ℕ) (words : List ℕ) → SaysAmong n (second_said n k second words)
second-among n k second words =
    choose (SaysAmong n) (eqb second no_parent) (Some ([], words)) _ tt
    (choose (SaysAmong n) (ltb second flag) (Some (place_named n second ∷ [], words)) _ (place-among n second, tt)
    (choose (SaysAmong n) (eqb second (flag + k)) (long_edge_list n words) None (long-among n words) tt))

parents-among : (n k first second : ℕ) (words : List ℕ) → SaysAmong n (parents_said n k first second words)
parents-among n k first second words =
    choose (SaysAmong n) (eqb first no_parent) _ _ (choose (SaysAmong n) (eqb second no_parent) (Some ([], words)) None tt tt)
    (with-among n (place_named n first) (second_said n k second words) (place-among n first) (second-among n k second words))

-- ---- the rows of a layer

pub record IsRowWithin (k : Kind) (n : ℕ) (row : GraphRow) : Type 0 where
  pub id : kind_of row.id ≡ k
  pub tree : kind_of row.tree ≡ k
  pub parents : AllByRecursion (IsPlaceAmong n) row.parents

abbrev RowsWithin : Kind → ℕ → ℕ → Result (List GraphRow) Error → Type 0
RowsWithin k n left (Ok rows) = (length rows ≡ left) × AllByRecursion (IsRowWithin k n) rows
RowsWithin k n left (Err e) = Unit {0}

kind-id_of : (k : Kind) (bytes : List ℕ) → kind_of (id_of k bytes) ≡ k
kind-id_of kind.Sha1 bytes = refl
kind-id_of kind.Sha256 bytes = refl

with-row : (k : Kind) (n left : ℕ) (row : GraphRow) (more : Result (List GraphRow) Error) → IsRowWithin k n row → RowsWithin k n left more → RowsWithin k n (suc left) (with_row row more)
with-row k n left row (Ok rows) here more = (ap suc more.0, (here, more.1))
with-row k n left row (Err e) here more = tt

then-within : (k : Kind) (n left r : ℕ) (row : List ParentPlace → GraphRow) (said : Option Parents) (more : List ℕ → Result (List GraphRow) Error) → ((parents : List ParentPlace) → AreAmong n parents → IsRowWithin k n (row parents))
    → SaysAmong n said → ((words : List ℕ) → RowsWithin k n left (more words)) → RowsWithin k n (suc left) (row_then r row said more)
then-within k n left r row None more rows among others = tt
then-within k n left r row (Some said) more rows among others = with-row k n left (row said.0) (more said.1) (rows said.0 among) (others said.1)

rows-within : (k : Kind) (n m left r : ℕ) (before : Option ObjectId) (ids commits words : List ℕ) → RowsWithin k n left (rows_from k n m left r before ids commits words)
unfolding rows_from
rows-within k n m zero r before ids commits words = choose (RowsWithin k n 0) (eqb (length words) 0) (Ok []) (Err error.Edges) (refl, tt) tt
rows-within k n m (suc left) r before ids commits words =
    let id = take (id_len k) ids in
    let tree = take (id_len k) commits in
    let numbers = take 16 (drop (id_len k) commits) in
    let said = parents_said n (m - length words) (word_at 0 numbers) (word_at 4 numbers) words in
    let more : List ℕ → Result (List GraphRow) Error = rows_from k n m left (r + 1) (Some (id_of k id)) (drop (id_len k) ids) (drop 16 (drop (id_len k) commits)) in
    choose (RowsWithin k n (suc left)) (is_above before (id_of k id)) (row_then r (row_said k id tree numbers) said more) (Err (error.Order r))
    (then-within k n left r (row_said k id tree numbers) said more (λ parents among. record { id = kind-id_of k id; tree = kind-id_of k tree; parents = among })
    (parents-among n (m - length words) (word_at 0 numbers) (word_at 4 numbers) words)
    (λ words. rows-within k n m left (r + 1) (Some (id_of k id)) (drop (id_len k) ids) (drop 16 (drop (id_len k) commits)) words)) tt

-- ---- the rows of a chain

abbrev LowerWithin : Option Kind → List GraphRow → Type 0
LowerWithin None rows = rows ≡ []
LowerWithin (Some k) rows = AllByRecursion (IsRowWithin k (length rows)) rows

abbrev LayerWithin : Result Lower Error → Type 0
LayerWithin (Ok lower) = LowerWithin lower.kind lower.rows
LayerWithin (Err e) = Unit {0}

places-weaken : (n m : ℕ) (places : List ParentPlace) → n ≤ m → AreAmong n places → AreAmong m places
places-weaken n m [] more h = tt
places-weaken n m (At i ∷ places) more h = let below : i < n = h.0 in (omega (arith, below, more), places-weaken n m places more h.1)
places-weaken n m (Fault ∷ places) more h = (tt, places-weaken n m places more h.1)

rows-weaken : (k : Kind) (n m : ℕ) (rows : List GraphRow) → n ≤ m → AllByRecursion (IsRowWithin k n) rows → AllByRecursion (IsRowWithin k m) rows
rows-weaken k n m [] more h = tt
rows-weaken k n m (row ∷ rows) more h = (record { id = h.0.id; tree = h.0.tree; parents = places-weaken n m row.parents more h.0.parents }, rows-weaken k n m rows more h.1)

All-append : (P : GraphRow → Type 0) (xs ys : List GraphRow) → AllByRecursion P xs → AllByRecursion P ys → AllByRecursion P (xs ++ ys)
All-append P [] ys h g = g
All-append P (x ∷ xs) ys h g = (h.0, All-append P xs ys h.1 g)

stacked : (k : Kind) (n : ℕ) (rows added : List GraphRow) → length added ≡ n → AllByRecursion (IsRowWithin k (length rows)) rows → AllByRecursion (IsRowWithin k (length rows + n)) added → LowerWithin (Some k) (rows ++ added)
stacked k n rows added len below here =
    let all : length (rows ++ added) ≡ length rows + n = length-append rows added ∙ ap (λ (x : ℕ). length rows + x) len in
    rw all (All-append (IsRowWithin k (length rows + n)) rows added (rows-weaken k (length rows) (length rows + n) rows (omega arith) below) here)

below-all : (before : Option Kind) (k : Kind) (rows : List GraphRow) → is_kind before k ≡ true → LowerWithin before rows → AllByRecursion (IsRowWithin k (length rows)) rows
below-all None k rows same h = subst (λ (x : List GraphRow). AllByRecursion (IsRowWithin k (length x)) x) (sym h) tt
below-all (Some kind.Sha1) kind.Sha1 rows same h = h
below-all (Some kind.Sha1) kind.Sha256 rows same h = absurd (subst (λ (b : Bool). cond b ⊥ (Unit {0})) same tt)
below-all (Some kind.Sha256) kind.Sha1 rows same h = absurd (subst (λ (b : Bool). cond b ⊥ (Unit {0})) same tt)
below-all (Some kind.Sha256) kind.Sha256 rows same h = h

rows-stacked : (lower : Lower) (file : List ℕ) (k : Kind) (n : ℕ) (read : Result (List GraphRow) Error) → AllByRecursion (IsRowWithin k (length lower.rows)) lower.rows → RowsWithin k (length lower.rows + n) n read
    → LayerWithin (read >>= (λ (rows : List GraphRow). Ok (with_rows lower file k rows)))
rows-stacked lower file k n (Ok rows) below here = stacked k n lower.rows rows here.0 below here.1
rows-stacked lower file k n (Err e) below here = tt

parts-within : (lower : Lower) (file : List ℕ) (p : Parts) → LowerWithin lower.kind lower.rows → LayerWithin (with_parts lower file p)
parts-within lower file p h = go (is_kind lower.kind p.kind) refl
  where
    limit : ℕ
    limit = length lower.rows + p.count

    go : (b : Bool) → is_kind lower.kind p.kind ≡ b
        → LayerWithin (cond (not b) (Err error.Kind) (cond (not (bytes_eq (base_of file) lower.hashes)) (Err error.Base) (layer_rows (length lower.rows + p.count) p >>= (λ (rows : List GraphRow). Ok (with_rows lower file p.kind rows)))))
    go false e = tt
    go true e =
        choose LayerWithin (not (bytes_eq (base_of file) lower.hashes)) (Err error.Base) (layer_rows (length lower.rows + p.count) p >>= (λ (rows : List GraphRow). Ok (with_rows lower file p.kind rows))) tt
        (rows-stacked lower file p.kind p.count (layer_rows (length lower.rows + p.count) p) (below-all lower.kind p.kind lower.rows e h)
        (rows-within p.kind (length lower.rows + p.count) (length (words_of p.edges)) p.count 0 None p.ids p.commits (words_of p.edges)))

layer-within : (number : ℕ) (lower : Lower) (file : List ℕ) → LowerWithin lower.kind lower.rows → LayerWithin (with_layer number lower file)
unfolding with_layer
layer-within number lower file h = by (read_layer number file)
  where
    by : (read : Result Parts Error) → LayerWithin (read >>= with_parts lower file)
    by (Ok p) = parts-within lower file p h
    by (Err e) = tt

-- rows of one kind, which name rows among them
abbrev pub ChainWithin : Result (List GraphRow) ChainError → Type 0
ChainWithin (Ok rows) = AreOfOneKind rows × HavePlacesWithin rows
ChainWithin (Err e) = Unit {0}

kinds : (k : Kind) (n : ℕ) (rows : List GraphRow) → AllByRecursion (IsRowWithin k n) rows → AreOfKind k rows
kinds k n [] h = tt
kinds k n (row ∷ rows) h = ((h.0.id, h.0.tree), kinds k n rows h.1)

places : (k : Kind) (n : ℕ) (rows : List GraphRow) → AllByRecursion (IsRowWithin k n) rows → AllByRecursion (λ (row : GraphRow). AllByRecursion (IsPlaceAmong n) row.parents) rows
places k n [] h = tt
places k n (row ∷ rows) h = (h.0.parents, places k n rows h.1)

one_kind : (k : Kind) (n : ℕ) (rows : List GraphRow) → AllByRecursion (IsRowWithin k n) rows → AreOfOneKind rows
one_kind k n [] h = tt
one_kind k n (row ∷ rows) h = subst (λ (j : Kind). AreOfKind j (row ∷ rows)) (sym h.0.id) (kinds k n (row ∷ rows) h)

lower-within : (before : Option Kind) (rows : List GraphRow) → LowerWithin before rows → AreOfOneKind rows × HavePlacesWithin rows
lower-within None rows h = subst (λ (x : List GraphRow). AreOfOneKind x × HavePlacesWithin x) (sym h) (tt, tt)
lower-within (Some k) rows h = (one_kind k (length rows) rows h, places k (length rows) rows h)

then-chain : (number : ℕ) (read : Result Lower Error) (more : Lower → Result (List GraphRow) ChainError) → LayerWithin read → ((next : Lower) → LowerWithin next.kind next.rows → ChainWithin (more next)) → ChainWithin (layer_then number read more)
then-chain number (Ok next) more here others = others next here
then-chain number (Err e) more here others = tt

chain-within : (number : ℕ) (lower : Lower) (files : List (List ℕ)) → LowerWithin lower.kind lower.rows → ChainWithin (chain_from number lower files)
unfolding chain_from
chain-within number lower [] h = lower-within lower.kind lower.rows h
chain-within number lower (file ∷ files) h =
    then-chain number (with_layer number lower file) (λ (next : Lower). chain_from (number + 1) next files) (layer-within number lower file h) (λ (next : Lower) here. chain-within (number + 1) next files here)

-- no other fault of rows comes
of-rows : (files : List (List ℕ)) (rows : List GraphRow) (e : GraphError) → read_chain files ≡ Ok rows → Refuses rows e → (e ≡ refused.Memory → ⊥) → IsOfRows e
of-rows files rows e read refuses other =
    let here : AreOfOneKind rows × HavePlacesWithin rows = subst ChainWithin read (chain-within 0 nothing files refl) in
    by e refuses other here
  where
    by : (e : GraphError) → Refuses rows e → (e ≡ refused.Memory → ⊥) → AreOfOneKind rows × HavePlacesWithin rows → IsOfRows e
    by refused.TooMany r o h = tt
    by refused.MixedKinds r o h = absurd (r.1 h.0)
    by refused.DuplicateId r o h = tt
    by refused.PositionOutOfRange r o h = absurd (r.3 h.1)
    by (refused.Packed place) r o h = absurd r
    by refused.Memory r o h = absurd (o refl)

-- no graph has the rows
pub rows-refused : (files : List (List ℕ)) (rows : List GraphRow) (e : GraphError) (found : ChainError) → IsForRows e found → read_chain files ≡ Ok rows → Refuses rows e → RefusesChain files found
rows-refused files rows e (chain.Layer n f) here read refuses = absurd here
rows-refused files rows e (chain.Rows f) here read refuses = rw here.0 (rows, read, refuses, of-rows files rows e read refuses here.1)
rows-refused files rows e chain.Memory here read refuses = tt

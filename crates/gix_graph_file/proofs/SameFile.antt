-- Whole packed bytes say the same rows as the file, or the same fault.
use Rattle.std.proofs.Common.{◌≡◌, ◌≢◌, ℕ, zero, suc, ◌+◌, ◌-◌, ◌*◌, ◌/◌, ◌^◌, ◌<◌, ◌≤◌, Bool, true, false, ltb, List, [], ◌∷◌, ◌++◌, length, map, take, drop, None, Result, Ok, Err, IfOk, IfErr, refl, sym, ap, subst, ◌∙◌, arith}
use Rattle.std.proofs.Common.{w32, flat_map, ne_eqb, eq-eqb, le-leb, lt-ltb, length-append, length-drop, length-take}
use Rattle.gix_graph_file.proofs.Common.{to_be_bytes, Kind, GraphError, id_len, GraphRow, most, layout_name, AreBytes, AreGraphRows, words_of, row_len, may_have, is_sized, rows_at, read_packed, opened, Error}
use Rattle.gix_graph_file.proofs.Common.{◌>>=◌, Parts, most_rows, read_parts, flag, rows_from, rows_of, IsWhole, ReadsAs, edge_packed, kind_packed, row_packed, fault_of}
use Rattle.std.proofs.lemmas.List.{length-map}
use Rattle.gix_hash.specs.declared.Kind.TheVariants as kind
use Rattle.gix_commitgraph.specs.declared.Place.{Place}
use Rattle.gix_commitgraph.specs.declared.Place.TheVariants as place
use Rattle.gix_commitgraph.proofs.Packed.Steps.{length-words_of}
use Rattle.gix_commitgraph.proofs.Packed.Whole.{AreWords, HasBody, has_body, length-word_bytes, read-body, words_of-bytes}
use Rattle.gix_graph_file.specs.declared.error.Error.TheVariants as error
use Rattle.gix_graph_file.specs.FileRows.{read_file}
use Rattle.gix_graph_file.specs.PackedParts.{rows_packed, parts_packed}
use Rattle.gix_graph_file.proofs.SameParents.{place-below}
use Rattle.gix_graph_file.proofs.SameFields.{length-row_packed}
use Rattle.gix_graph_file.proofs.SameRows.{Says, says-end, says-rows}

edge-below : (n word : ℕ) → n ≤ most_rows → edge_packed n word < 2 ^ 32
edge-below n word few = go (ltb word flag) refl
  where
    go : (b : Bool) → ltb word flag ≡ b → edge_packed n word < 2 ^ 32
    go true e = let below = place-below n word few in rw e (omega arith)
    go false e = let below = place-below n (word - flag) few in rw e (omega arith)

edges-below : (n : ℕ) (words : List ℕ) → n ≤ most_rows → AreWords (map (edge_packed n) words)
edges-below n [] few = tt
edges-below n (word ∷ words) few = (edge-below n word few, edges-below n words few)

kind-suc : (k : Kind) (n : ℕ) → kind_packed k (suc n) ≡ k
kind-suc k n = rw (ne_eqb (suc n) 0 (λ e. omega arith)) refl

may_have-packed : (k : Kind) (n : ℕ) → may_have (kind_packed k n) n ≡ true
may_have-packed k zero = refl
may_have-packed k (suc n) = ap (λ (j : Kind). may_have j (suc n)) (kind-suc k n) ∙ by_kind k
  where
    by_kind : (k : Kind) → may_have k (suc n) ≡ true
    by_kind kind.Sha1 = refl
    by_kind kind.Sha256 = lt-ltb 0 (suc n) (omega arith)

length-rows : (k : Kind) (n left : ℕ) (ids commits : List ℕ) → id_len k * left ≤ length ids → id_len k * left + 16 * left ≤ length commits → length (rows_packed k n left ids commits) ≡ row_len k * left
unfolding rows_packed
length-rows k n zero ids commits ids_fit commits_fit = omega arith
length-rows k n (suc left) ids commits ids_fit commits_fit =
    let one : id_len k * suc left ≡ id_len k * left + id_len k = omega arith in
    let others = length-rows k n left (drop (id_len k) ids) (drop 16 (drop (id_len k) commits)) (omega (arith, length-drop (id_len k) ids)) (omega (arith, length-drop (id_len k) commits, length-drop 16 (drop (id_len k) commits))) in
    let here = length-row_packed k n (take (id_len k) ids) (take (id_len k) commits) (take 16 (drop (id_len k) commits)) (omega (arith, length-take (id_len k) ids)) (omega (arith, length-take (id_len k) commits)) in
    length-append (row_packed n (take (id_len k) ids) (take (id_len k) commits) (take 16 (drop (id_len k) commits))) (rows_packed k n left (drop (id_len k) ids) (drop 16 (drop (id_len k) commits)))
    ∙ rw (here, others) (grind arith)

-- as many rows as the head says, in the kind that it says
length-packed : (k : Kind) (n : ℕ) (ids commits : List ℕ) → id_len k * n ≤ length ids → id_len k * n + 16 * n ≤ length commits → length (rows_packed k n n ids commits) ≡ row_len (kind_packed k n) * n
length-packed k zero ids commits ids_fit commits_fit = length-rows k zero zero ids commits ids_fit commits_fit ∙ omega arith
length-packed k (suc n) ids commits ids_fit commits_fit = length-rows k (suc n) (suc n) ids commits ids_fit commits_fit ∙ ap (λ (j : Kind). row_len j * suc n) (sym (kind-suc k n))

says-all : (k : Kind) (n m : ℕ) (ids commits words tail : List ℕ) → n ≤ most_rows → id_len k * n ≤ length ids → id_len k * n + 16 * n ≤ length commits → AreBytes commits
    → Says (rows_at (kind_packed k n) n m n 0 None (rows_packed k n n ids commits ++ tail) (map (edge_packed n) words)) (rows_from k n m n 0 None ids commits words)
says-all k zero m ids commits words tail few ids_fit commits_fit fits = says-end k (kind_packed k zero) zero m 0 None None _ ids commits words
says-all k (suc n) m ids commits words tail few ids_fit commits_fit fits =
    subst (λ (j : Kind). Says (rows_at j (suc n) m (suc n) 0 None (rows_packed k (suc n) (suc n) ids commits ++ tail) (map (edge_packed (suc n)) words)) (rows_from k (suc n) m (suc n) 0 None ids commits words))
    (sym (kind-suc k n)) (says-rows k (suc n) m (suc n) 0 None ids commits words tail few ids_fit commits_fit fits)

pub says-parts : (p : Parts) → IsWhole p → Says (read_packed (parts_packed p)) (rows_of p)
unfolding parts_packed
says-parts p whole =
    let k = p.kind in
    let n = p.count in
    let j = kind_packed k n in
    let m = length p.edges / 4 in
    let words = words_of p.edges in
    let rows = rows_packed k n n p.ids p.commits in
    let bytes = flat_map (to_be_bytes w32) (map (edge_packed n) words) in
    let all = layout_name j ++ (to_be_bytes w32 n ++ (to_be_bytes w32 m ++ (rows ++ bytes))) in
    let m_is : length words ≡ m = length-words_of p.edges in
    let ids_fit : id_len k * n ≤ length p.ids = omega (arith, whole.ids) in
    let commits_fit : id_len k * n + 16 * n ≤ length p.commits = omega (arith, whole.commits) in
    let rows_len : length rows ≡ row_len j * n = length-packed k n p.ids p.commits ids_fit commits_fit in
    let bytes_len : length bytes ≡ 4 * m = length-word_bytes (map (edge_packed n) words) ∙ omega (arith, length-map words (edge_packed n)) in
    let body : HasBody j n m rows bytes all = has_body j n m _ _ _ rows bytes refl refl refl (omega (arith, whole.few)) (omega (arith, whole.few_words)) in
    let sized : is_sized j n m (length all) ≡ true = rw (le-leb n most (omega (arith, whole.few)), le-leb m most (omega (arith, whole.few_words)), eq-eqb (length all) (12 + row_len j * n + 4 * m) (omega (arith, body.len)), may_have-packed k n) refl in
    let read : read_packed all ≡ rows_at j n m n 0 None (rows ++ bytes) (map (edge_packed n) words) =
    read-body j n m rows bytes all body sized rows_len ∙ ap (rows_at j n m n 0 None (rows ++ bytes)) (words_of-bytes (map (edge_packed n) words) (edges-below n words whole.few)) in
    let said : Says (rows_at j n m n 0 None (rows ++ bytes) (map (edge_packed n) words)) (rows_from k n (length words) n 0 None p.ids p.commits words) =
    subst (λ (x : ℕ). Says (rows_at j n m n 0 None (rows ++ bytes) (map (edge_packed n) words)) (rows_from k n x n 0 None p.ids p.commits words)) (sym m_is)
    (says-all k n m p.ids p.commits words bytes whole.few ids_fit commits_fit whole.bytes) in
    subst (λ (x : Result (List GraphRow) Place). Says x (rows_of p)) (sym read) said

-- what is opened says what is read of a file
abbrev pub Opens : Result (List GraphRow) GraphError → Result (List GraphRow) Error → Type 0
Opens (Ok rows) read = read ≡ Ok rows
Opens (Err e) read = read ≡ Err (fault_of e)

opens : (here : Result (List GraphRow) Place) (read : Result (List GraphRow) Error) → Says here read → Opens (opened here) read
opens (Ok rows) read h = h
opens (Err (place.Order r)) read h = h
opens (Err (place.Parents r)) read h = h
opens (Err place.Overflow) read h = h
opens (Err place.Head) read h = absurd h
opens (Err place.Size) read h = absurd h

pub opens-parts : (packed : List ℕ) (p : Parts) (result : Result (List GraphRow) GraphError) → IsWhole p → packed ≡ parts_packed p → result ≡ opened (read_packed packed) → Opens result (rows_of p)
opens-parts packed p result whole packed_is result_is =
    let here = opens (read_packed (parts_packed p)) (rows_of p) (says-parts p whole) in
    let opened_is : result ≡ opened (read_packed (parts_packed p)) = result_is ∙ ap (λ (x : List ℕ). opened (read_packed x)) packed_is in
    subst (λ (x : Result (List GraphRow) GraphError). Opens x (rows_of p)) (sym opened_is) here

-- packed bytes that are opened say what the parts say that they were packed from
pub packed-says : (packed : List ℕ) (p : Parts) (result : Result (List GraphRow) Error) → IsWhole p → packed ≡ parts_packed p → IfOk result (λ (rows : List GraphRow). AreGraphRows rows × ReadsAs packed (Ok rows))
    → IfOk result (λ (rows : List GraphRow). AreGraphRows rows × (rows_of p ≡ Ok rows))
packed-says packed p (Ok rows) whole packed_is here = (here.0, here.1 p whole packed_is)
packed-says packed p (Err e) whole packed_is here = tt

pub packed-refuses : (packed : List ℕ) (p : Parts) (result : Result (List GraphRow) Error) → IsWhole p → packed ≡ parts_packed p → IfErr result (λ (e : Error). ReadsAs packed (Err e))
    → IfErr result (λ (e : Error). e ≢ error.Memory → rows_of p ≡ Err e)
packed-refuses packed p (Ok rows) whole packed_is here = tt
packed-refuses packed p (Err e) whole packed_is here = λ other. here p whole packed_is

-- the file's rows are those that its parts say
parts-rows : (file : List ℕ) (p : Parts) → read_parts file ≡ Ok p → read_file file ≡ rows_of p
unfolding read_file
parts-rows file p parts = ap (λ (x : Result Parts Error). x >>= rows_of) parts

pub parts-say : (file : List ℕ) (p : Parts) (result : Result (List GraphRow) Error) → read_parts file ≡ Ok p → IfOk result (λ (rows : List GraphRow). AreGraphRows rows × (rows_of p ≡ Ok rows))
    → IfOk result (λ (rows : List GraphRow). read_file file ≡ Ok rows)
parts-say file p (Ok rows) parts here = parts-rows file p parts ∙ here.1
parts-say file p (Err e) parts here = tt

pub parts-refuse : (file : List ℕ) (p : Parts) (result : Result (List GraphRow) Error) → read_parts file ≡ Ok p → IfErr result (λ (e : Error). e ≢ error.Memory → rows_of p ≡ Err e)
    → IfErr result (λ (e : Error). e ≢ error.Memory → read_file file ≡ Err e)
parts-refuse file p (Ok rows) parts here = tt
parts-refuse file p (Err e) parts here = λ other. parts-rows file p parts ∙ here other

-- the first fault of the parts is the file's
pub parts-fault : (file : List ℕ) (e : Error) → read_parts file ≡ Err e → read_file file ≡ Err e
unfolding read_file
parts-fault file e parts = ap (λ (x : Result Parts Error). x >>= rows_of) parts

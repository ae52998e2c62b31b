-- The layers that the reader takes have the rows that the page says, and ids and generations as their files have them.
use Rattle.std.proofs.Common.{◌≡◌, ◌⊎◌, ℕ, zero, suc, ◌+◌, ◌-◌, ◌*◌, ◌/◌, ◌^◌, ◌<◌, ◌≤◌, true, not, List, [], ◌∷◌, ◌++◌, drop, length, map, slice_get, codes, bytes_eq, Option, Some, None, option_map, Result, Ok, Err, All, Contains, refl, sym, ap, subst, ◌∙◌, arith, w32, ⊎_elim, inl, inr, length-append, length-drop, append_assoc}
use Rattle.std.specs.Cmp.Lexicographic.{same_text}
use Rattle.std.specs.List.{AllByRecursion, flat_map}
use Rattle.std.specs.List.Sorted.{IsStrictlySortedBy}
use Rattle.std.specs.Option.{unwrap_or}
use Rattle.std.specs.Int.{from_be_bytes, to_be_bytes}
use Rattle.std.proofs.lemmas.Bool.{false≢true}
use Rattle.std.proofs.lemmas.List.{map-append, length-map, length_push, flat_map_more, append-nil}
use Rattle.std.proofs.lemmas.List.Elements.{All-nil, All-push, All-head, All-tail, Contains-append_left, Contains-append_right}
use Rattle.gix_hash.specs.declared.Kind.{Kind}
use Rattle.gix_hash.specs.declared.Kind.TheVariants as kind
use Rattle.gix_hash.specs.declared.ObjectId.{ObjectId}
use Rattle.gix_hash.specs.Id.{id_cmp, id_len, id_of}
use Rattle.gix_commitgraph.specs.declared.ParentPlace.TheVariants.{At}
use Rattle.gix_commitgraph.specs.Packed.{AreBytes, ids_of_rows}
use Rattle.gix_commitgraph.specs.PackedReading.{words_of}
use Rattle.gix_commitgraph.specs.Rows.{GraphRow, row_at}
use Rattle.gix_graph_check.specs.HeadsReach.{ids_of_places}
use Rattle.gix_graph_file.specs.declared.error.Chunk.{Chunk}
use Rattle.gix_graph_file.specs.declared.error.Chunk.TheVariants as chunk
use Rattle.gix_graph_file.specs.declared.error.Error.{Error}
use Rattle.gix_graph_file.specs.declared.error.Error.TheVariants as error
use Rattle.gix_graph_file.specs.declared.error.ChainError.{ChainError}
use Rattle.gix_graph_file.specs.declared.error.ChainError.TheVariants as chain
use Rattle.gix_graph_file.specs.FileTable.{Parts, chunk_count, table_len, name_of, read_layer}
use Rattle.gix_graph_file.specs.Chain.{Lower, is_kind, hash_of, base_of, layer_rows, with_rows, with_parts, with_layer, layer_then, chain_from, nothing, read_chain}
use Rattle.gix_statement.specs.WholeStatement as page
use Rattle.gix_statement.specs.CommitGraph.{number_at, bytes_at, AreLayers, IsLayer, IsRow, IsChunk}
use Rattle.gix_commands.specs.Pages.{page_row, page_rows}
use Rattle.gix_commands.proofs.FileNumbers.{byte_is}
use Rattle.gix_commands.proofs.FileChunks.{chunk_found}
use Rattle.gix_commands.proofs.FileParents.{NoFault}
use Rattle.gix_commands.proofs.FileRows.{IsRead, AreRead, rows_rise, rows_say}
use Rattle.gix_commands.proofs.FileHeads.{ok_is, then_is, passed, true_is, version, IsHead, HasChunks, chunk_of, parts_are}

abbrev pub NoFaults : List GraphRow → Type 0
NoFaults rows = AllByRecursion (λ (row : GraphRow). NoFault row.parents) rows

pub split_all : {X : Type 0} (P : X → Type 0) (xs ys : List X) → AllByRecursion P (xs ++ ys) → AllByRecursion P xs × AllByRecursion P ys
split_all P [] ys h = (tt, h)
split_all P (x ∷ xs) ys h = let more = split_all P xs ys h.1 in ((h.0, more.0), more.1)

-- ---- a row by the ids of the rows that it names

id_at : (pre rest : List GraphRow) (f : GraphRow → page.Row) (n : ℕ) → ((row : GraphRow) → (f row).id ≡ row.id) → n < length pre
    → Some (row_at (pre ++ rest) n).id ≡ option_map (λ (parent : page.Row). parent.id) (slice_get (map f pre) n)
id_at [] rest f n same l = absurd (omega (arith, l))
id_at (row ∷ pre) rest f zero same l = ap (λ (i : ObjectId). Some i) (sym (same row))
id_at (row ∷ pre) rest f (suc n) same l = id_at pre rest f n same (omega (arith, l))

ids_at : (pre rest : List GraphRow) (f : GraphRow → page.Row) (numbers : List ℕ) → ((row : GraphRow) → (f row).id ≡ row.id) → AllByRecursion (λ (n : ℕ). n < length pre) numbers
    → map (λ (i : ObjectId). Some i) (ids_of_places (pre ++ rest) (map At numbers)) ≡ map (λ n. option_map (λ (parent : page.Row). parent.id) (slice_get (map f pre) n)) numbers
ids_at pre rest f [] same within = refl
ids_at pre rest f (n ∷ numbers) same within =
    let here = id_at pre rest f n same within.0 in
    let more = ids_at pre rest f numbers same within.1 in
    (λ i. here i ∷ more i)

digits_are : (k : Kind) (bytes : List ℕ) → page.digits_in (id_of k bytes) ≡ 2 * id_len k
digits_are kind.Sha1 bytes = refl
digits_are kind.Sha256 bytes = refl

bytes_are : (k : Kind) (bytes : List ℕ) → page.bytes_in (id_of k bytes) ≡ bytes
bytes_are kind.Sha1 bytes = refl
bytes_are kind.Sha256 bytes = refl

row_is : (k : Kind) (ids data_of edges : List ℕ) (all pre rest : List GraphRow) (j : ℕ) (row : GraphRow) → all ≡ pre ++ rest → IsRead k ids data_of edges (length pre) j row
    → IsRow (id_len k) ids data_of edges (map (page_row all) pre) j (page_row all row)
row_is k ids data_of edges all pre rest j row are read =
    let id_bytes = bytes_at (id_len k * j) (id_len k) ids in
    let tree_bytes = bytes_at ((id_len k + 16) * j) (id_len k) data_of in (
      read.numbers,
      ap page.digits_in read.id ∙ digits_are k id_bytes,
      ap page.bytes_in read.id ∙ bytes_are k id_bytes,
      ap page.digits_in read.tree ∙ digits_are k tree_bytes,
      ap page.bytes_in read.tree ∙ bytes_are k tree_bytes,
      read.parents,
      (λ i. map (λ (x : ObjectId). Some x) (ids_of_places (are i) (read.places i))) ∙ ids_at pre rest (page_row all) read.numbers (λ _. refl) read.within,
      read.time,
    )

-- ---- a layer

-- one file of a chain that has all these rows: its own, above those below, with ids that rise, and with the generations that its data say
pub record IsReadLayer (all : List GraphRow) (lower : List (List ℕ)) (file : List ℕ) (below : List page.Row) (rows : List GraphRow) : Type 0 where
  pub has : IsLayer lower file below (map (page_row all) rows)
  pub among : (row : GraphRow) → Contains rows row → Contains all row
  pub rising : IsStrictlySortedBy id_cmp (ids_of_rows rows)
  pub generation : (k : ℕ) (row : GraphRow) → slice_get rows k ≡ Some row → row.generation ≡ number_at ((has.0 + 16) * k + (has.0 + 8)) 8 has.2 / 2 ^ 34

-- the files below are of the kind that is said, and their hashes are these
pub record IsBelow (lower : Lower) (files : List (List ℕ)) : Type 0 where
  pub kinds : (k : Kind) → is_kind lower.kind k ≡ true → All (λ (other : List ℕ). number_at 5 1 other ≡ version k) files
  pub hashes : (k : Kind) → is_kind lower.kind k ≡ true → lower.hashes ≡ flat_map (λ (other : List ℕ). drop (length other - id_len k) other) files
  pub some : (files ≡ []) ⊎ (0 < length lower.hashes)

record HasRows (lower : Lower) (file : List ℕ) (p : Parts) (next : Lower) : Type 0 where
  same : is_kind lower.kind p.kind ≡ true
  base : base_of file ≡ lower.hashes
  rows : List GraphRow
  read : layer_rows (length lower.rows + p.count) p ≡ Ok rows
  next_is : with_rows lower file p.kind rows ≡ next

has_rows : (lower : Lower) (file : List ℕ) (p : Parts) (next : Lower) → with_parts lower file p ≡ Ok next → HasRows lower file p next
has_rows lower file p next e =
    let a = passed (not (is_kind lower.kind p.kind)) error.Kind _ next e in
    let b = passed (not (bytes_eq (base_of file) lower.hashes)) error.Base _ next a.1 in
    let r = then_is (layer_rows (length lower.rows + p.count) p) _ next b.1 in
    record { same = true_is _ a.0; base = same_text (base_of file) lower.hashes (sym (true_is _ b.0)); rows = r.0; read = r.1; next_is = ok_is _ next r.2 }

widths : (k : Kind) (n : ℕ) → n ≡ version k → ((n ≡ 1) × (id_len k ≡ 20)) ⊎ ((n ≡ 2) × (id_len k ≡ 32))
widths kind.Sha1 n e = inl (e, refl)
widths kind.Sha256 n e = inr (e, refl)

some_width : (k : Kind) → 20 ≤ id_len k
some_width kind.Sha1 = omega arith
some_width kind.Sha256 = omega arith

one_kind : (j k : Kind) → is_kind (Some j) k ≡ true → j ≡ k
one_kind kind.Sha1 kind.Sha1 e = refl
one_kind kind.Sha1 kind.Sha256 e = absurd (false≢true e)
one_kind kind.Sha256 kind.Sha1 e = absurd (false≢true e)
one_kind kind.Sha256 kind.Sha256 e = refl

base_there : (x : Option (List ℕ)) (bytes : List ℕ) → unwrap_or x [] ≡ bytes → 0 < length bytes → x ≡ Some bytes
base_there None bytes e some = absurd (let none : 0 ≡ length bytes = ap length e in omega (arith, none, some))
base_there (Some other) bytes e some = ap (λ (x : List ℕ). Some x) e

edges_there : (x : Option (List ℕ)) (bytes : List ℕ) → bytes ≡ unwrap_or x [] → (x ≡ Some bytes) ⊎ (bytes ≡ [])
edges_there None bytes e = inr e
edges_there (Some other) bytes e = inl (ap (λ (x : List ℕ). Some x) (sym e))

got_row : (f : GraphRow → page.Row) (rows : List GraphRow) (j : ℕ) (r : page.Row) → slice_get (map f rows) j ≡ Some r → (row : GraphRow) × (slice_get rows j ≡ Some row) × (f row ≡ r)
got_row f [] j r e = absurd (let no : ◌≡◌ {A = Option page.Row} None (Some r) = e in cc)
got_row f (row ∷ rows) zero r e = (row, refl, cc)
got_row f (row ∷ rows) (suc j) r e = got_row f rows j r e

module _ (files : List (List ℕ)) (lower : Lower) (file : List ℕ) (next : Lower) (p : Parts) (small : AreBytes file) (below : IsBelow lower files) (head : IsHead (length files) file p.kind) (chunks : HasChunks file p) (has : HasRows lower file p next) where
  abbrev k : Kind
  k = p.kind

  counted : number_at 6 1 file ≡ chunk_count file
  counted = let long = head.long in byte_is 6 file (omega (arith, long))

  fits : table_len (chunk_count file) ≤ length file
  fits = let l = chunks.fits in omega (arith, l)

  chunk_is : (c : Chunk) (letters bytes : List ℕ) → to_be_bytes w32 (name_of c) ≡ letters → from_be_bytes w32 letters ≡ name_of c → chunk_of file c ≡ Some bytes → IsChunk file letters bytes
  chunk_is c letters bytes spelled read e = chunk_found file letters (name_of c) (chunk_count file) small fits counted spelled read (chunk_count file) 0 bytes (omega arith) (λ j l. absurd (omega (arith, l))) e

  read_rows : NoFaults has.rows → AreRead k p.ids p.commits p.edges (length lower.rows + p.count) 0 p.count has.rows
  read_rows sound =
      let none : id_len k * 0 ≡ 0 = omega arith in
      let nothing_else : (id_len k + 16) * 0 ≡ 0 = omega arith in
      let long = chunks.data_len in
      rows_say k (length lower.rows + p.count) (length (words_of p.edges)) p.count p.ids p.commits p.edges (omega (arith, long)) 0 p.count None p.ids p.commits (words_of p.edges) has.rows (omega arith)
      (sym (ap (λ n. drop n p.ids) none)) (sym (ap (λ n. drop n p.commits) nothing_else)) (record { place = 0; counted = omega arith; are = refl }) has.read sound

  layer_is : (all rest : List GraphRow) → all ≡ (lower.rows ++ has.rows) ++ rest → NoFaults all → IsReadLayer all files file (map (page_row all) lower.rows) has.rows
  layer_is all rest are sound =
      let here = (split_all (λ (row : GraphRow). NoFault row.parents) lower.rows has.rows (split_all (λ (row : GraphRow). NoFault row.parents) (lower.rows ++ has.rows) rest (subst NoFaults are sound)).0).1 in
      let read = read_rows here in
      let limit : length lower.rows + p.count ≡ length (lower.rows ++ has.rows) = ap (λ n. length lower.rows + n) (sym read.0) ∙ sym (length-append lower.rows has.rows) in
      let count : length (map (page_row all) has.rows) ≡ p.count = length-map has.rows (page_row all) ∙ read.0 in
      let long = chunks.data_len in
      let distributed : (id_len k + 16) * p.count ≡ id_len k * p.count + 16 * p.count = omega arith in
      let each : (j : ℕ) (r : page.Row) → slice_get (map (page_row all) has.rows) j ≡ Some r → IsRow (id_len k) p.ids p.commits p.edges (map (page_row all) lower.rows ++ map (page_row all) has.rows) j r =
      (λ j r e. let g = got_row (page_row all) has.rows j r e in
      let zero_more : 0 + j ≡ j = omega arith in
      let one : IsRead k p.ids p.commits p.edges (length (lower.rows ++ has.rows)) j g.0 = subst (λ (T : Type 0). T) (λ i. IsRead k p.ids p.commits p.edges (limit i) (zero_more i) g.0) (read.1 j g.0 g.1) in
      subst (λ (T : Type 0). T) (λ i. IsRow (id_len k) p.ids p.commits p.edges (map-append (page_row all) lower.rows has.rows i) j (g.2 i)) (row_is k p.ids p.commits p.edges all (lower.rows ++ has.rows) rest j g.0 are one)) in
      record {
        has = (
          id_len k,
          p.ids,
          p.commits,
          p.edges,
          head.letters,
          widths k (number_at 5 1 file) head.version_is,
          head.layers,
          (λ i d l. below.kinds k has.same i d l ∙ sym head.version_is),
          ⊎_elim (λ e. inl e)
              (λ l. inr (subst (IsChunk file (codes "BASE")) (below.hashes k has.same) (chunk_is chunk.Base (codes "BASE") lower.hashes refl refl (base_there (chunk_of file chunk.Base) lower.hashes has.base l))))
              below.some,
          chunk_is chunk.Ids (codes "OIDL") p.ids refl refl chunks.ids,
          chunk_is chunk.Data (codes "CDAT") p.commits refl refl chunks.data_of,
          ⊎_elim (λ e. inl (chunk_is chunk.Edges (codes "EDGE") p.edges refl refl e)) (λ e. inr e) (edges_there (chunk_of file chunk.Edges) p.edges chunks.edges),
          chunks.ids_len ∙ ap (λ n. id_len k * n) (sym count),
          long ∙ sym distributed ∙ ap (λ n. (id_len k + 16) * n) (sym count),
          each,
        );
        among = λ row m. subst (λ (rows : List GraphRow). Contains rows row) (sym are) (Contains-append_left (lower.rows ++ has.rows) rest row (Contains-append_right lower.rows has.rows row m));
        rising = (rows_rise k (length lower.rows + p.count) (length (words_of p.edges)) p.count 0 None p.ids p.commits (words_of p.edges) has.rows has.read).1;
        generation = λ j row e.
            let at : (id_len k + 16) * (0 + j) + id_len k + 8 ≡ (id_len k + 16) * j + (id_len k + 8) = omega arith in
            (read.1 j row e).generation ∙ ap (λ n. number_at n 8 p.commits / 2 ^ 34) at;
      }

  next_below : IsBelow (with_rows lower file k has.rows) (files ++ file ∷ [])
  next_below = record {
    kinds = λ j e. subst (λ (j : Kind). All (λ (other : List ℕ). number_at 5 1 other ≡ version j) (files ++ file ∷ [])) (one_kind k j e) (All-push (λ (other : List ℕ). number_at 5 1 other ≡ version k) files file (below.kinds k has.same) head.version_is);
    hashes = λ j e. subst (λ (j : Kind). lower.hashes ++ hash_of k file ≡ flat_map (λ (other : List ℕ). drop (length other - id_len j) other) (files ++ file ∷ [])) (one_kind k j e) all_hashes;
    some = inr some_hashes;
  }
    where
      all_hashes : lower.hashes ++ hash_of k file ≡ flat_map (λ (other : List ℕ). drop (length other - id_len k) other) (files ++ file ∷ [])
      all_hashes = ap (λ (x : List ℕ). x ++ hash_of k file) (below.hashes k has.same) ∙ flat_map_more (λ (other : List ℕ). drop (length other - id_len k) other) [] files file

      some_hashes : 0 < length (lower.hashes ++ hash_of k file)
      some_hashes = let l = chunks.fits in omega (arith, l, some_width k, length-append lower.hashes (hash_of k file), length-drop (length file - id_len k) file)

-- ---- a chain of them

-- the files have all these rows, each its own above the files and rows below
abbrev pub AreReadLayers : (all : List GraphRow) → (lower files : List (List ℕ)) → (below : List page.Row) → Type 0
AreReadLayers all lower [] below = page_rows all ≡ below
AreReadLayers all lower (file ∷ files) below = (rows : List GraphRow) × IsReadLayer all lower file below rows × AreReadLayers all (lower ++ file ∷ []) files (below ++ map (page_row all) rows)

record Adds (files : List (List ℕ)) (lower : Lower) (file : List ℕ) (next : Lower) : Type 0 where
  rows : List GraphRow
  rows_are : next.rows ≡ lower.rows ++ rows
  below : IsBelow next (files ++ file ∷ [])
  layer : (all rest : List GraphRow) → all ≡ (lower.rows ++ rows) ++ rest → NoFaults all → IsReadLayer all files file (map (page_row all) lower.rows) rows

adds : (number : ℕ) (files : List (List ℕ)) (lower : Lower) (file : List ℕ) (next : Lower) → number ≡ length files → AreBytes file → IsBelow lower files → with_layer number lower file ≡ Ok next → Adds files lower file next
unfolding with_layer
adds number files lower file next counted small below e =
    let a = then_is (read_layer number file) _ next e in
    let h = parts_are number file a.0 a.1 in
    let has = has_rows lower file a.0 next a.2 in
    let head = subst (λ n. IsHead n file a.0.kind) counted h.0 in
    record {
      rows = has.rows;
      rows_are = ap (λ (x : Lower). x.rows) (sym has.next_is);
      below = subst (λ (x : Lower). IsBelow x (files ++ file ∷ [])) has.next_is (next_below files lower file next a.0 small below head h.1 has);
      layer = layer_is files lower file next a.0 small below head h.1 has;
    }

-- a layer's rows come behind those below
pub next_rows : (number : ℕ) (lower : Lower) (file : List ℕ) (next : Lower) → with_layer number lower file ≡ Ok next → (rows : List GraphRow) × (next.rows ≡ lower.rows ++ rows)
unfolding with_layer
next_rows number lower file next e =
    let a = then_is (read_layer number file) _ next e in
    let has = has_rows lower file a.0 next a.2 in
    (has.rows, ap (λ (x : Lower). x.rows) (sym has.next_is))

layer_then_is : (number : ℕ) (read : Result Lower Error) (more : Lower → Result (List GraphRow) ChainError) (all : List GraphRow) → layer_then number read more ≡ Ok all → (next : Lower) × (read ≡ Ok next) × (more next ≡ Ok all)
layer_then_is number (Ok next) more all e = (next, refl, e)
layer_then_is number (Err f) more all e = absurd (let no : ◌≡◌ {A = Result (List GraphRow) ChainError} (Err (chain.Layer number f)) (Ok all) = e in cc)

pub last_rows : (number : ℕ) (lower : Lower) (all : List GraphRow) → chain_from number lower [] ≡ Ok all → all ≡ lower.rows
unfolding chain_from
last_rows number lower all e = let is : ◌≡◌ {A = Result (List GraphRow) ChainError} (Ok lower.rows) (Ok all) = e in cc

pub first_layer : (number : ℕ) (lower : Lower) (file : List ℕ) (files : List (List ℕ)) (all : List GraphRow) → chain_from number lower (file ∷ files) ≡ Ok all → (next : Lower) × (with_layer number lower file ≡ Ok next) × (chain_from (number + 1) next files ≡ Ok all)
unfolding chain_from
first_layer number lower file files all e = layer_then_is number (with_layer number lower file) (λ (next : Lower). chain_from (number + 1) next files) all e

pub rows_grow : (number : ℕ) (lower : Lower) (files : List (List ℕ)) (all : List GraphRow) → chain_from number lower files ≡ Ok all → (rest : List GraphRow) × (all ≡ lower.rows ++ rest)
rows_grow number lower [] all e = ([], last_rows number lower all e ∙ sym (append-nil lower.rows))
rows_grow number lower (file ∷ files) all e =
    let a = first_layer number lower file files all e in
    let m = rows_grow (number + 1) a.0 files all a.2 in
    let n = next_rows number lower file a.0 a.1 in
    (n.0 ++ m.0, m.1 ∙ ap (λ (x : List GraphRow). x ++ m.0) n.1 ∙ append_assoc lower.rows n.0 m.0)

chain_is : (number : ℕ) (lower : Lower) (under files : List (List ℕ)) (all : List GraphRow) → number ≡ length under → IsBelow lower under → All AreBytes files → chain_from number lower files ≡ Ok all → NoFaults all
    → AreReadLayers all under files (map (page_row all) lower.rows)
chain_is number lower under [] all numbered below small e sound = ap (map (page_row all)) (last_rows number lower all e)
chain_is number lower under (file ∷ files) all numbered below small e sound =
    let a = first_layer number lower file files all e in
    let added = adds number under lower file a.0 numbered (All-head AreBytes file files small) below a.1 in
    let m = rows_grow (number + 1) a.0 files all a.2 in
    let all_are : all ≡ (lower.rows ++ added.rows) ++ m.0 = m.1 ∙ ap (λ (x : List GraphRow). x ++ m.0) added.rows_are in
    let counted_on : number + 1 ≡ length (under ++ file ∷ []) = ap (λ n. n + 1) numbered ∙ sym (length_push under file) in
    let more = chain_is (number + 1) a.0 (under ++ file ∷ []) files all counted_on added.below (All-tail AreBytes file files small) a.2 sound in (
      added.rows,
      added.layer all m.0 all_are sound,
      subst (AreReadLayers all (under ++ file ∷ []) files) (ap (map (page_row all)) added.rows_are ∙ map-append (page_row all) lower.rows added.rows) more,
    )

-- the reader finds rows so, where no place is corrupt
pub chain_read : (files : List (List ℕ)) (rows : List GraphRow) → All AreBytes files → read_chain files ≡ Ok rows → NoFaults rows → AreReadLayers rows [] files []
chain_read files rows small e sound = chain_is 0 nothing [] files rows refl (record { kinds = λ k same. All-nil _; hashes = λ k same. refl; some = inl refl }) small e sound

-- and these are those of the page
pub layers_are : (all : List GraphRow) (lower files : List (List ℕ)) (below : List page.Row) → AreReadLayers all lower files below → AreLayers lower files below (page_rows all)
layers_are all lower [] below are = are
layers_are all lower (file ∷ files) below (rows, is, more) = (map (page_row all) rows, is.has, layers_are all (lower ++ file ∷ []) files (below ++ map (page_row all) rows) more)

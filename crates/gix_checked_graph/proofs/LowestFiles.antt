-- The lowest files of a chain have the first of its rows, in whichever way they are read.
use Rattle.std.proofs.Common.{◌≡◌, ℕ, zero, suc, ◌+◌, Bool, true, false, not, cond, List, [], ◌∷◌, ◌++◌, length, take, map, bytes_eq, Result, Ok, Err, All, Contains, refl, sym, ap, subst, ◌∙◌, append_assoc}
use Rattle.std.proofs.lemmas.List.{append-nil}
use Rattle.std.proofs.lemmas.List.Elements.{All-take, Contains-append_left}
use Rattle.gix_hash.specs.declared.ObjectId.{ObjectId}
use Rattle.gix_commitgraph.specs.Packed.{AreBytes}
use Rattle.gix_commitgraph.specs.Rows.{GraphRow}
use Rattle.gix_graph_file.specs.declared.error.Error.{Error}
use Rattle.gix_graph_file.specs.declared.error.Error.TheVariants as error
use Rattle.gix_graph_file.specs.declared.error.ChainError.{ChainError}
use Rattle.gix_graph_file.specs.FileTable.{◌>>=◌, read_layer}
use Rattle.gix_graph_file.specs.Chain.{Lower, base_of, chain_from, is_kind, layer_rows, layer_then, nothing, with_layer, with_parts, with_rows}
use Rattle.gix_graph_verify.specs.Verified.{IsVerified}
use Rattle.gix_statement.specs.WholeStatement.{Row}
use Rattle.gix_statement.specs.CommitGraph.{AreLayers}
use Rattle.gix_statement.proofs.LayersOnce.{layers_once}
use Rattle.gix_graph_pages.specs.GraphPages.{AreSoundLayers, Layer, all_rows}
use Rattle.gix_graph_pages.proofs.SameLayers.{layers_have_rows}
use Rattle.gix_commands.specs.Pages.{page_rows}
use Rattle.gix_commands.proofs.FileLayers.{NoFaults, chain_read, first_layer, last_rows, layers_are, rows_grow, split_all}
use Rattle.gix_commands.proofs.FileOrder.{chain_layers, no_faults}

-- ---- as the reader has them

abbrev IsFront : (rows all : List GraphRow) → Type 0
IsFront rows all = (rest : List GraphRow) × (all ≡ rows ++ rest)

read_front : (passed number : ℕ) (lower : Lower) (files : List (List ℕ)) (front all : List GraphRow) → chain_from number lower (take passed files) ≡ Ok front → chain_from number lower files ≡ Ok all → IsFront front all
read_front zero number lower [] front all f a = ([], last_rows number lower all a ∙ sym (last_rows number lower front f) ∙ sym (append-nil front))
read_front (suc passed) number lower [] front all f a = ([], last_rows number lower all a ∙ sym (last_rows number lower front f) ∙ sym (append-nil front))
read_front zero number lower (file ∷ files) front all f a =
    let more = rows_grow number lower (file ∷ files) all a in
    (more.0, more.1 ∙ ap (λ rows. rows ++ more.0) (sym (last_rows number lower front f)))
read_front (suc passed) number lower (file ∷ files) front all f a =
    let one = first_layer number lower file (take passed files) front f in
    let other = first_layer number lower file files all a in
    let both : ◌≡◌ {A = Result Lower Error} (Ok one.0) (Ok other.0) = sym one.1 ∙ other.1 in
    let same : one.0 ≡ other.0 = cc in
    read_front passed (number + 1) other.0 files front all (subst (λ (next : Lower). chain_from (number + 1) next (take passed files) ≡ Ok front) same one.2) other.2

-- ---- as the page has them

front_layers : (passed : ℕ) (lower files : List (List ℕ)) (below rows : List Row) → AreLayers lower files below rows → (front rest : List Row) × AreLayers lower (take passed files) below front × (rows ≡ front ++ rest)
front_layers zero lower [] below rows are = (below, [], refl, are ∙ sym (append-nil below))
front_layers (suc passed) lower [] below rows are = (below, [], refl, are ∙ sym (append-nil below))
front_layers zero lower (file ∷ files) below rows (own, is, are) =
    let more = front_layers zero (lower ++ file ∷ []) files (below ++ own) rows are in
    (below, own ++ more.1, refl, more.3 ∙ ap (λ front. front ++ more.1) more.2 ∙ append_assoc below own more.1)
front_layers (suc passed) lower (file ∷ files) below rows (own, is, are) =
    let more = front_layers passed (lower ++ file ∷ []) files (below ++ own) rows are in
    (more.0, more.1, (own, is, more.2), more.3)

-- ---- both

module _ (files : List (List ℕ)) (passed : ℕ) (small : All AreBytes files) (verified : IsVerified files passed) (lower : List Layer) (generation : ObjectId → ℕ) (files_are : map (λ (layer : Layer). layer.file) lower ≡ take passed files)
    (sound : AreSoundLayers lower generation) where
  lower_layers : AreLayers [] (take passed files) [] (all_rows lower)
  lower_layers = subst (λ those. AreLayers [] those [] (all_rows lower)) files_are (layers_have_rows lower generation sound)

  -- the rows that were read of the lowest files are those of the layers
  pub rows_below : page_rows verified.below.rows ≡ all_rows lower
  rows_below = layers_once [] (take passed files) [] (page_rows verified.below.rows) (all_rows lower) layers lower_layers
    where
      none_corrupt : NoFaults verified.below.rows
      none_corrupt =
          let front = read_front passed 0 nothing files verified.below.rows verified.chain.rows verified.below.read verified.chain.read in
          (split_all _ verified.below.rows front.0 (subst NoFaults front.1 (no_faults verified.chain.rows verified.rows verified.chain.same verified.sound))).0

      layers : AreLayers [] (take passed files) [] (page_rows verified.below.rows)
      layers = layers_are verified.below.rows [] (take passed files) [] (chain_read (take passed files) verified.below.rows (All-take AreBytes passed files small) verified.below.read none_corrupt)

  -- and they are among all rows
  pub rows_among : (r : Row) → Contains (all_rows lower) r → Contains (page_rows verified.chain.rows) r
  rows_among r m =
      let front = front_layers passed [] files [] (page_rows verified.chain.rows) (chain_layers files verified.rows small verified.chain verified.sound) in
      let same = layers_once [] (take passed files) [] front.0 (all_rows lower) front.2 lower_layers in
      subst (λ rows. Contains rows r) (sym front.3) (Contains-append_left front.0 front.1 r (subst (λ rows. Contains rows r) (sym same) m))

-- Files in which no difference was found have rows in order and sound, which texts of objects say.
use Rattle.std.proofs.Common.{◌≡◌, ◌≢◌, ◌⊎◌, ℕ, zero, suc, ◌+◌, ◌*◌, ◌/◌, ◌^◌, ◌<◌, List, [], ◌∷◌, ◌++◌, length, take, map, slice_get, codes}
use Rattle.std.proofs.Common.{Option, Some, None, All, AllPairs, Contains, Less, refl, sym, ap, subst, ◌∙◌, arith, inl, inr, append_assoc, ◌==◌, if◌then◌else◌}
use Rattle.std.specs.List.{AllByRecursion}
use Rattle.std.specs.List.Sorted.{IsStrictlySortedBy}
use Rattle.std.proofs.lemmas.List.{append-nil, flat_map_more, map-append}
use Rattle.std.proofs.lemmas.List.Elements.{All-contains, All-from_recursion}
use Rattle.std.proofs.lemmas.List.Kept.{AllPairs-cons}
use Rattle.std.proofs.lemmas.Option.{none-some, same_Some, slice_get-get_or}
use Rattle.gix_hash.specs.Id.{id_cmp}
use Rattle.gix_hash.specs.declared.ObjectId.{ObjectId}
use Rattle.gix_object.specs.Object.{Objects}
use Rattle.gix_commitgraph.specs.declared.ParentPlace.{ParentPlace}
use Rattle.gix_commitgraph.specs.declared.ParentPlace.TheVariants.{At, Fault}
use Rattle.gix_commitgraph.specs.Packed.{AreBytes, AreGraphRows, IsPlaceAmong, IsRowAmong, ids_of_rows, kind_of_rows}
use Rattle.gix_commitgraph.specs.Renumbering.{renumbered}
use Rattle.gix_commitgraph.specs.Rows.{GraphRow, no_row, row_at, row_of}
use Rattle.gix_revwalk.specs.Agreeing.{PlaceAgrees, RowAgrees}
use Rattle.gix_revwalk.proofs.ReadsWhole.{row_stands}
use Rattle.gix_graph_file.specs.Chain.{HasChain}
use Rattle.gix_graph_verify.specs.Verified.{IsVerified}
use Rattle.gix_graph_check.specs.HeadsReach.{ids_of_places}
use Rattle.gix_graph_check.specs.Sound.{AreSound, IsSound, IsSoundPlace}
use Rattle.gix_graph_check.proofs.SoundRows.{row_at-read}
use Rattle.gix_statement.specs.WholeStatement as page
use Rattle.gix_statement.specs.WholeStatement.{AreNamed, IsText, Row, by_bytes}
use Rattle.gix_statement.specs.CommitGraph.{IsChunk, number_at}
use Rattle.gix_statement.proofs.LayersOnce.{chunk_once}
use Rattle.gix_graph_pages.specs.GraphPages.{IsSoundLayer, Layer, all_rows, width_of}
use Rattle.gix_commands.specs.Pages.{page_objects, page_row, page_rows}
use Rattle.gix_commands.proofs.PageCommits.{whole_text}
use Rattle.gix_commands.proofs.RowsAsTexts.{from_map, into_map, own_row, text_moves}
use Rattle.gix_commands.proofs.SameBases.{same_order}
use Rattle.gix_commands.proofs.FileLayers.{AreReadLayers, IsReadLayer}
use Rattle.gix_commands.proofs.FileOrder.{at_contains, back, forth, got_in, moved_row, read_layers, rows_apart}
use Rattle.gix_checked_graph.specs.Checked.{AreChecked, CheckedFiles, HasAllOf}
use Rattle.gix_checked_graph.proofs.AnswersCarried.{stays}
use Rattle.gix_checked_graph.proofs.LowestFiles.{rows_among, rows_below}

-- ---- ids rise

above : (all xs : List GraphRow) (i : ObjectId) → AllByRecursion (λ j. id_cmp i j ≡ Less) (ids_of_rows xs) → AllByRecursion (λ (s : Row). by_bytes i s.id ≡ Less) (map (page_row all) xs)
above all [] i h = tt
above all (x ∷ xs) i h = (sym (same_order i x.id) ∙ h.0, above all xs i h.1)

rising_page : (all xs : List GraphRow) → IsStrictlySortedBy id_cmp (ids_of_rows xs) → AllPairs (λ (r s : Row). by_bytes r.id s.id ≡ Less) (map (page_row all) xs)
unfolding IsStrictlySortedBy
rising_page all [] h = λ i j d l m. absurd (omega (arith, m))
rising_page all (x ∷ xs) h =
    AllPairs-cons (λ (r s : Row). by_bytes r.id s.id ≡ Less) (page_row all x) (map (page_row all) xs) (All-from_recursion (λ (s : Row). by_bytes x.id s.id ≡ Less) (map (page_row all) xs) (above all xs x.id h.0)) (rising_page all xs h.1)

-- ---- generations

gen_in : Option GraphRow → ℕ
gen_in None = 0
gen_in (Some row) = row.generation

-- the generation that the row of an id has
abbrev generation_of : List GraphRow → ObjectId → ℕ
generation_of graph i = gen_in (row_of graph i)

own_generation : (graph : List GraphRow) → AreGraphRows graph → (row : GraphRow) → Contains graph row → generation_of graph row.id ≡ row.generation
unfolding gen_in
own_generation graph are row m = ap gen_in (own_row graph are row m)

width_is : (file : List ℕ) (width : ℕ) → ((number_at 5 1 file ≡ 1) × (width ≡ 20)) ⊎ ((number_at 5 1 file ≡ 2) × (width ≡ 32)) → width_of file ≡ width
width_is file width (inl (one, is)) = ap (λ n. if n == 1 then 20 else 32) one ∙ sym is
width_is file width (inr (two, is)) = ap (λ n. if n == 1 then 20 else 32) two ∙ sym is

-- ---- a graph that is sound

module _ (graph : List GraphRow) (are : AreGraphRows graph) (sound : AreSound graph) where
  row_among : (row : GraphRow) → Contains graph row → IsRowAmong (kind_of_rows graph) (length graph) row
  row_among row m = All-contains (IsRowAmong (kind_of_rows graph) (length graph)) graph row (All-from_recursion (IsRowAmong (kind_of_rows graph) (length graph)) graph are.each) m

  row_sound : (row : GraphRow) → Contains graph row → IsSound graph row
  row_sound row m = All-contains (IsSound graph) graph row sound m

  below_all : (generation : ℕ) (places : List ParentPlace) → AllByRecursion (IsPlaceAmong (length graph)) places → AllByRecursion (IsSoundPlace graph generation) places
      → AllByRecursion (λ p. generation_of graph p < generation) (ids_of_places graph places)
  below_all generation [] a s = tt
  below_all generation (Fault ∷ places) a s = absurd s.0
  below_all generation (At n ∷ places) a s =
      let there = at_contains graph (row_at graph n) n (slice_get-get_or graph n no_row a.0) in
      (subst (λ g. g < generation) (sym (own_generation graph are (row_at graph n) there)) s.0, below_all generation places a.1 s.1)

  falling_row : (row : GraphRow) → Contains graph row → All (λ p. generation_of graph p < generation_of graph row.id) (ids_of_places graph row.parents)
  falling_row row m = subst (λ g. All (λ p. generation_of graph p < g) (ids_of_places graph row.parents)) (sym (own_generation graph are row m))
      (All-from_recursion (λ p. generation_of graph p < row.generation) (ids_of_places graph row.parents) (below_all row.generation row.parents (row_among row m).parents (row_sound row m).parents))

  falling_page : (r : Row) → Contains (page_rows graph) r → All (λ p. generation_of graph p < generation_of graph r.id) r.parents
  falling_page r m = let g = from_map (page_row graph) graph r m in subst (λ (r : Row). All (λ p. generation_of graph p < generation_of graph r.id) r.parents) g.2 (falling_row g.0 g.1)

  -- the ids at places that agree with a commit are its parents
  parents_said : (generation : ℕ) (places : List ParentPlace) (parents : List ObjectId) → AllByRecursion (IsSoundPlace graph generation) places → length places ≡ length parents
      → ((k : ℕ) (i : ObjectId) (place : ParentPlace) → slice_get parents k ≡ Some i → slice_get places k ≡ Some place → PlaceAgrees graph generation i place) → ids_of_places graph places ≡ parents
  parents_said generation [] [] s long agree = refl
  parents_said generation [] (i ∷ parents) s long agree = absurd (omega (arith, long))
  parents_said generation (Fault ∷ places) parents s long agree = absurd s.0
  parents_said generation (At n ∷ places) [] s long agree = absurd (omega (arith, long))
  parents_said generation (At n ∷ places) (i ∷ parents) s long agree =
      let at : PlaceAgrees graph generation i (At n) = agree 0 i (At n) refl refl in
      let here = ap (λ (row : GraphRow). row.id) (row_at-read graph n at.0 at.1) ∙ at.2 in
      let more = parents_said generation places parents s.1 (omega (arith, long)) (λ k. agree (suc k)) in
      (λ k. here k ∷ more k)

  row_text : (objects : Objects) (row : GraphRow) → Contains graph row → RowAgrees objects graph row → IsText (page_objects objects) (page_row graph row)
  row_text objects row m a =
      let parents = parents_said row.generation row.parents a.whole.commit.parents (row_sound row m).parents a.places a.parents in
      subst (IsText (page_objects objects)) (λ k. record { id = row.id; tree = a.tree k; parents = sym parents k; time = a.time k }) (whole_text objects row.id a.whole.commit a.whole.stored)

-- ---- the files of a chain

-- the layers that these files are, above lower ones, up to all rows
record HasLayers (rows : List Row) (generation : ObjectId → ℕ) (lower : List Layer) (files : List (List ℕ)) : Type 0 where
  layers : List Layer
  files_are : map (λ (layer : Layer). layer.file) layers ≡ files
  rows_are : all_rows (lower ++ layers) ≡ rows
  each : (k : ℕ) (layer : Layer) → slice_get layers k ≡ Some layer → IsSoundLayer (lower ++ take k layers) layer generation

no_more_layers : (rows : List Row) (generation : ObjectId → ℕ) (lower : List Layer) → rows ≡ all_rows lower → HasLayers rows generation lower []
no_more_layers rows generation lower are = record { layers = []; files_are = refl; rows_are = ap all_rows (append-nil lower) ∙ sym are; each = λ k layer e. absurd (none-some layer e) }

one_more_layer : (rows : List Row) (generation : ObjectId → ℕ) (lower : List Layer) (layer : Layer) (files : List (List ℕ)) → IsSoundLayer lower layer generation → HasLayers rows generation (lower ++ layer ∷ []) files
    → HasLayers rows generation lower (layer.file ∷ files)
one_more_layer rows generation lower layer files sound more = record {
  layers = layer ∷ more.layers;
  files_are = ap (λ those. layer.file ∷ those) more.files_are;
  rows_are = ap all_rows (sym (append_assoc lower (layer ∷ []) more.layers)) ∙ more.rows_are;
  each = each;
}
  where
    each : (k : ℕ) (other : Layer) → slice_get (layer ∷ more.layers) k ≡ Some other → IsSoundLayer (lower ++ take k (layer ∷ more.layers)) other generation
    each zero other e = subst (λ (T : Type 0). T) (λ i. IsSoundLayer (sym (append-nil lower) i) (same_Some layer other e i) generation) sound
    each (suc k) other e = subst (λ those. IsSoundLayer those other generation) (append_assoc lower (layer ∷ []) (take k more.layers)) (more.each k other e)

module _ (files : List (List ℕ)) (graph : List GraphRow) (has : HasChain files graph) (sound : AreSound graph) where
  row_generation : (row : GraphRow) → Contains has.rows row → generation_of graph row.id ≡ row.generation
  row_generation row (n, few, is) =
      let moved = renumbered has.same.number row in
      own_generation graph has.sound moved (at_contains graph moved (has.same.number n) (moved_row has.rows graph has.same n row (slice_get-get_or has.rows n row few ∙ ap Some is)))

  module _ (lower : List Layer) (file : List ℕ) (rows : List GraphRow) (is : IsReadLayer has.rows (map (λ (layer : Layer). layer.file) lower) file (all_rows lower) rows) where
    said : (data_of : List ℕ) (k : ℕ) (r : Row) → IsChunk file (codes "CDAT") data_of → slice_get (map (page_row has.rows) rows) k ≡ Some r
        → generation_of graph r.id ≡ number_at ((width_of file + 16) * k + (width_of file + 8)) 8 data_of / 2 ^ 34
    said data_of k r chunk e =
        let g = got_in (page_row has.rows) rows k r e in
        let width = width_is file is.has.0 is.has.5 in
        let same = chunk_once file (codes "CDAT") is.has.2 data_of is.has.10 chunk in
        ap (λ (r : Row). generation_of graph r.id) (sym g.2)
        ∙ row_generation g.0 (is.among g.0 (at_contains rows g.0 k g.1))
        ∙ is.generation k g.0 g.1
        ∙ (λ i. number_at ((sym width i + 16) * k + (sym width i + 8)) 8 (same i) / 2 ^ 34)

    sound_layer : IsSoundLayer lower (record { file = file; rows = map (page_row has.rows) rows }) (generation_of graph)
    sound_layer = record { has = is.has; rising = rising_page has.rows rows is.rising; said = said }

  has_layers : (lower : List Layer) (those : List (List ℕ)) → AreReadLayers has.rows (map (λ (layer : Layer). layer.file) lower) those (all_rows lower) → HasLayers (page_rows has.rows) (generation_of graph) lower those
  has_layers lower [] are = no_more_layers (page_rows has.rows) (generation_of graph) lower are
  has_layers lower (file ∷ those) (rows, is, are) =
      let layer : Layer = record { file = file; rows = map (page_row has.rows) rows } in
      let files_are = map-append (λ (layer : Layer). layer.file) lower (layer ∷ []) in
      let rows_are = flat_map_more (λ (layer : Layer). layer.rows) [] lower layer in
      one_more_layer (page_rows has.rows) (generation_of graph) lower layer those (sound_layer lower file rows is)
      (has_layers (lower ++ layer ∷ []) those (subst (λ (T : Type 0). T) (λ i. AreReadLayers has.rows (sym files_are i) those (rows_are i)) are))

  -- they are checked by objects that have the text of each row
  checked_by : (objects : page.Objects) → All AreBytes files → AreNamed objects → ((row : GraphRow) → Contains graph row → IsText objects (page_row graph row))
      → (layers : List Layer) × (map (λ (layer : Layer). layer.file) layers ≡ files) × AreChecked layers objects
  checked_by objects small named text =
      let chain = has_layers [] files (read_layers files graph small has sound) in
      let on : (r : Row) → Contains (all_rows chain.layers) r → Contains (page_rows graph) r =
      λ r m. forth has.rows graph has.same has.accepted.3 has.accepted.2 r (subst (λ rows. Contains rows r) chain.rows_are m) in (
        chain.layers,
        chain.files_are,
        record {
          generation = generation_of graph;
          sound = record { each = chain.each; falling = λ r m. falling_page graph has.sound sound r (on r m) };
          apart = subst (AllPairs (λ (r s : Row). r.id ≢ s.id)) (sym chain.rows_are) (rows_apart has.rows has.accepted.2);
          named = named;
          texts = λ r m. let g = from_map (page_row graph) graph r (on r m) in subst (IsText objects) g.2 (text g.0 g.1);
        },
      )

-- ---- rows that passed before, and rows that were compared now

module _ (files : List (List ℕ)) (passed : ℕ) (small : All AreBytes files) (verified : IsVerified files passed) (lower : List Layer) (checked objects : page.Objects) (files_are : map (λ (layer : Layer). layer.file) lower ≡ take passed files)
    (are : AreChecked lower checked) where
  -- where the lowest files have a row of an id, it is the row of the id that the chain has
  row_before : (row other : GraphRow) → Contains verified.rows row → row_of verified.lower row.id ≡ Some other → Contains (all_rows lower) (page_row verified.rows row)
  row_before row other m e =
      let stands = row_stands verified.lower row.id other e in
      let before = page_row verified.lower other in
      let there : Contains (all_rows lower) before = subst (λ rows. Contains rows before) (rows_below files passed small verified lower are.generation files_are are.sound)
      (back verified.below.rows verified.lower verified.below.same verified.below.accepted.3 verified.below.accepted.2 before (into_map (page_row verified.lower) verified.lower other stands.0)) in
      let g = from_map (page_row verified.rows) verified.rows before
      (forth verified.chain.rows verified.rows verified.chain.same verified.chain.accepted.3 verified.chain.accepted.2 before (rows_among files passed small verified lower are.generation files_are are.sound before there)) in
      let ids : row.id ≡ g.0.id = stands.1 ∙ ap (λ (r : Row). r.id) (sym g.2) in
      let one = same_Some row g.0 (sym (own_row verified.rows verified.chain.sound row m) ∙ ap (row_of verified.rows) ids ∙ own_row verified.rows verified.chain.sound g.0 g.1) in
      subst (Contains (all_rows lower)) (sym (ap (page_row verified.rows) one ∙ g.2)) there

  text_there : HasAllOf objects checked → HasAllOf objects (page_objects verified.objects) → (row : GraphRow) → Contains verified.rows row → IsText objects (page_row verified.rows row)
  text_there has_before has_now row m = go (row_of verified.lower row.id) refl
    where
      r : Row
      r = page_row verified.rows row

      go : (found : Option GraphRow) → row_of verified.lower row.id ≡ found → IsText objects r
      go None e = text_moves (page_objects verified.objects) objects r (stays objects (page_objects verified.objects) has_now row.id) (row_text verified.rows verified.chain.sound verified.sound verified.objects row m (verified.agree row m e))
      go (Some other) e = text_moves checked objects r (stays objects checked has_before row.id) (are.texts r (row_before row other m e))

pub checked_files : CheckedFiles
checked_files files passed small verified lower checked objects files_are are named has_before has_now =
    checked_by files verified.rows verified.chain verified.sound objects small named (text_there files passed small verified lower checked objects files_are are has_before has_now)

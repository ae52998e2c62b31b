-- Files that passed one by one, and that name those below them, passed together.
use Rattle.std.proofs.Common.{◌≡◌, ◌≢◌, ◌⊎◌, ℕ, zero, suc, ◌+◌, ◌-◌, ◌<◌, ◌≤◌, List, [], ◌∷◌, ◌++◌, length, map, take, drop, flat_map, slice_get, get_or, codes, if◌then◌else◌, ◌==◌, Option, Some, None, All, AllPairs, Contains, IsTrue, refl, sym, ap, subst, ◌∙◌, arith, inl, inr, ⊎_elim, append_assoc, length-take}
use Rattle.std.proofs.lemmas.Grind.{flat_map-append}
use Rattle.std.proofs.lemmas.List.{append-nil, length-map, take-append-drop, take-map, take-take, take_all}
use Rattle.std.proofs.lemmas.List.Elements.{Contains-append_left}
use Rattle.std.proofs.lemmas.Option.{none-some, same_Some, slice_get-get_or, slice_get_within}
use Rattle.std.proofs.Math.Seq.{drop-append_seam, take-append_seam}
use Rattle.gix_commitgraph.specs.Packed.{AreBytes}
use Rattle.gix_graph_file.specs.Trailer.{has_its_hash}
use Rattle.gix_graph_verify.specs.Verified.{IsVerified}
use Rattle.gix_statement.specs.WholeStatement.{AreNamed, Carries, Objects, Row}
use Rattle.gix_statement.specs.CommitGraph.{AreLayers, IsChunk, IsLayer, number_at}
use Rattle.gix_statement.proofs.LayersOnce.{chunk_once}
use Rattle.gix_graph_pages.specs.GraphPages.{HaveFiles, IsSoundLayer, Layer, all_rows, width_of}
use Rattle.gix_graph_pages.specs.NamedBelow.{HaveAll, NamesBelow, own_hash}
use Rattle.gix_graph_pages.proofs.ReadRows.{found}
use Rattle.gix_graph_pages.proofs.SameLayers.{layers_have_rows}
use Rattle.gix_commands.specs.Pages.{page_objects, page_rows}
use Rattle.gix_commands.proofs.FileOrder.{at_contains, chain_layers}
use Rattle.gix_checked_graph.specs.Checked.{AreChecked, HasAllOf}
use Rattle.gix_checked_graph.specs.Passed.{HasPassed, HashClash, PassedAnswers, among}
use Rattle.gix_checked_graph.proofs.AnswersCarried.{checked_answers, same_list}
use Rattle.gix_checked_graph.proofs.FileEnds.{HasEnd, chain_ends, hash_is, hash_long}
use Rattle.gix_checked_graph.proofs.FilesChecked.{checked_files}
use Rattle.gix_checked_graph.proofs.FromNothing.{has_itself, no_layers}

-- ---- the first of a list

got_taken : {X : Type 0} (n : ℕ) (xs : List X) (k : ℕ) (x : X) → slice_get (take n xs) k ≡ Some x → slice_get xs k ≡ Some x
got_taken zero [] k x e = absurd (none-some x e)
got_taken zero (y ∷ xs) k x e = absurd (none-some x e)
got_taken (suc n) [] k x e = absurd (none-some x e)
got_taken (suc n) (y ∷ xs) zero x e = e
got_taken (suc n) (y ∷ xs) (suc k) x e = got_taken n xs k x e

pairs_front : {X : Type 0} (R : X → X → Type 0) (xs ys : List X) → AllPairs R (xs ++ ys) → AllPairs R xs
pairs_front R xs ys all i j d before within =
    subst (λ (T : Type 0). T) (λ t. R (front xs ys i d (omega (arith, before, within)) t) (front xs ys j d within t)) (all i j d before (omega (arith, within, long xs ys)))
  where
    front : {X : Type 0} (xs ys : List X) (i : ℕ) (d : X) → i < length xs → get_or (xs ++ ys) i d ≡ get_or xs i d
    front [] ys i d few = absurd (omega (arith, few))
    front (x ∷ xs) ys zero d few = refl
    front (x ∷ xs) ys (suc i) d few = front xs ys i d (omega (arith, few))

    long : {X : Type 0} (xs ys : List X) → length xs ≤ length (xs ++ ys)
    long [] ys = omega arith
    long (x ∷ xs) ys = let more = long xs ys in omega (arith, more)

-- the lowest of layers that were compared were compared
lowest : (layers : List Layer) (n : ℕ) (objects : Objects) → AreChecked layers objects → AreChecked (take n layers) objects
lowest layers n objects are = record {
  generation = are.generation;
  sound = record {
    each = λ k layer e.
        let few : k ≤ n = omega (arith, slice_get_within (take n layers) k layer e, length-take n layers) in
        subst (λ those. IsSoundLayer those layer are.generation) (sym (take-take k n layers few)) (are.sound.each k layer (got_taken n layers k layer e));
    falling = λ r m. are.sound.falling r (on r m);
  };
  apart = pairs_front (λ (r s : Row). r.id ≢ s.id) (all_rows (take n layers)) (all_rows (drop n layers)) (subst (AllPairs (λ (r s : Row). r.id ≢ s.id)) rows are.apart);
  named = are.named;
  texts = λ r m. are.texts r (on r m);
}
  where
    rows : all_rows layers ≡ all_rows (take n layers) ++ all_rows (drop n layers)
    rows = ap all_rows (sym (take-append-drop n layers)) ∙ flat_map-append (λ (l : Layer). l.rows) (take n layers) (drop n layers)

    on : (r : Row) → Contains (all_rows (take n layers)) r → Contains (all_rows layers) r
    on r m = subst (λ those. Contains those r) (sym rows) (Contains-append_left (all_rows (take n layers)) (all_rows (drop n layers)) r m)

-- ---- a file of a chain names those below it

layer_in : (lower files : List (List ℕ)) (below rows : List Row) → AreLayers lower files below rows → (k : ℕ) (file : List ℕ) → slice_get files k ≡ Some file
    → (under : List Row) × (own : List Row) × IsLayer (lower ++ take k files) file under own
layer_in lower [] below rows are k file e = absurd (none-some file e)
layer_in lower (first ∷ files) below rows (own, is, more) zero file e =
    (below, own, subst (λ (T : Type 0). T) (λ i. IsLayer (sym (append-nil lower) i) (same_Some first file e i) below own) is)
layer_in lower (first ∷ files) below rows (own, is, more) (suc k) file e =
    let next = layer_in (lower ++ first ∷ []) files (below ++ own) rows more k file e in
    (next.0, next.1, subst (λ those. IsLayer those file next.0 next.1) (append_assoc lower (first ∷ []) (take k files)) next.2)

width_is : (file : List ℕ) (width : ℕ) → ((number_at 5 1 file ≡ 1) × (width ≡ 20)) ⊎ ((number_at 5 1 file ≡ 2) × (width ≡ 32)) → width_of file ≡ width
width_is file width (inl (one, is)) = ap (λ n. if n == 1 then 20 else 32) one ∙ sym is
width_is file width (inr (two, is)) = ap (λ n. if n == 1 then 20 else 32) two ∙ sym is

version_is : (file : List ℕ) (width : ℕ) → ((number_at 5 1 file ≡ 1) × (width ≡ 20)) ⊎ ((number_at 5 1 file ≡ 2) × (width ≡ 32)) → (number_at 5 1 file ≡ 1) ⊎ (number_at 5 1 file ≡ 2)
version_is file width (inl (one, is)) = inl one
version_is file width (inr (two, is)) = inr two

same_kind : (file : List ℕ) (lower : List (List ℕ)) → All (λ other. number_at 5 1 other ≡ number_at 5 1 file) lower → (k : ℕ) (other : List ℕ) → slice_get lower k ≡ Some other → width_of other ≡ width_of file
same_kind file lower kinds k other e =
    let few = slice_get_within lower k other e in
    let is : get_or lower k other ≡ other = same_Some (get_or lower k other) other (sym (slice_get-get_or lower k other few) ∙ e) in
    ap (λ n. if n == 1 then 20 else 32) (ap (number_at 5 1) (sym is) ∙ kinds k other few)

hashes_are : (width : ℕ) (lower : List (List ℕ)) → ((k : ℕ) (other : List ℕ) → slice_get lower k ≡ Some other → HasEnd other × (width_of other ≡ width))
    → flat_map (λ (other : List ℕ). drop (length other - width) other) lower ≡ flat_map own_hash lower
hashes_are width [] each = refl
hashes_are width (other ∷ lower) each =
    let here = each 0 other refl in
    let first : drop (length other - width) other ≡ own_hash other = ap (λ w. drop (length other - w) other) (sym here.1) ∙ sym (hash_is other here.0) in
    let rest = hashes_are width lower (λ k. each (suc k)) in
    (λ i. first i ++ rest i)

named_in : (files : List (List ℕ)) (rows : List Row) → AreLayers [] files [] rows → ((k : ℕ) (file : List ℕ) → slice_get files k ≡ Some file → HasEnd file) → (k : ℕ) (file : List ℕ) → slice_get files k ≡ Some file → NamesBelow (take k files) file
named_in files rows are ends k file e =
    let layer = (layer_in [] files [] rows are k file e).2 in
    let width = width_is file layer.0 layer.5 in
    let each : (j : ℕ) (other : List ℕ) → slice_get (take k files) j ≡ Some other → HasEnd other × (width_of other ≡ layer.0) =
    (λ j other at. (ends j other (got_taken k files j other at), same_kind file (take k files) layer.7 j other at ∙ width)) in
    record {
      begins = layer.4;
      kind = version_is file layer.0 layer.5;
      kinds = layer.7;
      number = layer.6;
      base = ⊎_elim (λ none. inl none) (λ chunk. inr (subst (IsChunk file (codes "BASE")) (hashes_are layer.0 (take k files) each) chunk)) layer.8;
    }

-- ---- files that have the same hashes

module _ (seen : List (List ℕ)) (no_clash : HashClash seen → ⊥) where
  -- a file that was seen, and ends with its hash
  record IsWhole (file : List ℕ) : Type 0 where
    known : Contains seen file
    end : HasEnd file
    hash : IsTrue (has_its_hash file)

  one_file : (one other : List ℕ) → IsWhole one → IsWhole other → own_hash one ≡ own_hash other → one ≡ other
  one_file one other a b same = same_list one other (λ differ. no_clash (one, other, a.known, b.known, differ, a.hash, b.hash, same))

  front_same : (xs ys zs ws : List ℕ) → length xs ≡ length ys → xs ++ zs ≡ ys ++ ws → (xs ≡ ys) × (zs ≡ ws)
  front_same xs ys zs ws long e = (
    sym (take-append_seam xs zs) ∙ (λ i. take (long i) (e i)) ∙ take-append_seam ys ws,
    sym (drop-append_seam xs zs) ∙ (λ i. drop (long i) (e i)) ∙ drop-append_seam ys ws,
  )

  same_files : (width : ℕ) (ones others : List (List ℕ)) → length ones ≡ length others
      → ((k : ℕ) (file : List ℕ) → slice_get ones k ≡ Some file → IsWhole file × (width_of file ≡ width))
      → ((k : ℕ) (file : List ℕ) → slice_get others k ≡ Some file → IsWhole file × (width_of file ≡ width))
      → flat_map own_hash ones ≡ flat_map own_hash others → ones ≡ others
  same_files width [] [] long a b same = refl
  same_files width [] (other ∷ others) long a b same = absurd (omega (arith, long))
  same_files width (one ∷ ones) [] long a b same = absurd (omega (arith, long))
  same_files width (one ∷ ones) (other ∷ others) long a b same =
      let here = a 0 one refl in
      let there = b 0 other refl in
      let as_long : length (own_hash one) ≡ length (own_hash other) = hash_long one here.0.end ∙ here.1 ∙ sym there.1 ∙ sym (hash_long other there.0.end) in
      let both = front_same (own_hash one) (own_hash other) (flat_map own_hash ones) (flat_map own_hash others) as_long same in
      let first = one_file one other here.0 there.0 both.0 in
      let rest = same_files width ones others (omega (arith, long)) (λ k. a (suc k)) (λ k. b (suc k)) both.1 in
      (λ i. first i ∷ rest i)

  -- a file has one list of files below it
  same_below : (file : List ℕ) (ones others : List (List ℕ)) → NamesBelow ones file → NamesBelow others file
      → ((k : ℕ) (other : List ℕ) → slice_get ones k ≡ Some other → IsWhole other) → ((k : ℕ) (other : List ℕ) → slice_get others k ≡ Some other → IsWhole other) → ones ≡ others
  same_below file ones others a b whole also_whole =
      same_files (width_of file) ones others long (λ k other e. (whole k other e, same_kind file ones a.kinds k other e)) (λ k other e. (also_whole k other e, same_kind file others b.kinds k other e)) hashes
    where
      long : length ones ≡ length others
      long = sym a.number ∙ b.number

      none : (xs ys : List (List ℕ)) → length xs ≡ length ys → xs ≡ [] → flat_map own_hash xs ≡ flat_map own_hash ys
      none xs [] l e = ap (flat_map own_hash) e
      none xs (y ∷ ys) l e = absurd (let z : length xs ≡ 0 = ap length e in omega (arith, l, z))

      hashes : flat_map own_hash ones ≡ flat_map own_hash others
      hashes = ⊎_elim
          (λ e. none ones others long e)
          (λ chunk. ⊎_elim (λ e. sym (none others ones (sym long) e)) (λ other. chunk_once file (codes "BASE") (flat_map own_hash ones) (flat_map own_hash others) chunk other) b.base)
          a.base

  -- ---- files together

  module _ (objects : Objects) (named : AreNamed objects) where
    -- a file is in a chain that was compared with the objects
    record IsInChain (file : List ℕ) : Type 0 where
      layers : List Layer
      checked : AreChecked layers objects
      whole : (k : ℕ) (own : List ℕ) → slice_get (map (λ (l : Layer). l.file) layers) k ≡ Some own → IsWhole own
      k : ℕ
      at : slice_get (map (λ (l : Layer). l.file) layers) k ≡ Some file

    is_whole : (file : List ℕ) → IsInChain file → IsWhole file
    is_whole file is = is.whole is.k file is.at

    abbrev Together : List (List ℕ) → Type 0
    Together files = (layers : List Layer) × (map (λ (l : Layer). l.file) layers ≡ files) × AreChecked layers objects

    next_taken : (xs ys : List (List ℕ)) (n : ℕ) (x : List ℕ) → slice_get xs n ≡ Some x → slice_get ys n ≡ Some x → take n xs ≡ take n ys → take (suc n) xs ≡ take (suc n) ys
    next_taken [] ys n x e f same = absurd (none-some x e)
    next_taken (a ∷ xs) [] n x e f same = absurd (none-some x f)
    next_taken (a ∷ xs) (b ∷ ys) zero x e f same = let first = same_Some a b (e ∙ sym f) in (λ i. first i ∷ [])
    next_taken (a ∷ xs) (b ∷ ys) (suc n) x e f same =
        let first : a ≡ b = cc in
        let rest : take n xs ≡ take n ys = cc in
        let more = next_taken xs ys n x e f rest in
        (λ i. first i ∷ more i)

    together_to : (files : List (List ℕ)) (n : ℕ) (top : List ℕ) → length files ≡ suc n → slice_get files n ≡ Some top → NamesBelow (take n files) top → ((k : ℕ) (file : List ℕ) → slice_get files k ≡ Some file → IsInChain file) → Together files
    together_to files n top long e names each =
        let chain = each n top e in
        let chain_files = map (λ (l : Layer). l.file) chain.layers in
        let names_there = named_in chain_files (all_rows chain.layers) (layers_have_rows chain.layers chain.checked.generation chain.checked.sound) (λ k file at. (chain.whole k file at).end) chain.k top chain.at in
        let few : length (take n files) ≡ n = omega (arith, long, length-take n files) in
        let few_there : length (take chain.k chain_files) ≡ chain.k = omega (arith, slice_get_within chain_files chain.k top chain.at, length-take chain.k chain_files) in
        let number : chain.k ≡ n = sym few_there ∙ sym names_there.number ∙ names.number ∙ few in
        let below : take chain.k chain_files ≡ take n files = same_below top (take chain.k chain_files) (take n files) names_there names
        (λ k file at. chain.whole k file (got_taken chain.k chain_files k file at)) (λ k file at. is_whole file (each k file (got_taken n files k file at))) in
        let below_n : take n chain_files ≡ take n files = ap (λ m. take m chain_files) (sym number) ∙ below in
        let all = next_taken chain_files files n top (ap (slice_get chain_files) (sym number) ∙ chain.at) e below_n in (
          take (suc n) chain.layers,
          sym (take-map (λ (l : Layer). l.file) (suc n) chain.layers) ∙ all ∙ take_all (suc n) files (omega (arith, long)),
          lowest chain.layers (suc n) objects chain.checked,
        )

    -- files of which each is in such a chain are one, if each names those below it
    together : (files : List (List ℕ)) → ((k : ℕ) (file : List ℕ) → slice_get files k ≡ Some file → IsInChain file) → ((k : ℕ) (file : List ℕ) → slice_get files k ≡ Some file → NamesBelow (take k files) file) → Together files
    together [] each names = ([], refl, no_layers objects named)
    together (first ∷ files) each names =
        let top = found (first ∷ files) (length files) (omega arith) in
        together_to (first ∷ files) (length files) top.0 refl top.1 (names (length files) top.0 top.1) each

    at_number : (xs : List (List ℕ)) (x : List ℕ) → Contains xs x → (n : ℕ) × (slice_get xs n ≡ Some x)
    at_number xs x (n, few, is) = (n, slice_get-get_or xs n x few ∙ ap Some is)

    -- files that were compared now, above lower ones that are together
    compared : (files : List (List ℕ)) (passed : ℕ) → All AreBytes files → ((file : List ℕ) → Contains files file → Contains seen file) → (verified : IsVerified files passed) → HasAllOf objects (page_objects verified.objects)
        → ((file : List ℕ) → Contains (take passed files) file → IsInChain file) → (file : List ℕ) → Contains files file → IsInChain file
    compared files passed small known verified has below file m =
        let ends = chain_ends files verified.chain.rows verified.chain.read in
        let names = named_in files (page_rows verified.chain.rows) (chain_layers files verified.rows small verified.chain verified.sound) ends in
        let lower = together (take passed files)
        (λ k own e. below own (at_contains (take passed files) own k e))
        (λ k own e. lower_names files passed names k own e) in
        let all = checked_files files passed small verified lower.0 objects objects lower.1 lower.2 named (has_itself objects) has in
        let place = at_number files file m in
        record {
          layers = all.0;
          checked = all.2;
          whole = λ k own e.
              let there : slice_get files k ≡ Some own = ap (λ those. slice_get those k) (sym all.1) ∙ e in
              record { known = known own (at_contains files own k there); end = ends k own there; hash = hash_at files verified.hashes k own there };
          k = place.0;
          at = ap (λ those. slice_get those place.0) all.1 ∙ place.1;
        }
      where
        lower_names : (files : List (List ℕ)) (n : ℕ) → ((k : ℕ) (file : List ℕ) → slice_get files k ≡ Some file → NamesBelow (take k files) file) → (k : ℕ) (file : List ℕ) → slice_get (take n files) k ≡ Some file → NamesBelow (take k (take n files)) file
        lower_names files n names k file e =
            let few : k ≤ n = omega (arith, slice_get_within (take n files) k file e, length-take n files) in
            subst (λ those. NamesBelow those file) (sym (take-take k n files few)) (names k file (got_taken n files k file e))

        hash_at : (files : List (List ℕ)) → All (λ file. IsTrue (has_its_hash file)) files → (k : ℕ) (file : List ℕ) → slice_get files k ≡ Some file → IsTrue (has_its_hash file)
        hash_at files all k file e =
            let few = slice_get_within files k file e in
            let is : get_or files k file ≡ file = same_Some (get_or files k file) file (sym (slice_get-get_or files k file few) ∙ e) in
            subst (λ (f : List ℕ). IsTrue (has_its_hash f)) is (all k file few)

    in_chain : (file : List ℕ) → HasPassed seen objects file → IsInChain file
    in_chain file (among files passed small known verified has below own m) =
        compared files passed small known verified has (λ other n. in_chain other (below other n)) own m

have_files : (pages : List (List (Option (List ℕ)))) (files : List (List ℕ)) (layers : List Layer) → map (λ (l : Layer). l.file) layers ≡ files → HaveAll pages files → HaveFiles pages layers
have_files pages files layers are have = record {
  count = sym (length-map layers (λ (l : Layer). l.file)) ∙ ap length are ∙ have.count;
  has = λ k layer e. have.has k layer.file (ap (λ those. slice_get those k) (sym are) ∙ put_in (λ (l : Layer). l.file) layers k layer e);
}
  where
    put_in : {X Y : Type 0} (f : X → Y) (xs : List X) (n : ℕ) (x : X) → slice_get xs n ≡ Some x → slice_get (map f xs) n ≡ Some (f x)
    put_in f [] n x e = absurd (none-some x e)
    put_in f (y ∷ xs) zero x e = ap (λ z. Some (f z)) (same_Some y x e)
    put_in f (y ∷ xs) (suc n) x e = put_in f xs n x e

pub passed_answers : Carries → PassedAnswers
passed_answers carries seen files read objects pages words lines no_clash named passed have below answers has_read =
    let all = together seen no_clash objects named files
    (λ k file e. in_chain seen no_clash objects named file (passed file (at_contains files file k e)))
    (below files have) in
    checked_answers carries all.0 objects read objects pages words lines all.2 (have_files pages files all.0 all.1 have) answers has_read (has_itself objects)

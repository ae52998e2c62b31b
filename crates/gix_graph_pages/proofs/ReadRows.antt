-- The rows of files whose pages were read, by their bytes.
use Rattle.std.proofs.Common.{◌≡◌, ◌==◌, ◌⊎◌, if◌then◌else◌, ℕ, zero, suc, ◌+◌, ◌*◌, ◌/◌, ◌%◌, ◌^◌, ◌<◌, ◌≤◌, pos, to_z, w64, List, [], ◌∷◌, ◌++◌, ◌-◌, length, map, take, drop, slice_get, slice_index, option_map, Option, Some, None, IfSome, is_some, true, codes, refl, sym, ap, subst, ◌∙◌, arith, ⊎_elim, inl, inr, drop-drop, length-take, length-drop, length-append, append_assoc, All, Contains}
use Rattle.std.proofs.Math.Nat.{mul-le-mul_left}
use Rattle.std.proofs.lemmas.List.Elements.{All-append, All-nil, Contains-append_cases}
use Rattle.gix_hash.proofs.Ids.Membership.{no_member}
use Rattle.std.proofs.lemmas.Option.{none-some, same_Some, slice_get-get_or, slice_get_within}
use Rattle.std.proofs.lemmas.Int.{to_z_pos}
use Rattle.gix_hash.specs.Id.{id_len, id_from_bytes}
use Rattle.gix_hash.specs.declared.Kind.{Kind}
use Rattle.gix_hash.specs.declared.Kind.TheVariants as kind
use Rattle.gix_hash.specs.declared.ObjectId.{ObjectId}
use Rattle.gix_hash.specs.declared.ObjectId.TheVariants.{Sha1, Sha256}
use Rattle.gix_statement.proofs.HaveHistory.{below}
use Rattle.gix_statement.specs.CommitGraph.{AreParents, IsChunk, IsRow, bytes_at, number_at, number_from}
use Rattle.gix_statement.specs.WholeStatement.{Row, bytes_in, digits_in}
use Rattle.gix_graph_pages.specs.GraphPages.{IsSoundLayer, Layer, all_rows, width_of}
use Rattle.gix_graph_pages.specs.PagedRows.{AreIdsOf, AreLayouts, ArePaged, HasId, HasIdIn, InEachLayer, IsEdge, SaysLayout, IsLayoutOf, Pages, SaysRow}
use Rattle.gix_graph_pages.specs.declared.layout.Chunk.{Chunk}
use Rattle.gix_graph_pages.specs.declared.layout.Layout.{Layout}
use Rattle.gix_graph_pages.proofs.Takes.{part_of, number_of, within}

-- ---- the width of ids

abbrev pub IsWidth : ℕ → ℕ → Type 0
IsWidth n w = ((n ≡ 1) × (w ≡ 20)) ⊎ ((n ≡ 2) × (w ≡ 32))

pub width_said : (n w : ℕ) → IsWidth n w → (if n == 1 then 20 else 32) ≡ w
width_said n w (inl h) = ap (λ m. if m == 1 then 20 else 32) h.0 ∙ sym h.1
width_said n w (inr h) = ap (λ m. if m == 1 then 20 else 32) h.0 ∙ sym h.1

one_byte : (bytes : List ℕ) (at : ℕ) → at < length bytes → number_at at 1 bytes ≡ slice_index bytes at
one_byte [] at l = absurd (omega (arith, l))
one_byte (b ∷ bytes) zero l = omega arith
one_byte (b ∷ bytes) (suc at) l = one_byte bytes at (omega (arith, l))

-- a byte of the head
pub head_byte : (file head : List ℕ) (at : ℕ) → at < 8 → length head ≡ 8 → bytes_at 0 8 file ≡ head → number_at at 1 file ≡ slice_index head at
head_byte file head at small long is = sym (number_of 0 8 at 1 at file (omega (arith, small)) (omega arith)) ∙ ap (number_at at 1) is ∙ one_byte head at (omega (arith, small, long))

pub width_is : (file head : List ℕ) (k : Kind) (n : ℕ) → length head ≡ 8 → bytes_at 0 8 file ≡ head → slice_index head 5 ≡ n → IsWidth n (id_len k) → width_of file ≡ id_len k
width_is file head k n long is e w = ap (λ m. if m == 1 then 20 else 32) (head_byte file head 5 (omega arith) long is ∙ e) ∙ width_said n (id_len k) w

some_width : (k : Kind) → 0 < id_len k
some_width kind.Sha1 = omega arith
some_width kind.Sha256 = omega arith

-- ---- ids

double_40 : (w : ℕ) → 40 ≡ 2 * w → w ≡ 20
double_40 w e = omega (arith, e)

double_64 : (w : ℕ) → 64 ≡ 2 * w → w ≡ 32
double_64 w e = omega (arith, e)

pub id_read : (j i : ObjectId) (bytes : List ℕ) (w : ℕ) → length bytes ≡ w → id_from_bytes bytes ≡ Some i → digits_in j ≡ 2 * w → bytes_in j ≡ bytes → j ≡ i
id_read (Sha1 x) i bytes w long e digits is =
    let so : Some (Sha1 bytes) ≡ Some i = ap (λ n. if n == 20 then Some (Sha1 bytes) else if n == 32 then Some (Sha256 bytes) else None) (sym (long ∙ double_40 w digits)) ∙ e in
    let same : Sha1 bytes ≡ i = cc in
    ap Sha1 is ∙ same
id_read (Sha256 x) i bytes w long e digits is =
    let so : Some (Sha256 bytes) ≡ Some i = ap (λ n. if n == 20 then Some (Sha1 bytes) else if n == 32 then Some (Sha256 bytes) else None) (sym (long ∙ double_64 w digits)) ∙ e in
    let same : Sha256 bytes ≡ i = cc in
    ap Sha256 is ∙ same

pub if_some : {A : Type 0} (P : A → Type 0) (o : Option A) → ((x : A) → o ≡ Some x → P x) → IfSome o P
if_some P None h = tt
if_some P (Some x) h = h x refl

pub some_of : {A : Type 0} (o : Option A) → is_some o ≡ true → (x : A) × (o ≡ Some x)
some_of None e = cc
some_of (Some x) e = (x, refl)

pub found : {A : Type 0} (xs : List A) (n : ℕ) → n < length xs → (x : A) × (slice_get xs n ≡ Some x)
found [] n l = absurd (omega (arith, l))
found (x ∷ xs) zero l = (x, refl)
found (x ∷ xs) (suc n) l = found xs n (omega (arith, l))

more_rows : (w n rows : ℕ) → n < rows → w * n + w ≤ w * rows
more_rows w n rows l = let h : w * (n + 1) ≤ w * rows = mul-le-mul_left w (omega (arith, l)) in omega (arith, h)

fewer : (w n rows : ℕ) → 0 < w → w * n + w ≤ w * rows → n < rows
fewer w n rows some l = ⊎_elim (λ h. h) (λ h. let m : w * rows ≤ w * n = mul-le-mul_left w h in absurd (omega (arith, l, m, some))) (below n rows)

no_more : (w n rows : ℕ) → 0 < w → w * n ≤ w * rows → n ≤ rows
no_more w n rows some l = ⊎_elim (λ h. absurd (let m : w * rows + w ≤ w * n = more_rows w rows n h in omega (arith, l, m, some))) (λ h. h) (below rows n)

-- ---- rows of one layer among those of all

got_front : {A : Type 0} (xs ys : List A) (n : ℕ) (x : A) → slice_get xs n ≡ Some x → slice_get (xs ++ ys) n ≡ Some x
got_front {A} [] ys n x e = absurd (let no : ◌≡◌ {A = Option A} None (Some x) = e in cc)
got_front (y ∷ xs) ys zero x e = e
got_front (y ∷ xs) ys (suc n) x e = got_front xs ys n x e

got_behind : {A : Type 0} (xs ys : List A) (n : ℕ) → slice_get (xs ++ ys) (length xs + n) ≡ slice_get ys n
got_behind [] ys n = let e : 0 + n ≡ n = omega arith in ap (slice_get ys) e
got_behind (x ∷ xs) ys n = let e : suc (length xs) + n ≡ suc (length xs + n) = omega arith in ap (slice_get (x ∷ (xs ++ ys))) e ∙ got_behind xs ys n

-- the rows below, those of the layer, and the others
rows_split : (layers : List Layer) (k : ℕ) (layer : Layer) → slice_get layers k ≡ Some layer → (rest : List Row) × (all_rows layers ≡ all_rows (take k layers) ++ (layer.rows ++ rest))
rows_split [] k layer e = absurd (let no : ◌≡◌ {A = Option Layer} None (Some layer) = e in cc)
rows_split (l ∷ layers) zero layer e = let same : l ≡ layer = cc in (all_rows layers, ap (λ (x : Layer). x.rows ++ all_rows layers) same)
rows_split (l ∷ layers) (suc k) layer e =
    let more = rows_split layers k layer e in
    (more.0, ap (λ rows. l.rows ++ rows) more.1 ∙ sym (append_assoc l.rows (all_rows (take k layers)) (layer.rows ++ more.0)))

pub row_among : (layers : List Layer) (k : ℕ) (layer : Layer) → slice_get layers k ≡ Some layer → (n : ℕ) (r : Row) → slice_get layer.rows n ≡ Some r → slice_get (all_rows layers) (length (all_rows (take k layers)) + n) ≡ Some r
row_among layers k layer e n r at =
    let split = rows_split layers k layer e in
    ap (λ rows. slice_get rows (length (all_rows (take k layers)) + n)) split.1
    ∙ got_behind (all_rows (take k layers)) (layer.rows ++ split.0) n ∙ got_front layer.rows split.0 n r at

pub row_on : (layers : List Layer) (k : ℕ) (layer : Layer) → slice_get layers k ≡ Some layer → (n : ℕ) (r : Row) → slice_get (all_rows (take k layers) ++ layer.rows) n ≡ Some r → slice_get (all_rows layers) n ≡ Some r
row_on layers k layer e n r at =
    let split = rows_split layers k layer e in
    ap (λ rows. slice_get rows n) (split.1 ∙ sym (append_assoc (all_rows (take k layers)) layer.rows split.0))
    ∙ got_front (all_rows (take k layers) ++ layer.rows) split.0 n r at

-- an id of a row that is among others
id_on : (some all : List Row) → ((n : ℕ) (r : Row) → slice_get some n ≡ Some r → slice_get all n ≡ Some r) → (n : ℕ) (i : ObjectId) (o : Option Row) → slice_get some n ≡ o
    → Some i ≡ option_map (λ (parent : Row). parent.id) o → Some i ≡ option_map (λ (parent : Row). parent.id) (slice_get all n)
id_on some all on n i None there e = cc
id_on some all on n i (Some r) there e = e ∙ ap (option_map (λ (parent : Row). parent.id)) (sym (on n r there))

ids_on : (some all : List Row) → ((n : ℕ) (r : Row) → slice_get some n ≡ Some r → slice_get all n ≡ Some r) → (numbers : List ℕ) (ids : List ObjectId) → AreIdsOf some numbers ids → AreIdsOf all numbers ids
ids_on some all on [] ids e = e
ids_on some all on (n ∷ numbers) [] e = cc
ids_on some all on (n ∷ numbers) (i ∷ ids) e =
    let first : Some i ≡ option_map (λ (parent : Row). parent.id) (slice_get some n) = cc in
    let tail : AreIdsOf some numbers ids = cc in
    let here = id_on some all on n i (slice_get some n) refl first in
    let more = ids_on some all on numbers ids tail in
    (λ k. here k ∷ more k)

-- the layer that a layout is of
pub layer_there : (pages : Pages) (layout : Layout) → IsLayoutOf pages layout → (layers : List Layer) (generation : ObjectId → ℕ) → ArePaged pages layers generation → (layer : Layer) × (slice_get layers layout.layer ≡ Some layer)
layer_there pages layout is layers generation read = found layers layout.layer (omega (arith, is.there, read.files.count))

-- a row of a layer has its id among those of all
pub has_id : (pages : Pages) (layout : Layout) → IsLayoutOf pages layout → (number : ℕ) (i : ObjectId) → HasIdIn pages layout number i → HasId pages number i
has_id pages layout is number i own layers generation read =
    let there = layer_there pages layout is layers generation read in
    let row = own layers generation read there.0 there.1 in
    let counted : number ≡ length (all_rows (take layout.layer layers)) + row.0 = sym row.1 ∙ ap (λ n. n + row.0) (sym (is.start layers generation read)) in
    (row.2.0, ap (slice_get (all_rows layers)) counted ∙ row_among layers layout.layer there.0 there.1 row.0 row.2.0 row.2.1, row.2.2)

-- each of the layouts is one
pub layout_is : (pages : Pages) (layouts : List Layout) → AreLayouts pages layouts → (layout : Layout) → Contains layouts layout → IsLayoutOf pages layout
layout_is pages layouts are layout (k, few, is) = (are.each k layout (slice_get-get_or layouts k layout few ∙ ap Some is)).1

-- one layout more
pub layouts_more : (pages : Pages) (layouts : List Layout) (n : ℕ) → length layouts ≡ n → ((k : ℕ) (l : Layout) → slice_get layouts k ≡ Some l → (l.layer ≡ k) × IsLayoutOf pages l)
    → (layout : Layout) → layout.layer ≡ n → IsLayoutOf pages layout → (k : ℕ) (l : Layout) → slice_get (layouts ++ layout ∷ []) k ≡ Some l → (l.layer ≡ k) × IsLayoutOf pages l
layouts_more pages layouts n long each layout last is k l at = ⊎_elim front (λ h. behind (k - n) (omega (arith, h, long))) (below k (length layouts))
  where
    front : k < length layouts → (l.layer ≡ k) × IsLayoutOf pages l
    front h =
        let there = found layouts k h in
        let same : there.0 ≡ l = same_Some there.0 l (sym (got_front layouts (layout ∷ []) k there.0 there.1) ∙ at) in
        each k l (there.1 ∙ ap (λ x. Some x) same)

    behind : (m : ℕ) → k ≡ length layouts + m → (l.layer ≡ k) × IsLayoutOf pages l
    behind zero e =
        let same : layout ≡ l = same_Some layout l (sym (got_behind layouts (layout ∷ []) 0) ∙ sym (ap (slice_get (layouts ++ layout ∷ [])) e) ∙ at) in
        (sym (ap (λ (x : Layout). x.layer) same) ∙ last ∙ omega (arith, e, long), subst (IsLayoutOf pages) same is)
    behind (suc m) e = absurd (none-some l (sym (got_behind layouts (layout ∷ []) (suc m)) ∙ sym (ap (slice_get (layouts ++ layout ∷ [])) e) ∙ at))

-- so many rows more are those of one layer more
pub rows_more : (layers : List Layer) (k : ℕ) (layer : Layer) → slice_get layers k ≡ Some layer → length (all_rows (take (k + 1) layers)) ≡ length (all_rows (take k layers)) + length layer.rows
rows_more [] k layer e = absurd (let no : ◌≡◌ {A = Option Layer} None (Some layer) = e in cc)
rows_more (l ∷ layers) zero layer e = let same : l ≡ layer = cc in omega (arith, length-append l.rows [], ap (λ (x : Layer). length x.rows) same)
rows_more (l ∷ layers) (suc k) layer e =
    let one : suc k + 1 ≡ suc (k + 1) = omega arith in
    let first : length (all_rows (take (suc k + 1) (l ∷ layers))) ≡ length (l.rows ++ all_rows (take (k + 1) layers)) = ap (λ n. length (all_rows (take n (l ∷ layers)))) one in
    omega (arith, first, rows_more layers k layer e, length-append l.rows (all_rows (take (k + 1) layers)), length-append l.rows (all_rows (take k layers)))

-- the layer of a row
pub layer_with : (layers : List Layer) (r : Row) → Contains (all_rows layers) r → (k : ℕ) × (layer : Layer) × (slice_get layers k ≡ Some layer) × Contains layer.rows r
layer_with [] r c = absurd (no_member r c)
layer_with (layer ∷ layers) r c = ⊎_elim
    (λ here. (0, layer, refl, here))
    (λ there. let more = layer_with layers r there in (suc more.0, more.1, more.2, more.3))
    (Contains-append_cases layer.rows (all_rows layers) r c)

-- what holds of the rows of each layer holds of all
pub all_layers : (P : Row → Type 0) (layers : List Layer) → ((k : ℕ) (layer : Layer) → slice_get layers k ≡ Some layer → All P layer.rows) → All P (all_rows layers)
all_layers P [] each = All-nil P
all_layers P (layer ∷ layers) each = All-append P layer.rows (all_rows layers) (each 0 layer refl) (all_layers P layers (λ k l e. each (suc k) l e))

-- ---- the rows, where the layout is known

module _ (pages : Pages) (layout : Layout) (is : SaysLayout pages layout) (layers : List Layer) (generation : ObjectId → ℕ) (read : ArePaged pages layers generation) (layer : Layer) (there : slice_get layers layout.layer ≡ Some layer) where
  abbrev w : ℕ
  w = id_len layout.kind

  sound : IsSoundLayer (take layout.layer layers) layer generation
  sound = read.sound.each layout.layer layer there

  abbrev ids : List ℕ
  ids = bytes_at layout.ids (w * layout.rows) layer.file

  abbrev data_of : List ℕ
  data_of = bytes_at layout.data ((w + 16) * layout.rows) layer.file

  width : sound.has.0 ≡ w
  width = sym (width_said (number_at 5 1 layer.file) sound.has.0 sound.has.5) ∙ is.width layers generation read layer there

  ids_are : sound.has.1 ≡ ids
  ids_are = is.ids layers generation read layer there sound.has.1 sound.has.9

  data_are : sound.has.2 ≡ data_of
  data_are = is.said layers generation read layer there sound.has.2 sound.has.10

  long : length ids ≡ w * length layer.rows
  long = ap length (sym ids_are) ∙ sound.has.12 ∙ ap (λ x. x * length layer.rows) width

  row_is : (k : ℕ) (r : Row) → slice_get layer.rows k ≡ Some r → IsRow w ids data_of sound.has.3 (all_rows (take layout.layer layers) ++ layer.rows) k r
  row_is k r at = subst (λ (T : Type 0). T) (λ i. IsRow (width i) (ids_are i) (data_are i) sound.has.3 (all_rows (take layout.layer layers) ++ layer.rows) k r) (sound.has.14 k r at)

  few_rows : length layer.rows ≤ layout.rows
  few_rows = no_more w (length layer.rows) layout.rows (some_width layout.kind) (omega (arith, long, length-take (w * layout.rows) (drop layout.ids layer.file)))

  -- all ids are there if the last one is
  pub all_there : (bytes : List ℕ) → 0 < layout.rows → length bytes ≡ w → bytes_at (layout.ids + w * (layout.rows - 1)) w layer.file ≡ bytes → length layer.rows ≡ layout.rows
  all_there bytes some full here =
      let fits = within (layout.ids + w * (layout.rows - 1)) w layer.file (some_width layout.kind) (ap length here ∙ full) in
      let one_more : layout.rows ≡ layout.rows - 1 + 1 = omega (arith, some) in
      let all : w * layout.rows ≡ w * (layout.rows - 1 + 1) = ap (λ n. w * n) one_more in
      ⊎_elim
      (λ l. absurd (let less : w * length layer.rows + w ≤ w * layout.rows = more_rows w (length layer.rows) layout.rows l in
      omega (arith, less, long, length-take (w * layout.rows) (drop layout.ids layer.file), length-drop layout.ids layer.file, fits, all, some_width layout.kind)))
      (λ l. omega (arith, l, few_rows))
      (below (length layer.rows) layout.rows)

  pub none_there : layout.rows ≡ 0 → length layer.rows ≡ layout.rows
  none_there e = omega (arith, e, few_rows)

  -- a row's id, in its place
  id_bytes : (own place : ℕ) (bytes : List ℕ) → own < layout.rows → place ≡ layout.ids + w * own → bytes_at place w layer.file ≡ bytes → bytes_at (w * own) w ids ≡ bytes
  id_bytes own place bytes few at here = part_of layout.ids (w * layout.rows) (w * own) w place layer.file (more_rows w own layout.rows few) at ∙ here

  pub has_own : (own place : ℕ) (bytes : List ℕ) (i : ObjectId) → own < layout.rows → place ≡ layout.ids + w * own → length bytes ≡ w → bytes_at place w layer.file ≡ bytes → id_from_bytes bytes ≡ Some i
      → (r : Row) × (slice_get layer.rows own ≡ Some r) × (r.id ≡ i)
  has_own own place bytes i few at full here e =
      let so = id_bytes own place bytes few at here in
      let fits = within (w * own) w ids (some_width layout.kind) (ap length so ∙ full) in
      let found_row = found layer.rows own (fewer w own (length layer.rows) (some_width layout.kind) (omega (arith, fits, long))) in
      let row = row_is own found_row.0 found_row.1 in
      (found_row.0, found_row.1, id_read found_row.0.id i bytes w full e row.1 (row.2 ∙ so))

  -- a word of those that say further parents
  pub edge_is : (chunk : Chunk) (number place : ℕ) (word_bytes : List ℕ) (word : ℕ) → layout.edges ≡ Some chunk → 4 * number + 4 ≤ chunk.len → place ≡ chunk.from + 4 * number
      → bytes_at place 4 layer.file ≡ word_bytes → word ≡ number_at 0 4 word_bytes → IsEdge layer.file number word
  edge_is chunk number place word_bytes word some fits at here one edges found =
      let are : edges ≡ bytes_at chunk.from chunk.len layer.file = subst (λ o. IfSome o (λ c. InEachLayer pages layout.layer (λ layers layer generation. (bytes : List ℕ) → IsChunk layer.file (codes "EDGE") bytes → bytes ≡ bytes_at c.from c.len layer.file))) some is.further layers generation read layer there edges found in
      ap (number_at (4 * number) 4) are ∙ number_of chunk.from chunk.len (4 * number) 4 place layer.file fits at
      ∙ sym (number_of place 4 0 4 place layer.file (omega arith) (omega arith)) ∙ ap (number_at 0 4) here ∙ sym one

  -- what else a row says
  pub says_row : (number own place : ℕ) (whole tree_bytes numbers : List ℕ) (id tree : ObjectId) (first second seconds : ℕ) → number ≡ length (all_rows (take layout.layer layers)) + own → place ≡ layout.data + (w + 16) * own → length whole ≡ w + 16 → bytes_at place (w + 16) layer.file ≡ whole
      → tree_bytes ≡ take w whole → numbers ≡ drop w whole → id_from_bytes tree_bytes ≡ Some tree → first ≡ number_at 0 4 numbers → second ≡ number_at 4 4 numbers → seconds ≡ number_at 8 8 numbers
      → (r : Row) × (slice_get layer.rows own ≡ Some r) × (r.id ≡ id)
      → SaysRow layer.file (all_rows layers) generation number (record { id = id; tree = tree; first = first; second = second; generation = seconds / 17179869184; time = to_z w64 (seconds % 17179869184) })
  says_row number own place whole tree_bytes numbers id tree first second seconds counted at full here tree_is numbers_are e one two three (r, row_at, named) =
      let few : own < layout.rows = omega (arith, few_rows, slice_get_within layer.rows own r row_at) in
      let row = row_is own r row_at in
      let begin = (w + 16) * own in
      let all : bytes_at begin (w + 16) data_of ≡ whole = part_of layout.data ((w + 16) * layout.rows) begin (w + 16) place layer.file (more_rows (w + 16) own layout.rows few) at ∙ here in
      let tree_at : bytes_at begin w data_of ≡ tree_bytes = sym (part_of begin (w + 16) 0 w begin data_of (omega arith) (omega arith)) ∙ ap (take w) all ∙ sym tree_is in
      let tree_long : length tree_bytes ≡ w = omega (arith, ap length tree_is, length-take w whole, full) in
      let behind : (s n : ℕ) → s + n ≤ 16 → number_at (begin + w + s) n data_of ≡ number_at s n numbers = (λ s n fits. (
      sym (number_of begin (w + 16) (w + s) n (begin + w + s) data_of (omega (arith, fits)) (omega arith)) ∙ ap (number_at (w + s) n) all
      ∙ sym (ap (λ xs. number_from 0 (take n xs)) (ap (drop s) numbers_are ∙ drop-drop s w whole)))) in
      let zero_more : begin + w ≡ begin + w + 0 = omega arith in
      let first_is : number_at (begin + w) 4 data_of ≡ first = ap (λ k. number_at k 4 data_of) zero_more ∙ behind 0 4 (omega arith) ∙ sym one in
      let second_is : number_at (begin + w + 4) 4 data_of ≡ second = behind 4 4 (omega arith) ∙ sym two in
      let wide : width_of layer.file ≡ w = is.width layers generation read layer there in
      let level_at : begin + (w + 8) ≡ begin + w + 8 = omega arith in
      let long_is : number_at (begin + w + 8) 8 data_of ≡ seconds = behind 8 8 (omega arith) ∙ sym three in
      record {
        row = r;
        there = ap (slice_get (all_rows layers)) counted ∙ row_among layers layout.layer layer there own r row_at;
        id = named;
        tree = id_read r.tree tree tree_bytes w tree_long e row.3 (row.4 ∙ tree_at);
        time = row.7 ∙ ap (λ n. pos (n % 2 ^ 34)) long_is ∙ sym (to_z_pos w64 (seconds % 17179869184) (omega arith));
        level =
            sound.said sound.has.2 own r sound.has.10 row_at
            ∙ (λ i. number_at ((wide i + 16) * own + (wide i + 8)) 8 (data_are i) / 2 ^ 34)
            ∙ ap (λ n. n / 2 ^ 34) (ap (λ k. number_at k 8 data_of) level_at ∙ long_is);
        edges = sound.has.3;
        chunk = sound.has.11;
        numbers = row.0;
        parents = subst (λ (T : Type 0). T) (λ i. AreParents sound.has.3 (first_is i) (second_is i) row.0) row.5;
        ids = ids_on (all_rows (take layout.layer layers) ++ layer.rows) (all_rows layers) (row_on layers layout.layer layer there) row.0 r.parents row.6;
      }

-- The parts of whole packed bytes, and that the spelling of rows is read as these rows.
use Rattle.std.proofs.Common.{◌≡◌, ℕ, suc, ◌+◌, ◌*◌, ◌^◌, ◌<◌, ◌≤◌, true, false, cond, ltb, List, [], ◌∷◌, ◌++◌, length, drop, Some, None, Result, Ok, Err, refl, sym, ap, ◌∙◌, append_assoc, arith, w32, flat_map, lt-ltb, le-ltb, le-leb}
use Rattle.std.proofs.Common.{eq-eqb, drop_at, length-append}
use Rattle.gix_commitgraph.proofs.Common.{to_be_bytes, from_be_bytes, AllByRecursion, Kind, ParentPlace, Place, Layout, GraphRow, most, list_words, overflow_of, row_bytes, overflow_words, layout_name, kind_of_rows, IsPlaceAmong}
use Rattle.gix_commitgraph.proofs.Common.{IsRowAmong, AreGraphRows, word_at, words_of, row_len, kind_named, may_have, is_sized, body_of, rows_at, rows_in, IsPackedAs}
use Rattle.std.proofs.lemmas.Nat.{from_be_bytes-to_be_bytes_4}
use Rattle.gix_hash.specs.declared.Kind.TheVariants as kind
use Rattle.gix_commitgraph.specs.declared.Place.TheVariants as place
use Rattle.gix_commitgraph.specs.Packed.{rows_bytes, spelling}
use Rattle.gix_commitgraph.specs.PackedReading.{read_packed}
use Rattle.gix_commitgraph.proofs.Packed.Fields.{after_part, part_at, place_word-below, length-row_bytes}
use Rattle.gix_commitgraph.proofs.Packed.ReadAgain.{rows_again, begins_none}

-- ---- the overflow words

abbrev pub AreWords : List ℕ → Type 0
AreWords ws = AllByRecursion (λ w. w < 2 ^ 32) ws

pub all_append : {X : Type 0} (P : X → Type 0) (xs ys : List X) → AllByRecursion P xs → AllByRecursion P ys → AllByRecursion P (xs ++ ys)
all_append P [] ys p q = q
all_append P (x ∷ xs) ys p q = (p.0, all_append P xs ys p.1 q)

AreWords-list : (n : ℕ) (p : ParentPlace) (ps : List ParentPlace) → n ≤ most → IsPlaceAmong n p → AllByRecursion (IsPlaceAmong n) ps → AreWords (list_words p ps)
AreWords-list n p [] few here all = (omega (arith, place_word-below n p few here), tt)
AreWords-list n p (q ∷ ps) few here all = (omega (arith, place_word-below n p few here), AreWords-list n q ps few all.0 all.1)

AreWords-overflow_of : (n : ℕ) (ps : List ParentPlace) → n ≤ most → AllByRecursion (IsPlaceAmong n) ps → AreWords (overflow_of ps)
AreWords-overflow_of n [] few all = tt
AreWords-overflow_of n (p ∷ []) few all = tt
AreWords-overflow_of n (p ∷ q ∷ []) few all = tt
AreWords-overflow_of n (p ∷ q ∷ r ∷ ps) few all = AreWords-list n q (r ∷ ps) few all.1.0 all.1.1

pub AreWords-overflow_words : (k : Kind) (n : ℕ) (rows : List GraphRow) → n ≤ most → AllByRecursion (IsRowAmong k n) rows → AreWords (overflow_words rows)
AreWords-overflow_words k n [] few each = tt
AreWords-overflow_words k n (row ∷ rows) few each = all_append (λ w. w < 2 ^ 32) (overflow_of row.parents) (overflow_words rows) (AreWords-overflow_of n row.parents few each.0.parents) (AreWords-overflow_words k n rows few each.1)

-- the words that bytes of four to a word say
pub words_of-bytes : (ws : List ℕ) → AreWords ws → words_of (flat_map (to_be_bytes w32) ws) ≡ ws
words_of-bytes [] all = refl
words_of-bytes (w ∷ ws) all = rw (words_of-bytes ws all.1) (ap (λ (x : ℕ). x ∷ ws) (from_be_bytes-to_be_bytes_4 w all.0))

pub length-word_bytes : (ws : List ℕ) → length (flat_map (to_be_bytes w32) ws) ≡ 4 * length ws
length-word_bytes [] = refl
length-word_bytes (w ∷ ws) = omega (arith, length-word_bytes ws)

pub length-rows_bytes : (k : Kind) (n w : ℕ) (rows : List GraphRow) → AllByRecursion (IsRowAmong k n) rows → length (rows_bytes w rows) ≡ row_len k * length rows
unfolding rows_bytes
length-rows_bytes k n w [] each = omega arith
length-rows_bytes k n w (row ∷ rows) each =
    let others = length-rows_bytes k n (w + length (overflow_of row.parents)) rows each.1 in
    let here = length-row_bytes k n w row each.0 in
    let both = length-append (row_bytes w row) (rows_bytes (w + length (overflow_of row.parents)) rows) in
    both ∙ rw (here, others) (grind arith)

pub rows_bytes-append : (w : ℕ) (rows more : List GraphRow) → rows_bytes w (rows ++ more) ≡ rows_bytes w rows ++ rows_bytes (w + length (overflow_words rows)) more
unfolding rows_bytes
rows_bytes-append w [] more = let same : w ≡ w + 0 = omega arith in ap (λ (n : ℕ). rows_bytes n more) same
rows_bytes-append w (r ∷ rows) more =
    let next = w + length (overflow_of r.parents) in
    let same : next + length (overflow_words rows) ≡ w + length (overflow_of r.parents ++ overflow_words rows) = omega (arith, length-append (overflow_of r.parents) (overflow_words rows)) in
    ap (λ (x : List ℕ). row_bytes w r ++ x) (rows_bytes-append next rows more ∙ ap (λ (n : ℕ). rows_bytes next rows ++ rows_bytes n more) same)
    ∙ sym (append_assoc (row_bytes w r) (rows_bytes next rows) (rows_bytes (w + length (overflow_of r.parents ++ overflow_words rows)) more))

-- ---- the parts of whole bytes

-- bytes with this head, these rows and these overflow words
pub record HasBody (k : Kind) (n m : ℕ) (rows words bytes : List ℕ) : Type 0 where
  pub name : kind_named bytes ≡ Some k
  pub n_is : word_at 4 bytes ≡ n
  pub m_is : word_at 8 bytes ≡ m
  pub body_is : drop 12 bytes ≡ rows ++ words
  pub words_is : drop (12 + length rows) bytes ≡ words
  pub len : length bytes ≡ 12 + length rows + length words

kind_named-layout_name : (k : Kind) (rest : List ℕ) → kind_named (layout_name k ++ rest) ≡ Some k
kind_named-layout_name kind.Sha1 rest = refl
kind_named-layout_name kind.Sha256 rest = refl

length-layout_name : (k : Kind) → length (layout_name k) ≡ 4
length-layout_name kind.Sha1 = refl
length-layout_name kind.Sha256 = refl

pub has_body : (k : Kind) (n m : ℕ) (name ns ms rows words : List ℕ) → name ≡ layout_name k → ns ≡ to_be_bytes w32 n → ms ≡ to_be_bytes w32 m → n < 2 ^ 32 → m < 2 ^ 32
    → HasBody k n m rows words (name ++ (ns ++ (ms ++ (rows ++ words))))
has_body k n m name ns ms rows words name_is ns_is ms_is nf mf =
    let bytes = name ++ (ns ++ (ms ++ (rows ++ words))) in
    let name_len : length name ≡ 4 = ap length name_is ∙ length-layout_name k in
    let ns_len : length ns ≡ 4 = ap length ns_is in
    let ms_len : length ms ≡ 4 = ap length ms_is in
    let at_4 : drop 4 bytes ≡ ns ++ (ms ++ (rows ++ words)) = drop_at name (ns ++ (ms ++ (rows ++ words))) 4 name_len in
    let at_8 : drop 8 bytes ≡ ms ++ (rows ++ words) = after_part 4 8 bytes ns (ms ++ (rows ++ words)) at_4 (omega arith) in
    let at_12 : drop 12 bytes ≡ rows ++ words = after_part 8 12 bytes ms (rows ++ words) at_8 (omega arith) in
    record {
      name = ap (λ (x : List ℕ). kind_named (x ++ (ns ++ (ms ++ (rows ++ words))))) name_is ∙ kind_named-layout_name k (ns ++ (ms ++ (rows ++ words)));
      n_is = ap (from_be_bytes w32) (part_at 4 4 bytes ns (ms ++ (rows ++ words)) at_4 ns_len ∙ ns_is) ∙ from_be_bytes-to_be_bytes_4 n nf;
      m_is = ap (from_be_bytes w32) (part_at 8 4 bytes ms (rows ++ words) at_8 ms_len ∙ ms_is) ∙ from_be_bytes-to_be_bytes_4 m mf;
      body_is = at_12;
      words_is = after_part 12 (12 + length rows) bytes rows words at_12 refl;
      len = omega (arith, length-append name (ns ++ (ms ++ (rows ++ words))), length-append ns (ms ++ (rows ++ words)), length-append ms (rows ++ words), length-append rows words);
    }

pub spelling-has_body : (rows : List GraphRow) → AreGraphRows rows
    → HasBody (kind_of_rows rows) (length rows) (length (overflow_words rows)) (rows_bytes 0 rows) (flat_map (to_be_bytes w32) (overflow_words rows)) (spelling rows)
unfolding spelling
spelling-has_body rows sound =
    has_body (kind_of_rows rows) (length rows) (length (overflow_words rows)) _ _ _ (rows_bytes 0 rows) (flat_map (to_be_bytes w32) (overflow_words rows)) refl refl refl (omega (arith, sound.few)) (omega (arith, sound.few_words))

may_have_rows : (rows : List GraphRow) → may_have (kind_of_rows rows) (length rows) ≡ true
may_have_rows [] = refl
may_have_rows (row ∷ rows) = by_kind (kind_of_rows (row ∷ rows))
  where
    by_kind : (k : Kind) → may_have k (suc (length rows)) ≡ true
    by_kind kind.Sha1 = refl
    by_kind kind.Sha256 = lt-ltb 0 (suc (length rows)) (omega arith)

pub read-body : (k : Kind) (n m : ℕ) (rows words bytes : List ℕ) → HasBody k n m rows words bytes → is_sized k n m (length bytes) ≡ true → length rows ≡ row_len k * n
    → read_packed bytes ≡ rows_at k n m n 0 None (rows ++ words) (words_of words)
unfolding read_packed
read-body k n m rows words bytes b sized len =
    let long : ltb (length bytes) 12 ≡ false = le-ltb (length bytes) 12 (omega (arith, b.len)) in
    let words_here : drop (12 + row_len k * n) bytes ≡ words = ap (λ (x : ℕ). drop (12 + x) bytes) (sym len) ∙ b.words_is in
    rw (long, b.name) (body-is k n m bytes (rows ++ words) words b.n_is b.m_is sized b.body_is words_here)
  where
    body-is : (k : Kind) (n m : ℕ) (bytes body words : List ℕ) → word_at 4 bytes ≡ n → word_at 8 bytes ≡ m → is_sized k n m (length bytes) ≡ true
        → drop 12 bytes ≡ body → drop (12 + row_len k * n) bytes ≡ words → body_of (Some k) bytes ≡ rows_at k n m n 0 None body (words_of words)
    body-is k n m bytes body words a b c d e =
        let by_head : ℕ → ℕ → Result (List GraphRow) Place = λ x y. cond (is_sized k x y (length bytes)) (rows_at k x y x 0 None (drop 12 bytes) (words_of (drop (12 + row_len k * x) bytes))) (Err place.Size) in
        let sized_so : by_head n m ≡ rows_at k n m n 0 None (drop 12 bytes) (words_of (drop (12 + row_len k * n) bytes)) = rw c refl in
        ap (λ (x : ℕ). by_head x (word_at 8 bytes)) a ∙ ap (by_head n) b ∙ sized_so ∙ ap (λ (x : List ℕ). rows_at k n m n 0 None x (words_of (drop (12 + row_len k * n) bytes))) d ∙ ap (λ (x : List ℕ). rows_at k n m n 0 None body (words_of x)) e

-- what is spelled is read
pub packed_again : (rows : List GraphRow) → AreGraphRows rows → read_packed (spelling rows) ≡ Ok rows
packed_again rows sound =
    let k = kind_of_rows rows in
    let n = length rows in
    let words = overflow_words rows in
    let m = length words in
    let body = spelling-has_body rows sound in
    let rows_len = length-rows_bytes k n 0 rows sound.each in
    let words_len = length-word_bytes words in
    let sized : is_sized k n m (length (spelling rows)) ≡ true = rw (le-leb n most sound.few, le-leb m most sound.few_words, eq-eqb (length (spelling rows)) (12 + row_len k * n + 4 * m) (omega (arith, body.len)), may_have_rows rows) refl in
    read-body k n m (rows_bytes 0 rows) (flat_map (to_be_bytes w32) words) (spelling rows) body sized rows_len
    ∙ ap (rows_at k n m n 0 None (rows_bytes 0 rows ++ flat_map (to_be_bytes w32) words)) (words_of-bytes words (AreWords-overflow_words k n rows sound.few sound.each))
    ∙ rows_again k n m 0 0 None rows (flat_map (to_be_bytes w32) words) sound.few sound.few_words sound.each sound.rising (begins_none rows) (omega arith)

-- what bytes that are kept are read as
pub kept_rows : (bytes : List ℕ) (layout : Layout) (rows : List GraphRow) → IsPackedAs bytes layout rows → rows_in (read_packed bytes) ≡ rows
kept_rows bytes layout rows kept = ap (λ (x : List ℕ). rows_in (read_packed x)) kept.spelled ∙ ap rows_in (packed_again rows kept.sound)

-- one list of rows for each spelling
pub packed_once : (rows others : List GraphRow) → AreGraphRows rows → AreGraphRows others → spelling rows ≡ spelling others → rows ≡ others
packed_once rows others sound others_sound same = ap rows_in (sym (packed_again rows sound) ∙ ap read_packed same ∙ packed_again others others_sound)

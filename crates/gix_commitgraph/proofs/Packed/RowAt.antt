-- The row of a number in packed bytes.
use Rattle.std.proofs.Common.{◌≡◌, ℕ, suc, ◌+◌, ◌*◌, ◌<◌, ◌≤◌, List, [], ◌∷◌, ◌++◌, length, take, drop, refl, sym, ap, ◌∙◌, append_assoc, arith, All, IfOk, w32, flat_map, drop-drop, drop_at, length-append, take-append-drop, get_or-take}
use Rattle.std.proofs.Common.{length-take, length-take-le}
use Rattle.gix_commitgraph.proofs.Common.{All-from_recursion, recursion_from_All, to_be_bytes, AllByRecursion, nat_tests, Kind, Layout, ParentPlace, At, Fault, GraphRow, no_row, row_at, most, place_word, list_words, overflow_of}
use Rattle.gix_commitgraph.proofs.Common.{first_word, second_word, row_bytes, overflow_words, kind_of_rows, spelling, IsPlaceAmong, IsRowAmong, words_of, row_len, first_field, second_field, IsPackedAs, BeginsWithRow}
use Rattle.std.proofs.lemmas.List.Concat.{flat_map-append}
use Rattle.std.proofs.Math.Seq.{drop-cons}
use Rattle.gix_commitgraph.specs.Packed.{rows_bytes}
use Rattle.gix_commitgraph.specs.Parents.{answer_of, answers_of, answer_of_word, answers_of_list, answers_of_words}
use Rattle.gix_commitgraph.proofs.Packed.Fields.{place_word-below, has_row, length-row_bytes}
use Rattle.gix_commitgraph.proofs.Packed.Whole.{spelling-has_body, length-rows_bytes, rows_bytes-append, words_of-bytes, AreWords-overflow_words}

-- ---- the answers of a row's words

answer_again : (n : ℕ) (p : ParentPlace) → n ≤ most → IsPlaceAmong n p → answer_of_word (place_word p) ≡ answer_of p
answer_again n (At i) few lt = grind (arith, nat_tests)
answer_again n Fault few lt = refl

list_answers_again : (n : ℕ) (p : ParentPlace) (ps : List ParentPlace) (more : List ℕ) → n ≤ most → IsPlaceAmong n p → AllByRecursion (IsPlaceAmong n) ps
    → answers_of_list (list_words p ps ++ more) ≡ answers_of (p ∷ ps)
list_answers_again n p [] more few here all = grind (arith, nat_tests, place_word-below n p few here, answer_again n p few here)
list_answers_again n p (q ∷ ps) more few here all = grind (arith, nat_tests, place_word-below n p few here, answer_again n p few here, list_answers_again n q ps more few all.0 all.1)

answers_again : (n w : ℕ) (ps : List ParentPlace) (words more : List ℕ) → n ≤ most → AllByRecursion (IsPlaceAmong n) ps → drop w words ≡ overflow_of ps ++ more
    → answers_of_words (first_word ps) (second_word w ps) words ≡ answers_of ps
unfolding answers_of_words
answers_again n w [] words more few all e = refl
answers_again n w (p ∷ []) words more few all e = grind (arith, nat_tests, place_word-below n p few all.0, answer_again n p few all.0)
answers_again n w (p ∷ q ∷ []) words more few all e = grind (arith, nat_tests, place_word-below n p few all.0, place_word-below n q few all.1.0, answer_again n p few all.0, answer_again n q few all.1.0)
answers_again n w (p ∷ q ∷ r ∷ ps) words more few all e =
    grind (arith, nat_tests, place_word-below n p few all.0, answer_again n p few all.0, list_answers_again n q (r ∷ ps) more few all.1.0 all.1.1)

-- ---- the row of a number

-- where packed bytes are kept, the row of a number begins where it should
pub begins_with_row : (bytes : List ℕ) (layout : Layout) (rows : List GraphRow) (r : ℕ) → IsPackedAs bytes layout rows → r < length rows
    → BeginsWithRow rows r (drop (12 + row_len layout.kind * r) bytes)
unfolding rows_bytes
begins_with_row bytes layout rows r kept lt =
    let k = kind_of_rows rows in
    let sound = kept.sound in
    let each = All-from_recursion (IsRowAmong k (length rows)) rows sound.each in
    let tail = flat_map (to_be_bytes w32) (overflow_words rows) in
    let row = row_at rows r in
    let first = take r rows in
    let others = drop (suc r) rows in
    let from = 0 + length (overflow_words first) in
    let rest = rows_bytes (from + length (overflow_of row.parents)) others ++ tail in
    let split : first ++ row ∷ others ≡ rows = ap (λ (x : List GraphRow). first ++ x) (sym (drop-cons rows r no_row lt)) ∙ take-append-drop r rows in
    let words : overflow_words rows ≡ overflow_words first ++ (overflow_of row.parents ++ overflow_words others) = ap overflow_words (sym split) ∙ flat_map-append (λ (x : GraphRow). overflow_of x.parents) first (row ∷ others) in
    let list : drop from (overflow_words rows) ≡ overflow_of row.parents ++ overflow_words others = ap (drop from) words ∙ drop_at (overflow_words first) _ from (omega arith) in
    let first_each = recursion_from_All (IsRowAmong k (length rows)) first (λ i d l. rw (get_or-take r rows i d (omega (arith, length-take r rows))) (each i d (omega (arith, length-take r rows)))) in
    let first_len : length (rows_bytes 0 first) ≡ row_len k * r = length-rows_bytes k (length rows) 0 first first_each ∙ ap (λ (n : ℕ). row_len k * n) (length-take-le r rows (omega arith)) in
    let at : drop (row_len k * r) (rows_bytes 0 rows ++ tail) ≡ row_bytes from row ++ rest =
    ap (λ (x : List GraphRow). drop (row_len k * r) (rows_bytes 0 x ++ tail)) (sym split) ∙ ap (λ (x : List ℕ). drop (row_len k * r) (x ++ tail)) (rows_bytes-append 0 first (row ∷ others))
    ∙ ap (drop (row_len k * r)) (simp append_assoc) ∙ drop_at (rows_bytes 0 first) (row_bytes from row ++ rest) (row_len k * r) first_len in
    let here : drop (12 + row_len layout.kind * r) bytes ≡ row_bytes from row ++ rest =
    (λ i. drop (12 + row_len (kept.head.kind i) * r) (kept.spelled i)) ∙ sym (drop-drop (row_len k * r) 12 (spelling rows)) ∙ ap (drop (row_len k * r)) (spelling-has_body rows sound).body_is ∙ at in
    let among = each r no_row lt in
    let few : from ≤ most = omega (arith, sound.few_words, ap length words, length-append (overflow_words first) (overflow_of row.parents ++ overflow_words others)) in
    let has = has_row k (length rows) from row rest sound.few few among in
    rw here (record {
      long = omega (arith, length-append (row_bytes from row) rest, length-row_bytes k (length rows) from row among);
      id = has.id;
      tree = has.tree;
      generation = has.generation;
      time = has.time;
      among = among.parents;
      parents = (λ i. answers_of_words (has.first i) (has.second i) (overflow_words rows)) ∙ answers_again (length rows) from row.parents (overflow_words rows) (overflow_words others) sound.few among.parents list;
    })

-- where the packed bytes of a graph hold its rows and overflow words
pub row_within : (bytes : List ℕ) (layout : Layout) (rows : List GraphRow) (r : ℕ) → IsPackedAs bytes layout rows → r < length rows → 12 + row_len layout.kind * r + row_len layout.kind ≤ length bytes
row_within bytes layout rows r kept lt =
    let k = kind_of_rows rows in
    let body = spelling-has_body rows kept.sound in
    let rows_len = length-rows_bytes k (length rows) 0 rows kept.sound.each in
    let within : row_len k * r + row_len k ≤ row_len k * length rows = grind arith in
    rw kept.head.kind (omega (arith, within, ap length kept.spelled, body.len, rows_len))

pub words_kept : (bytes : List ℕ) (layout : Layout) (rows : List GraphRow) → IsPackedAs bytes layout rows
    → (12 + row_len layout.kind * layout.rows ≤ length bytes) × (words_of (drop (12 + row_len layout.kind * layout.rows) bytes) ≡ overflow_words rows)
words_kept bytes layout rows kept =
    let k = kind_of_rows rows in
    let body = spelling-has_body rows kept.sound in
    let rows_len = length-rows_bytes k (length rows) 0 rows kept.sound.each in
    let at : 12 + row_len layout.kind * layout.rows ≡ 12 + length (rows_bytes 0 rows) = (λ i. 12 + row_len (kept.head.kind i) * kept.head.count i) ∙ ap (λ (x : ℕ). 12 + x) (sym rows_len) in
    let here : drop (12 + row_len layout.kind * layout.rows) bytes ≡ flat_map (to_be_bytes w32) (overflow_words rows) = (λ i. drop (at i) (kept.spelled i)) ∙ body.words_is in
    (omega (arith, at, ap length kept.spelled, body.len), ap words_of here ∙ words_of-bytes (overflow_words rows) (AreWords-overflow_words k (length rows) rows kept.sound.few kept.sound.each))

answers_within : (n : ℕ) (places : List ParentPlace) → AllByRecursion (IsPlaceAmong n) places → AllByRecursion (λ answer. IfOk answer (λ position. position.0 < n)) (answers_of places)
answers_within n [] all = tt
answers_within n (At i ∷ places) all = (all.0, answers_within n places all.1)
answers_within n (Fault ∷ places) all = (tt, answers_within n places all.1)

pub answers-within : (n : ℕ) (places : List ParentPlace) → AllByRecursion (IsPlaceAmong n) places → All (λ answer. IfOk answer (λ position. position.0 < n)) (answers_of places)
answers-within n places all = All-from_recursion (λ answer. IfOk answer (λ position. position.0 < n)) (answers_of places) (answers_within n places all)

-- what was read of a row and of the overflow words gives the row's answers
pub begun_answers : (rows : List GraphRow) (r : ℕ) (bytes : List ℕ) (k : Kind) (first second : ℕ) (words : List ℕ) → BeginsWithRow rows r bytes
    → k ≡ kind_of_rows rows → first ≡ first_field k bytes → second ≡ second_field k bytes → words ≡ overflow_words rows
    → answers_of_words first second words ≡ answers_of (row_at rows r).parents
begun_answers rows r bytes k first second words begun a b c d = rw (b, c, d, a) begun.parents

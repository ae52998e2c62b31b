-- Rows that are handed in, tested one after the other.
use Rattle.std.proofs.Common.{◌≡◌, ℕ, suc, ◌+◌, ◌-◌, ◌<◌, ◌≤◌, Bool, true, false, List, [], ◌∷◌, ◌++◌, length, map, eqb, get_or, take, drop, refl, sym, ap, subst, ◌∙◌, arith, MatchBool, eqb-true, append-nil, length-append}
use Rattle.std.proofs.Common.{take-append-drop}
use Rattle.gix_commitgraph.proofs.Common.{AllByRecursion, All-from_recursion, get_or-map, length-map, take_more, map-append, map_push, Kind, ObjectId, ParentPlace, Row, id_len, kind_of, bytes_of, GraphRow, no_row, row_at, list_words}
use Rattle.gix_commitgraph.proofs.Common.{overflow_of, overflow_words, kind_of_rows, AreBytes, IsIdOf, IsPlaceAmong, row_seen, rows_seen, IsRowOf, AreOfKind, AreOfOneKind, HavePlacesWithin}
use Rattle.std.proofs.lemmas.Bool.{eqb-false}
use Rattle.std.proofs.lemmas.List.Concat.{flat_map-append}
use Rattle.gix_hash.specs.declared.Kind.TheVariants as kind
use Rattle.gix_hash.specs.declared.ObjectId.TheVariants as id

pub length-list_words : (p : ParentPlace) (ps : List ParentPlace) → length (list_words p ps) ≡ suc (length ps)
length-list_words p [] = refl
length-list_words p (q ∷ ps) = ap suc (length-list_words q ps)

pub length-overflow_of : (ps : List ParentPlace) → 3 ≤ length ps → length (overflow_of ps) ≡ length ps - 1
length-overflow_of [] h = absurd (omega arith)
length-overflow_of (p ∷ []) h = absurd (omega arith)
length-overflow_of (p ∷ q ∷ []) h = absurd (omega arith)
length-overflow_of (p ∷ q ∷ r ∷ ps) h = length-list_words q (r ∷ ps) ∙ omega arith

pub overflow_words-push : (rows : List GraphRow) (row : GraphRow) → overflow_words (rows ++ row ∷ []) ≡ overflow_words rows ++ overflow_of row.parents
overflow_words-push rows row = flat_map-append (λ (x : GraphRow). overflow_of x.parents) rows (row ∷ []) ∙ ap (λ (x : List ℕ). overflow_words rows ++ x) (append-nil (overflow_of row.parents))

-- how many overflow words the first rows have
pub words_of_more : {X : Type 0} (f : X → GraphRow) (xs : List X) (i : ℕ) (d : X) → i < length xs
    → length (overflow_words (map f (take (i + 1) xs))) ≡ length (overflow_words (map f (take i xs))) + length (overflow_of (f (get_or xs i d)).parents)
words_of_more f xs i d lt =
    let seen : map f (take (i + 1) xs) ≡ map f (take i xs) ++ f (get_or xs i d) ∷ [] = ap (map f) (take_more xs i d lt) ∙ map_push f (take i xs) (get_or xs i d) in
    ap length (ap overflow_words seen ∙ overflow_words-push (map f (take i xs)) (f (get_or xs i d))) ∙ length-append (overflow_words (map f (take i xs))) (overflow_of (f (get_or xs i d)).parents)

pub words_of_part : {X : Type 0} (f : X → GraphRow) (xs : List X) (i : ℕ) → length (overflow_words (map f (take i xs))) ≤ length (overflow_words (map f xs))
words_of_part {X} f xs i =
    let whole : overflow_words (map f xs) ≡ overflow_words (map f (take i xs)) ++ overflow_words (map f (drop i xs)) =
    ap (λ (x : List X). overflow_words (map f x)) (sym (take-append-drop i xs)) ∙ ap overflow_words (map-append f (take i xs) (drop i xs)) ∙ flat_map-append (λ (x : GraphRow). overflow_of x.parents) (map f (take i xs)) (map f (drop i xs)) in
    omega (arith, ap length whole, length-append (overflow_words (map f (take i xs))) (overflow_words (map f (drop i xs))))

-- what holds of each row, by places and by the list
pub all_seen : (P : GraphRow → Type 0) (rows : List Row) → ((k : ℕ) (d : Row) → k < length rows → P (row_seen (get_or rows k d))) → AllByRecursion P (rows_seen rows)
all_seen P [] each = tt
all_seen P (row ∷ rows) each = (each 0 row (omega arith), all_seen P rows (λ k d lt. each (suc k) d (omega arith)))

-- a row that was read from the list that was handed in
pub read_seen : (rows : List Row) (place : ℕ) (row : Row) → place < length rows → row ≡ get_or rows place row → row_seen row ≡ row_at (rows_seen rows) place
read_seen rows place row lt is = ap row_seen is ∙ sym (get_or-map row_seen rows place row no_row lt)

kinds_of_rows : (k : Kind) (rows : List GraphRow) → AllByRecursion (IsRowOf k) rows → AreOfKind k rows
kinds_of_rows k [] all = tt
kinds_of_rows k (row ∷ rows) all = ((all.0.id.kind, all.0.tree.kind), kinds_of_rows k rows all.1)

pub kind_from_len : (k : Kind) (i : ObjectId) → id_len (kind_of i) ≡ id_len k → kind_of i ≡ k
kind_from_len kind.Sha1 (id.Sha1 bytes) e = refl
kind_from_len kind.Sha1 (id.Sha256 bytes) e = absurd (omega arith)
kind_from_len kind.Sha256 (id.Sha1 bytes) e = absurd (omega arith)
kind_from_len kind.Sha256 (id.Sha256 bytes) e = refl

pub is_of_kind_cases : (k : Kind) (i : ObjectId) (bytes : List ℕ) (b : Bool) → bytes ≡ bytes_of i → length bytes ≡ id_len (kind_of i) → AreBytes bytes → b ≡ eqb (length bytes) (id_len k)
    → MatchBool b (IsIdOf k i) (kind_of i ≡ k → ⊥)
is_of_kind_cases k i bytes true is len fits e =
    let same : length bytes ≡ id_len k = eqb-true (length bytes) (id_len k) (sym e) in
    record { kind = kind_from_len k i (omega arith); len = ap length (sym is) ∙ same; bytes = subst AreBytes is fits }
is_of_kind_cases k i bytes false is len fits e = λ same. eqb-false (length bytes) (id_len k) (sym e) (len ∙ ap id_len same)

-- where all rows have a property, the row that was read has it
pub read_row : (P : GraphRow → Type 0) (rows : List Row) (k : ℕ) (row : Row) → AllByRecursion P (rows_seen rows) → k < length rows → row ≡ get_or rows k row → P (row_seen row)
read_row P rows k row all lt is = subst P (sym (read_seen rows k row lt is)) (All-from_recursion P (rows_seen rows) all k no_row (omega (arith, length-map rows row_seen)))

pub places_within : (rows : List Row) → ((k : ℕ) (d : Row) → k < length rows → AllByRecursion (IsPlaceAmong (length rows)) (get_or rows k d).parents.items) → HavePlacesWithin (rows_seen rows)
places_within rows each = all_seen (λ row. AllByRecursion (IsPlaceAmong (length (rows_seen rows))) row.parents) rows (λ k d lt. subst (λ (n : ℕ). AllByRecursion (IsPlaceAmong n) (get_or rows k d).parents.items) (sym (length-map rows row_seen)) (each k d lt))

pub read_places : (rows : List Row) (k : ℕ) (row : Row) → HavePlacesWithin (rows_seen rows) → k < length rows → row ≡ get_or rows k row → AllByRecursion (IsPlaceAmong (length rows)) row.parents.items
read_places rows k row all lt is = subst (λ (n : ℕ). AllByRecursion (IsPlaceAmong n) row.parents.items) (length-map rows row_seen) (read_row (λ x. AllByRecursion (IsPlaceAmong (length (rows_seen rows))) x.parents) rows k row all lt is)

pub are_of_one_kind : (k : Kind) (rows : List GraphRow) → k ≡ kind_of_rows rows → AllByRecursion (IsRowOf k) rows → AreOfOneKind rows
are_of_one_kind k rows is all = subst (λ (x : Kind). AreOfKind x rows) is (kinds_of_rows k rows all)

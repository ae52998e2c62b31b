-- Records read from the left, and the grammar of records.
use Rattle.std.proofs.Common.{ℕ, suc, ◌≡◌, ◌≢◌, ◌≤◌, ◌<◌, ◌+◌, ◌-◌, ◌==◌, List, [], ◌∷◌, ◌++◌, Bool, true, false, length, take, drop, Option, Some, None, Result, Ok, Err, codes, bytes_eq, cond, refl, sym, ap, subst, ◌∙◌, arith}
use Rattle.std.proofs.Common.{length-append, eqb-true, append_assoc, take_at, drop_at, take-append-drop, length-take-le, length-drop}
use Rattle.std.specs.List.{AllByRecursion}
use Rattle.std.specs.Result.{result_ok}
use Rattle.std.specs.FinMap as map_of
use Rattle.std.specs.FinMap.{FinMap}
use Rattle.std.proofs.lemmas.Option.{some_pair_parts, same_Some, none-some}
use Rattle.std.proofs.lemmas.Slice.Eq.{bytes_eq-Decides}
use Rattle.gix_hash.specs.declared.ObjectId.{ObjectId}
use Rattle.gix_hash.specs.declared.HexError.{HexError}
use Rattle.gix_object.specs.declared.Kind.{Kind}
use Rattle.gix_object.specs.declared.Kind.TheVariants as kind
use Rattle.gix_object.specs.declared.memory.Stored.{Stored}
use Rattle.gix_hash.specs.Id.{id_cmp, id_from_hex}
use Rattle.gix_object.specs.MemoryStore.{objects_at}
use Rattle.gix_object.specs.Object.{Objects}
use Rattle.gix_object.proofs.MemoryStore.{object_put}
use Rattle.gix_records.specs.declared.Error.TheVariants as error
use Rattle.gix_records.specs.Decimal.{decimal}
use Rattle.gix_records.specs.Records.{Record, kind_word, IsRecord, BeginsWith, AreRecords, IsBadRecord, IsRecordFault, no_memory, put_in, stored}
use Rattle.gix_records.specs.RecordFront.{split_at_byte, kind_named, front_kind, front_id, split_behind, ended_at, record_at, ◌>>=◌}
use Rattle.gix_records.proofs.SplitFacts.{split_found, split-append}
use Rattle.gix_records.proofs.DecimalFacts.{decimal_lineless}
use Rattle.gix_records.proofs.HexFacts.{id_spaceless}

bind_some : {A B P : Type 0} (o : Option A) (f : A → Option B) (y : B) → (o >>= f) ≡ Some y → ((x : A) → o ≡ Some x → f x ≡ Some y → P) → P
bind_some None f y e k = absurd (none-some y e)
bind_some (Some x) f y e k = k x refl e

kind_of_word : (word : List ℕ) (k : Kind) → kind_named word ≡ Some k → word ≡ kind_word k
kind_of_word word k e = first (bytes_eq word (codes "commit")) refl e
  where
    fourth : (t : Bool) → bytes_eq word (codes "tag") ≡ t → cond t (Some kind.Tag) None ≡ Some k → word ≡ kind_word k
    fourth true h e = (bytes_eq-Decides word (codes "tag")).0 h ∙ ap kind_word (same_Some kind.Tag k e)
    fourth false h e = cc

    third : (t : Bool) → bytes_eq word (codes "blob") ≡ t → cond t (Some kind.Blob) (cond (bytes_eq word (codes "tag")) (Some kind.Tag) None) ≡ Some k → word ≡ kind_word k
    third true h e = (bytes_eq-Decides word (codes "blob")).0 h ∙ ap kind_word (same_Some kind.Blob k e)
    third false h e = fourth (bytes_eq word (codes "tag")) refl e

    second : (t : Bool) → bytes_eq word (codes "tree") ≡ t → cond t (Some kind.Tree) (cond (bytes_eq word (codes "blob")) (Some kind.Blob) (cond (bytes_eq word (codes "tag")) (Some kind.Tag) None)) ≡ Some k → word ≡ kind_word k
    second true h e = (bytes_eq-Decides word (codes "tree")).0 h ∙ ap kind_word (same_Some kind.Tree k e)
    second false h e = third (bytes_eq word (codes "blob")) refl e

    first : (t : Bool) → bytes_eq word (codes "commit") ≡ t → cond t (Some kind.Commit) (cond (bytes_eq word (codes "tree")) (Some kind.Tree) (cond (bytes_eq word (codes "blob")) (Some kind.Blob) (cond (bytes_eq word (codes "tag")) (Some kind.Tag) None))) ≡ Some k → word ≡ kind_word k
    first true h e = (bytes_eq-Decides word (codes "commit")).0 h ∙ ap kind_word (same_Some kind.Commit k e)
    first false h e = second (bytes_eq word (codes "tree")) refl e

id_was_read : (r : Result ObjectId HexError) (i : ObjectId) → result_ok r ≡ Some i → r ≡ Ok i
id_was_read (Ok j) i e = ap (λ x. Ok x) (same_Some j i e)
id_was_read (Err d) i e = cc

pub ended_found : (byte n : ℕ) (text : List ℕ) (parts : List ℕ × List ℕ) → ended_at byte n text ≡ Some parts → (text ≡ parts.0 ++ byte ∷ parts.1) × (length parts.0 ≡ n)
ended_found byte n text parts e = go (drop n text) refl e
  where
    go : (rest : List ℕ) → drop n text ≡ rest → split_behind byte (take n text) rest ≡ Some parts → (text ≡ parts.0 ++ byte ∷ parts.1) × (length parts.0 ≡ n)
    go [] l e = cc
    go (b ∷ rest) l e = ends (b == byte) refl e
      where
        ends : (t : Bool) → (b == byte) ≡ t → cond t (Some (take n text, rest)) None ≡ Some parts → (text ≡ parts.0 ++ byte ∷ parts.1) × (length parts.0 ≡ n)
        ends true at e =
            let same : (take n text ≡ parts.0) × (rest ≡ parts.1) = some_pair_parts (take n text) parts.0 rest parts.1 e in
            let fits : n ≤ length text = omega (arith, length-drop n text, ap length l) in (
              sym (take-append-drop n text) ∙ ap (λ x. take n text ++ x) (l ∙ ap (λ x. x ∷ rest) (eqb-true b byte at) ∙ ap (λ x. byte ∷ x) same.1) ∙ ap (λ x. x ++ byte ∷ parts.1) same.0,
              ap length (sym same.0) ∙ length-take-le n text fits,
            )
        ends false at e = cc

kind_found : (text : List ℕ) (r : Kind × List ℕ) → front_kind text ≡ Some r → text ≡ kind_word r.0 ++ 32 ∷ r.1
unfolding front_kind
kind_found text r e =
    bind_some (split_at_byte 32 text) _ r e (λ word at_word e1.
    bind_some (kind_named word.0) _ r e1 (λ k at_kind e2.
    let same : (k ≡ r.0) × (word.1 ≡ r.1) = some_pair_parts k r.0 word.1 r.1 e2 in
    (split_found 32 text word at_word).1 ∙ ap (λ x. x ++ 32 ∷ word.1) (kind_of_word word.0 k at_kind) ∙ ap (λ x. kind_word x ++ 32 ∷ word.1) same.0 ∙ ap (λ x. kind_word r.0 ++ 32 ∷ x) same.1))

id_found : (text : List ℕ) (r : ObjectId × List ℕ) → front_id text ≡ Some r → (digits : List ℕ) × (id_from_hex digits ≡ Ok r.0) × (text ≡ digits ++ 32 ∷ r.1)
unfolding front_id
id_found text r e =
    bind_some (split_at_byte 32 text) _ r e (λ digits at_digits e1.
    bind_some (result_ok (id_from_hex digits.0)) _ r e1 (λ i at_id e2.
    let same : (i ≡ r.0) × (digits.1 ≡ r.1) = some_pair_parts i r.0 digits.1 r.1 e2 in
    (digits.0, id_was_read (id_from_hex digits.0) i at_id ∙ ap (λ x. Ok x) same.0, (split_found 32 text digits at_digits).1 ∙ ap (λ x. digits.0 ++ 32 ∷ x) same.1)))

-- what is found at the front is so spelled
pub record_found : (text : List ℕ) (r : Record × List ℕ) → record_at text ≡ Some r → IsRecord r.0 text r.1
unfolding record_at
record_found text r e =
    bind_some (front_kind text) _ r e (λ k at_kind e1.
    bind_some (front_id k.1) _ r e1 (λ i at_id e2.
    bind_some (split_at_byte 10 i.1) _ r e2 (λ count at_count e3.
    bind_some (decimal count.0) _ r e3 (λ n at_number e4.
    bind_some (ended_at 10 n count.1) _ r e4 (λ body at_body e5.
    let id = id_found k.1 i at_id in
    let spelled : IsRecord (record { kind = k.0; id = i.0; bytes = body.0 }) text body.1 = record {
      id_digits = id.0;
      length_digits = count.0;
      is_id = id.1;
      is_length = at_number ∙ ap (λ m. Some m) (sym (ended_found 10 n count.1 body at_body).1);
      whole = kind_found text k at_kind
          ∙ ap (λ x. kind_word k.0 ++ 32 ∷ x) (id.2
          ∙ ap (λ x. id.0 ++ 32 ∷ x) ((split_found 10 i.1 count at_count).1
          ∙ ap (λ x. count.0 ++ 10 ∷ x) (ended_found 10 n count.1 body at_body).0));
    } in
    subst (λ (y : Record × List ℕ). IsRecord y.0 text y.1) (same_Some (record { kind = k.0; id = i.0; bytes = body.0 }, body.1) r e5) spelled)))))

word_spaceless : (k : Kind) → AllByRecursion (λ b. b ≢ 32) (kind_word k)
word_spaceless kind.Tree = (omega arith, (omega arith, (omega arith, (omega arith, tt))))
word_spaceless kind.Blob = (omega arith, (omega arith, (omega arith, (omega arith, tt))))
word_spaceless kind.Commit = (omega arith, (omega arith, (omega arith, (omega arith, (omega arith, (omega arith, tt))))))
word_spaceless kind.Tag = (omega arith, (omega arith, (omega arith, tt)))

word_kind : (k : Kind) → kind_named (kind_word k) ≡ Some k
word_kind kind.Tree = refl
word_kind kind.Blob = refl
word_kind kind.Commit = refl
word_kind kind.Tag = refl

body-append : (bytes rest : List ℕ) → ended_at 10 (length bytes) (bytes ++ 10 ∷ rest) ≡ Some (bytes, rest)
body-append bytes rest =
    ap (λ x. split_behind 10 x (drop (length bytes) (bytes ++ 10 ∷ rest))) (take_at bytes (10 ∷ rest) (length bytes) refl)
    ∙ ap (split_behind 10 bytes) (drop_at bytes (10 ∷ rest) (length bytes) refl)

pub kind_read : (k : Kind) (rest : List ℕ) → front_kind (kind_word k ++ 32 ∷ rest) ≡ Some (k, rest)
unfolding front_kind
kind_read k rest = rw (split-append 32 (kind_word k) rest (word_spaceless k)) (rw (word_kind k) refl)

pub id_read : (digits : List ℕ) (i : ObjectId) (rest : List ℕ) → id_from_hex digits ≡ Ok i → front_id (digits ++ 32 ∷ rest) ≡ Some (i, rest)
unfolding front_id
id_read digits i rest e = rw (split-append 32 digits rest (id_spaceless digits i e)) (rw e refl)

-- what is so spelled is found at the front
pub record_read : (r : Record) (text behind : List ℕ) → IsRecord r text behind → record_at text ≡ Some (r, behind)
unfolding record_at
record_read r text behind h =
    let body : List ℕ = r.bytes ++ 10 ∷ behind in
    ap record_at h.whole
    ∙ rw (kind_read r.kind (h.id_digits ++ 32 ∷ (h.length_digits ++ 10 ∷ body)))
    (rw (id_read h.id_digits r.id (h.length_digits ++ 10 ∷ body) h.is_id)
    (rw (split-append 10 h.length_digits body (decimal_lineless h.length_digits (length r.bytes) h.is_length)) (rw h.is_length (rw (body-append r.bytes behind) refl))))

-- how far the records at the front of a text were stored
pub record HasStored (text rest : List ℕ) (number : ℕ) (objects : Objects) : Type 0 where
  pub before : List Record
  pub begins : BeginsWith before text rest
  pub count : number ≡ suc (length before)
  pub same : objects ≡ stored before

pub begins_last : (records : List Record) (text rest behind : List ℕ) (r : Record) → BeginsWith records text rest → IsRecord r rest behind → BeginsWith (records ++ r ∷ []) text behind
begins_last [] text rest behind r e h = (behind, subst (λ x. IsRecord r x behind) (sym e) h, refl)
begins_last (q ∷ records) text rest behind r begins h = (begins.0, begins.1, begins_last records begins.0 rest behind r begins.2 h)

put_in_last : (objects : Objects) (records : List Record) (r : Record) → put_in objects (records ++ r ∷ []) ≡ map_of.insert (put_in objects records) r.id (record { kind = r.kind; bytes = r.bytes })
put_in_last objects [] r = refl
put_in_last objects (q ∷ records) r = put_in_last (map_of.insert objects q.id (record { kind = q.kind; bytes = q.bytes })) records r

-- a record is its front, its bytes and a newline
pub record_parts : (r : Record) (text behind : List ℕ) → IsRecord r text behind → (front : List ℕ) × (text ≡ front ++ (r.bytes ++ 10 ∷ behind))
record_parts r text behind h = (kind_word r.kind ++ 32 ∷ (h.id_digits ++ 32 ∷ (h.length_digits ++ 10 ∷ [])), h.whole ∙ sym (simp append_assoc))

-- the rest after records is the end of the text
begins_before : (records : List Record) (text rest : List ℕ) → BeginsWith records text rest → (front : List ℕ) × (text ≡ front ++ rest)
begins_before [] text rest e = ([], e)
begins_before (r ∷ records) text rest h =
    let one = record_parts r text h.0 h.1 in
    let more = begins_before records h.0 rest h.2 in
    (one.0 ++ (r.bytes ++ 10 ∷ more.0), one.1 ∙ ap (λ x. one.0 ++ (r.bytes ++ 10 ∷ x)) more.1 ∙ sym (simp append_assoc))

-- a record takes some bytes
record_takes : (r : Record) (text behind : List ℕ) → IsRecord r text behind → length behind < length text
record_takes r text behind h =
    let parts = record_parts r text behind h in
    omega (arith, ap length parts.1, length-append parts.0 (r.bytes ++ 10 ∷ behind), length-append r.bytes (10 ∷ behind))

pub found_takes : (text : List ℕ) (r : Record × List ℕ) → record_at text ≡ Some r → length r.1 < length text
found_takes text r e = record_takes r.0 text r.1 (record_found text r e)

pub stored_none : (text : List ℕ) (objects : Objects) → objects ≡ map_of.empty → HasStored text text 1 objects
stored_none text objects e = record { before = []; begins = refl; count = refl; same = e }

stored_one : (text rest : List ℕ) (number : ℕ) (objects : Objects) (r : Record × List ℕ) (new : Objects) → HasStored text rest number objects → record_at rest ≡ Some r
    → new ≡ map_of.insert objects r.0.id (record { kind = r.0.kind; bytes = r.0.bytes }) → HasStored text r.1 (number + 1) new
stored_one text rest number objects r new h e put = record {
  before = h.before ++ r.0 ∷ [];
  begins = begins_last h.before text rest r.1 r.0 h.begins (record_found rest r e);
  count = omega (arith, h.count, length-append h.before (r.0 ∷ []));
  same = put ∙ ap (λ (m : Objects). map_of.insert m r.0.id (record { kind = r.0.kind; bytes = r.0.bytes })) h.same ∙ sym (put_in_last map_of.empty h.before r.0);
}

-- the place of the bytes of the record that comes next
module _ (text rest : List ℕ) (number : ℕ) (places : FinMap id_cmp Stored) (r : Record × List ℕ) (h : HasStored text rest number (objects_at text places)) (found : record_at rest ≡ Some r) where
  bytes_before : (front : List ℕ) × (text ≡ front ++ (r.0.bytes ++ 10 ∷ r.1))
  bytes_before =
      let before = begins_before h.before text rest h.begins in
      let one = record_parts r.0 rest r.1 (record_found rest r found) in
      (before.0 ++ one.0, before.1 ∙ ap (λ x. before.0 ++ x) one.1 ∙ sym (append_assoc before.0 one.0 (r.0.bytes ++ 10 ∷ r.1)))

  pub bytes_fit : length r.0.bytes + 1 + length r.1 ≤ length text
  bytes_fit = let p = bytes_before in omega (arith, ap length p.1, length-append p.0 (r.0.bytes ++ 10 ∷ r.1), length-append r.0.bytes (10 ∷ r.1))

  pub placed_one : (start end : ℕ) → start + length r.0.bytes ≡ end → end + 1 + length r.1 ≡ length text → HasStored text r.1 (number + 1) (objects_at text (map_of.insert places r.0.id (record { kind = r.0.kind; start = start; end = end })))
  placed_one start end low high =
      let p = bytes_before in
      let from : length p.0 ≡ start = omega (arith, low, high, ap length p.1, length-append p.0 (r.0.bytes ++ 10 ∷ r.1), length-append r.0.bytes (10 ∷ r.1)) in
      let count : length r.0.bytes ≡ end - start = omega (arith, low) in
      let bytes : take (end - start) (drop start text) ≡ r.0.bytes = ap (λ x. take (end - start) (drop start x)) p.1 ∙ ap (take (end - start)) (drop_at p.0 (r.0.bytes ++ 10 ∷ r.1) start from) ∙ take_at r.0.bytes (10 ∷ r.1) (end - start) count in
      stored_one text rest number (objects_at text places) r _ h found
      (object_put text places r.0.id (record { kind = r.0.kind; start = start; end = end }) ∙ ap (λ x. map_of.insert (objects_at text places) r.0.id (record { kind = r.0.kind; bytes = x })) bytes)

pub stored_all : (text : List ℕ) (number : ℕ) (objects : Objects) (rest : List ℕ) → HasStored text rest number objects → rest ≡ [] → (records : List Record) × AreRecords records text × (objects ≡ stored records)
stored_all text number objects rest h e = (h.before, subst (BeginsWith h.before text) e h.begins, h.same)

-- in what is no record's front none is found
pub unspelled : (text : List ℕ) → record_at text ≡ None → (r : Record) (behind : List ℕ) → IsRecord r text behind → ⊥
unspelled text none r behind h = let found : record_at text ≡ Some (r, behind) = record_read r text behind h in cc

-- the next is a record, for whose place there was no memory
pub stored_cut : (text rest : List ℕ) (number : ℕ) (objects : Objects) → HasStored text rest number objects → (r : Record × List ℕ) → record_at rest ≡ Some r → IsRecordFault text error.Memory
stored_cut text rest number objects h r e = no_memory h.before r.0 rest r.1 h.begins (record_found rest r e)

pub stored_bad : (text rest : List ℕ) (number : ℕ) (objects : Objects) → HasStored text rest number objects → rest ≢ [] → record_at rest ≡ None → IsBadRecord number text
stored_bad text rest number objects h more none = record {
  before = h.before;
  rest = rest;
  count = h.count;
  begins = h.begins;
  more = more;
  none = unspelled rest none;
}

-- records are spelled in one way
pub same_front : (r q : Record) (text a b : List ℕ) → IsRecord r text a → IsRecord q text b → (r ≡ q) × (a ≡ b)
same_front r q text a b h k = some_pair_parts r q a b (sym (record_read r text a h) ∙ record_read q text b k)

pub not_empty : (r : Record) (text behind : List ℕ) → IsRecord r text behind → text ≢ []
not_empty r text behind h e = let less : length behind < length text = record_takes r text behind h in omega (arith, ap length e)

pub only_reading : (records others : List Record) (text : List ℕ) → AreRecords records text → AreRecords others text → records ≡ others
only_reading [] [] text h k = refl
only_reading [] (q ∷ others) text h k = absurd (not_empty q text k.0 k.1 h)
only_reading (r ∷ records) [] text h k = absurd (not_empty r text h.0 h.1 k)
only_reading (r ∷ records) (q ∷ others) text h k =
    let same : (r ≡ q) × (h.0 ≡ k.0) = same_front r q text h.0 k.0 h.1 k.1 in
    ap (λ x. x ∷ records) same.0 ∙ ap (λ x. q ∷ x) (only_reading records others k.0 (subst (λ b. BeginsWith records b []) same.1 h.2) k.2)

bad_among : (before records : List Record) (text rest : List ℕ) → BeginsWith before text rest → rest ≢ [] → ((r : Record) (behind : List ℕ) → IsRecord r rest behind → ⊥) → AreRecords records text → ⊥
bad_among [] [] text rest h more none k = more (sym h ∙ k)
bad_among [] (r ∷ records) text rest h more none k = none r k.0 (subst (λ x. IsRecord r x k.0) h k.1)
bad_among (q ∷ before) [] text rest h more none k = not_empty q text h.0 h.1 k
bad_among (q ∷ before) (r ∷ records) text rest h more none k =
    let same : (q ≡ r) × (h.0 ≡ k.0) = same_front q r text h.0 k.0 h.1 k.1 in
    bad_among before records k.0 rest (subst (λ b. BeginsWith before b rest) same.1 h.2) more none k.2

-- a text of records has no bad one
pub no_bad_record : (n : ℕ) (records : List Record) (text : List ℕ) → IsBadRecord n text → AreRecords records text → ⊥
no_bad_record n records text bad k = bad_among bad.before records text bad.rest bad.begins bad.more bad.none k

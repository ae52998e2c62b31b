-- Records whose ids are compared with those that their objects have.
use Rattle.std.proofs.Common.{ℕ, suc, ◌≡◌, ◌+◌, List, [], ◌∷◌, ◌++◌, Bool, true, false, length, All, Some, None, IfSome, cond, refl, sym, ◌∙◌, subst, arith, length-append}
use Rattle.std.specs.FinMap as map_of
use Rattle.std.specs.Ordering.{eq_by_cmp}
use Rattle.std.proofs.lemmas.List.Elements.{All-nil, All-cons, All-append, All-head, All-tail}
use Rattle.gix_hash.specs.declared.ObjectId.{ObjectId}
use Rattle.gix_hash.specs.Id.{id_cmp}
use Rattle.gix_hash.proofs.Ids.Membership.{id_total, same_is}
use Rattle.gix_object.specs.Object.{Object, Objects}
use Rattle.gix_names.specs.Named.{IsNamed}
use Rattle.gix_records.specs.declared.Error.{Error}
use Rattle.gix_records.specs.declared.Error.TheVariants as error
use Rattle.gix_records.specs.Records.{Record, IsRecord, BeginsWith, AreRecords, put_in, stored}
use Rattle.gix_records.specs.NamedRecords.{IsNamedRecord, AreNamed, BeginsNamed, IsNameFault, misnamed}
use Rattle.gix_records.specs.RecordFront.{record_at}
use Rattle.gix_records.proofs.RecordFacts.{begins_last, record_found, unspelled, same_front, not_empty, only_reading, no_bad_record}

-- how far the records at the front of a text were compared
pub record HasCompared (text rest : List ℕ) (number : ℕ) : Type 0 where
  pub before : List Record
  pub begins : BeginsWith before text rest
  pub count : number ≡ suc (length before)
  pub named : All IsNamedRecord before

pub compared_one : (text rest : List ℕ) (number : ℕ) (r : Record × List ℕ) → HasCompared text rest number → record_at rest ≡ Some r → IsNamedRecord r.0 → HasCompared text r.1 (number + 1)
compared_one text rest number r h e named = record {
  before = h.before ++ r.0 ∷ [];
  begins = begins_last h.before text rest r.1 r.0 h.begins (record_found rest r e);
  count = omega (arith, h.count, length-append h.before (r.0 ∷ []));
  named = All-append IsNamedRecord h.before (r.0 ∷ []) h.named (All-cons IsNamedRecord r.0 [] named (All-nil IsNamedRecord));
}

pub compared_other : (text rest : List ℕ) (number : ℕ) (r : Record × List ℕ) → HasCompared text rest number → record_at rest ≡ Some r → ¬ IsNamedRecord r.0 → IsNameFault text (error.Name number r.0.id)
compared_other text rest number r h e other =
    subst (λ n. IsNameFault text (error.Name n r.0.id)) (sym h.count) (misnamed h.before r.0 rest r.1 h.begins h.named (record_found rest r e) other)

pub compared_all : (text rest : List ℕ) (number : ℕ) → HasCompared text rest number → record_at rest ≡ None → BeginsNamed text
compared_all text rest number h none = record { before = h.before; rest = rest; begins = h.begins; named = h.named; none = unspelled rest none }

-- where a text is records, those that were compared are all
pub all_named : (text : List ℕ) (records : List Record) → BeginsNamed text → AreRecords records text → All IsNamedRecord records
all_named text records h are = go h.rest h.begins h.none
  where
    go : (rest : List ℕ) → BeginsWith h.before text rest → ((r : Record) (behind : List ℕ) → IsRecord r rest behind → ⊥) → All IsNamedRecord records
    go [] begins none = subst (All IsNamedRecord) (only_reading h.before records text begins are) h.named
    go (b ∷ rest) begins none = absurd (no_bad_record (suc (length h.before)) records text (record { before = h.before; rest = b ∷ rest; count = refl; begins = begins; more = (λ e. cc); none = none }) are)

-- a text of named records has no record of another name
none_misnamed : (text : List ℕ) (records before : List Record) (r : Record) (rest behind : List ℕ) → AreRecords records text → All IsNamedRecord records → BeginsWith before text rest → IsRecord r rest behind → ¬ IsNamedRecord r → ⊥
none_misnamed text [] [] r rest behind are named begins is other = not_empty r rest behind is (sym begins ∙ are)
none_misnamed text [] (q ∷ before) r rest behind are named begins is other = not_empty q text begins.0 begins.1 are
none_misnamed text (q ∷ records) [] r rest behind are named begins is other =
    let same : (r ≡ q) × (behind ≡ are.0) = same_front r q text behind are.0 (subst (λ x. IsRecord r x behind) (sym begins) is) are.1 in
    other (subst IsNamedRecord (sym same.0) (All-head IsNamedRecord q records named))
none_misnamed text (q ∷ records) (p ∷ before) r rest behind are named begins is other =
    let same : (p ≡ q) × (begins.0 ≡ are.0) = same_front p q text begins.0 are.0 begins.1 are.1 in
    none_misnamed are.0 records before r rest behind are.2 (All-tail IsNamedRecord q records named) (subst (λ x. BeginsWith before x rest) same.1 begins.2) is other

-- names can't be refused of a text of named records
pub no_name_fault : (text : List ℕ) (records : List Record) (e : Error) → IsNameFault text e → AreRecords records text → All IsNamedRecord records → ⊥
no_name_fault text records e (misnamed before r rest behind begins all is other) are named = none_misnamed text records before r rest behind are named begins is other

pub none_named : AreNamed map_of.empty
none_named q = subst (λ p. IfSome p (λ o. IsNamed q o.kind o.bytes)) (sym (map_of.get-empty id_cmp q)) tt

pub named_put : (objects : Objects) (i : ObjectId) (o : Object) → AreNamed objects → IsNamed i o.kind o.bytes → AreNamed (map_of.insert objects i o)
named_put objects i o h named q = subst (λ p. IfSome p (λ o. IsNamed q o.kind o.bytes)) (sym (map_of.get-insert id_total objects i o q)) (at_key (eq_by_cmp id_cmp q i) refl)
  where
    at_key : (b : Bool) → eq_by_cmp id_cmp q i ≡ b → IfSome (cond b (Some o) (map_of.get objects q)) (λ o. IsNamed q o.kind o.bytes)
    at_key true e = subst (λ j. IsNamed j o.kind o.bytes) (sym (same_is q i e)) named
    at_key false e = h q

named_put_in : (objects : Objects) (records : List Record) → AreNamed objects → All IsNamedRecord records → AreNamed (put_in objects records)
named_put_in objects [] h all = h
named_put_in objects (r ∷ records) h all = named_put_in (map_of.insert objects r.id (record { kind = r.kind; bytes = r.bytes })) records (named_put objects r.id (record { kind = r.kind; bytes = r.bytes }) h (All-head IsNamedRecord r records all)) (All-tail IsNamedRecord r records all)

-- what is stored of named records is named
pub stored_named : (records : List Record) → All IsNamedRecord records → AreNamed (stored records)
stored_named records all = named_put_in map_of.empty records none_named all

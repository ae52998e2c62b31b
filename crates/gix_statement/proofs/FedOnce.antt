-- Of one input there are the objects of one list of records.
use Rattle.std.proofs.Common.{◌≡◌, ◌≢◌, ◌⊎◌, ◌<◌, ℕ, List, [], ◌∷◌, ◌++◌, length, Option, Some, None, All, Contains, refl, sym, ap, subst, ◌∙◌, arith, inl, inr}
use Rattle.std.proofs.lemmas.List.Elements.{All-cons, All-nil, Contains-append_right}
use Rattle.std.specs.Char.{digit_value}
use Rattle.std.specs.Str.Parse.{AllDigits, digits_value}
use Rattle.gix_hash.proofs.Ids.Membership.{Contains-here}
use Rattle.gix_hash.specs.declared.ObjectId.{ObjectId}
use Rattle.gix_statement.proofs.OneAnswer.{spelled_once}
use Rattle.gix_statement.proofs.OneCommit.{append_same, first_same}
use Rattle.gix_statement.proofs.NamedClash.{kind_plain}
use Rattle.gix_statement.specs.WholeStatement.{Object, Objects, AreRecords, AreFed, IsLast, IsHex, none, byte, Spells, digits_in}

empty_kind : (kind rest : List ℕ) → [] ≡ kind ++ 32 ∷ rest → ⊥
empty_kind [] rest e = cc
empty_kind (c ∷ kind) rest e = cc

digits_plain : (base b : ℕ) → (digit_value b < base → ⊥) → (text : List ℕ) → AllDigits base text → All (λ x. x ≢ b) text
digits_plain base b n [] d = All-nil (λ x. x ≢ b)
digits_plain base b n (c ∷ cs) d = All-cons (λ x. x ≢ b) c cs (λ e. n (subst (λ x. digit_value x < base) e d.0)) (digits_plain base b n cs d.1)

pub hex_plain : (c : ℕ) → (digit_value c < 16 → ⊥) → {text bytes : List ℕ} → IsHex text bytes → All (λ x. x ≢ c) text
hex_plain c n none = All-nil (λ x. x ≢ c)
hex_plain c n (byte {a = a} {b = b} {text = text} d h) =
    let two = digits_plain 16 c n (a ∷ b ∷ []) d in
    All-cons (λ x. x ≢ c) a (b ∷ text) (two 0 a (omega arith)) (All-cons (λ x. x ≢ c) b text (two 1 b (omega arith)) (hex_plain c n h))

records_once : (records others : List (ObjectId × Object)) (text : List ℕ) → AreRecords records text → AreRecords others text → records ≡ others
records_once [] [] text a b = refl
records_once [] ((j, p) ∷ others) text a (id, number, rest, kind, spells, counts, are, is) = absurd (empty_kind p.kind _ (sym a ∙ is))
records_once ((i, o) ∷ records) [] text (id, number, rest, kind, spells, counts, are, is) b = absurd (empty_kind o.kind _ (sym b ∙ is))
records_once ((i, o) ∷ records) ((j, p) ∷ others) text (id, number, rest, kind, spells, counts, are, is) (word, figures, more, sort, spell, value, too, same) =
    let k = first_same 32 o.kind p.kind _ _ (kind_plain o.kind kind) (kind_plain p.kind sort) (sym is ∙ same) in
    let w = first_same 32 id word _ _ (hex_plain 32 (λ l. omega (arith, l)) spells.2) (hex_plain 32 (λ l. omega (arith, l)) spell.2) k.1 in
    let n = first_same 10 number figures _ _ (digits_plain 10 10 (λ l. omega (arith, l)) number counts.2) (digits_plain 10 10 (λ l. omega (arith, l)) figures value.2) w.1 in
    let long : length o.bytes ≡ length p.bytes = counts.3 ∙ ap (digits_value 10) n.0 ∙ sym value.3 in
    let bytes = append_same o.bytes p.bytes (10 ∷ rest) (10 ∷ more) long n.1 in
    let left : rest ≡ more = cc in
    let tail = records_once records others rest are (subst (AreRecords others) (sym left) too) in
    let one = spelled_once id i j spells (subst (λ x. Spells (digits_in j) x j) (sym w.0) spell) in
    (λ l. (one l, record { kind = k.0 l; bytes = bytes.0 l }) ∷ tail l)

last_at : (i : ObjectId) (a b : Object) (before after front back : List (ObjectId × Object)) → before ++ (i, a) ∷ after ≡ front ++ (i, b) ∷ back → ((o : Object) → Contains after (i, o) → ⊥) → ((o : Object) → Contains back (i, o) → ⊥) → a ≡ b
last_at i a b [] after [] back e n m = let h : ◌≡◌ {A = ObjectId × Object} (i, a) (i, b) = cc in ap (λ (p : ObjectId × Object). p.1) h
last_at i a b [] after (y ∷ front) back e n m =
    let h : after ≡ front ++ (i, b) ∷ back = cc in
    absurd (n b (subst (λ xs. Contains xs (i, b)) (sym h) (Contains-append_right front ((i, b) ∷ back) (i, b) (Contains-here (i, b) back))))
last_at i a b (x ∷ before) after [] back e n m =
    let h : before ++ (i, a) ∷ after ≡ back = cc in
    absurd (m a (subst (λ xs. Contains xs (i, a)) h (Contains-append_right before ((i, a) ∷ after) (i, a) (Contains-here (i, a) after))))
last_at i a b (x ∷ before) after (y ∷ front) back e n m =
    let h : before ++ (i, a) ∷ after ≡ front ++ (i, b) ∷ back = cc in
    last_at i a b before after front back h n m

last_once : (records : List (ObjectId × Object)) (i : ObjectId) (a b : Option Object) → IsLast records i a → IsLast records i b → a ≡ b
last_once records i None None p q = refl
last_once records i None (Some b) p (before, after, is, n) = absurd (p b (subst (λ xs. Contains xs (i, b)) (sym is) (Contains-append_right before ((i, b) ∷ after) (i, b) (Contains-here (i, b) after))))
last_once records i (Some a) None (before, after, is, n) q = absurd (q a (subst (λ xs. Contains xs (i, a)) (sym is) (Contains-append_right before ((i, a) ∷ after) (i, a) (Contains-here (i, a) after))))
last_once records i (Some a) (Some b) (before, after, is, n) (front, back, same, m) = ap Some (last_at i a b before after front back (sym is ∙ same) n m)

pub fed_once : (input : List ℕ) (objects others : Objects) → AreFed (Some input) objects → AreFed (Some input) others → (i : ObjectId) → objects i ≡ others i
fed_once input objects others (text, known, records, are, last) (copy, told, more, too, end) i =
    let t = is_input text known in
    let c = is_input copy told in
    let same = records_once records more input (subst (AreRecords records) (sym t) are) (subst (AreRecords more) (sym c) too) in
    last_once records i (objects i) (others i) (last i) (subst (λ rs. IsLast rs i (others i)) (sym same) (end i))
  where
    is_input : (text : List ℕ) → (Some input ≡ None) ⊎ (Some input ≡ Some text) → input ≡ text
    is_input text (inl e) = let no : Some input ≡ None = e in cc
    is_input text (inr e) = let h : input ≡ text = cc in h

-- A clash of named objects is a collision: two texts of one hash.
use Rattle.std.proofs.Common.{◌≡◌, ◌≢◌, ◌/◌, ◌%◌, ◌+◌, ◌==◌, ℕ, zero, suc, Bool, true, false, cond, nat_lt, List, [], ◌∷◌, ◌++◌, length, All, Contains, codes, refl, subst, arith, ⊎_elim}
use Rattle.std.proofs.lemmas.List.Elements.{All-cons, All-nil}
use Rattle.std.specs.Fmt.{digits, digits_onto, digit_glyph}
use Rattle.gix_hash.proofs.Ids.Membership.{Contains-cons_cases, no_member}
use Rattle.gix_hash.specs.declared.ObjectId.{ObjectId}
use Rattle.gix_statement.proofs.OneCommit.{first_same}
use Rattle.gix_statement.proofs.Tests.{without}
use Rattle.gix_statement.specs.WholeStatement.{Object, Objects, AreNamed, Clash, IsHash, kinds}

glyph_written : (d : ℕ) → digit_glyph false d ≢ 0
glyph_written d e = go (nat_lt d 10) e
  where
    go : (b : Bool) → cond b (48 + d) (87 + d) ≡ 0 → ⊥
    go true e = omega (arith, e)
    go false e = omega (arith, e)

no_zero_onto : (k n : ℕ) (more : List ℕ) → All (λ x. x ≢ 0) more → All (λ x. x ≢ 0) (digits_onto k 10 false n more)
no_zero_onto zero n more h = h
no_zero_onto (suc k) n more h =
    let one = All-cons (λ x. x ≢ 0) (digit_glyph false (n % 10)) more (glyph_written (n % 10)) h in
    either (n / 10 == 0) _ _ one (no_zero_onto k (n / 10) _ one)
  where
    either : (b : Bool) (xs ys : List ℕ) → All (λ x. x ≢ 0) xs → All (λ x. x ≢ 0) ys → All (λ x. x ≢ 0) (cond b xs ys)
    either true xs ys p q = p
    either false xs ys p q = q

pub no_zero : (n : ℕ) → All (λ x. x ≢ 0) (digits 10 false n)
unfolding digits
no_zero n = no_zero_onto 64 n [] (All-nil (λ x. x ≢ 0))

abbrev Plain : List ℕ → Type 0
Plain = All (λ x. x ≢ 32)

pub kind_plain : (kind : List ℕ) → Contains kinds kind → Plain kind
kind_plain kind c = ⊎_elim (λ e. subst Plain e (without 32 (codes "tree") refl)) (λ c. ⊎_elim (λ e. subst Plain e (without 32 (codes "blob") refl))
    (λ c. ⊎_elim (λ e. subst Plain e (without 32 (codes "commit") refl)) (λ c. ⊎_elim (λ e. subst Plain e (without 32 (codes "tag") refl)) (λ c. absurd (no_member kind c))
    (Contains-cons_cases kind (codes "tag") [] c)) (Contains-cons_cases kind (codes "commit") (codes "tag" ∷ []) c))
    (Contains-cons_cases kind (codes "blob") (codes "commit" ∷ codes "tag" ∷ []) c)) (Contains-cons_cases kind (codes "tree") (codes "blob" ∷ codes "commit" ∷ codes "tag" ∷ []) c)

abbrev hashed : Object → List ℕ
hashed o = o.kind ++ 32 ∷ (digits 10 false (length o.bytes) ++ 0 ∷ o.bytes)

-- one text is that of one object
hashed_once : (a b : Object) → Contains kinds a.kind → Contains kinds b.kind → hashed a ≡ hashed b → a ≡ b
hashed_once a b k l e =
    let kind = first_same 32 a.kind b.kind _ _ (kind_plain a.kind k) (kind_plain b.kind l) e in
    let bytes = first_same 0 (digits 10 false (length a.bytes)) (digits 10 false (length b.bytes)) a.bytes b.bytes (no_zero (length a.bytes)) (no_zero (length b.bytes)) kind.1 in
    (λ i. record { kind = kind.0 i; bytes = bytes.1 i })

pub clash_collides : (read objects : Objects) → AreNamed read → AreNamed objects → Clash read objects → (i : ObjectId) × (x y : List ℕ) × (x ≢ y) × IsHash i x × IsHash i y
clash_collides read objects named names (i, a, b, is, same, differ) =
    let n = named i a is in
    let m = names i b same in
    (i, hashed a, hashed b, (λ e. differ (hashed_once a b n.0 m.0 e)), n.1, m.1)

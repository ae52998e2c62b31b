-- A worked file of two rows, whose first page was read and whose second wasn't. A file of git's has the chunk OIDF as well, by which the
-- program searches, and of which the page says nothing.
use Rattle.std.specs.Prelude.{◌≡◌, ℕ, zero, suc, ◌+◌, ◌*◌, ◌/◌, ◌<◌, ◌^◌, pos, List, [], ◌∷◌, ◌++◌, length, replicate, take, slice_get, slice_index, codes, Option, Some, None, All, AllPairs, Contains, refl}
use Rattle.std.proofs.lemmas.Option.{same_Some}
use Rattle.std.proofs.Common.{sym, subst, ap, ◌∙◌, arith, inl, inr, ⊎_elim}
use Rattle.std.specs.declared.cmp.Ordering.TheVariants.{Less}
use Rattle.gix_hash.specs.declared.ObjectId.{ObjectId}
use Rattle.gix_hash.specs.declared.ObjectId.TheVariants.{Sha1, Sha256}
use Rattle.gix_hash.proofs.Ids.Membership.{Contains-cons_cases, no_member}
use Rattle.gix_statement.specs.WholeStatement.{Row, by_bytes}
use Rattle.gix_statement.specs.CommitGraph.{IsChunk, IsLayer, IsRow, bytes_at, number_at, none, single}
use Rattle.gix_graph_pages.specs.GraphPages.{AreSoundLayers, HaveFiles, HavePages, IsSoundLayer, Layer, width_of}

-- a commit with no parent, and its child
abbrev pub first_row : Row
first_row = record { id = Sha1 (replicate 20 0x11); tree = Sha1 (replicate 20 0x33); parents = []; time = pos 5 }

abbrev pub second_row : Row
second_row = record { id = Sha1 (replicate 20 0x22); tree = Sha1 (replicate 20 0x44); parents = Sha1 (replicate 20 0x11) ∷ []; time = pos 7 }

abbrev pub two : List Row
two = first_row ∷ second_row ∷ []

-- 1 of the first, and 2 of the second
abbrev pub generation_of : ObjectId → ℕ
generation_of (Sha1 bytes) = slice_index bytes 0 / 0x11
generation_of (Sha256 bytes) = 0

abbrev pub two_ids : List ℕ
two_ids = replicate 20 0x11 ++ replicate 20 0x22

abbrev pub first_said : List ℕ
first_said = replicate 20 0x33 ++ (0x70 ∷ 0 ∷ 0 ∷ 0 ∷ 0x70 ∷ 0 ∷ 0 ∷ 0 ∷ 0 ∷ 0 ∷ 0 ∷ 4 ∷ 0 ∷ 0 ∷ 0 ∷ 5 ∷ [])

abbrev pub second_said : List ℕ
second_said = replicate 20 0x44 ++ (0 ∷ 0 ∷ 0 ∷ 0 ∷ 0x70 ∷ 0 ∷ 0 ∷ 0 ∷ 0 ∷ 0 ∷ 0 ∷ 8 ∷ 0 ∷ 0 ∷ 0 ∷ 7 ∷ [])

abbrev pub two_said : List ℕ
two_said = first_said ++ second_said

abbrev pub table : List ℕ
table =
    codes "OIDL" ++ (0 ∷ 0 ∷ 0 ∷ 0 ∷ 0 ∷ 0 ∷ 0 ∷ 44 ∷ [])
    ++ (codes "CDAT" ++ (0 ∷ 0 ∷ 0 ∷ 0 ∷ 0 ∷ 0 ∷ 0 ∷ 84 ∷ []))
    ++ (0 ∷ 0 ∷ 0 ∷ 0 ∷ 0 ∷ 0 ∷ 0 ∷ 0 ∷ 0 ∷ 0 ∷ 0 ∷ 156 ∷ [])

abbrev pub two_file : List ℕ
two_file = codes "CGPH" ++ (1 ∷ 1 ∷ 2 ∷ 0 ∷ []) ++ table ++ two_ids ++ two_said

abbrev pub two_pages : List (Option (List ℕ))
two_pages = Some two_file ∷ None ∷ []

pub width_20 : width_of two_file ≡ 20
width_20 = refl

pub pages_had : HavePages two_file two_pages
pages_had zero bytes e = let same : two_file ≡ bytes = cc in subst (λ x. bytes_at 0 (length x) two_file ≡ x) same refl
pages_had (suc zero) bytes e = absurd (let no : ◌≡◌ {A = Option (List ℕ)} None (Some bytes) = cc in cc)
pages_had (suc (suc k)) bytes e = absurd (let no : ◌≡◌ {A = Option (Option (List ℕ))} None (Some (Some bytes)) = e in cc)

pub ids_found : IsChunk two_file (codes "OIDL") two_ids
ids_found = (0, omega arith, refl, (λ j l. absurd (omega (arith, l))), refl)

not_here : (j : ℕ) → j < 1 → bytes_at (8 + 12 * j) 4 two_file ≡ codes "CDAT" → ⊥
not_here zero l e = let no : codes "OIDL" ≡ codes "CDAT" = e in absurd (let same : ◌≡◌ {A = ℕ} 79 67 = cc in omega (arith, same))
not_here (suc j) l e = omega (arith, l)

pub said_found : IsChunk two_file (codes "CDAT") two_said
said_found = (1, omega arith, refl, not_here, refl)

-- no other bytes are this chunk
said_alone : (bytes : List ℕ) → IsChunk two_file (codes "CDAT") bytes → bytes ≡ two_said
said_alone bytes (zero, few, name, before, is) = absurd (not_here 0 (omega arith) name)
said_alone bytes (suc zero, few, name, before, is) = is
said_alone bytes (suc (suc k), few, name, before, is) = absurd (let small : suc (suc k) < 2 = few in omega (arith, small))

rows_said : (k : ℕ) (r : Row) → slice_get two k ≡ Some r → IsRow 20 two_ids two_said [] two k r
rows_said zero r e =
    let same : first_row ≡ r = cc in
    let is : IsRow 20 two_ids two_said [] two 0 first_row = ([], refl, refl, refl, refl, none refl refl, refl, refl) in
    subst (IsRow 20 two_ids two_said [] two 0) same is
rows_said (suc zero) r e =
    let same : second_row ≡ r = cc in
    let is : IsRow 20 two_ids two_said [] two 1 second_row = (0 ∷ [], refl, refl, refl, refl, single (λ n. omega (arith, n)) refl, refl, refl) in
    subst (IsRow 20 two_ids two_said [] two 1) same is
rows_said (suc (suc k)) r e = absurd (let no : ◌≡◌ {A = Option Row} None (Some r) = e in cc)

pub two_layer : IsLayer [] two_file [] two
two_layer = (20, two_ids, two_said, [], refl, inl (refl, refl), refl, (λ k d l. absurd (omega (arith, l))), inl refl, ids_found, said_found, inr refl, refl, refl, rows_said)

rises : AllPairs (λ (r s : Row). by_bytes r.id s.id ≡ Less) two
rises zero zero d l within = absurd (omega (arith, l))
rises zero (suc zero) d l within = refl
rises zero (suc (suc j)) d l within = absurd (let small : suc (suc j) < 2 = within in omega (arith, small))
rises (suc k) zero d l within = absurd (omega (arith, l))
rises (suc k) (suc zero) d l within = absurd (omega (arith, l))
rises (suc k) (suc (suc j)) d l within = absurd (let small : suc (suc j) < 2 = within in omega (arith, small))

levels : (bytes : List ℕ) (k : ℕ) (r : Row) → IsChunk two_file (codes "CDAT") bytes → slice_get two k ≡ Some r
    → generation_of r.id ≡ number_at ((width_of two_file + 16) * k + (width_of two_file + 8)) 8 bytes / 2 ^ 34
levels bytes k r chunk e = subst (λ x. generation_of r.id ≡ number_at (36 * k + 28) 8 x / 2 ^ 34) (sym (said_alone bytes chunk)) (go k e)
  where
    go : (k : ℕ) → slice_get two k ≡ Some r → generation_of r.id ≡ number_at (36 * k + 28) 8 two_said / 2 ^ 34
    go zero e = let same : first_row ≡ r = cc in subst (λ (s : Row). generation_of s.id ≡ 1) same refl
    go (suc zero) e = let same : second_row ≡ r = cc in subst (λ (s : Row). generation_of s.id ≡ 2) same refl
    go (suc (suc k)) e = absurd (let no : ◌≡◌ {A = Option Row} None (Some r) = e in cc)

pub falls : (r : Row) → Contains two r → All (λ p. generation_of p < generation_of r.id) r.parents
falls r m = ⊎_elim
    (λ e. subst (λ (s : Row). All (λ p. generation_of p < generation_of s.id) s.parents) e (λ k d l. absurd (omega (arith, l))))
    (λ n. ⊎_elim (λ e. subst (λ (s : Row). All (λ p. generation_of p < generation_of s.id) s.parents) e above) (λ o. absurd (no_member r o)) (Contains-cons_cases r second_row [] n))
    (Contains-cons_cases r first_row (second_row ∷ []) m)
  where
    above : All (λ p. generation_of p < 2) second_row.parents
    above zero d l = omega arith
    above (suc k) d l = absurd (let small : suc k < 1 = l in omega (arith, small))

-- so there is a graph whose file has these pages
abbrev pub layer : Layer
layer = record { file = two_file; rows = two }

one_layer : (k : ℕ) (l : Layer) → slice_get (layer ∷ []) k ≡ Some l → (k ≡ 0) × (layer ≡ l)
one_layer zero l e = (refl, cc)
one_layer (suc k) l e = absurd (let no : ◌≡◌ {A = Option Layer} None (Some l) = e in cc)

pub two_read : HaveFiles (two_pages ∷ []) (layer ∷ [])
two_read = record {
  count = refl;
  has = λ k l e own at.
      let one = one_layer k l e in
      let same : two_pages ≡ own = same_Some two_pages own (ap (slice_get (two_pages ∷ [])) (sym one.0) ∙ at) in
      subst (λ (x : Layer). HavePages x.file own) one.1 (subst (HavePages two_file) same pages_had);
}

-- and whose rows are in order and sound
pub two_sound : AreSoundLayers (layer ∷ []) generation_of
two_sound = record {
  each = λ k l e.
      let one = one_layer k l e in
      let is : IsSoundLayer [] layer generation_of = record { has = two_layer; rising = rises; said = levels } in
      subst (λ n. IsSoundLayer (take n (layer ∷ [])) l generation_of) (sym one.0) (subst (λ x. IsSoundLayer [] x generation_of) one.1 is);
  falling = falls;
}

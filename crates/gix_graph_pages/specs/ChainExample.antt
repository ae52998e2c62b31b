-- A worked chain of two files with a row each: the parent of the second is in the file below. A file of git's has the chunk OIDF as well,
-- by which the program searches, and of which the page says nothing.
use Rattle.std.specs.Prelude.{◌≡◌, ℕ, zero, suc, ◌+◌, ◌-◌, ◌*◌, ◌/◌, ◌<◌, ◌^◌, List, [], ◌∷◌, ◌++◌, length, take, drop, replicate, slice_get, codes, Option, Some, None, All, AllPairs, Contains, refl}
use Rattle.std.proofs.lemmas.Option.{none-some, same_Some}
use Rattle.std.proofs.Common.{sym, subst, ap, ◌∙◌, arith, inl, inr, ⊎_elim}
use Rattle.std.specs.declared.cmp.Ordering.TheVariants.{Less}
use Rattle.gix_statement.specs.WholeStatement.{Row, by_bytes}
use Rattle.gix_statement.specs.CommitGraph.{IsChunk, IsLayer, IsRow, bytes_at, number_at, none, single}
use Rattle.gix_graph_pages.specs.GraphPages.{AreSoundLayers, HaveFiles, HavePages, IsFileOf, IsSoundLayer, Layer, width_of}
use Rattle.gix_graph_pages.specs.PagesExamples.{falls, first_row, first_said, generation_of, second_row, second_said}
use Rattle.gix_hash.proofs.Ids.Membership.{Contains-cons_cases, no_member}

abbrev base_ids : List ℕ
base_ids = replicate 20 0x11

abbrev base_file : List ℕ
base_file = codes "CGPH" ++ (1 ∷ 1 ∷ 2 ∷ 0 ∷ [])
    ++ (codes "OIDL" ++ (0 ∷ 0 ∷ 0 ∷ 0 ∷ 0 ∷ 0 ∷ 0 ∷ 44 ∷ []))
    ++ (codes "CDAT" ++ (0 ∷ 0 ∷ 0 ∷ 0 ∷ 0 ∷ 0 ∷ 0 ∷ 64 ∷ []))
    ++ (0 ∷ 0 ∷ 0 ∷ 0 ∷ 0 ∷ 0 ∷ 0 ∷ 0 ∷ 0 ∷ 0 ∷ 0 ∷ 100 ∷ [])
    ++ base_ids ++ first_said

-- its last bytes stand for its hash
abbrev base_hash : List ℕ
base_hash = drop (length base_file - 20) base_file

abbrev top_ids : List ℕ
top_ids = replicate 20 0x22

abbrev top_file : List ℕ
top_file = codes "CGPH" ++ (1 ∷ 1 ∷ 3 ∷ 1 ∷ [])
    ++ (codes "BASE" ++ (0 ∷ 0 ∷ 0 ∷ 0 ∷ 0 ∷ 0 ∷ 0 ∷ 56 ∷ []))
    ++ (codes "OIDL" ++ (0 ∷ 0 ∷ 0 ∷ 0 ∷ 0 ∷ 0 ∷ 0 ∷ 76 ∷ []))
    ++ (codes "CDAT" ++ (0 ∷ 0 ∷ 0 ∷ 0 ∷ 0 ∷ 0 ∷ 0 ∷ 96 ∷ []))
    ++ (0 ∷ 0 ∷ 0 ∷ 0 ∷ 0 ∷ 0 ∷ 0 ∷ 0 ∷ 0 ∷ 0 ∷ 0 ∷ 132 ∷ [])
    ++ base_hash ++ top_ids ++ second_said

-- a chunk is no other one
other_letters : (a b : ℕ) (xs ys : List ℕ) → (a ≡ b → ⊥) → a ∷ xs ≡ b ∷ ys → ⊥
other_letters a b xs ys differ e = differ cc

base_first : (j : ℕ) → j < 1 → bytes_at (8 + 12 * j) 4 base_file ≡ codes "CDAT" → ⊥
base_first zero l e = other_letters 79 67 (codes "IDL") (codes "DAT") (λ s. omega (arith, s)) e
base_first (suc j) l e = omega (arith, l)

top_first : (letters : List ℕ) (j : ℕ) → j < 1 → bytes_at (8 + 12 * j) 4 top_file ≡ letters → codes "BASE" ≡ letters
top_first letters zero l e = e
top_first letters (suc j) l e = absurd (omega (arith, l))

top_before : (j : ℕ) → j < 2 → bytes_at (8 + 12 * j) 4 top_file ≡ codes "CDAT" → ⊥
top_before zero l e = other_letters 66 67 (codes "ASE") (codes "DAT") (λ s. omega (arith, s)) e
top_before (suc zero) l e = other_letters 79 67 (codes "IDL") (codes "DAT") (λ s. omega (arith, s)) e
top_before (suc (suc j)) l e = omega (arith, l)

base_data : IsChunk base_file (codes "CDAT") first_said
base_data = (1, omega arith, refl, base_first, refl)

top_data : IsChunk top_file (codes "CDAT") second_said
top_data = (2, omega arith, refl, top_before, refl)

base_row : (k : ℕ) (r : Row) → slice_get (first_row ∷ []) k ≡ Some r → IsRow 20 base_ids first_said [] (first_row ∷ []) k r
base_row zero r e =
    let is : IsRow 20 base_ids first_said [] (first_row ∷ []) 0 first_row = ([], refl, refl, refl, refl, none refl refl, refl, refl) in
    subst (IsRow 20 base_ids first_said [] (first_row ∷ []) 0) (same_Some first_row r e) is
base_row (suc k) r e = absurd (none-some r e)

top_row : (k : ℕ) (r : Row) → slice_get (second_row ∷ []) k ≡ Some r → IsRow 20 top_ids second_said [] (first_row ∷ second_row ∷ []) k r
top_row zero r e =
    let is : IsRow 20 top_ids second_said [] (first_row ∷ second_row ∷ []) 0 second_row = (0 ∷ [], refl, refl, refl, refl, single (λ n. omega (arith, n)) refl, refl, refl) in
    subst (IsRow 20 top_ids second_said [] (first_row ∷ second_row ∷ []) 0) (same_Some second_row r e) is
top_row (suc k) r e = absurd (none-some r e)

base_layer : IsLayer [] base_file [] (first_row ∷ [])
base_layer = (
  20,
  base_ids,
  first_said,
  [],
  refl,
  inl (refl, refl),
  refl,
  (λ k d l. absurd (omega (arith, l))),
  inl refl,
  (0, omega arith, refl, (λ j l. absurd (omega (arith, l))), refl),
  base_data,
  inr refl,
  refl,
  refl,
  base_row,
)

top_layer : IsLayer (base_file ∷ []) top_file (first_row ∷ []) (second_row ∷ [])
top_layer = (
  20,
  top_ids,
  second_said,
  [],
  refl,
  inl (refl, refl),
  refl,
  one_kind,
  inr (0, omega arith, refl, (λ j l. absurd (omega (arith, l))), refl),
  (1, omega arith, refl, (λ j l e. other_letters 66 79 (codes "ASE") (codes "IDL") (λ s. omega (arith, s)) (top_first (codes "OIDL") j l e)), refl),
  top_data,
  inr refl,
  refl,
  refl,
  top_row,
)
  where
    one_kind : All (λ other. number_at 5 1 other ≡ number_at 5 1 top_file) (base_file ∷ [])
    one_kind zero d l = refl
    one_kind (suc k) d l = absurd (omega (arith, l))

-- ---- both layers

-- bytes of this chunk are these, whose row says a generation
base_level : (bytes : List ℕ) (k : ℕ) (r : Row) → IsChunk base_file (codes "CDAT") bytes → slice_get (first_row ∷ []) k ≡ Some r
    → generation_of r.id ≡ number_at ((width_of base_file + 16) * k + (width_of base_file + 8)) 8 bytes / 2 ^ 34
base_level bytes (suc k) r chunk e = absurd (none-some r e)
base_level bytes zero r (zero, few, name, before, is) e = absurd (base_first 0 (omega arith) name)
base_level bytes zero r (suc (suc j), few, name, before, is) e = absurd (let small : suc (suc j) < 2 = few in omega (arith, small))
base_level bytes zero r (suc zero, few, name, before, is) e =
    let said : generation_of first_row.id ≡ number_at (36 * 0 + 28) 8 first_said / 2 ^ 34 = refl in
    subst (λ (s : Row). generation_of s.id ≡ number_at (36 * 0 + 28) 8 bytes / 2 ^ 34) (same_Some first_row r e)
    (said ∙ ap (λ x. number_at (36 * 0 + 28) 8 x / 2 ^ 34) (sym is))

top_level : (bytes : List ℕ) (k : ℕ) (r : Row) → IsChunk top_file (codes "CDAT") bytes → slice_get (second_row ∷ []) k ≡ Some r
    → generation_of r.id ≡ number_at ((width_of top_file + 16) * k + (width_of top_file + 8)) 8 bytes / 2 ^ 34
top_level bytes (suc k) r chunk e = absurd (none-some r e)
top_level bytes zero r (zero, few, name, before, is) e = absurd (top_before 0 (omega arith) name)
top_level bytes zero r (suc zero, few, name, before, is) e = absurd (top_before 1 (omega arith) name)
top_level bytes zero r (suc (suc (suc j)), few, name, before, is) e = absurd (let small : suc (suc (suc j)) < 3 = few in omega (arith, small))
top_level bytes zero r (suc (suc zero), few, name, before, is) e =
    let said : generation_of second_row.id ≡ number_at (36 * 0 + 28) 8 second_said / 2 ^ 34 = refl in
    subst (λ (s : Row). generation_of s.id ≡ number_at (36 * 0 + 28) 8 bytes / 2 ^ 34) (same_Some second_row r e)
    (said ∙ ap (λ x. number_at (36 * 0 + 28) 8 x / 2 ^ 34) (sym is))

alone : (row : Row) → AllPairs (λ (r s : Row). by_bytes r.id s.id ≡ Less) (row ∷ [])
alone row i j d l m = absurd (omega (arith, l, m))

abbrev pub base : Layer
base = record { file = base_file; rows = first_row ∷ [] }

abbrev pub top : Layer
top = record { file = top_file; rows = second_row ∷ [] }

-- the first page of each file was read, which has all of it
abbrev pub pages : List (List (Option (List ℕ)))
pages = (Some base_file ∷ []) ∷ (Some top_file ∷ []) ∷ []

pub whole_page : (file : List ℕ) (own : List (Option (List ℕ))) → bytes_at 0 (length file) file ≡ file → Some file ∷ [] ≡ own → HavePages file own
whole_page file own whole e zero bytes at =
    let same : file ≡ bytes = same_Some file bytes (same_Some (Some file) (Some bytes) (ap (λ those. slice_get those 0) e ∙ at)) in
    subst (λ x. bytes_at 0 (length x) file ≡ x) same whole
whole_page file own whole e (suc k) bytes at = absurd (none-some (Some bytes) (ap (λ those. slice_get those (suc k)) e ∙ at))

each : (k : ℕ) (layer : Layer) → slice_get (base ∷ top ∷ []) k ≡ Some layer → IsSoundLayer (take k (base ∷ top ∷ [])) layer generation_of
each zero layer e =
    let is : IsSoundLayer [] base generation_of = record { has = base_layer; rising = alone first_row; said = base_level } in
    subst (λ l. IsSoundLayer [] l generation_of) (same_Some base layer e) is
each (suc zero) layer e =
    let is : IsSoundLayer (base ∷ []) top generation_of = record { has = top_layer; rising = alone second_row; said = top_level } in
    subst (λ l. IsSoundLayer (base ∷ []) l generation_of) (same_Some top layer e) is
each (suc (suc k)) layer e = absurd (none-some layer e)

has_page : (k : ℕ) (layer : Layer) → slice_get (base ∷ top ∷ []) k ≡ Some layer → IsFileOf pages k layer.file
has_page zero layer e own at = subst (λ (l : Layer). HavePages l.file own) (same_Some base layer e) (whole_page base_file own refl (same_Some _ own at))
has_page (suc zero) layer e own at = subst (λ (l : Layer). HavePages l.file own) (same_Some top layer e) (whole_page top_file own refl (same_Some _ own at))
has_page (suc (suc k)) layer e own at = absurd (none-some layer e)

-- so there is a chain that has these pages
pub chain_read : HaveFiles pages (base ∷ top ∷ [])
chain_read = record { count = refl; has = has_page }

-- and whose rows are in order and sound
pub chain_sound : AreSoundLayers (base ∷ top ∷ []) generation_of
chain_sound = record { each = each; falling = falls }

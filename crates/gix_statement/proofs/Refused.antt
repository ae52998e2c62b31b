-- What the page refuses since it was attacked.
use Rattle.std.proofs.Common.{true, false, ◌≡◌, ◌⊎◌, ◌+◌, ◌*◌, ℕ, zero, suc, List, [], ◌∷◌, ◌++◌, replicate, codes, length, Some, None, Err, flat_map, refl, sym, ap, ◌∙◌, arith, inl, inr, ⊎_elim, mul-zero}
use Rattle.std.specs.Int.{w32, to_be_bytes}
use Rattle.gix_hash.specs.declared.ObjectId.{ObjectId}
use Rattle.gix_statement.proofs.HoleExamples.{Read, fed_nothing, served_nothing, a_history, none_there, none_chosen, none, no_time}
use Rattle.gix_statement.specs.WholeStatement.{Objects, Row, Promises, HasBegun, IsCutOff, lists, Lines, chosen, commit_line, written}
use Rattle.gix_statement.specs.CommitGraph.{AreLayers, IsChunk}
use Rattle.gix_statement.proofs.Tests.{other_head}

-- A RUN THAT FAILS over empty input has written nothing, or a beginning of a number 0 if its writer failed.
begun : (objects : Objects) (rows : List Row) → ((i : ObjectId) → objects i ≡ None) → rows ≡ [] → (words : List (List ℕ)) (out : List ℕ) → HasBegun objects rows none no_time (Some []) (Some out) words → out ≡ []
begun objects rows nothing no_rows words out (bytes, lists option more c ids named chooses some follows there texts begins allows ended may is_written, appends) =
    let line = commit_line objects none no_time c.line in
    appends ∙ is_written ∙ ap (λ form. written line form (chosen none no_time c ids)) (only_lines may) ∙ ap (λ is. flat_map line (chosen none no_time c is)) (none_there objects rows nothing no_rows ids there) ∙ ap (flat_map line) (none_chosen c.skip)
  where
    only_lines : (false ≡ true) ⊎ (c.form ≡ Lines) → c.form ≡ Lines
    only_lines (inl e) = cc
    only_lines (inr e) = e

front : (some more : List ℕ) → [] ≡ some ++ more → some ≡ []
front [] more e = refl
front (x ∷ some) more e = cc

-- it goes on to a number 0
abbrev IsOfZero : List ℕ → Type 0
IsOfZero out = (more : List ℕ) × (codes "0\n" ≡ out ++ more)

none_of_zero : (out : List ℕ) → out ≡ [] → IsOfZero out
none_of_zero out e = (codes "0\n", sym (ap (λ xs. xs ++ codes "0\n") e))

cut : (objects : Objects) (rows : List Row) → ((i : ObjectId) → objects i ≡ None) → rows ≡ [] → (words : List (List ℕ)) (out : List ℕ) → IsCutOff objects rows none no_time (Some []) (Some out) words → IsOfZero out
cut objects rows nothing no_rows words out (None, some, more, is, never, h) = absurd never
cut objects rows nothing no_rows words out (Some bytes, some, more, is, appends, h) =
    ⊎_elim (λ e. none_of_zero out (front out more (sym e ∙ appends))) (λ e. (more, sym e ∙ appends))
    (⊎_elim (served_nothing objects rows nothing no_rows words bytes) (λ b. inl (begun objects rows nothing no_rows words bytes b)) h)

nothing_is_begun : {E : Type 0} (writer_failed e : E) (words : List (List ℕ)) (out : List ℕ) → Promises writer_failed words (Read []) (Some []) (Err e) (Some out) → IsOfZero out
nothing_is_begun writer_failed e words out (inl same) = let is : out ≡ [] = cc in none_of_zero out is
nothing_is_begun writer_failed e words out (inr (objects, rows, (fed, no_rows), agree, right)) =
    let nothing = fed_nothing objects fed in
    ⊎_elim (λ b. none_of_zero out (begun objects rows nothing no_rows words out b)) (λ h. cut objects rows nothing no_rows words out h.1) (right none no_time (a_history objects rows nothing no_rows))

abbrev words : List ℕ → List ℕ
words ns = flat_map (to_be_bytes w32) ns

abbrev entry : List ℕ → ℕ → List ℕ
entry name at = name ++ words (0 ∷ at ∷ [])

-- THE UPPER LAYER of a chain has no rows without the lower one.
abbrev upper : List ℕ
upper = codes "CGPH" ++ (1 ∷ 1 ∷ 2 ∷ 1 ∷ []) ++ entry (codes "OIDL") 0x2c ++ entry (codes "CDAT") 0x40 ++ entry (replicate 4 0) 0x64 ++ replicate 20 0x22
    ++ replicate 20 0x4b ++ words (0 ∷ 0x70000000 ∷ 8 ∷ 1000000001 ∷ [])

upper_is_not_alone : (rows : List Row) → AreLayers [] (upper ∷ []) [] rows → ⊥
upper_is_not_alone rows (more, layer, is) = let one : 1 ≡ 0 = layer.6 in omega (arith, one)

-- A FILE that is cut off behind its ids has no rows at all.
abbrev cut_file : List ℕ
cut_file = codes "CGPH" ++ (1 ∷ 1 ∷ 2 ∷ 0 ∷ []) ++ entry (codes "OIDL") 0x2c ++ entry (codes "CDAT") 0x40 ++ entry (replicate 4 0) 0x64 ++ replicate 20 0x11

first_chunk : (ids : List ℕ) → IsChunk cut_file (codes "OIDL") ids → length ids ≡ 20
first_chunk ids (zero, few, letters, before, is) = ap length is
first_chunk ids (suc zero, few, letters, before, is) = absurd (other_head 67 79 _ _ refl letters)
first_chunk ids (suc (suc k), few, letters, before, is) = absurd (omega (arith, few))

second_chunk : (bytes : List ℕ) → IsChunk cut_file (codes "CDAT") bytes → length bytes ≡ 0
second_chunk bytes (zero, few, letters, before, is) = absurd (other_head 79 67 _ _ refl letters)
second_chunk bytes (suc zero, few, letters, before, is) = ap length is
second_chunk bytes (suc (suc k), few, letters, before, is) = absurd (omega (arith, few))

sizes : (width rows : ℕ) → ((◌≡◌ {A = ℕ} 1 1) × (width ≡ 20)) ⊎ ((◌≡◌ {A = ℕ} 1 2) × (width ≡ 32)) → 20 ≡ width * rows → 0 ≡ (width + 16) * rows → ⊥
sizes width zero k ids data_of = let none_there : 20 ≡ 0 = ids ∙ mul-zero width in omega (arith, none_there)
sizes width (suc rows) (inl k) ids data_of = let h : 0 ≡ 36 * suc rows = data_of ∙ ap (λ w. (w + 16) * suc rows) k.1 in omega (arith, h)
sizes width (suc rows) (inr k) ids data_of = omega (arith, k.0)

cut_file_has_no_rows : (rows : List Row) → AreLayers [] (cut_file ∷ []) [] rows → ⊥
cut_file_has_no_rows rows (more, layer, is) = sizes layer.0 (length more) layer.5 (sym (first_chunk layer.1 layer.9) ∙ layer.12) (sym (second_chunk layer.2 layer.10) ∙ layer.13)

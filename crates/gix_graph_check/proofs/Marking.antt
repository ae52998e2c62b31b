-- Marks that are set one after the other, and the heads that are read of them.
use Rattle.std.proofs.Common.{◌≡◌, ℕ, ◌+◌, ◌<◌, ◌≤◌, Bool, true, false, cond, ◌||◌, List, [], ◌∷◌, length, drop, get_or, Some, refl, sym, ap, ◌∙◌, arith, slice_get}
use Rattle.std.specs.List.{list_any}
use Rattle.std.proofs.lemmas.List.{drop_more, drop_all}
use Rattle.gix_hash.specs.declared.ObjectId.{ObjectId}
use Rattle.gix_commitgraph.specs.declared.ParentPlace.{ParentPlace}
use Rattle.gix_commitgraph.specs.declared.ParentPlace.TheVariants.{At, Fault}
use Rattle.gix_commitgraph.specs.Rows.{GraphRow, no_row, row_at}
use Rattle.gix_commitgraph.specs.Parents.{Answer, answers_of}
use Rattle.gix_graph_check.specs.Heads.{is_place_of, names, heads_from, heads_of}
use Rattle.gix_graph_check.specs.Marks.{names_answer, Marks, IsMarked}
use Rattle.gix_graph_check.proofs.SoundRows.{row_at-read}

or_assoc : (a b c : Bool) → ((a || b) || c) ≡ (a || (b || c))
or_assoc true b c = refl
or_assoc false b c = refl

or_false : (a : Bool) → (a || false) ≡ a
or_false true = refl
or_false false = refl

-- of the marks for `all`, those for `rest` are left to set
pub record IsMarking (all rest : ℕ → Bool) (old new : List Bool) : Type 0 where
  pub len : length new ≡ length old
  pub each : (n : ℕ) → n < length old → (get_or new n false || rest n) ≡ (get_or old n false || all n)

pub marking-start : (all rest : ℕ → Bool) (old : List Bool) → ((n : ℕ) → rest n ≡ all n) → IsMarking all rest old old
marking-start all rest old e = record { len = refl; each = λ n lt. ap (λ b. get_or old n false || b) (e n) }

pub marking-more : (all rest test more : ℕ → Bool) (old current new : List Bool) → ((n : ℕ) → rest n ≡ (test n || more n)) → Marks test current new → IsMarking all rest old current → IsMarking all more old new
marking-more all rest test more old current new e m h = record {
  len = m.len ∙ h.len;
  each = λ n lt.
      ap (λ b. b || more n) (m.each n (let same = h.len in omega arith)) ∙ or_assoc (get_or current n false) (test n) (more n)
      ∙ ap (λ b. get_or current n false || b) (sym (e n)) ∙ h.each n lt;
}

pub marking-end : (all rest : ℕ → Bool) (old new : List Bool) → ((n : ℕ) → rest n ≡ false) → IsMarking all rest old new → Marks all old new
marking-end all rest old new e h = record {
  len = h.len;
  each = λ n lt. sym (or_false (get_or new n false)) ∙ ap (λ b. get_or new n false || b) (sym (e n)) ∙ h.each n lt;
}

-- ---- the places of a row

abbrev pub left_answers : List Answer → ℕ → Bool
left_answers answers n = list_any (names_answer n) answers

any-answers : (n : ℕ) (places : List ParentPlace) → list_any (names_answer n) (answers_of places) ≡ list_any (is_place_of n) places
any-answers n [] = refl
any-answers n (At k ∷ places) = ap (λ b. is_place_of n (At k) || b) (any-answers n places)
any-answers n (Fault ∷ places) = any-answers n places

pub answers-start : (row : GraphRow) (answers : List Answer) → answers ≡ answers_of row.parents → (n : ℕ) → left_answers answers n ≡ names n row
answers-start row answers e n = ap (list_any (names_answer n)) e ∙ any-answers n row.parents

pub answers-more : (answers rest : List Answer) (answer : Answer) → answers ≡ answer ∷ rest → (n : ℕ) → left_answers answers n ≡ (names_answer n answer || left_answers rest n)
answers-more answers rest answer e n = ap (list_any (names_answer n)) e

pub answers-end : (answers : List Answer) → answers ≡ [] → (n : ℕ) → left_answers answers n ≡ false
answers-end answers e n = ap (list_any (names_answer n)) e

-- ---- the rows

abbrev pub left_rows : List GraphRow → ℕ → ℕ → Bool
left_rows rows number n = list_any (names n) (drop number rows)

pub rows-more : (rows : List GraphRow) (number : ℕ) (row : GraphRow) → number < length rows → slice_get rows number ≡ Some row → (n : ℕ) → left_rows rows number n ≡ (names n row || left_rows rows (number + 1) n)
rows-more rows number row lt e n =
    ap (list_any (names n)) (drop_more rows number no_row lt) ∙ ap (λ (r : GraphRow). names n r || left_rows rows (number + 1) n) (row_at-read rows number row e)

pub rows-end : (rows : List GraphRow) (number : ℕ) → length rows ≤ number → (n : ℕ) → left_rows rows number n ≡ false
rows-end rows number le n = ap (list_any (names n)) (drop_all number rows le)

-- ---- the heads

abbrev pub left_heads : List GraphRow → ℕ → List ObjectId
left_heads rows number = heads_from rows number (drop number rows)

pub heads-start : (rows : List GraphRow) → left_heads rows 0 ≡ heads_of rows
unfolding heads_of
heads-start rows = refl

pub heads-end : (rows : List GraphRow) (number : ℕ) → length rows ≤ number → left_heads rows number ≡ []
heads-end rows number le = ap (heads_from rows number) (drop_all number rows le)

module _ (rows : List GraphRow) (named : List Bool) (marked : IsMarked rows named) (number : ℕ) (lt : number < length rows) where
  this : (b : Bool) → get_or named number false ≡ b → left_heads rows number ≡ cond b (left_heads rows (number + 1)) ((row_at rows number).id ∷ left_heads rows (number + 1))
  this b e = ap (heads_from rows number) (drop_more rows number no_row lt)
      ∙ ap (λ b. cond b (left_heads rows (number + 1)) ((row_at rows number).id ∷ left_heads rows (number + 1))) (sym (marked.each number lt) ∙ e)

  pub heads-same : get_or named number false ≡ true → left_heads rows number ≡ left_heads rows (number + 1)
  heads-same e = this true e

  pub heads-more : (row : GraphRow) (i : ObjectId) → get_or named number false ≡ false → slice_get rows number ≡ Some row → i ≡ row.id → left_heads rows number ≡ i ∷ left_heads rows (number + 1)
  heads-more row i e there same = this false e ∙ ap (λ (x : ObjectId). x ∷ left_heads rows (number + 1)) (ap (λ (r : GraphRow). r.id) (row_at-read rows number row there) ∙ sym same)

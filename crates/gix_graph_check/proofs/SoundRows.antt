-- Whether the row of a number is sound, from the commit that was read there.
use Rattle.std.proofs.Common.{◌≡◌, ℕ, ◌<◌, ◌≤◌, Bool, true, false, nat_lt, List, length, Some, MatchBool, sym, ap, subst, arith, slice_get, le-ltb}
use Rattle.std.specs.List.{AllByRecursion}
use Rattle.std.proofs.lemmas.List.Elements.{All-from_get_or}
use Rattle.std.proofs.lemmas.Option.{get_or_from_slice_get}
use Rattle.gix_commitgraph.specs.Rows.{GraphRow, no_row, row_at}
use Rattle.gix_graph_check.specs.Sound.{IsSoundPlace, IsSound, AreSound}

pub row_at-read : (rows : List GraphRow) (number : ℕ) (row : GraphRow) → slice_get rows number ≡ Some row → row_at rows number ≡ row
row_at-read rows number row e = get_or_from_slice_get rows number row no_row e

module _ (rows : List GraphRow) (row : GraphRow) (generation : ℕ) (same : generation ≡ row.generation) where
  row-sound : generation < 4294967295 → (b : Bool) → MatchBool b (AllByRecursion (IsSoundPlace rows generation) row.parents) (¬ AllByRecursion (IsSoundPlace rows generation) row.parents)
      → MatchBool b (IsSound rows row) (¬ IsSound rows row)
  row-sound finite true h = record { finite = omega arith; parents = subst (λ g. AllByRecursion (IsSoundPlace rows g) row.parents) same h }
  row-sound finite false h = λ sound. h (subst (λ g. AllByRecursion (IsSoundPlace rows g) row.parents) (sym same) sound.parents)

  pub sound-by : (number : ℕ) → slice_get rows number ≡ Some row → generation < 4294967295 → (b : Bool)
      → MatchBool b (AllByRecursion (IsSoundPlace rows generation) row.parents) (¬ AllByRecursion (IsSoundPlace rows generation) row.parents)
      → MatchBool b (IsSound rows (row_at rows number)) (¬ IsSound rows (row_at rows number))
  sound-by number e finite b h = subst (λ r. MatchBool b (IsSound rows r) (¬ IsSound rows r)) (sym (row_at-read rows number row e)) (row-sound finite b h)

  pub not-sound-by : (number : ℕ) → slice_get rows number ≡ Some row → 4294967295 ≤ generation
      → MatchBool (nat_lt generation 4294967295) (IsSound rows (row_at rows number)) (¬ IsSound rows (row_at rows number))
  not-sound-by number e infinite =
      let no : ¬ IsSound rows (row_at rows number) = λ sound. (let at = ap (λ (r : GraphRow). r.generation) (row_at-read rows number row e) in let finite = sound.finite in omega arith) in
      rw (le-ltb generation 4294967295 infinite) no

pub all-sound : (rows : List GraphRow) (end : ℕ) → end ≡ length rows → ((n : ℕ) → n < end → IsSound rows (row_at rows n)) → AreSound rows
all-sound rows end e h = All-from_get_or (IsSound rows) rows no_row (λ n lt. h n (omega arith))

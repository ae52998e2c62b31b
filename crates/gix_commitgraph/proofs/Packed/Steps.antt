-- One row after the other is read.
use Rattle.std.proofs.Common.{◌≡◌, ℕ, ◌+◌, ◌-◌, ◌*◌, ◌/◌, true, false, List, [], ◌∷◌, length, drop, Option, Some, None, Result, Ok, Err, refl, sym, ap, ◌∙◌, arith, add-one, rules, ne_eqb, IsOk, drop-drop}
use Rattle.gix_commitgraph.proofs.Common.{Kind, ObjectId, Place, Layout, GraphRow, Places, words_of, read_packed, rows_in, row_len, id_field, first_field, second_field, parents_at, is_above, with_row, row_then, faults, IsLaidOut}
use Rattle.gix_commitgraph.proofs.Common.{rows_left}
use Rattle.gix_commitgraph.specs.declared.Place.TheVariants as place
use Rattle.gix_commitgraph.specs.PackedReading.{rows_at}
use Rattle.gix_commitgraph.proofs.Packed.Parents.{behind}

faults-with_row : (row : GraphRow) (read : Result (List GraphRow) Place) → faults (with_row row read) ≡ faults read
faults-with_row row (Ok rows) = refl
faults-with_row row (Err p) = refl

faults-row_then : (k : Kind) (r : ℕ) (bytes : List ℕ) (parents : Option Places) (more : List ℕ → Result (List GraphRow) Place) (rest : List ℕ)
    → behind parents ≡ Some rest → faults (row_then k r bytes parents more) ≡ faults (more rest)
faults-row_then k r bytes None more rest e = absurd cc
faults-row_then k r bytes (Some p) more rest e = let same : p.1 ≡ rest = cc in rw (faults-with_row _ (more p.1), same) refl

faults-row_broken : (k : Kind) (r : ℕ) (bytes : List ℕ) (parents : Option Places) (more : List ℕ → Result (List GraphRow) Place)
    → behind parents ≡ None → faults (row_then k r bytes parents more) ≡ Some (place.Parents r)
faults-row_broken k r bytes None more e = refl
faults-row_broken k r bytes (Some p) more e = absurd cc

module _ (k : Kind) (n m left r : ℕ) (before : Option ObjectId) (bytes words : List ℕ) where
  abbrev parents_here : Option Places
  parents_here = parents_at n (m - length words) (first_field k bytes) (second_field k bytes) words

  abbrev read_here : Result (List GraphRow) Place
  read_here = rows_at k n m (left + 1) r before bytes words

  pub order_fault : is_above before (id_field k bytes) ≡ false → faults read_here ≡ Some (place.Order r)
  unfolding rows_at
  order_fault e = rw (add-one, e) refl

  pub parents_fault : is_above before (id_field k bytes) ≡ true → behind parents_here ≡ None → faults read_here ≡ Some (place.Parents r)
  unfolding rows_at
  parents_fault e p = rw (add-one, e) (faults-row_broken k r bytes parents_here _ p)

  pub reads_on : (rest : List ℕ) → is_above before (id_field k bytes) ≡ true → behind parents_here ≡ Some rest
      → faults read_here ≡ faults (rows_at k n m left (r + 1) (Some (id_field k bytes)) (drop (row_len k) bytes) rest)
  unfolding rows_at
  reads_on rest e p = rw (add-one left, e) (faults-row_then k r bytes parents_here _ rest p)

pub length-words_of : (bytes : List ℕ) → length (words_of bytes) ≡ length bytes / 4
length-words_of [] = omega arith
length-words_of (a ∷ []) = omega arith
length-words_of (a ∷ b ∷ []) = omega arith
length-words_of (a ∷ b ∷ c ∷ []) = omega arith
length-words_of (a ∷ b ∷ c ∷ d ∷ bytes) = omega (arith, length-words_of bytes)

-- what the parent words and the overflow words that are left give, by the values that were read
pub behind-read : (k : Kind) (n m : ℕ) (bytes more : List ℕ) (next first second : ℕ) (left : Option (List ℕ))
    → next ≡ m - length more / 4 → first ≡ first_field k bytes → second ≡ second_field k bytes
    → left ≡ behind (parents_at n next first second (words_of more))
    → behind (parents_at n (m - length (words_of more)) (first_field k bytes) (second_field k bytes) (words_of more)) ≡ left
behind-read k n m bytes more next first second left a b c e = sym (e ∙ rw (a, b, c, length-words_of more) refl)

module _ (k : Kind) (n m left r : ℕ) (before : Option ObjectId) (bytes words : List ℕ) where
  -- no row is left
  pub ends_well : left ≡ 0 → length words ≡ 0 → faults (rows_at k n m left r before bytes words) ≡ None
  unfolding rows_at
  ends_well none e = rw (none, e) refl

  pub ends_late : left ≡ 0 → (length words ≡ 0 → ⊥) → faults (rows_at k n m left r before bytes words) ≡ Some place.Overflow
  unfolding rows_at
  ends_late none e = rw (none, ne_eqb (length words) 0 e) refl

pub no_fault : {A : Type 0} (read : Result A Place) → faults read ≡ None → IsOk read
no_fault (Ok x) e = refl
no_fault (Err p) e = absurd cc

pub one_fault : {A : Type 0} (read : Result A Place) (p : Place) → faults read ≡ Some p → read ≡ Err p
one_fault (Ok x) p e = absurd cc
one_fault (Err q) p e = let same : q ≡ p = cc in ap Err same

-- where bytes are laid out, what testing their rows finds is what reading them does
pub faults-laid_out : (bytes : List ℕ) (layout : Layout) (len : ℕ) → IsLaidOut bytes layout → len ≡ row_len layout.kind → faults (rows_left layout layout.rows 0 None (drop 12 bytes) (words_of (drop (len * layout.rows) (drop 12 bytes)))) ≡ faults (read_packed bytes)
faults-laid_out bytes layout len laid e = rw (e, drop-drop (row_len layout.kind * layout.rows) 12 bytes) (ap faults (sym laid.read))

pub ok_rows : (read : Result (List GraphRow) Place) → IsOk read → read ≡ Ok (rows_in read)
ok_rows (Ok rows) h = refl
ok_rows (Err p) h = absurd (search rules)

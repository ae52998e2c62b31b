-- What one more mark makes of an id.
use Rattle.std.proofs.Common.{◌≡◌, ◌==◌, ◌≤◌, ℕ, zero, suc, Bool, true, false, not, cond, is_some, Option, Some, refl, ap, arith}
use Rattle.std.proofs.lemmas.Nat.{and_or_self, and_or_apart, le_or_r}
use Rattle.std.specs.FinMap as map_of
use Rattle.std.specs.Int.Bits.{bit_and, bit_or}
use Rattle.gix_paint.specs.declared.Marks.{Marks}
use Rattle.gix_paint.specs.declared.Side.TheVariants as side
use Rattle.gix_paint.proofs.Common.{ObjectId, is_same, id_total, same_is, Side, AddsMark, AllMarks, bits_at, bits_of, hides, side_at, side_by}

-- what a side asks of an id before it meets it
abbrev pub knows : Side → Option Side → Bool
knows side.Visible o = is_some o
knows side.Hidden o = hides o

-- the mark that a side gives
abbrev pub bit_of : Side → ℕ
bit_of side.Visible = 1
bit_of side.Hidden = 2

-- whether a side knows an id, by its marks
pub shown_by : (bits : ℕ) → knows side.Visible (side_by bits) ≡ not (bits == 0)
shown_by zero = refl
shown_by (suc n) = grind arith

pub hidden_by : (bits : ℕ) → knows side.Hidden (side_by bits) ≡ (bit_and bits 2 == 2)
hidden_by zero = refl
hidden_by (suc n) = grind arith

-- an id that a side doesn't know is the side's with its mark
side_new : (on : Side) (bits : ℕ) → knows on (side_by bits) ≡ false → side_by (bit_or bits (bit_of on)) ≡ Some on
side_new side.Visible zero unknown = refl
side_new side.Visible (suc n) unknown = let some = shown_by (suc n) in let bad : true ≡ false = grind arith in cc
side_new side.Hidden bits unknown = let there = ap (λ n. n == 2) (and_or_self 2 bits) in grind arith

-- on one that it knows the mark changes nothing
side_again : (on : Side) (bits : ℕ) → knows on (side_by bits) ≡ true → side_by (bit_or bits (bit_of on)) ≡ side_by bits
side_again side.Visible zero known = let bad : false ≡ true = known in cc
side_again side.Visible (suc n) known =
    let hidden = ap (λ m. m == 2) (and_or_apart 2 (suc n) 1 refl) in
    let some : 1 ≤ bit_or (suc n) 1 = le_or_r (suc n) 1 in
    grind arith
side_again side.Hidden bits known = let there = ap (λ n. n == 2) (and_or_self 2 bits) in let was = hidden_by bits in grind arith

module _ (on : Side) (i : ObjectId) (old new : AllMarks) (adds : AddsMark (bit_of on) i old new) where
  pub marked_new : knows on (side_at old i) ≡ false → (j : ObjectId) → side_at new j ≡ cond (is_same j i) (Some on) (side_at old j)
  marked_new unknown j = let now = ap side_by (adds j) in let mine = side_new on (bits_at old i) unknown in grind arith

  pub marked_again : knows on (side_at old i) ≡ true → (j : ObjectId) → side_at new j ≡ side_at old j
  marked_again known j =
      let now = ap side_by (adds j) in
      let mine = side_again on (bits_at old i) known in
      let same : is_same j i ≡ true → side_at old j ≡ side_at old i = λ s. ap (side_at old) (same_is j i s) in
      grind arith

-- marks that are put in take the place of all others
pub put : (marks : AllMarks) (i : ObjectId) (those : Marks) (bits : ℕ) → those.0 ≡ bits → (j : ObjectId) → bits_at (map_of.insert marks i those) j ≡ cond (is_same j i) bits (bits_at marks j)
put marks i those bits same j = let now = ap bits_of (map_of.get-insert id_total marks i those j) in grind arith

pub put_again : (marks : AllMarks) (i : ObjectId) (first those : Marks) (bits : ℕ) → those.0 ≡ bits → (j : ObjectId) → bits_at (map_of.insert (map_of.insert marks i first) i those) j ≡ cond (is_same j i) bits (bits_at marks j)
put_again marks i first those bits same j = let now = put (map_of.insert marks i first) i those bits same j in let before = put marks i first first.0 refl j in grind arith

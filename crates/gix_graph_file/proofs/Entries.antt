-- Entries of a table of chunks, one after the other.
use Rattle.std.proofs.Common.{◌≡◌, ◌≢◌, ℕ, zero, suc, ◌+◌, ◌-◌, ◌<◌, ◌≤◌, true, false, cond, eqb, ltb, List, take, drop, Some, None, refl, arith, add-one, inl, inr, lt-ltb, le-ltb, eq-eqb, ne_eqb, ltb-false}
use Rattle.std.proofs.lemmas.Bool.Decides.{nat_tests}
use Rattle.gix_commitgraph.proofs.Packed.Takes.{chosen}
use Rattle.gix_graph_file.proofs.Common.{name_at, offset_at, is_last}
use Rattle.gix_graph_file.specs.FileTable.{is_table_from, chunk_from}

module _ (file : List ℕ) (end left entry lower : ℕ) where
  pub table-unnamed : name_at file entry ≡ 0 → is_table_from file end (left + 1) entry lower ≡ false
  unfolding is_table_from
  table-unnamed none = rw (add-one, eq-eqb (name_at file entry) 0 none) refl

  pub table-falls : name_at file entry ≢ 0 → offset_at file entry < lower → is_table_from file end (left + 1) entry lower ≡ false
  unfolding is_table_from
  table-falls named below = rw (add-one, ne_eqb (name_at file entry) 0 named, lt-ltb (offset_at file entry) lower below) refl

  pub table-more : name_at file entry ≢ 0 → lower ≤ offset_at file entry → is_table_from file end (left + 1) entry lower ≡ is_table_from file end left (entry + 1) (offset_at file entry)
  unfolding is_table_from
  table-more named above = rw (add-one, ne_eqb (name_at file entry) 0 named, le-ltb (offset_at file entry) lower above) refl

  pub table-ends : left ≡ 0 → is_table_from file end left entry lower ≡ is_last file end entry lower
  unfolding is_table_from
  table-ends none = rw none refl

  -- an entry before the last, of a table that is as it should be
  pub record IsEntry : Type 0 where
    pub above : lower ≤ offset_at file entry
    pub more : is_table_from file end left (entry + 1) (offset_at file entry) ≡ true

  pub entry_of : is_table_from file end (suc left) entry lower ≡ true → IsEntry
  unfolding is_table_from
  entry_of e =
      elim (chosen (eqb (name_at file entry) 0) false (cond (ltb (offset_at file entry) lower) false (is_table_from file end left (entry + 1) (offset_at file entry))) true e) [
        | inl h ↦ absurd cc
        | inr h ↦ elim (chosen (ltb (offset_at file entry) lower) false (is_table_from file end left (entry + 1) (offset_at file entry)) true h.1) [
          | inl f ↦ absurd cc
          | inr f ↦ record { above = ltb-false (offset_at file entry) lower f.0; more = f.1 }
        ]
      ]

last-within : (file : List ℕ) (end entry lower : ℕ) → is_last file end entry lower ≡ true → (lower ≤ offset_at file entry) × (offset_at file entry ≤ end)
last-within file end entry lower e = grind (arith, nat_tests)

pub table-within : (file : List ℕ) (end left entry lower : ℕ) → is_table_from file end left entry lower ≡ true → (lower ≤ offset_at file entry) × (offset_at file entry ≤ end)
unfolding is_table_from
table-within file end zero entry lower e = last-within file end entry lower e
table-within file end (suc left) entry lower e =
    let here = entry_of file end left entry lower e in
    let next = table-within file end left (entry + 1) (offset_at file entry) here.more in
    (here.above, omega (arith, next.0, next.1))

-- the entry that is looked at, where `left` more are before the last
pub record Bounds (file : List ℕ) (end entry : ℕ) : Type 0 where
  pub rises : offset_at file entry ≤ offset_at file (entry + 1)
  pub ends : offset_at file (entry + 1) ≤ end

pub entry-bounds : (file : List ℕ) (end left entry lower : ℕ) → 0 < left → is_table_from file end left entry lower ≡ true → Bounds file end entry
entry-bounds file end zero entry lower some e = absurd (omega arith)
entry-bounds file end (suc left) entry lower some e =
    let here = entry_of file end left entry lower e in
    let next = table-within file end left (entry + 1) (offset_at file entry) here.more in
    record { rises = next.0; ends = next.1 }

pub table-next : (file : List ℕ) (end left entry lower : ℕ) → is_table_from file end (left + 1) entry lower ≡ true → is_table_from file end left (entry + 1) (offset_at file entry) ≡ true
table-next file end left entry lower e = (entry_of file end left entry lower (rw add-one at e)).more

module _ (file : List ℕ) (name left entry : ℕ) where
  pub chunk-here : name_at file entry ≡ name → chunk_from file name (left + 1) entry ≡ Some (take (offset_at file (entry + 1) - offset_at file entry) (drop (offset_at file entry) file))
  unfolding chunk_from
  chunk-here e = rw (add-one, eq-eqb (name_at file entry) name e) refl

  pub chunk-more : name_at file entry ≢ name → chunk_from file name (left + 1) entry ≡ chunk_from file name left (entry + 1)
  unfolding chunk_from
  chunk-more e = rw (add-one, ne_eqb (name_at file entry) name e) refl

  pub chunk-none : left ≡ 0 → chunk_from file name left entry ≡ None
  unfolding chunk_from
  chunk-none none = rw none refl

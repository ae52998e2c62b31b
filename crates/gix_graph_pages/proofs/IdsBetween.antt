-- Where no row has an id.
use Rattle.std.proofs.Common.{◌≡◌, ◌≢◌, ◌⊎◌, ℕ, ◌-◌, ◌<◌, ◌≤◌, Bool, true, List, length, get_or, slice_get, Some, All, AllPairs, refl, sym, ap, ◌∙◌, arith, ⊎_elim, inl, inr, Less, Greater}
use Rattle.std.specs.Ordering.{is_lt}
use Rattle.std.proofs.lemmas.Option.{get_or_from_slice_get, slice_get_within}
use Rattle.gix_commitgraph.proofs.Packed.RowSearch.{is_Less, turned}
use Rattle.gix_hash.specs.Id.{id_cmp}
use Rattle.gix_hash.specs.declared.ObjectId.{ObjectId}
use Rattle.gix_hash.specs.declared.ObjectId.TheVariants.{Sha1, Sha256}
use Rattle.gix_statement.proofs.HaveHistory.{below}
use Rattle.gix_statement.specs.WholeStatement.{Row, by_bytes}

pub less_is : (i j : ObjectId) (b : Bool) → b ≡ is_lt (id_cmp i j) → b ≡ true → id_cmp i j ≡ Less
less_is i j b e t = is_Less (id_cmp i j) (sym e ∙ t)

same_order : (i j : ObjectId) → by_bytes i j ≡ id_cmp i j
same_order (Sha1 a) (Sha1 b) = refl
same_order (Sha1 a) (Sha256 b) = refl
same_order (Sha256 a) (Sha1 b) = refl
same_order (Sha256 a) (Sha256 b) = refl

not_both : (i j : ObjectId) → id_cmp i j ≡ Less → id_cmp j i ≡ Less → ⊥
not_both i j e f = let no : Less ≡ Greater = sym f ∙ turned i j Less e in cc

-- a row at a number, whose id this is
abbrev pub At : List Row → ℕ → ObjectId → Type 0
At rows n i = (r : Row) × (slice_get rows n ≡ Some r) × (r.id ≡ i)

module _ (rows : List Row) (rising : AllPairs (λ (r s : Row). by_bytes r.id s.id ≡ Less) rows) (i : ObjectId) (place : ℕ) where
  read : (n : ℕ) (j : ObjectId) (d : Row) → At rows n j → (get_or rows n d).id ≡ j
  read n j d (r, there, is) = ap (λ (s : Row). s.id) (get_or_from_slice_get rows n r d there) ∙ is

  rises : (k n : ℕ) (d : Row) → k < n → n < length rows → id_cmp (get_or rows k d).id (get_or rows n d).id ≡ Less
  rises k n d l within = sym (same_order (get_or rows k d).id (get_or rows n d).id) ∙ rising k n d l within

  none_below : (j : ObjectId) → 0 < place → At rows (place - 1) j → id_cmp j i ≡ Less → (k : ℕ) (d : Row) → k < place → (get_or rows k d).id ≢ i
  none_below j some there less k d l e = ⊎_elim
      (λ m. not_both i j ((λ x. id_cmp (sym e x) (sym (read (place - 1) j d there) x)) ∙ rises k (place - 1) d m (slice_get_within rows (place - 1) there.0 there.1)) less)
      (λ m. let same : k ≡ place - 1 = omega (arith, l, m) in
      let is : i ≡ j = sym e ∙ ap (λ n. (get_or rows n d).id) same ∙ read (place - 1) j d there in
      let so : id_cmp i i ≡ Less = ap (λ x. id_cmp x i) is ∙ less in
      not_both i i so so)
      (below k (place - 1))

  none_behind : (j : ObjectId) → At rows place j → id_cmp i j ≡ Less → (k : ℕ) (d : Row) → place ≤ k → k < length rows → (get_or rows k d).id ≢ i
  none_behind j there less k d l within e = ⊎_elim
      (λ m. not_both i j less ((λ x. id_cmp (sym (read place j d there) x) (sym e x)) ∙ rises place k d m within))
      (λ m. let same : k ≡ place = omega (arith, l, m) in
      let is : i ≡ j = sym e ∙ ap (λ n. (get_or rows n d).id) same ∙ read place j d there in
      let so : id_cmp i i ≡ Less = ap (λ x. id_cmp i x) is ∙ less in
      not_both i i so so)
      (below place k)

  -- what is known of the rows before a place, and of those behind it
  abbrev pub Front : Type 0
  Front = (place ≡ 0) ⊎ ((j : ObjectId) × (0 < place) × At rows (place - 1) j × (id_cmp j i ≡ Less))

  abbrev pub Back : Type 0
  Back = (length rows ≤ place) ⊎ ((j : ObjectId) × At rows place j × (id_cmp i j ≡ Less))

  front_none : Front → (k : ℕ) (d : Row) → k < place → (get_or rows k d).id ≢ i
  front_none (inl e) k d l same = omega (arith, e, l)
  front_none (inr (j, some, there, less)) k d l same = none_below j some there less k d l same

  back_none : Back → (k : ℕ) (d : Row) → place ≤ k → k < length rows → (get_or rows k d).id ≢ i
  back_none (inl e) k d l within same = omega (arith, e, l, within)
  back_none (inr (j, there, less)) k d l within same = none_behind j there less k d l within same

  pub none_there : Front → Back → All (λ (r : Row). r.id ≢ i) rows
  none_there front back k d within = ⊎_elim (λ l. front_none front k d l) (λ l. back_none back k d l within) (below k place)

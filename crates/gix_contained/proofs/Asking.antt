-- The ids that are asked about: how they are looked up, and which is the lowest.
use Rattle.std.proofs.Common.{◌≡◌, ◌≢◌, ◌⊎◌, ◌≤◌, ℕ, suc, Bool, List, [], ◌∷◌, ◌++◌, length, slice_get, true, false, Option, Some, None, Contains, IfSome, IsPermutation, IsSome, sym, subst, inl, inr, ⊎_elim, ◌∙◌, is_lt, nat_cmp, arith}
use Rattle.std.specs.FinSet as set
use Rattle.std.specs.BinaryHeap.{IsUpperBound}
use Rattle.std.specs.declared.cmp.Reverse.{Reverse}
use Rattle.std.proofs.Math.Path.{transport}
use Rattle.std.proofs.lemmas.Bool.{false≢true}
use Rattle.std.proofs.lemmas.Bool.Decides.{nat_tests}
use Rattle.std.proofs.lemmas.List.Elements.{Contains-append_cases, Contains-append_left, Contains-append_right}
use Rattle.std.proofs.lemmas.List.Sorted.{Contains-permutation, IsPermutation-sym, length_permutation}
use Rattle.gix_hash.specs.declared.ObjectId.{ObjectId}
use Rattle.gix_hash.specs.Id.{id_cmp}
use Rattle.gix_hash.proofs.Ids.Membership.{Contains-cons_cases, Contains-here, Contains-there, no_member}
use Rattle.gix_hash.proofs.Lists.{only_member}
use Rattle.gix_object.specs.Object.{Objects}
use Rattle.gix_commitgraph.specs.Rows.{GraphRow, row_of}
use Rattle.gix_contained.specs.Inside.Search.{AskFails, AreLookedUp, AskedId, Knows, Queued}
use Rattle.gix_paint.specs.Reading.{IsRowless}
use Rattle.gix_object.specs.declared.find.existing_iter.Error.TheVariants as existing
use Rattle.gix_paint.specs.declared.Hidden.{Hidden}
use Rattle.gix_paint.specs.declared.Hidden.TheVariants as hidden_by
use Rattle.gix_revwalk.specs.Infos.{generation_in}
use Rattle.gix_paint.specs.Painting.{IsFaultAt}
use Rattle.gix_revwalk.specs.Commits.{commit_at}
use Rattle.gix_revwalk.specs.PriorityQueue.{keys}

pub first_member : {X : Type 0} (xs : List X) (x : X) → slice_get xs 0 ≡ Some x → Contains xs x
first_member [] x e = cc
first_member (y ∷ xs) x e = let same : y ≡ x = cc in subst (λ z. Contains (z ∷ xs) x) (sym same) (Contains-here x xs)

-- the order of generations, the least first
abbrev pub falling : Reverse ℕ → Reverse ℕ → Rattle.std.specs.declared.cmp.Ordering.Ordering
falling x y = nat_cmp y.0 x.0

not_above : (a b : ℕ) → is_lt (nat_cmp b a) ≡ false → a ≤ b
not_above a b e = grind (arith, nat_tests)

pub lowest_first : (top : Reverse ℕ) (qs : List AskedId) → IsUpperBound falling top (keys qs) → (q : AskedId) → Contains qs q → top.0 ≤ q.0.0
lowest_first top [] h q c = absurd (no_member q c)
lowest_first top (p ∷ qs) h q c = ⊎_elim (λ e. subst (λ x. top.0 ≤ x.0.0) e (not_above top.0 p.0.0 h.0)) (λ t. lowest_first top qs h.1 q t) (Contains-cons_cases q p qs c)

-- the first is taken out
module _ (qs new : List AskedId) (q : AskedId) {result : Option AskedId} (is : result ≡ Some q) (rest : IfSome result (λ p. IsPermutation qs (p ∷ new))) where
  taken : IsPermutation qs (q ∷ new)
  taken = subst (λ r. IfSome r (λ p. IsPermutation qs (p ∷ new))) is rest

  pub taken_less : suc (length new) ≤ length qs
  taken_less = let same : suc (length new) ≡ length qs = length_permutation _ _ taken in omega arith

  pub taken_left : (met : set.FinSet id_cmp) → set.contains met q.1 ≡ true → (p : AskedId) → Contains qs p → (set.contains met p.1 ≡ true) ⊎ Contains new p
  taken_left met e p c = ⊎_elim (λ s. inl (subst (λ x. set.contains met x.1 ≡ true) s e)) (λ t. inr t) (Contains-cons_cases p q new (Contains-permutation _ _ p taken c))

  pub taken_within : (p : AskedId) → Contains new p → Contains qs p
  taken_within p c = Contains-permutation _ _ p (IsPermutation-sym _ _ taken) (Contains-there p q new c)

module _ (objects : Objects) (rows : List GraphRow) where
  -- one more id is looked up
  pub looked_up : (ids later : List ObjectId) (i : ObjectId) (n : ℕ) (qs new : List AskedId) → later ≡ ids ++ i ∷ [] → AreLookedUp objects rows ids qs → (q : Queued) → Knows objects rows true i q → n ≡ q.0.generation
      → IsPermutation ((record { 0 = n }, i) ∷ qs) new → AreLookedUp objects rows later new
  looked_up ids later i n qs new is h known found same queue = subst (λ xs. AreLookedUp objects rows xs new) (sym is) (record {
    are_asked = record {
      covers = λ j c. ⊎_elim
          (λ m. let w = h.are_asked.covers j m in (w.0, Contains-permutation _ _ w.0 queue (Contains-there w.0 (record { 0 = n }, i) qs w.1), w.2))
          (λ m. ((record { 0 = n }, i), Contains-permutation _ _ (record { 0 = n }, i) queue (Contains-here (record { 0 = n }, i) qs), only_member i j m))
          (Contains-append_cases ids (i ∷ []) j c);
      keyed = λ q c. ⊎_elim
          (λ e. subst (λ x. Contains (ids ++ i ∷ []) x.1 × (x.0.0 ≡ generation_in (row_of rows x.1))) e (Contains-append_right ids (i ∷ []) i (Contains-here i []), same ∙ found.generation))
          (λ m. let k = h.are_asked.keyed q m in (Contains-append_left ids (i ∷ []) q.1 k.0, k.1))
          (Contains-cons_cases q (record { 0 = n }, i) qs (Contains-permutation _ _ q (IsPermutation-sym _ _ queue) c));
    };
    read = λ j c e. ⊎_elim (λ m. h.read j m e)
        (λ m. subst (λ k. IsSome (commit_at objects k)) (only_member i j m) (found.read (subst (λ k. row_of rows k ≡ None) (sym (only_member i j m)) e)))
        (Contains-append_cases ids (i ∷ []) j c);
  })

-- what was looked up by the same store and graph, while rows are in use
module _ {F : Type 0} (objects : F → Objects) (faulty : F → ObjectId → Type 0) {a b : F} {g h : List GraphRow} {in_use : Bool} (same : a ≡ b) (graph : g ≡ h) (used : in_use ≡ true) where
  pub fails_among : (ids : List ObjectId) (i : ObjectId) (why : Hidden) → Contains ids i → (why ≢ hidden_by.Find existing.Memory → IsRowless g in_use i × IsFaultAt (objects a) (faulty a) i why)
      → AskFails (objects b) (faulty b) h ids why
  fails_among ids i why m f n =
      let k = f n in
      (i, m, ⊎_elim (λ r. transport (λ j. row_of (graph j) i ≡ None) r) (λ u. absurd (false≢true (sym u ∙ used))) k.0, transport (λ j. IsFaultAt (objects (same j)) (faulty (same j)) i why) k.1)

  pub known_there : (i : ObjectId) (q : Queued) → Knows (objects a) g in_use i q → Knows (objects b) h true i q
  known_there i q l = transport (λ j. Knows (objects (same j)) (graph j) (used j) i q) l

-- What a store in memory holds after the bytes of an object were put behind the bytes in its buffer.
use Rattle.std.proofs.Common.{IfSome, option_map, is_some, is_lt, ◌≡◌, ℕ, ◌+◌, ◌-◌, ◌≤◌, Bool, true, false, cond, ◌&&◌, T, List, [], ◌∷◌, ◌++◌, map, length, take, drop, Option, Some, None, refl, sym, ap, ap₂, subst, ◌∙◌, arith, length-append}
use Rattle.std.proofs.Common.{length-drop, take_all}
use Rattle.std.specs.Ordering.{eq_by_cmp}
use Rattle.std.specs.FinMap as map
use Rattle.std.specs.FinMap.{FinMap}
use Rattle.std.specs.FinMap.Entries.{below_all}
use Rattle.std.proofs.lemmas.List.{length-map, take-append-le, drop-append-le}
use Rattle.std.proofs.Math.Seq.{drop-append_seam}
use Rattle.gix_hash.specs.declared.ObjectId.{ObjectId}
use Rattle.gix_object.specs.declared.Kind.{Kind}
use Rattle.gix_object.specs.declared.memory.Stored.{Stored}
use Rattle.gix_hash.specs.Id.{id_cmp}
use Rattle.gix_object.specs.Object.{Object}
use Rattle.gix_object.specs.MemoryStore.{object_at, objects_at, AreWithin}
use Rattle.gix_hash.proofs.Ids.Membership.{id_total, id_apart}

-- entries of which the values alone were changed
module _ (f : Stored → Object) where
  abbrev changed : List (ObjectId × Stored) → List (ObjectId × Object)
  changed es = map (λ e. (e.0, f e.1)) es

  changed_below : (x : ObjectId) (es : List (ObjectId × Stored)) → below_all id_cmp x (changed es) ≡ below_all id_cmp x es
  changed_below x [] = refl
  changed_below x (e ∷ es) = ap (λ b. is_lt (id_cmp x e.0) && b) (changed_below x es)

  changed_sorted : (es : List (ObjectId × Stored)) → map.is_sorted id_cmp (changed es) ≡ map.is_sorted id_cmp es
  changed_sorted [] = refl
  changed_sorted (e ∷ es) = ap₂ (λ a b. a && b) (changed_below e.0 es) (changed_sorted es)

  changed_find : (q : ObjectId) (es : List (ObjectId × Stored)) → map.find id_cmp q (changed es) ≡ option_map f (map.find id_cmp q es)
  changed_find q [] = refl
  changed_find q (e ∷ es) = elim (eq_by_cmp id_cmp q e.0) as (λ b. cond b (Some (f e.1)) (map.find id_cmp q (changed es)) ≡ option_map f (cond b (Some e.1) (map.find id_cmp q es))) [
    | true ↦ refl
    | false ↦ changed_find q es
  ]

module _ (buffer : List ℕ) (places : FinMap id_cmp Stored) where
  sorted : T (map.is_sorted id_cmp (changed (object_at buffer) (map.entries places)))
  sorted = subst T (sym (changed_sorted (object_at buffer) (map.entries places))) (map.entries_sorted places)

  pub get_stored : (i : ObjectId) → map.get (objects_at buffer places) i ≡ option_map (object_at buffer) (map.get places i)
  get_stored i =
      map.get-from_sorted id_cmp _ i sorted ∙ changed_find (object_at buffer) i (map.entries places)
      ∙ ap (option_map (object_at buffer)) (sym (map.get-entries places i))

  pub len_stored : map.len (objects_at buffer places) ≡ map.len places
  len_stored = map.len-entries (objects_at buffer places) ∙ ap length (map.entries-from_sorted id_cmp _ sorted) ∙ length-map _ _ ∙ sym (map.len-entries places)

pub mapped : {A B : Type 0} (f : A → B) (o : Option A) → is_some o ≡ is_some (option_map f o)
mapped f None = refl
mapped f (Some x) = refl

-- an id has an object exactly where it has a place
pub has_place : (buffer : List ℕ) (places : FinMap id_cmp Stored) (i : ObjectId) → is_some (map.get places i) ≡ is_some (map.get (objects_at buffer places) i)
has_place buffer places i = mapped (object_at buffer) (map.get places i) ∙ sym (ap is_some (get_stored buffer places i))

-- an object is put in at a place of the buffer
pub object_put : (buffer : List ℕ) (places : FinMap id_cmp Stored) (i : ObjectId) (s : Stored) → objects_at buffer (map.insert places i s) ≡ map.insert (objects_at buffer places) i (object_at buffer s)
object_put buffer places i s = map.same_map id_total id_apart _ _ (λ q.
    get_stored buffer _ q ∙ ap (option_map (object_at buffer)) (map.get-insert id_total places i s q)
    ∙ at_key q (eq_by_cmp id_cmp q i) ∙ sym (map.get-insert id_total (objects_at buffer places) i _ q))
  where
    at_key : (q : ObjectId) (b : Bool) → option_map (object_at buffer) (cond b (Some s) (map.get places q)) ≡ cond b (Some (object_at buffer s)) (map.get (objects_at buffer places) q)
    at_key q true = refl
    at_key q false = sym (get_stored buffer places q)

pub within_put : (places : FinMap id_cmp Stored) (count : ℕ) → AreWithin places count → (i : ObjectId) (s : Stored) → s.start ≤ s.end → s.end ≤ count → AreWithin (map.insert places i s) count
within_put places count within i s low high q = subst (λ o. IfSome o (λ s. (s.start ≤ s.end) × (s.end ≤ count))) (sym (map.get-insert id_total places i s q)) (at_key (eq_by_cmp id_cmp q i))
  where
    at_key : (b : Bool) → IfSome (cond b (Some s) (map.get places q)) (λ s. (s.start ≤ s.end) × (s.end ≤ count))
    at_key true = (low, high)
    at_key false = within q

module _ (buffer more : List ℕ) (places : FinMap id_cmp Stored) (within : AreWithin places (length buffer)) where
  same_object : (o : Option Stored) → IfSome o (λ s. (s.start ≤ s.end) × (s.end ≤ length buffer)) → option_map (object_at (buffer ++ more)) o ≡ option_map (object_at buffer) o
  same_object None h = refl
  same_object (Some s) h =
      let rises : s.start ≤ s.end = h.0 in
      let ends : s.end ≤ length buffer = h.1 in
      let rest = drop-append-le s.start buffer more (omega arith) in
      let part = take-append-le (s.end - s.start) (drop s.start buffer) more (omega (arith, length-drop s.start buffer)) in
      ap (λ bytes. Some (record { kind = s.kind; bytes = bytes })) (ap (take (s.end - s.start)) rest ∙ part)

  -- bytes behind the bytes of all objects change no object
  pub objects_kept : objects_at (buffer ++ more) places ≡ objects_at buffer places
  objects_kept = map.same_map id_total id_apart _ _ (λ q. get_stored (buffer ++ more) places q ∙ same_object (map.get places q) (within q) ∙ sym (get_stored buffer places q))

  abbrev behind : Kind → Stored
  behind kind = record { kind = kind; start = length buffer; end = length buffer + length more }

  -- an object whose bytes are put behind them
  pub object_stored : (i : ObjectId) (kind : Kind) → objects_at (buffer ++ more) (map.insert places i (behind kind)) ≡ map.insert (objects_at buffer places) i (record { kind = kind; bytes = more })
  object_stored i kind =
      let count : length buffer + length more - length buffer ≡ length more = omega arith in
      let part = ap (λ n. take n (drop (length buffer) (buffer ++ more))) count ∙ ap (take (length more)) (drop-append_seam buffer more) ∙ take_all (length more) more (omega arith) in
      object_put (buffer ++ more) places i (behind kind)
      ∙ ap₂ (λ objects bytes. map.insert objects i (record { kind = kind; bytes = bytes })) objects_kept part

  pub within_stored : (i : ObjectId) (kind : Kind) → AreWithin (map.insert places i (behind kind)) (length (buffer ++ more))
  within_stored i kind =
      let long = length-append buffer more in
      within_put places _ (λ q. longer (map.get places q) (within q)) i (behind kind) (omega arith) (omega (arith, long))
    where
      longer : (o : Option Stored) → IfSome o (λ s. (s.start ≤ s.end) × (s.end ≤ length buffer)) → IfSome o (λ s. (s.start ≤ s.end) × (s.end ≤ length (buffer ++ more)))
      longer None h = h
      longer (Some s) h = let low = h.0 in let high = h.1 in (low, omega (arith, high, length-append buffer more))

-- a store without objects
pub within_empty : (count : ℕ) → AreWithin map.empty count
within_empty count q = subst (λ o. IfSome o (λ s. (s.start ≤ s.end) × (s.end ≤ count))) (sym (map.get-empty id_cmp q)) tt

pub empty_stored : (buffer : List ℕ) → objects_at buffer map.empty ≡ map.empty
empty_stored buffer = map.empty_of_len _ (len_stored buffer map.empty ∙ map.len-empty id_cmp Stored)

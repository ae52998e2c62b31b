-- Ids that are counted.
use Rattle.std.proofs.Common.{◌≡◌, ◌≤◌, ◌<◌, ◌+◌, ℕ, zero, suc, take, List, [], ◌∷◌, length, filter, Bool, true, false, cond, is_some, Option, Some, None, Contains, ⊎_elim, refl, sym, ap, ◌∙◌, subst, arith}
use Rattle.std.specs.FinMap as map_of
use Rattle.std.specs.FinSet as set
use Rattle.std.proofs.lemmas.Bool.{false≢true, false_from_ne_true}
use Rattle.gix_hash.specs.declared.ObjectId.{ObjectId}
use Rattle.gix_hash.specs.Id.{id_cmp, is_among}
use Rattle.gix_hash.specs.Tables.{ids_with_value}
use Rattle.gix_hash.proofs.Ids.Membership.{among_from, among_is, Contains-here, Contains-there, Contains-cons_cases, id_apart, id_total, no_member}
use Rattle.gix_hash.proofs.Ids.Sets.{counted, has}
use Rattle.gix_hash.proofs.Lists.{filter_within}
use Rattle.gix_ahead.specs.declared.search.Reached.{Reached}
use Rattle.gix_ahead.specs.Inside.Search.{ReachedMap, Side, is_in, is_reached, Tallies, One, Other, is_alone}
use Rattle.gix_revwalk.specs.Ids.{AreDistinct}

same_test : (a b : Bool) → (a ≡ true → b ≡ true) → (b ≡ true → a ≡ true) → a ≡ b
same_test true b f g = sym (f refl)
same_test false true f g = g refl
same_test false false f g = refl

abbrev set_of : List ObjectId → set.FinSet id_cmp
set_of ids = set.from_list ids

-- a list has at least as many ids as there are different ones
at_most : (ids : List ObjectId) → set.len (set_of ids) ≤ length ids
at_most [] = let e : set.len (set_of []) ≡ 0 = set.len-empty id_cmp in omega arith
at_most (i ∷ ids) = go (at_most ids) (set.contains (set_of ids) i) (set.len-insert id_total (set_of ids) i)
  where
    go : set.len (set_of ids) ≤ length ids → (b : Bool) → set.len (set_of (i ∷ ids)) ≡ cond b (set.len (set_of ids)) (set.len (set_of ids) + 1) → set.len (set_of (i ∷ ids)) ≤ suc (length ids)
    go h true e = omega arith
    go h false e = omega arith

-- where it has as many, each comes once
pub each_once : (ids : List ObjectId) → length ids ≡ set.len (set_of ids) → AreDistinct ids
each_once [] e = tt
each_once (i ∷ ids) e = go (each_once ids) (set.contains (set_of ids) i) refl (set.len-insert id_total (set_of ids) i)
  where
    go : (length ids ≡ set.len (set_of ids) → AreDistinct ids) → (b : Bool) → set.contains (set_of ids) i ≡ b → set.len (set_of (i ∷ ids)) ≡ cond b (set.len (set_of ids)) (set.len (set_of ids) + 1) → AreDistinct (i ∷ ids)
    go rest true k n = let h : set.len (set_of ids) ≤ length ids = at_most ids in absurd (omega (arith, e, n))
    go rest false k n = (λ c. false≢true (sym k ∙ set.contains-from_list id_total ids i ∙ among_from i ids c), rest (omega (arith, e, n)))

-- and the other way round
as_many : (ids : List ObjectId) → AreDistinct ids → length ids ≡ set.len (set_of ids)
as_many [] d = sym (set.len-empty id_cmp)
as_many (i ∷ ids) d =
    let other : set.contains (set_of ids) i ≡ false = false_from_ne_true _ (λ e. d.0 (among_is i ids (sym (set.contains-from_list id_total ids i) ∙ e))) in
    let e : set.len (set_of (i ∷ ids)) ≡ set.len (set_of ids) + 1 = set.len-insert id_total (set_of ids) i ∙ ap (λ b. cond b (set.len (set_of ids)) (set.len (set_of ids) + 1)) other in
    let h : length ids ≡ set.len (set_of ids) = as_many ids d.1 in
    omega arith

-- lists of the same ids, each once, have as many
pub same_number : (ids others : List ObjectId) → AreDistinct ids → AreDistinct others → ((i : ObjectId) → Contains ids i → Contains others i) → ((i : ObjectId) → Contains others i → Contains ids i) → length ids ≡ length others
same_number ids others d k there back = as_many ids d ∙ ap set.len (set.same_set id_total id_apart _ _ same) ∙ sym (as_many others k)
  where
    same : (i : ObjectId) → set.contains (set_of ids) i ≡ set.contains (set_of others) i
    same i = set.contains-from_list id_total ids i ∙ same_test _ _ (λ e. among_from i others (there i (among_is i ids e))) (λ e. among_from i ids (back i (among_is i others e))) ∙ sym (set.contains-from_list id_total others i)

-- all ids that have a value, and as many as there are
module _ (marks : ReachedMap) (ids : List ObjectId) (all : (i : ObjectId) → is_among i ids ≡ is_some (map_of.get marks i)) (number : length ids ≡ map_of.len marks) where
  same_set : set_of ids ≡ ids_with_value marks
  same_set = set.same_set id_total id_apart _ _ (λ i. set.contains-from_list id_total ids i ∙ all i ∙ sym (has marks i))

  marked_among : (side : Side) (i : ObjectId) → is_reached marks side i ≡ true → Contains ids i
  marked_among side i e = among_is i ids (all i ∙ go (map_of.get marks i) e)
    where
      go : (o : Option Reached) → is_in side o ≡ true → is_some o ≡ true
      go None e = absurd (false≢true e)
      go (Some r) e = refl

  pub tallied : (ahead behind : ℕ) → ahead ≡ length (filter (is_alone marks One Other) ids) → behind ≡ length (filter (is_alone marks Other One) ids) → Tallies marks ahead behind
  tallied ahead behind a b = record {
    ids = ids;
    once = each_once ids (number ∙ counted marks ∙ ap set.len (sym same_set));
    all = marked_among;
    ahead_is = a;
    behind_is = b;
  }

-- what a test keeps comes once too
pub kept_once : (p : ObjectId → Bool) (ids : List ObjectId) → AreDistinct ids → AreDistinct (filter p ids)
kept_once p [] d = tt
kept_once p (i ∷ ids) d = go (kept_once p ids d.1) (p i)
  where
    go : AreDistinct (filter p ids) → (b : Bool) → AreDistinct (cond b (i ∷ filter p ids) (filter p ids))
    go rest true = (λ c. d.0 (filter_within p ids i c), rest)
    go rest false = rest

-- what is kept passes, and what passes is kept
pub passes : (p : ObjectId → Bool) (ids : List ObjectId) (i : ObjectId) → Contains (filter p ids) i → p i ≡ true
passes p [] i c = absurd (no_member i c)
passes p (j ∷ ids) i c = go (passes p ids i) (p j) refl c
  where
    go : (Contains (filter p ids) i → p i ≡ true) → (b : Bool) → p j ≡ b → Contains (cond b (j ∷ filter p ids) (filter p ids)) i → p i ≡ true
    go rest true e c = ⊎_elim (λ s. ap p (sym s) ∙ e) rest (Contains-cons_cases i j (filter p ids) c)
    go rest false e c = rest c

pub keeps : (p : ObjectId → Bool) (ids : List ObjectId) (i : ObjectId) → Contains ids i → p i ≡ true → Contains (filter p ids) i
keeps p [] i c e = absurd (no_member i c)
keeps p (j ∷ ids) i c e = go (λ t. keeps p ids i t e) (p j) refl
  where
    go : (Contains ids i → Contains (filter p ids) i) → (b : Bool) → p j ≡ b → Contains (cond b (j ∷ filter p ids) (filter p ids)) i
    go rest true k = ⊎_elim (λ s. subst (λ x. Contains (j ∷ filter p ids) x) s (Contains-here j (filter p ids))) (λ t. Contains-there i j (filter p ids) (rest t)) (Contains-cons_cases i j ids c)
    go rest false k = ⊎_elim (λ s. absurd (false≢true (sym k ∙ ap p s ∙ e))) rest (Contains-cons_cases i j ids c)

-- of the first ids fewer are kept than there are
pub kept_fewer : {X : Type 0} (p : X → Bool) (xs : List X) (k : ℕ) → k < length xs → suc (length (filter p (take k xs))) ≤ length xs
kept_fewer p [] k less = absurd (omega (arith, less))
kept_fewer p (x ∷ xs) zero less = omega arith
kept_fewer p (x ∷ xs) (suc k) less = go (p x) (kept_fewer p xs k (omega (arith, less)))
  where
    go : (b : Bool) → suc (length (filter p (take k xs))) ≤ length xs → suc (length (cond b (x ∷ filter p (take k xs)) (filter p (take k xs)))) ≤ suc (length xs)
    go true h = omega (arith, h)
    go false h = omega (arith, h)

-- What a list has in which each is pending when it comes: exactly what is reached. A beginning of one has only what is reached.
use Rattle.std.proofs.Common.{◌≡◌, List, [], ◌∷◌, ◌++◌, Bool, true, false, cond, Contains, find, Some, None, refl, sym, subst, ⊎_elim, ◌∙◌, true≢false, flat_map}
use Rattle.std.proofs.lemmas.Bool.{true_from_ne_false}
use Rattle.std.proofs.lemmas.List.Elements.{Contains-append_left, Contains-append_right, Contains-append_cases, Contains-push_cases}
use Rattle.gix_revwalk.proofs.Common.{ObjectId, IsBeginningBy, IsListBy, named_by, IsPending, Reaches, start, step, among_from, among_is, Contains-here, Contains-there, Contains-cons_cases, no_member}
use Rattle.gix_revwalk.proofs.Beginnings.{kept_along}

pub found_passes : (p : ObjectId → Bool) (xs : List ObjectId) (i : ObjectId) → find p xs ≡ Some i → Contains xs i × (p i ≡ true)
found_passes p [] i e = cc
found_passes p (x ∷ xs) i e = go (found_passes p xs i) (p x) refl e
  where
    go : (find p xs ≡ Some i → Contains xs i × (p i ≡ true)) → (b : Bool) → p x ≡ b → cond b (Some x) (find p xs) ≡ Some i → Contains (x ∷ xs) i × (p i ≡ true)
    go r true o e = let same : x ≡ i = cc in (subst (λ y. Contains (y ∷ xs) i) (sym same) (Contains-here i xs), subst (λ y. p y ≡ true) same o)
    go r false o e = let h : Contains xs i × (p i ≡ true) = r e in (Contains-there i x xs h.0, h.1)

pub none_passes : (p : ObjectId → Bool) (xs : List ObjectId) (i : ObjectId) → find p xs ≡ None → Contains xs i → p i ≡ false
none_passes p [] i e h = absurd (no_member i h)
none_passes p (x ∷ xs) i e h = go (none_passes p xs i) (p x) refl e
  where
    go : (find p xs ≡ None → Contains xs i → p i ≡ false) → (b : Bool) → p x ≡ b → cond b (Some x) (find p xs) ≡ None → p i ≡ false
    go r true o e = cc
    go r false o e = ⊎_elim (λ same. subst (λ y. p y ≡ false) same o) (λ t. r e t) (Contains-cons_cases i x xs h)

module _ (next : ObjectId → List ObjectId) (starts : List ObjectId) where
  abbrev pub AreReached : List ObjectId → Type 0
  AreReached taken = (c : ObjectId) → Contains taken c → Reaches next starts c

  reached_by_all : (taken : List ObjectId) → AreReached taken → (i : ObjectId) → Contains (flat_map next taken) i → Reaches next starts i
  reached_by_all [] all i h = absurd (no_member i h)
  reached_by_all (x ∷ xs) all i h = ⊎_elim (λ n. step (all x (Contains-here x xs)) n) (λ n. reached_by_all xs (λ c k. all c (Contains-there c x xs k)) i n) (Contains-append_cases (next x) (flat_map next xs) i h)

  pub reached_by_named : (taken : List ObjectId) → AreReached taken → (i : ObjectId) → Contains (named_by next starts taken) i → Reaches next starts i
  reached_by_named taken all i h = ⊎_elim (λ s. start s) (λ n. reached_by_all taken all i n) (Contains-append_cases starts (flat_map next taken) i h)

  pub reached_more : (taken : List ObjectId) (i : ObjectId) → AreReached taken → IsPending next starts taken i → AreReached (taken ++ i ∷ [])
  reached_more taken i all p c m = ⊎_elim (λ n. all c n) (λ e. subst (Reaches next starts) e (reached_by_named taken all i p.0)) (Contains-push_cases taken i c m)

  in_all : (c : ObjectId) (taken : List ObjectId) (i : ObjectId) → Contains taken c → Contains (next c) i → Contains (flat_map next taken) i
  in_all c [] i h n = absurd (no_member c h)
  in_all c (x ∷ xs) i h n = ⊎_elim (λ e. Contains-append_left (next x) (flat_map next xs) i (subst (λ y. Contains (next y) i) (sym e) n)) (λ t. Contains-append_right (next x) (flat_map next xs) i (in_all c xs i t n)) (Contains-cons_cases c x xs h)

  pub reached_is_given : (ids : List ObjectId) → IsListBy (IsPending next starts) ids → (i : ObjectId) → Reaches next starts i → Contains ids i
  reached_is_given ids h = go
    where
      given : (i : ObjectId) → Contains (named_by next starts ids) i → Contains ids i
      given i n = among_is i ids (true_from_ne_false _ (λ f. h.ends i (n, λ c. true≢false (sym (among_from i ids c) ∙ f))))

      go : (i : ObjectId) → Reaches next starts i → Contains ids i
      go i (start s) = given i (Contains-append_left starts (flat_map next ids) i s)
      go i (step {c = c} r n) = given i (Contains-append_right starts (flat_map next ids) i (in_all c ids i (go c r) n))

  pub given_is_reached : (ids : List ObjectId) → IsBeginningBy (IsPending next starts) ids → AreReached ids
  given_is_reached = kept_along (IsPending next starts) AreReached reached_more (λ c n. absurd (no_member c n))

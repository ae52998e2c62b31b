-- Lists in order of what starts reach through what is followed, and hidden tips don't reach.
use Rattle.std.proofs.Common.{◌≡◌, ℤ, List, [], ◌∷◌, filter, Bool, true, false, not, cond, ◌&&◌, ◌||◌, Option, None, Contains, refl, sym, ap, ◌∙◌, true≢false}
use Rattle.gix_commands.proofs.Common.{not-true, not_from_false, false_from_ne_true, cond-true, cond-false, ObjectId, is_same, step, same_is, no_member, filter_within, Objects, CommitTimeOrder, Parents}
use Rattle.gix_commands.proofs.Common.{Pending, by_mode, time_of, ids_of, new_ids, walked_within, IsListBy, IsNextOne, cutoff, is_older, all_kept, each_once, IsInWalk}
use Rattle.gix_hash.specs.Reach.{Reaches, Tells, start}
use Rattle.gix_revwalk.specs.declared.Parents.TheVariants as mode
use Rattle.gix_revwalk.proofs.Beginnings.{begins_empty}
use Rattle.gix_revwalk.proofs.SomeOrder.{next_is_pending}
use Rattle.gix_simple.specs.declared.Sorting.{Sorting}
use Rattle.gix_simple.specs.Building.{recent, timed}
use Rattle.gix_merge_base.proofs.Members.{new_within}
use Rattle.gix_commands.proofs.SameOrders.{new_in, filtered, filtered_in}
use Rattle.gix_commands.proofs.ListedCommits.{ListsBy, followed, kept_tips}

-- what is pending behind a cutoff
pub kept_ids : (objects : Objects) (limit : Option ℤ) (ps : List Pending) → ids_of (recent limit (timed objects ps)) ≡ filter (λ i. not (is_older (time_of objects i) limit)) (ids_of ps)
kept_ids objects limit [] = refl
kept_ids objects limit (p ∷ ps) = go (is_older (time_of objects p.id) limit) (kept_ids objects limit ps)
  where
    go : (t : Bool) → ids_of (recent limit (timed objects ps)) ≡ filter (λ i. not (is_older (time_of objects i) limit)) (ids_of ps)
        → ids_of (cond (not t) (record { id = p.id; time = time_of objects p.id } ∷ recent limit (timed objects ps)) (recent limit (timed objects ps)))
        ≡ cond (not t) (p.id ∷ filter (λ i. not (is_older (time_of objects i) limit)) (ids_of ps)) (filter (λ i. not (is_older (time_of objects i) limit)) (ids_of ps))
    go true e = e
    go false e = ap (λ is. p.id ∷ is) e

-- what is kept of ids, each once, are those that are kept, each once
module _ (keeps : ObjectId → Bool) where
  pub new_kept : (old other : ObjectId → Bool) (ids : List ObjectId) → ((i : ObjectId) → keeps i ≡ true → old i ≡ other i) → filter keeps (new_ids old ids) ≡ new_ids other (filter keeps ids)
  new_kept old other [] same = refl
  new_kept old other (x ∷ ids) same =
      go (keeps x) refl (old x) refl (other x) refl (new_kept old other ids same) (λ k. new_kept (λ j. is_same j x || old j) other ids (without k))
      (new_kept (λ j. is_same j x || old j) (λ j. is_same j x || other j) ids (λ j kj. ap (λ t. is_same j x || t) (same j kj)))
    where
      without : keeps x ≡ false → (j : ObjectId) → keeps j ≡ true → (is_same j x || old j) ≡ other j
      without k j kj = cases (is_same j x) refl
        where
          cases : (s : Bool) → is_same j x ≡ s → (s || old j) ≡ other j
          cases true e = absurd (true≢false (sym kj ∙ ap keeps (same_is j x e) ∙ k))
          cases false e = same j kj

      go : (k : Bool) → keeps x ≡ k → (a : Bool) → old x ≡ a → (b : Bool) → other x ≡ b → filter keeps (new_ids old ids) ≡ new_ids other (filter keeps ids)
          → (keeps x ≡ false → filter keeps (new_ids (λ j. is_same j x || old j) ids) ≡ new_ids other (filter keeps ids)) → filter keeps (new_ids (λ j. is_same j x || old j) ids) ≡ new_ids (λ j. is_same j x || other j) (filter keeps ids)
          → filter keeps (cond a (new_ids old ids) (x ∷ new_ids (λ j. is_same j x || old j) ids)) ≡ new_ids other (cond k (x ∷ filter keeps ids) (filter keeps ids))
      go false k true a b o both passed added = both
      go false k false a b o both passed added = cond-false (keeps x) _ _ k ∙ passed k
      go true k true a true o both passed added = both ∙ sym (cond-true (other x) _ _ o)
      go true k true a false o both passed added = absurd (true≢false (sym a ∙ same x k ∙ o))
      go true k false a true o both passed added = absurd (true≢false (sym o ∙ sym (same x k) ∙ a))
      go true k false a false o both passed added = cond-true (keeps x) _ _ k ∙ ap (λ ids. x ∷ ids) added ∙ sym (cond-false (other x) _ _ o)

-- what two tests keep
pub filter_both : (p q : ObjectId → Bool) (xs : List ObjectId) → filter p (filter q xs) ≡ filter (λ i. p i && q i) xs
filter_both p q [] = refl
filter_both p q (x ∷ xs) = go (q x) (p x) refl (filter_both p q xs)
  where
    go : (b a : Bool) → p x ≡ a → filter p (filter q xs) ≡ filter (λ i. p i && q i) xs
        → filter p (cond b (x ∷ filter q xs) (filter q xs)) ≡ cond (a && b) (x ∷ filter (λ i. p i && q i) xs) (filter (λ i. p i && q i) xs)
    go true true e h = cond-true (p x) _ _ e ∙ ap (λ ids. x ∷ ids) h
    go true false e h = cond-false (p x) _ _ e ∙ h
    go false true e h = h
    go false false e h = h

-- what is followed are parents
pub followed_within : (objects : Objects) (next : ObjectId → List ObjectId) (m : Parents) (by : Sorting) (c i : ObjectId) → Contains (followed objects next m by c) i → Contains (next c) i
followed_within objects next m by c i n = walked_within m (next c) i (filter_within _ (by_mode m (next c)) i n)

pub followed_reaches : (objects : Objects) (next : ObjectId → List ObjectId) (m : Parents) (by : Sorting) (starts : List ObjectId) (i : ObjectId) → Reaches (followed objects next m by) starts i → Reaches next starts i
followed_reaches objects next m by starts i (start s) = start s
followed_reaches objects next m by starts i (step {c = c} r n) = step (followed_reaches objects next m by starts c r) (followed_within objects next m by c i n)

-- without a cutoff all tips are kept, and all parents that are walked are followed
pub tips_kept : (objects : Objects) (by : Sorting) (tips : List ObjectId) → cutoff mode.All by ≡ None → kept_tips objects by tips ≡ tips
tips_kept objects by tips e = (λ k. filter (λ i. not (is_older (time_of objects i) (e k))) tips) ∙ all_kept tips

pub all_followed : (objects : Objects) (next : ObjectId → List ObjectId) (m : Parents) (by : Sorting) → cutoff m by ≡ None → followed objects next m by ≡ (λ c. by_mode m (next c))
all_followed objects next m by e = λ k c. ((λ j. filter (λ i. not (is_older (time_of objects i) (e j))) (by_mode m (next c))) ∙ all_kept (by_mode m (next c))) k

pub cut_all : (m : Parents) (by : Sorting) → cutoff mode.All by ≡ None → cutoff m by ≡ None
cut_all mode.All by e = e
cut_all mode.First by e = refl

-- a list of nothing
pub empty_order : (o : Option CommitTimeOrder) (time : ObjectId → ℤ) (next : ObjectId → List ObjectId) → IsListBy (IsNextOne o time next []) []
empty_order o time next = record { begins = begins_empty _; ends = λ i n. no_member i (next_is_pending next [] o time [] i n).0 }

-- a list in order is one of what is reached, where it is decided what is hidden
module _ (objects : Objects) (next follow : ObjectId → List ObjectId) (within : (c i : ObjectId) → Contains (follow c) i → Contains (next c) i) (from hidden : List ObjectId) (hides : ObjectId → Bool) (tells : Tells hides (Reaches next hidden)) where
  abbrev pub kept : ObjectId → List ObjectId
  kept c = filter (λ i. not (hides i)) (follow c)

  abbrev pub starts_kept : List ObjectId
  starts_kept = filter (λ i. not (hides i)) (new_ids (λ i. false) from)

  shown : (i : ObjectId) → Reaches kept starts_kept i → Reaches follow from i × (not (hides i) ≡ true)
  shown i (start s) = let f = filtered (λ j. not (hides j)) (new_ids (λ j. false) from) i s in (start (new_within (λ j. false) from i f.0), f.1)
  shown i (step {c = c} r n) = let f = filtered (λ j. not (hides j)) (follow c) i n in (step (shown c r).0 f.0, f.1)

  is_shown : (i : ObjectId) → Reaches kept starts_kept i → IsInWalk follow next from hidden i
  is_shown i r = let s = shown i r in record { reached = s.0; outside = λ h. true≢false (sym ((tells i).1 h) ∙ not-true _ s.1) }

  open_to : (i : ObjectId) → (Reaches next hidden i → ⊥) → not (hides i) ≡ true
  open_to i out = not_from_false _ (false_from_ne_true _ (λ e. out ((tells i).0 e)))

  shown_back : (i : ObjectId) → Reaches follow from i → (Reaches next hidden i → ⊥) → Reaches kept starts_kept i
  shown_back i (start s) out = start (filtered_in (λ j. not (hides j)) (new_ids (λ j. false) from) i (new_in from i s) (open_to i out))
  shown_back i (step {c = c} r n) out = step (shown_back c r (λ h. out (step h (within c i n)))) (filtered_in (λ j. not (hides j)) (follow c) i n (open_to i out))

  pub list_of : (order : Option CommitTimeOrder) (ids : List ObjectId) → IsListBy (IsNextOne order (time_of objects) kept starts_kept) ids → ListsBy objects next follow order from hidden ids
  list_of order ids h =
      let each = each_once order (time_of objects) kept starts_kept ids h in
      record { once = each.0; exact = λ i. (λ c. is_shown i ((each.1 i).0 c), λ s. (each.1 i).1 (shown_back i s.reached s.outside)); in_order = (hides, tells, h) }

-- A list by some parents is one by others that are the same of all that is reached.
use Rattle.std.proofs.Common.{◌≡◌, ℕ, zero, suc, ℤ, List, [], ◌∷◌, ◌++◌, filter, take, false, not, Option, None, Some, Contains, flat_map, refl, sym, ap, subst, ⊎_elim, ◌∙◌}
use Rattle.gix_commands.proofs.Common.{Contains-append_left, Contains-append_right, ObjectId, Objects, CommitTimeOrder, Parents, step, first_new, by_mode}
use Rattle.gix_commands.proofs.Common.{parents_of, time_of, new_ids, IsListBy, IsNextOne, cutoff, is_older, Contains-here, Contains-there}
use Rattle.gix_commands.proofs.Common.{Contains-cons_cases, no_member, text_next, reach_more, text_whole, whole_from, AreWhole}
use Rattle.gix_simple.specs.declared.Sorting.{Sorting}
use Rattle.gix_hash.specs.Reach.{Reaches, start}
use Rattle.gix_revwalk.specs.TimeOrder.{IsFirstBest}
use Rattle.gix_commands.proofs.KeptLists.{followed_reaches}
use Rattle.gix_commands.proofs.ListedCommits.{ListsBy, followed}

pub take_within : (k : ℕ) (xs : List ObjectId) (i : ObjectId) → Contains (take k xs) i → Contains xs i
take_within zero xs i c = absurd (no_member i c)
take_within (suc k) [] i c = c
take_within (suc k) (x ∷ xs) i c = ⊎_elim (λ e. subst (λ y. Contains (x ∷ xs) y) e (Contains-here x xs)) (λ t. Contains-there i x xs (take_within k xs i t)) (Contains-cons_cases i x (take k xs) c)

-- what comes next goes by what is named behind those taken
next_same : (o : Option CommitTimeOrder) (time : ObjectId → ℤ) (next other : ObjectId → List ObjectId) (starts taken : List ObjectId) (i : ObjectId) → flat_map next taken ≡ flat_map other taken → IsNextOne o time next starts taken i → IsNextOne o time other starts taken i
next_same None time next other starts taken i same h = ap (λ xs. first_new (starts ++ xs) taken) (sym same) ∙ h
next_same (Some order) time next other starts taken i same h = subst (λ xs. IsFirstBest order time (λ j. Contains (starts ++ xs) j × (Contains taken j → ⊥)) (starts ++ xs) taken i) same h

module _ (In : ObjectId → Type 0) (next other : ObjectId → List ObjectId) (time : ObjectId → ℤ) (starts ids : List ObjectId)
    (in_ids : (i : ObjectId) → Contains ids i → In i) (same_next : (c : ObjectId) → In c → next c ≡ other c) where
  named_same : (taken : List ObjectId) → ((c : ObjectId) → Contains taken c → In c) → flat_map next taken ≡ flat_map other taken
  named_same [] h = refl
  named_same (c ∷ taken) h = (λ k. same_next c (h c (Contains-here c taken)) k ++ named_same taken (λ j m. h j (Contains-there j c taken m)) k)

  order_same : (o : Option CommitTimeOrder) → IsListBy (IsNextOne o time next starts) ids → IsListBy (IsNextOne o time other starts) ids
  order_same o h = record {
    begins = λ taken rest i e. next_same o time next other starts taken i (named_same taken (λ c m. in_ids c (subst (λ xs. Contains xs c) (sym e) (Contains-append_left taken (i ∷ rest) c m)))) (h.begins taken rest i e);
    ends = λ i n. h.ends i (next_same o time other next starts ids i (sym (named_same ids in_ids)) n);
  }

-- what is reached is the same by other parents, where these are the same of all that is reached
module _ (next other : ObjectId → List ObjectId) (tips hidden : List ObjectId) (same_next : (c : ObjectId) → Reaches next (tips ++ hidden) c → next c ≡ other c) where
  abbrev AreMet : List ObjectId → Type 0
  AreMet ids = (i : ObjectId) → Reaches next ids i → Reaches next (tips ++ hidden) i

  pub back : (ids : List ObjectId) → AreMet ids → (i : ObjectId) → Reaches other ids i → Reaches next ids i
  back ids met i (start s) = start s
  back ids met i (step {c = c} r n) = let p : Reaches next ids c = back ids met c r in step p (subst (λ xs. Contains xs i) (sym (same_next c (met c p))) n)

-- what starts reach is the same by other parents, where these are the same of all that is reached
module _ (next other : ObjectId → List ObjectId) (starts : List ObjectId) (same_next : (c : ObjectId) → Reaches next starts c → next c ≡ other c) where
  reaches_there : (i : ObjectId) → Reaches next starts i → Reaches other starts i
  reaches_there i (start s) = start s
  reaches_there i (step {c = c} r n) = step (reaches_there c r) (subst (λ xs. Contains xs i) (same_next c r) n)

  reaches_here : (i : ObjectId) → Reaches other starts i → Reaches next starts i
  reaches_here i (start s) = start s
  reaches_here i (step {c = c} r n) = let p : Reaches next starts c = reaches_here c r in step p (subst (λ xs. Contains xs i) (sym (same_next c p)) n)

-- lists are the same by other parents, where these are the same of all that is reached
module _ (objects : Objects) (next other follow through : ObjectId → List ObjectId) (from hidden : List ObjectId) (order : Option CommitTimeOrder)
    (same_follow : (c : ObjectId) → Reaches follow from c → follow c ≡ through c) (same_hidden : (c : ObjectId) → Reaches next hidden c → next c ≡ other c) where
  pub lists_same : (ids : List ObjectId) → ListsBy objects next follow order from hidden ids → ListsBy objects other through order from hidden ids
  lists_same ids l = record {
    once = l.once;
    exact = λ i. (
      λ c. let s = (l.exact i).0 c in record { reached = reaches_there follow through from same_follow i s.reached; outside = λ h. s.outside (reaches_here next other hidden same_hidden i h) },
      λ s. (l.exact i).1 (record { reached = reaches_here follow through from same_follow i s.reached; outside = λ h. s.outside (reaches_there next other hidden same_hidden i h) }),
    );
    in_order = (
      l.in_order.0,
      λ i. (λ e. reaches_there next other hidden same_hidden i ((l.in_order.1 i).0 e), λ r. (l.in_order.1 i).1 (reaches_here next other hidden same_hidden i r)),
      order_same (Reaches follow from) (λ c. filter (λ i. not (l.in_order.0 i)) (follow c)) (λ c. filter (λ i. not (l.in_order.0 i)) (through c)) (time_of objects) (filter (λ i. not (l.in_order.0 i)) (new_ids (λ i. false) from)) ids
          (λ i c. ((l.exact i).0 c).reached) (λ c r. ap (filter (λ i. not (l.in_order.0 i))) (same_follow c r)) order l.in_order.2,
    );
  }

-- where all that is reached is whole, texts name the parents
module _ (objects : Objects) (tips hidden : List ObjectId) (whole : AreWhole objects (tips ++ hidden)) where
  texts_same : (c : ObjectId) → Reaches (parents_of objects) (tips ++ hidden) c → parents_of objects c ≡ text_next objects c
  texts_same c r = text_whole objects c (whole_from objects c (whole c r))

  pub by_parents_reached : (i : ObjectId) → Reaches (text_next objects) (tips ++ hidden) i → Reaches (parents_of objects) (tips ++ hidden) i
  by_parents_reached = back (parents_of objects) (text_next objects) tips hidden texts_same (tips ++ hidden) (λ i r. r)

module _ (objects : Objects) (m : Parents) (by : Sorting) (from hidden : List ObjectId) (order : Option CommitTimeOrder) (ids : List ObjectId) (whole : AreWhole objects (from ++ hidden)) where
  pub by_texts : ListsBy objects (parents_of objects) (followed objects (parents_of objects) m by) order from hidden ids → ListsBy objects (text_next objects) (followed objects (text_next objects) m by) order from hidden ids
  by_texts =
      lists_same objects (parents_of objects) (text_next objects) (followed objects (parents_of objects) m by) (followed objects (text_next objects) m by) from hidden order
      (λ c r. ap (λ ps. filter (λ i. not (is_older (time_of objects i) (cutoff m by))) (by_mode m ps)) (texts_same objects from hidden whole c (reach_more (parents_of objects) from (from ++ hidden) (λ j s. Contains-append_left from hidden j s) c (followed_reaches objects (parents_of objects) m by from c r))))
      (λ c r. texts_same objects from hidden whole c (reach_more (parents_of objects) hidden (from ++ hidden) (λ j s. Contains-append_right from hidden j s) c r))
      ids

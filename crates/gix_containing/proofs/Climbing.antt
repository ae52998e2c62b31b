-- The search from a commit to all that is above it.
use Rattle.std.proofs.Common.{Vec, Global, ◌≡◌, ◌⊎◌, ◌+◌, ◌≤◌, ◌||◌, ℕ, suc, List, [], ◌∷◌, ◌++◌, flat_map, length, Bool, true, false, not, cond, Option, Some, None, Contains, refl, sym, ap, subst, inl, inr, ⊎_elim, ◌∙◌, arith, append_assoc, length-append}
use Rattle.std.specs.FinMap as map_of
use Rattle.std.specs.FinSet as set
use Rattle.std.proofs.lemmas.Bool.{or_left, or_right, or_cases, false≢true}
use Rattle.std.proofs.lemmas.List.Elements.{Contains-append_left, Contains-append_right, Contains-append_cases}
use Rattle.gix_hash.specs.declared.ObjectId.{ObjectId}
use Rattle.gix_hash.specs.Id.{id_cmp, is_same, is_among}
use Rattle.gix_hash.specs.Reach.{Reaches, start, step, Tells}
use Rattle.gix_hash.proofs.Ids.Membership.{Contains-here, Contains-there, no_member, among_from, among_is, same_is}
use Rattle.gix_hash.proofs.Lists.{only_member}
use Rattle.gix_containing.specs.Inside.Steps.{Children, ids_in, children_in, MarksNew}
use Rattle.gix_merge_base.proofs.Members.{new_from, new_within}
use Rattle.gix_merge_base.proofs.NewAmong.{new_one, old_one}
use Rattle.gix_revwalk.specs.Ids.{new_ids}
use Rattle.gix_revwalk.proofs.NewIds.{fresh_agree, new_less, among_flat}

joined : (added : Bool) (before new : List ObjectId) (i : ObjectId) → cond added ((before ++ new) ++ i ∷ []) (before ++ new) ≡ before ++ cond added (new ++ i ∷ []) new
joined true before new i = append_assoc before new (i ∷ [])
joined false before new i = refl

-- one more id is marked
pub marks_more : (ids later : List ObjectId) (i : ObjectId) (added : Bool) (first old now : set.FinSet id_cmp) (waiting mid new : List ObjectId) → later ≡ ids ++ i ∷ [] → MarksNew ids first waiting old mid → added ≡ not (set.contains old i)
    → now ≡ set.insert old i → new ≡ cond added (mid ++ i ∷ []) mid → MarksNew later first waiting now new
marks_more ids later i added first old now waiting mid new l h a n w = subst (λ xs. MarksNew xs first waiting now new) (sym l) (record {
  marked = λ j. ap (λ s. set.contains s j) n ∙ old_one first ids old i h.marked j;
  waits = w ∙ ap (λ xs. cond added (xs ++ i ∷ []) xs) h.waits ∙ joined added waiting (new_ids (set.contains first) ids) i
      ∙ ap (λ xs. waiting ++ xs) (ap (λ b. cond b (new_ids (set.contains first) ids ++ i ∷ []) (new_ids (set.contains first) ids)) a ∙ new_one first ids (new_ids (set.contains first) ids) old i h.marked refl);
})

or_shift : (a b c : Bool) → ((a || b) || c) ≡ (b || (a || c))
or_shift true true c = refl
or_shift true false c = refl
or_shift false b c = refl

or_known : (a b c : Bool) → (a ≡ true → c ≡ true) → ((a || b) || c) ≡ (b || c)
or_known true true c h = refl
or_known true false c h = sym (h refl)
or_known false b c h = refl

-- ids that are marked are new no more
pub spends : (ids all : List ObjectId) (s t : ObjectId → Bool) → ((i : ObjectId) → Contains ids i → is_among i all ≡ true) → ((j : ObjectId) → t j ≡ (is_among j ids || s j))
    → length (new_ids t all) + length (new_ids s ids) ≡ length (new_ids s all)
spends [] all s t within marked = let same : length (new_ids t all) ≡ length (new_ids s all) = ap length (fresh_agree t s all (λ j h. marked j)) in omega (arith, same)
spends (i ∷ ids) all s t within marked = go (λ m. spends ids all s t later m) (λ m. spends ids all (λ j. is_same j i || s j) t later m) (s i) refl
  where
    later : (j : ObjectId) → Contains ids j → is_among j all ≡ true
    later j m = within j (Contains-there j i ids m)

    go : (((j : ObjectId) → t j ≡ (is_among j ids || s j)) → length (new_ids t all) + length (new_ids s ids) ≡ length (new_ids s all))
        → (((j : ObjectId) → t j ≡ (is_among j ids || (is_same j i || s j))) → length (new_ids t all) + length (new_ids (λ j. is_same j i || s j) ids) ≡ length (new_ids (λ j. is_same j i || s j) all))
        → (b : Bool) → s i ≡ b → length (new_ids t all) + length (cond b (new_ids s ids) (i ∷ new_ids (λ j. is_same j i || s j) ids)) ≡ length (new_ids s all)
    go known new true e = known (λ j. marked j ∙ or_known (is_same j i) (is_among j ids) (s j) (λ same. ap s (same_is j i same) ∙ e))
    go known new false e =
        let rest = new (λ j. marked j ∙ or_shift (is_same j i) (is_among j ids) (s j)) in
        let less = new_less s all i (within i (Contains-here i ids)) e in
        omega (arith, rest, less)

-- all children
abbrev pub all_in : Children Global → List ObjectId
all_in children = flat_map (λ e. e.1.items) (map_of.entries children)

found : (es : List (ObjectId × Vec ObjectId Global)) (i : ObjectId) (ids : Vec ObjectId Global) → map_of.find id_cmp i es ≡ Some ids → Contains es (i, ids)
found [] i ids e = cc
found (x ∷ es) i ids e = go (found es i ids) (is_same i x.0) refl e
  where
    go : (map_of.find id_cmp i es ≡ Some ids → Contains es (i, ids)) → (b : Bool) → is_same i x.0 ≡ b → cond b (Some x.1) (map_of.find id_cmp i es) ≡ Some ids → Contains (x ∷ es) (i, ids)
    go r true t e = let same : i ≡ x.0 = same_is i x.0 t in let value : x.1 ≡ ids = cc in subst (λ y. Contains (x ∷ es) y) (λ k. (sym same k, value k)) (Contains-here x es)
    go r false t e = Contains-there (i, ids) x es (r e)

pub all_have : (children : Children Global) (c i : ObjectId) → Contains (children_in children c) i → is_among i (all_in children) ≡ true
all_have children c i m = go (map_of.get children c) refl m
  where
    go : (o : Option (Vec ObjectId Global)) → map_of.get children c ≡ o → Contains (ids_in o) i → is_among i (all_in children) ≡ true
    go None e k = absurd (no_member i k)
    go (Some ids) e k = among_flat (λ e. e.1.items) (map_of.entries children) (c, ids) i (found (map_of.entries children) c ids (sym (map_of.get-entries children c) ∙ e)) (among_from i ids.items k)

-- how many turns there are at most
abbrev pub room : Children Global → set.FinSet id_cmp → List ObjectId → ℕ
room children marks waiting = length (new_ids (set.contains marks) (all_in children)) + length waiting

module _ (children : Children Global) (id : ObjectId) where
  abbrev next : ObjectId → List ObjectId
  next = children_in children

  -- what is marked is above, and has its children marked unless it waits
  pub record IsClimbing (marks : set.FinSet id_cmp) (waiting : List ObjectId) : Type 0 where
    pub begun : set.contains marks id ≡ true
    pub sound : (i : ObjectId) → set.contains marks i ≡ true → Reaches next (id ∷ []) i
    pub waits : (i : ObjectId) → Contains waiting i → set.contains marks i ≡ true
    pub goes : (c i : ObjectId) → set.contains marks c ≡ true → Contains (next c) i → Contains waiting c ⊎ (set.contains marks i ≡ true)

  pub climbs_first : (none marks : set.FinSet id_cmp) (nothing waiting : List ObjectId) → none ≡ set.empty → nothing ≡ [] → MarksNew (id ∷ []) none nothing marks waiting → IsClimbing marks waiting
  climbs_first none marks nothing waiting e n m = record {
    begun = m.marked id ∙ or_left _ _ (among_from id (id ∷ []) (Contains-here id []));
    sound = λ i h. start (only i h);
    waits = λ i w. m.marked i ∙ or_left _ _ (among_from i (id ∷ []) (new_within (set.contains none) (id ∷ []) i (subst (λ xs. Contains xs i) waits w)));
    goes = λ c i h k. inl (subst (λ xs. Contains xs c) (sym waits) (new_from (set.contains none) (id ∷ []) c (only c h) (unmarked c)));
  }
    where
      waits : waiting ≡ new_ids (set.contains none) (id ∷ [])
      waits = m.waits ∙ ap (λ xs. xs ++ new_ids (set.contains none) (id ∷ [])) n

      unmarked : (i : ObjectId) → set.contains none i ≡ false
      unmarked i = ap (λ s. set.contains s i) e ∙ set.contains-empty id_cmp i

      only : (i : ObjectId) → set.contains marks i ≡ true → Contains (id ∷ []) i
      only i h = among_is i (id ∷ []) (⊎_elim (λ a. a) (λ b. absurd (false≢true (sym (unmarked i) ∙ b))) (or_cases (is_among i (id ∷ [])) (set.contains none i) (sym (m.marked i) ∙ h)))

  module _ (marks now : set.FinSet id_cmp) (waiting rest later : List ObjectId) (taken : ObjectId) (popped : waiting ≡ rest ++ taken ∷ []) (m : MarksNew (next taken) marks rest now later) where
    -- a turn of the search
    pub climbs_on : IsClimbing marks waiting → IsClimbing now later
    climbs_on h = record {
      begun = kept id h.begun;
      sound = λ i n. ⊎_elim (λ a. step (h.sound taken (h.waits taken there)) (among_is i (next taken) a)) (h.sound i) (was i n);
      waits = λ i w. ⊎_elim (λ o. kept i (h.waits i (before i o))) (λ n. m.marked i ∙ or_left _ _ (among_from i (next taken) (new_within (set.contains marks) (next taken) i n)))
          (Contains-append_cases rest (new_ids (set.contains marks) (next taken)) i (subst (λ xs. Contains xs i) m.waits w));
      goes = λ c i n k. known c i n k (set.contains marks c) refl;
    }
      where
        there : Contains waiting taken
        there = subst (λ xs. Contains xs taken) (sym popped) (Contains-append_right rest (taken ∷ []) taken (Contains-here taken []))

        before : (i : ObjectId) → Contains rest i → Contains waiting i
        before i o = subst (λ xs. Contains xs i) (sym popped) (Contains-append_left rest (taken ∷ []) i o)

        kept : (i : ObjectId) → set.contains marks i ≡ true → set.contains now i ≡ true
        kept i e = m.marked i ∙ or_right (is_among i (next taken)) _ e

        was : (i : ObjectId) → set.contains now i ≡ true → (is_among i (next taken) ≡ true) ⊎ (set.contains marks i ≡ true)
        was i n = or_cases (is_among i (next taken)) (set.contains marks i) (sym (m.marked i) ∙ n)

        waits_now : (c : ObjectId) → Contains rest c → Contains later c
        waits_now c o = subst (λ xs. Contains xs c) (sym m.waits) (Contains-append_left rest (new_ids (set.contains marks) (next taken)) c o)

        known : (c i : ObjectId) → set.contains now c ≡ true → Contains (next c) i → (b : Bool) → set.contains marks c ≡ b → Contains later c ⊎ (set.contains now i ≡ true)
        known c i n k true e = ⊎_elim
            (λ w. ⊎_elim (λ o. inl (waits_now c o)) (λ t. inr (m.marked i ∙ or_left _ _ (among_from i (next taken) (subst (λ x. Contains (next x) i) (sym (only_member taken c t)) k))))
            (Contains-append_cases rest (taken ∷ []) c (subst (λ xs. Contains xs c) popped w)))
            (λ s. inr (kept i s)) (h.goes c i e k)
        known c i n k false e = inl (subst (λ xs. Contains xs c) (sym m.waits) (Contains-append_right rest (new_ids (set.contains marks) (next taken)) c
            (new_from (set.contains marks) (next taken) c (among_is c (next taken) (⊎_elim (λ a. a) (λ b. absurd (false≢true (sym e ∙ b))) (was c n))) e)))

    pub climbs_less : suc (room children now later) ≤ room children marks waiting
    climbs_less =
        let spent = spends (next taken) (all_in children) (set.contains marks) (set.contains now) (λ i k. all_have children taken i k) m.marked in
        let long : length waiting ≡ length rest + 1 = ap length popped ∙ length-append rest (taken ∷ []) in
        let new : length later ≡ length rest + length (new_ids (set.contains marks) (next taken)) = ap length m.waits ∙ length-append rest (new_ids (set.contains marks) (next taken)) in
        omega (arith, spent, long, new)

  -- once nothing waits, exactly what is above is marked
  pub climbed : (marks : set.FinSet id_cmp) (waiting : List ObjectId) → waiting ≡ [] → IsClimbing marks waiting → Tells (set.contains marks) (Reaches next (id ∷ []))
  climbed marks waiting e h i = (h.sound i, all i)
    where
      all : (i : ObjectId) → Reaches next (id ∷ []) i → set.contains marks i ≡ true
      all i (start m) = subst (λ x. set.contains marks x ≡ true) (only_member id i m) h.begun
      all i (step {c = c} r n) = ⊎_elim (λ w. absurd (no_member c (subst (λ xs. Contains xs c) e w))) (λ s. s) (h.goes c i (all c r) n)

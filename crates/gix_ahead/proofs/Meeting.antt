-- To meet ids one by one is to meet them all.
use Rattle.std.proofs.Common.{◌≡◌, ◌+◌, ◌≤◌, ℕ, suc, List, [], ◌∷◌, ◌++◌, length, Bool, true, false, ◌&&◌, ◌||◌, Some, Contains, IsPermutation, cond, refl, sym, ap, subst, inl, inr, ⊎_elim, ◌∙◌, le_refl, arith}
use Rattle.std.specs.FinMap as map_of
use Rattle.std.proofs.Math.Nat.{le_trans}
use Rattle.std.proofs.Math.Path.{transport}
use Rattle.std.proofs.lemmas.Bool.{false≢true}
use Rattle.std.proofs.lemmas.List.{nil_from_length}
use Rattle.std.proofs.lemmas.List.Elements.{Contains-append_cases, Contains-append_left, Contains-append_right}
use Rattle.std.proofs.lemmas.List.Sorted.{Contains-permutation, IsPermutation-sym, length_permutation}
use Rattle.gix_hash.specs.declared.ObjectId.{ObjectId}
use Rattle.gix_hash.specs.Id.{is_among, is_same}
use Rattle.gix_hash.proofs.Ids.Membership.{among-append, among_is, Contains-cons_cases, Contains-here, Contains-there, id_total, no_member, same_is}
use Rattle.gix_hash.proofs.Lists.{only_member}
use Rattle.gix_object.specs.Object.{Objects}
use Rattle.gix_ahead.specs.declared.search.Reached.{Reached}
use Rattle.gix_ahead.specs.declared.search.Search.{Search}
use Rattle.gix_ahead.specs.Inside.Search.{Side, One, Other, covers, is_by, is_in, is_reached, united, reached_at, ReachedMap, IsWaitingFor, MeetFails, Meets, Queued, room}
use Rattle.gix_paint.specs.declared.Hidden.{Hidden}
use Rattle.gix_paint.specs.Painting.{IsFaultAt}
use Rattle.gix_paint.specs.Reading.{Reads}
use Rattle.gix_revwalk.specs.Ids.{new_ids}
use Rattle.gix_revwalk.proofs.NewIds.{fresh_agree, new_less}

nothing : (k m : Bool) → m ≡ ((k && false) || m)
nothing true m = refl
nothing false m = refl

both : (k a b m : Bool) → ((k && b) || ((k && a) || m)) ≡ ((k && (a || b)) || m)
both false a b m = refl
both true true true m = refl
both true true false m = refl
both true false b m = refl

-- a mark that was there stays
absorbed : (k s m : Bool) → (k ≡ true → s ≡ true → m ≡ true) → m ≡ ((k && (s || false)) || m)
absorbed false s m h = refl
absorbed true false m h = refl
absorbed true true m h = h refl refl

turned : (k m : Bool) → (m || k) ≡ ((k && true) || m)
turned true true = refl
turned true false = refl
turned false true = refl
turned false false = refl

-- what is covered is known, and what isn't is news
known_so : (old by : Reached) → covers old by ≡ true → (side : Side) → is_by side by ≡ true → is_by side old ≡ true
known_so old by h One e = grind arith
known_so old by h Other e = grind arith

news_so : (old by : Reached) → covers old by ≡ false → (side : Side) × (is_by side by ≡ true) × (is_by side old ≡ false)
news_so old by h = go old.one by.one refl refl
  where
    go : (a b : Bool) → old.one ≡ a → by.one ≡ b → (side : Side) × (is_by side by ≡ true) × (is_by side old ≡ false)
    go false true e f = (One, f, e)
    go true b e f = (Other, grind arith, grind arith)
    go false false e f = (Other, grind arith, grind arith)

of_both : (old by : Reached) (side : Side) → is_by side (united old by) ≡ (is_by side old || is_by side by)
of_both old by One = refl
of_both old by Other = refl

pub by_mark : (marks : ReachedMap) (side : Side) (i : ObjectId) → is_by side (reached_at marks i) ≡ is_reached marks side i
by_mark marks One i = refl
by_mark marks Other i = refl

module _ {F : Type 0} (objects : F → Objects) (by : Reached) where
  pub meets_none : (s : Search F) → Meets objects by [] s s
  meets_none s = record {
    objects_stay = refl;
    marks = λ side i. nothing (is_by side by) (is_reached s.marks side i);
    keeps = λ w c. c;
    adds = λ w c. inl c;
    waits = λ side i c e n. absurd (no_member i c);
    spends = λ named h. le_refl _;
  }

  module _ (xs ys : List ObjectId) {p mid : Search F} (a : Meets objects by xs p mid) where
    pub meets_then : {new : Search F} → Meets objects by ys mid new → Meets objects by (xs ++ ys) p new
    meets_then {new} b = record {
      objects_stay = b.objects_stay ∙ a.objects_stay;
      marks = λ side i. b.marks side i ∙ ap (λ m. (is_by side by && is_among i ys) || m) (a.marks side i) ∙ both (is_by side by) (is_among i xs) (is_among i ys) (is_reached p.marks side i)
          ∙ ap (λ m. (is_by side by && m) || is_reached p.marks side i) (sym (among-append i xs ys));
      keeps = λ w c. b.keeps w (a.keeps w c);
      adds = λ w c. ⊎_elim (λ o. ⊎_elim (λ k. inl k) (λ n. inr (Contains-append_left xs ys w.1.id n.0, n.1)) (a.adds w o))
          (λ n. inr (Contains-append_right xs ys w.1.id n.0, subst (λ o. Reads (objects o.now) w.1.id w.1.parent_ids.items) a.objects_stay n.1)) (b.adds w c);
      waits = λ side i c e n. ⊎_elim (λ m. early side i m e n) (λ m. late side i m e n (is_reached mid.marks side i) refl) (Contains-append_cases xs ys i c);
      spends = λ named h. le_trans (b.spends named (λ i c. h i (Contains-append_right xs ys i c))) (a.spends named (λ i c. h i (Contains-append_left xs ys i c)));
    }
      where
        early : (side : Side) (i : ObjectId) → Contains xs i → is_by side by ≡ true → is_reached p.marks side i ≡ false → (w : Queued) × Contains new.queue w × (w.1.id ≡ i)
        early side i m e n = let w = a.waits side i m e n in (w.0, b.keeps w.0 w.1, w.2)

        late : (side : Side) (i : ObjectId) → Contains ys i → is_by side by ≡ true → is_reached p.marks side i ≡ false → (k : Bool) → is_reached mid.marks side i ≡ k → (w : Queued) × Contains new.queue w × (w.1.id ≡ i)
        late side i m e n false k = b.waits side i m e k
        late side i m e n true k = early side i (among_is i xs (let s = a.marks side i in grind arith)) e n

    -- what fails for the ids behind some fails for all
    pub fails_then : (faulty : F → ObjectId → Type 0) (why : Hidden) → MeetFails objects faulty ys mid why → MeetFails objects faulty (xs ++ ys) p why
    fails_then faulty why f n = let k = f n in (k.0, Contains-append_right xs ys k.0 k.1, transport (λ j. IsFaultAt (objects (a.objects_stay j).now) (faulty (a.objects_stay j).now) k.0 why) k.2)

  pub fails_first : (xs ys : List ObjectId) (p : Search F) (faulty : F → ObjectId → Type 0) (why : Hidden) → MeetFails objects faulty xs p why → MeetFails objects faulty (xs ++ ys) p why
  fails_first xs ys p faulty why f n = let k = f n in (k.0, Contains-append_left xs ys k.0 k.1, k.2)

  -- an id is met
  module _ (i : ObjectId) (p new : Search F) (objects_stay : new.source.objects ≡ p.source.objects) where
    still : (side : Side) → (is_by side by ≡ true → is_reached p.marks side i ≡ true) → (j : ObjectId) → is_reached p.marks side j ≡ ((is_by side by && is_among j (i ∷ [])) || is_reached p.marks side j)
    still side known j = absorbed (is_by side by) (is_same j i) (is_reached p.marks side j) (λ e s. ap (is_reached p.marks side) (same_is j i s) ∙ known e)

    -- it is no news
    pub met_before : covers (reached_at p.marks i) by ≡ true → new.marks ≡ p.marks → new.queue ≡ p.queue → Meets objects by (i ∷ []) p new
    met_before covered marks queue = record {
      objects_stay = objects_stay;
      marks = λ side j. ap (λ m. is_reached m side j) marks ∙ still side (known side) j;
      keeps = λ w c. subst (λ ws. Contains ws w) (sym queue) c;
      adds = λ w c. inl (subst (λ ws. Contains ws w) queue c);
      waits = λ side j c e n. absurd (false≢true (sym n ∙ ap (is_reached p.marks side) (sym (only_member i j c)) ∙ known side e));
      spends = λ named h. let same : room named new ≡ room named p = (λ k. length (new_ids (is_reached (marks k) One) named) + length (new_ids (is_reached (marks k) Other) named) + length (queue k)) in omega arith;
    }
      where
        known : (side : Side) → is_by side by ≡ true → is_reached p.marks side i ≡ true
        known side e = sym (by_mark p.marks side i) ∙ known_so (reached_at p.marks i) by covered side e

    -- it is news for a side, and waits
    module _ (uncovered : covers (reached_at p.marks i) by ≡ false) (marks : new.marks ≡ map_of.insert p.marks i (united (reached_at p.marks i) by)) (w : Queued) (looked_up : IsWaitingFor (objects p.source.objects.now) i w) (queue : IsPermutation (w ∷ p.queue) new.queue) where
      abbrev reached : Reached
      reached = united (reached_at p.marks i) by

      told : (side : Side) → is_by side reached ≡ (is_reached p.marks side i || is_by side by)
      told side = of_both (reached_at p.marks i) by side ∙ ap (λ m. m || is_by side by) (by_mark p.marks side i)

      news : (side : Side) × (is_by side by ≡ true) × (is_reached p.marks side i ≡ false)
      news = let n = news_so (reached_at p.marks i) by uncovered in (n.0, n.1, sym (by_mark p.marks n.0 i) ∙ n.2)

      marked : (side : Side) (j : ObjectId) → is_reached new.marks side j ≡ ((is_by side by && is_among j (i ∷ [])) || is_reached p.marks side j)
      marked side j = ap (λ m. is_reached m side j) marks ∙ ap (is_in side) (map_of.get-insert id_total p.marks i reached j) ∙ go (is_same j i) refl
        where
          go : (b : Bool) → is_same j i ≡ b → is_in side (cond b (Some reached) (map_of.get p.marks j)) ≡ ((is_by side by && (b || false)) || is_reached p.marks side j)
          go true e = told side ∙ ap (λ k. is_reached p.marks side k || is_by side by) (sym (same_is j i e)) ∙ turned (is_by side by) (is_reached p.marks side j)
          go false e = nothing (is_by side by) (is_reached p.marks side j)

      abbrev left : Search F → Side → List ObjectId → ℕ
      left s side named = length (new_ids (is_reached s.marks side) named)

      -- a side has less room if this is news to it, and else no more
      less : (side : Side) (named : List ObjectId) → is_among i named ≡ true → is_by side by ≡ true → is_reached p.marks side i ≡ false → suc (left new side named) ≡ left p side named
      less side named among e n =
          ap (λ xs. suc (length xs)) (fresh_agree _ _ named (λ j h. marked side j ∙ plain (is_by side by) (is_same j i) (is_reached p.marks side j) e)) ∙ new_less (is_reached p.marks side) named i among n
        where
          plain : (k s m : Bool) → k ≡ true → ((k && (s || false)) || m) ≡ (s || m)
          plain true true m e = refl
          plain true false m e = refl
          plain false s m e = absurd (false≢true e)

      no_more : (side : Side) (named : List ObjectId) → is_among i named ≡ true → left new side named ≤ left p side named
      no_more side named among = go (is_by side by) (is_reached p.marks side i) refl refl
        where
          same : (is_by side by ≡ true → is_reached p.marks side i ≡ true) → left new side named ≤ left p side named
          same known = let e : left new side named ≡ left p side named = ap length (fresh_agree _ _ named (λ j h. marked side j ∙ sym (still side known j))) in omega arith

          go : (b m : Bool) → is_by side by ≡ b → is_reached p.marks side i ≡ m → left new side named ≤ left p side named
          go true false e n = let s = less side named among e n in omega arith
          go true true e n = same (λ k. n)
          go false m e n = same (λ k. absurd (false≢true (sym e ∙ k)))

      spent : (named : List ObjectId) → is_among i named ≡ true → room named new ≤ room named p
      spent named among =
          let one : suc (length p.queue) ≡ length new.queue = sym (length_permutation _ _ queue) in
          let a = no_more One named among in
          let b = no_more Other named among in
          go one a b news
        where
          go : suc (length p.queue) ≡ length new.queue → left new One named ≤ left p One named → left new Other named ≤ left p Other named
              → (side : Side) × (is_by side by ≡ true) × (is_reached p.marks side i ≡ false) → room named new ≤ room named p
          go one a b (One, e, n) = let s = less One named among e n in omega arith
          go one a b (Other, e, n) = let s = less Other named among e n in omega arith

      pub met_new : Meets objects by (i ∷ []) p new
      met_new = record {
        objects_stay = objects_stay;
        marks = marked;
        keeps = λ v c. Contains-permutation _ _ v queue (Contains-there v w p.queue c);
        adds = λ v c. ⊎_elim (λ s. inr (subst (λ x. Contains (i ∷ []) x.1.id × Reads (objects p.source.objects.now) x.1.id x.1.parent_ids.items) s there)) (λ o. inl o)
            (Contains-cons_cases v w p.queue (Contains-permutation _ _ v (IsPermutation-sym _ _ queue) c));
        waits = λ side j c e n. (w, Contains-permutation _ _ w queue (Contains-here w p.queue), looked_up.0 ∙ only_member i j c);
        spends = λ named h. spent named (h i (Contains-here i []));
      }
        where
          there : Contains (i ∷ []) w.1.id × Reads (objects p.source.objects.now) w.1.id w.1.parent_ids.items
          there = subst (λ j. Contains (i ∷ []) j × Reads (objects p.source.objects.now) j w.1.parent_ids.items) (sym looked_up.0) (Contains-here i [], looked_up.1)

-- to meet the ids that are left is to meet them all, and what fails for these fails for all
pub record IsLeft {F : Type 0} (objects : F → Objects) (faulty : F → ObjectId → Type 0) (by : Reached) (all : List ObjectId) (old : Search F) (ids : List ObjectId) (s : Search F) : Type 0 where
  pub meets : {new : Search F} → Meets objects by ids s new → Meets objects by all old new
  pub fails : (why : Hidden) → MeetFails objects faulty ids s why → MeetFails objects faulty all old why

module _ {F : Type 0} (objects : F → Objects) (faulty : F → ObjectId → Type 0) (by : Reached) {all : List ObjectId} {old : Search F} {ids : List ObjectId} {s : Search F} (h : IsLeft objects faulty by all old ids s) where
  pub none_left : length ids ≡ 0 → Meets objects by all old s
  none_left e = h.meets (subst (λ xs. Meets objects by xs s s) (sym (nil_from_length ids e)) (meets_none objects by s))

  module _ (i : ObjectId) (rest : List ObjectId) (first : ids ≡ i ∷ rest) where
    pub left_step : {mid : Search F} → Meets objects by (i ∷ []) s mid → IsLeft objects faulty by all old rest mid
    left_step {mid} m = record {
      meets = λ {new} n. h.meets (subst (λ xs. Meets objects by xs s new) (sym first) (meets_then objects by (i ∷ []) rest m n));
      fails = λ why f. h.fails why (subst (λ xs. MeetFails objects faulty xs s why) (sym first) (fails_then objects by (i ∷ []) rest m faulty why f));
    }

    pub left_fails : (why : Hidden) → MeetFails objects faulty (i ∷ []) s why → MeetFails objects faulty all old why
    left_fails why f = h.fails why (subst (λ xs. MeetFails objects faulty xs s why) (sym first) (fails_first objects by (i ∷ []) rest s faulty why f))

-- To meet ids one by one is to meet them all.
use Rattle.std.proofs.Common.{◌≡◌, suc, List, [], ◌∷◌, ◌++◌, length, Bool, true, false, ◌||◌, None, Result, Ok, Err, Contains, IfErr, IsErrAnd, IsPermutation, refl, sym, ap, subst, inl, inr, ⊎_elim, ◌∙◌, le_refl, arith}
use Rattle.std.specs.FinSet as set
use Rattle.std.proofs.Math.Nat.{le_trans}
use Rattle.std.proofs.Math.Path.{transport}
use Rattle.std.proofs.lemmas.Bool.{false≢true}
use Rattle.std.proofs.lemmas.List.{nil_from_length}
use Rattle.std.proofs.lemmas.List.Elements.{Contains-append_cases, Contains-append_left, Contains-append_right}
use Rattle.std.proofs.lemmas.List.Sorted.{Contains-permutation, IsPermutation-sym, length_permutation}
use Rattle.gix_hash.specs.declared.ObjectId.{ObjectId}
use Rattle.gix_hash.specs.Id.{is_among, is_same}
use Rattle.gix_hash.proofs.Ids.Membership.{among-append, among_is, Contains-cons_cases, Contains-here, Contains-there, id_total, no_member, same_is}
use Rattle.gix_hash.proofs.Lists.{only_member}
use Rattle.gix_object.specs.Object.{Objects}
use Rattle.gix_commitgraph.specs.Rows.{row_of}
use Rattle.gix_contained.specs.declared.search.Search.{Search}
use Rattle.gix_contained.specs.Inside.Search.{Knows, MeetFails, Meets, Queued}
use Rattle.gix_paint.specs.declared.Hidden.{Hidden}
use Rattle.gix_paint.specs.Painting.{IsFaultAt}
use Rattle.gix_revwalk.specs.Agreeing.{rows_of}
use Rattle.gix_revwalk.specs.Ids.{new_ids}
use Rattle.gix_revwalk.proofs.NewIds.{fresh_agree, new_less}

pub fails_as : {T : Type 0} (P : Hidden → Type 0) (r : Result T Hidden) {why : Hidden} → IsErrAnd r (λ e. e ≡ why) → P why → IfErr r P
fails_as P (Ok done) h x = absurd h
fails_as P (Err e) h x = subst P (sym h) x

or_between : (a b c : Bool) → (b || (a || c)) ≡ ((a || b) || c)
or_between true true c = refl
or_between true false c = refl
or_between false b c = refl

module _ {F : Type 0} (objects : F → Objects) where
  pub meets_none : (s : Search F) → Meets objects [] s s
  meets_none s = record {
    objects_stay = refl;
    graph_stays = refl;
    use_stays = refl;
    met = λ i. refl;
    keeps = λ q c. c;
    adds = λ q c. inl c;
    waits = λ i c e. absurd (no_member i c);
    spends = λ named h. le_refl _;
  }

  module _ (xs ys : List ObjectId) {p mid : Search F} (a : Meets objects xs p mid) where
    moved : (i : ObjectId) (q : Queued) → Knows (objects mid.source.objects.now) (rows_of mid.source.graph) mid.source.in_use i q → Knows (objects p.source.objects.now) (rows_of p.source.graph) p.source.in_use i q
    moved i q h = transport (λ k. Knows (objects (a.objects_stay k).now) (rows_of (a.graph_stays k)) (a.use_stays k) i q) h

    abbrev WaitsSo : Search F → ObjectId → Type 0
    WaitsSo new i = (q : Queued) × Contains new.queue q × Knows (objects p.source.objects.now) (rows_of p.source.graph) p.source.in_use i q

    pub meets_then : {new : Search F} → Meets objects ys mid new → Meets objects (xs ++ ys) p new
    meets_then {new} b = record {
      objects_stay = b.objects_stay ∙ a.objects_stay;
      graph_stays = b.graph_stays ∙ a.graph_stays;
      use_stays = b.use_stays ∙ a.use_stays;
      met = λ i. b.met i ∙ ap (λ m. is_among i ys || m) (a.met i) ∙ or_between (is_among i xs) (is_among i ys) (set.contains p.met i) ∙ ap (λ m. m || set.contains p.met i) (sym (among-append i xs ys));
      keeps = λ q c. b.keeps q (a.keeps q c);
      adds = λ q c. ⊎_elim (λ o. ⊎_elim (λ k. inl k) (λ n. inr (Contains-append_left xs ys q.1.id n.0, n.1)) (a.adds q o)) (λ n. inr (Contains-append_right xs ys q.1.id n.0, moved q.1.id q n.1)) (b.adds q c);
      waits = λ i c e. ⊎_elim (λ m. early i m e) (λ m. late i m e (set.contains mid.met i) refl) (Contains-append_cases xs ys i c);
      spends = λ named h. le_trans (b.spends named (λ i c. h i (Contains-append_right xs ys i c))) (a.spends named (λ i c. h i (Contains-append_left xs ys i c)));
    }
      where
        early : (i : ObjectId) → Contains xs i → set.contains p.met i ≡ false → WaitsSo new i
        early i m e = let w = a.waits i m e in (w.0, b.keeps w.0 w.1, w.2)

        late : (i : ObjectId) → Contains ys i → set.contains p.met i ≡ false → (k : Bool) → set.contains mid.met i ≡ k → WaitsSo new i
        late i m e false n = let w = b.waits i m n in (w.0, w.1, moved i w.0 w.2)
        late i m e true n = early i (among_is i xs (let s = a.met i in grind arith)) e

    -- what fails for the ids behind some fails for all
    pub fails_then : (faulty : F → ObjectId → Type 0) (why : Hidden) → MeetFails objects faulty ys mid why → MeetFails objects faulty (xs ++ ys) p why
    fails_then faulty why f n =
        let k = f n in (
          k.0,
          Contains-append_right xs ys k.0 k.1,
          ⊎_elim (λ r. inl (transport (λ j. row_of (rows_of (a.graph_stays j)) k.0 ≡ None) r)) (λ u. inr (sym a.use_stays ∙ u)) k.2,
          transport (λ j. IsFaultAt (objects (a.objects_stay j).now) (faulty (a.objects_stay j).now) k.0 why) k.3,
        )

  pub fails_first : (xs ys : List ObjectId) (p : Search F) (faulty : F → ObjectId → Type 0) (why : Hidden) → MeetFails objects faulty xs p why → MeetFails objects faulty (xs ++ ys) p why
  fails_first xs ys p faulty why f n = let k = f n in (k.0, Contains-append_left xs ys k.0 k.1, k.2, k.3)

  -- an id is met
  module _ (i : ObjectId) (p new : Search F) (objects_stay : new.source.objects ≡ p.source.objects) (graph_stays : new.source.graph ≡ p.source.graph) (use_stays : new.source.in_use ≡ p.source.in_use) (met : new.met ≡ set.insert p.met i) where
    marked : (j : ObjectId) → set.contains new.met j ≡ (is_same j i || set.contains p.met j)
    marked j = ap (λ m. set.contains m j) met ∙ set.contains-insert id_total p.met i j

    also : (a b : Bool) → (a || b) ≡ ((a || false) || b)
    also true b = refl
    also false b = refl

    -- an id more leaves less room
    room_same : (named : List ObjectId) → set.contains p.met i ≡ true → length (new_ids (set.contains new.met) named) ≡ length (new_ids (set.contains p.met) named)
    room_same named e = ap length (fresh_agree _ _ named (λ j h. let now = marked j in let same : is_same j i ≡ true → set.contains p.met j ≡ set.contains p.met i = λ s. ap (set.contains p.met) (same_is j i s) in grind arith))

    room_less : (named : List ObjectId) → is_among i named ≡ true → set.contains p.met i ≡ false → suc (length (new_ids (set.contains new.met) named)) ≡ length (new_ids (set.contains p.met) named)
    room_less named among e = ap (λ xs. suc (length xs)) (fresh_agree _ _ named (λ j h. marked j)) ∙ new_less (set.contains p.met) named i among e

    pub met_before : set.contains p.met i ≡ true → new.queue ≡ p.queue → Meets objects (i ∷ []) p new
    met_before e queue = record {
      objects_stay = objects_stay;
      graph_stays = graph_stays;
      use_stays = use_stays;
      met = λ j. marked j ∙ also (is_same j i) (set.contains p.met j);
      keeps = λ q c. subst (λ qs. Contains qs q) (sym queue) c;
      adds = λ q c. inl (subst (λ qs. Contains qs q) queue c);
      waits = λ j c n. absurd (false≢true (sym n ∙ ap (set.contains p.met) (sym (only_member i j c)) ∙ e));
      spends = λ named h. let same = room_same named e in let rest = ap length queue in omega arith;
    }

    pub met_new : set.contains p.met i ≡ false → (q : Queued) → Knows (objects p.source.objects.now) (rows_of p.source.graph) p.source.in_use i q → IsPermutation (q ∷ p.queue) new.queue → Meets objects (i ∷ []) p new
    met_new unmet q known queue = record {
      objects_stay = objects_stay;
      graph_stays = graph_stays;
      use_stays = use_stays;
      met = λ j. marked j ∙ also (is_same j i) (set.contains p.met j);
      keeps = λ w c. Contains-permutation _ _ w queue (Contains-there w q p.queue c);
      adds = λ w c. ⊎_elim
          (λ s. inr (subst (λ x. Contains (i ∷ []) x.1.id × Knows (objects p.source.objects.now) (rows_of p.source.graph) p.source.in_use x.1.id x) s
          (subst (Contains (i ∷ [])) (sym known.of_id) (Contains-here i []), subst (λ j. Knows (objects p.source.objects.now) (rows_of p.source.graph) p.source.in_use j q) (sym known.of_id) known)))
          (λ o. inl o) (Contains-cons_cases w q p.queue (Contains-permutation _ _ w (IsPermutation-sym _ _ queue) c));
      waits = λ j c n. (q, Contains-permutation _ _ q queue (Contains-here q p.queue), subst (λ k. Knows (objects p.source.objects.now) (rows_of p.source.graph) p.source.in_use k q) (only_member i j c) known);
      spends = λ named h. let less = room_less named (h i (Contains-here i [])) unmet in let one : suc (length p.queue) ≡ length new.queue = sym (length_permutation _ _ queue) in omega arith;
    }

-- to meet the ids that are left is to meet them all, and what fails for these fails for all
pub record IsLeft {F : Type 0} (objects : F → Objects) (faulty : F → ObjectId → Type 0) (all : List ObjectId) (old : Search F) (ids : List ObjectId) (s : Search F) : Type 0 where
  pub meets : {new : Search F} → Meets objects ids s new → Meets objects all old new
  pub fails : (why : Hidden) → MeetFails objects faulty ids s why → MeetFails objects faulty all old why

module _ {F : Type 0} (objects : F → Objects) (faulty : F → ObjectId → Type 0) {all : List ObjectId} {old : Search F} {ids : List ObjectId} {s : Search F} (h : IsLeft objects faulty all old ids s) where
  pub none_left : length ids ≡ 0 → Meets objects all old s
  none_left e = h.meets (subst (λ xs. Meets objects xs s s) (sym (nil_from_length ids e)) (meets_none objects s))

  module _ (i : ObjectId) (rest : List ObjectId) (first : ids ≡ i ∷ rest) where
    pub left_step : {mid : Search F} → Meets objects (i ∷ []) s mid → IsLeft objects faulty all old rest mid
    left_step {mid} m = record {
      meets = λ {new} n. h.meets (subst (λ xs. Meets objects xs s new) (sym first) (meets_then objects (i ∷ []) rest m n));
      fails = λ why f. h.fails why (subst (λ xs. MeetFails objects faulty xs s why) (sym first) (fails_then objects (i ∷ []) rest m faulty why f));
    }

    pub left_fails : (why : Hidden) → MeetFails objects faulty (i ∷ []) s why → MeetFails objects faulty all old why
    left_fails why f = h.fails why (subst (λ xs. MeetFails objects faulty xs s why) (sym first) (fails_first objects (i ∷ []) rest s faulty why f))

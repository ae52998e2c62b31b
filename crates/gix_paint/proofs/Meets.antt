-- To meet ids one by one is to meet them all.
use Rattle.std.proofs.Common.{◌≡◌, ◌≢◌, ◌⊎◌, ◌≤◌, ◌+◌, ℕ, suc, List, [], ◌∷◌, ◌++◌, length, Bool, true, false, not, ◌&&◌, ◌||◌, cond, is_some, Option, Some, None, Contains, IsPermutation, refl, sym, ap, subst, inl, inr, ⊎_elim, ◌∙◌}
use Rattle.std.proofs.Common.{arith}
use Rattle.std.proofs.lemmas.List.{nil_from_length}
use Rattle.gix_paint.proofs.Common.{Contains-append_left, Contains-append_right, Contains-append_cases, Contains-permutation, IsPermutation-sym, length_permutation, ObjectId, is_same, is_among, Side, QueueEntry, Painter, AddsMark, AllMarks}
use Rattle.gix_paint.proofs.Common.{hides, is_told, mark_of, new_ids, side_at, Becomes, stays, shows, covers, rows_used, WaitsWithRow, IsQueued, IsTidy, IsWaiting, Meets, room}
use Rattle.gix_paint.proofs.Common.{same_is, same_itself, Contains-here, Contains-there, Contains-cons_cases, no_member}
use Rattle.std.specs.FinSet as set
use Rattle.gix_paint.specs.declared.Side.TheVariants as side
use Rattle.gix_paint.specs.declared.queue.Generation.{Generation}
use Rattle.gix_paint.proofs.Invariant.{later, waiting_stays}
use Rattle.gix_paint.proofs.OneMoreMark.{bit_of, knows, marked_again}
use Rattle.gix_revwalk.proofs.NewIds.{fresh, fresh_agree, new_less}
use Rattle.gix_hash.proofs.Lists.{only_member}

-- what two meetings make of an id
becomes_both : {on : Side} {met1 met2 met3 queued1 queued2 : Type 0} {a b c : Option Side} → (met3 → met1 ⊎ met2) → (met1 → met3) → (met2 → met3) → ((on ≡ side.Visible → c ≢ Some side.Hidden) → queued1 → queued2) → Becomes on met1 queued1 a b → Becomes on met2 queued2 b c → Becomes on met3 queued2 a c
becomes_both part one two later (stays f) (stays g) = stays (λ m. ⊎_elim f g (part m))
becomes_both part one two later (stays f) (shows v m q) = shows v (two m) q
becomes_both part one two later (stays f) (covers v m q) = covers v (two m) q
becomes_both part one two later (shows v m q) (stays g) = shows v (one m) (later (λ u hidden. cc) q)
becomes_both part one two later (shows v m q) (covers u n r) = covers u (two n) r
becomes_both part one two later (covers v m q) (stays g) = covers v (one m) (later (λ u. let bad : side.Visible ≡ side.Hidden = sym u ∙ v in cc) q)
becomes_both part one two later (covers v m q) (covers u n r) = covers u (two n) r

-- what a side knows is met, and hidden if it is the hidden side
abbrev IsKnown : Side → Option Side → Type 0
IsKnown on o = (o ≢ None) × (on ≡ side.Hidden → o ≡ Some side.Hidden)

is_known : (on : Side) (o : Option Side) → knows on o ≡ true → IsKnown on o
is_known side.Visible None e = cc
is_known side.Visible (Some s) e = (λ n. cc, λ h. cc)
is_known side.Hidden None e = cc
is_known side.Hidden (Some side.Visible) e = cc
is_known side.Hidden (Some side.Hidden) e = (λ n. cc, λ h. refl)

-- an id that a side doesn't know is marked for it
becomes_new : {met queued : Type 0} (on : Side) (o : Option Side) → knows on o ≡ false → met → queued → Becomes on met queued o (Some on)
becomes_new side.Visible None e m q = shows refl m q
becomes_new side.Visible (Some mark) e m q = cc
becomes_new side.Hidden o e m q = covers refl m q

module _ {F : Type 0} where
  -- what is known already isn't met anew
  meets_same : (on : Side) (ids : List ObjectId) (p : Painter F) (marks : AllMarks) → ((j : ObjectId) → side_at marks j ≡ mark_of p j) → ((i : ObjectId) → Contains ids i → IsKnown on (mark_of p i)) → Meets on ids p (record p { marks = marks })
  meets_same on ids p marks same known = record {
    source_stays = refl;
    marks = λ j. subst (Becomes on (Contains ids j) (IsWaiting (record p { marks = marks }) on j) (mark_of p j)) (sym (same j)) (stays (known j));
    keeps = λ q c. c;
    adds = λ q c. inl c;
    keeps_frontier = λ j c n. c;
    tidies = λ t j c. let waits = t j c in (same j ∙ waits.0, waits.1, waits.2, waits.3, waits.4, waits.5);
    spends = λ named h. subst (λ (mark : ObjectId → Option Side). length (new_ids (λ j. is_some (mark j)) named) + length (new_ids (λ j. hides (mark j)) named) + length p.queue ≤ room named p) (λ k j. sym (same j) k) (Rattle.std.proofs.Common.le_refl _);
  }

  pub meets_again : (on : Side) (i : ObjectId) (p : Painter F) (marks : AllMarks) → AddsMark (bit_of on) i p.marks marks → knows on (mark_of p i) ≡ true → Meets on (i ∷ []) p (record p { marks = marks })
  meets_again on i p marks adds known = meets_same on (i ∷ []) p marks (marked_again on i p.marks marks adds known) (λ j m. subst (λ k. IsKnown on (mark_of p k)) (only_member i j m) (is_known on (mark_of p i) known))

  pub meets_none : (on : Side) (p : Painter F) → Meets on [] p p
  meets_none on p = meets_same on [] p p.marks (λ j. refl) (λ j m. absurd (no_member j m))

  pub meets_then : {on : Side} (xs ys : List ObjectId) {p mid new : Painter F} → Meets on xs p mid → Meets on ys mid new → Meets on (xs ++ ys) p new
  meets_then {on} xs ys {p} {mid} {new} a b = record {
    source_stays = b.source_stays ∙ a.source_stays;
    marks = λ i. becomes_both (Contains-append_cases xs ys i) (Contains-append_left xs ys i) (Contains-append_right xs ys i) (waiting_stays b on i) (a.marks i) (b.marks i);
    keeps = λ q c. b.keeps q (a.keeps q c);
    adds = λ q c. ⊎_elim (λ o. ⊎_elim (λ e. inl e) (λ n. inr (Contains-append_left xs ys q.1.id n.0, n.1, n.2)) (a.adds q o)) (λ n. inr (Contains-append_right xs ys q.1.id n.0, n.1, subst (λ source. IsQueued (rows_used source) q) a.source_stays n.2)) (b.adds q c);
    keeps_frontier = λ i c n. b.keeps_frontier i (a.keeps_frontier i c (λ e. n ((later (b.marks i)).hidden_stays e))) n;
    tidies = λ t. b.tidies (a.tidies t);
    spends = λ named h. Rattle.std.proofs.Math.Nat.le_trans (b.spends named (λ i c. h i (Contains-append_right xs ys i c))) (a.spends named (λ i c. h i (Contains-append_left xs ys i c)));
  }

  -- an id is marked, and put into the queue
  module _ (on : Side) (i : ObjectId) (p new : Painter F) (generation : Generation) (source : new.source ≡ p.source) (marks_now : (j : ObjectId) → mark_of new j ≡ cond (is_same j i) (Some on) (mark_of p j)) (queue : IsPermutation ((generation, record { id = i; side = on }) ∷ p.queue) new.queue) where
    other : (j : ObjectId) → is_same j i ≡ false → Contains (i ∷ []) j → ⊥
    other j e m = let t : true ≡ false = sym (same_itself i) ∙ ap (λ k. is_same k i) (only_member i j m) ∙ e in cc

    abbrev entry : QueueEntry
    entry = (generation, record { id = i; side = on })

    kept : (e : QueueEntry) → Contains p.queue e → Contains new.queue e
    kept e c = Contains-permutation _ _ e queue (Contains-there e entry p.queue c)

    there : Contains new.queue entry
    there = Contains-permutation _ _ entry queue (Contains-here entry p.queue)

    length_now : length new.queue ≡ suc (length p.queue)
    length_now = length_permutation _ _ queue

    -- how many ids of a list don't pass a test of their marks
    abbrev left : (Option Side → Bool) → AllMarks → List ObjectId → ℕ
    left f ms named = length (fresh (λ j. f (side_at ms j)) named)

    module _ (f : Option Side → Bool) (named : List ObjectId) (among : is_among i named ≡ true) where
      left_same : f (Some on) ≡ f (mark_of p i) → left f new.marks named ≡ left f p.marks named
      left_same e = ap length (fresh_agree _ _ named (λ j h. let now = marks_now j in let same : is_same j i ≡ true → f (mark_of p j) ≡ f (mark_of p i) = λ s. ap (λ k. f (mark_of p k)) (same_is j i s) in grind arith))

      left_less : f (Some on) ≡ true → f (mark_of p i) ≡ false → suc (left f new.marks named) ≡ left f p.marks named
      left_less t e = ap (λ ids. suc (length ids)) (fresh_agree _ _ named (λ j h. let now = marks_now j in grind arith)) ∙ new_less (λ j. f (mark_of p j)) named i among e

    -- where the id is new to the side, it is met; a visible one that has a row is in the frontier then, and a hidden one isn't
    pub meets_new : knows on (mark_of p i) ≡ false → IsQueued (rows_used p.source) entry
        → ((j : ObjectId) → set.contains new.frontier j ≡ cond (is_same j i) (not (hides (Some on)) && (is_told generation || set.contains p.frontier i)) (set.contains p.frontier j)) → Meets on (i ∷ []) p new
    meets_new unknown known frontier = record {
      source_stays = source;
      marks = λ j. becomes j (is_same j i) refl;
      keeps = kept;
      adds = λ e c. ⊎_elim (λ s. inr (subst (λ x. Contains (i ∷ []) x.1.id × (x.1.side ≡ on) × IsQueued (rows_used p.source) x) s (Contains-here i [], refl, known))) (λ o. inl o)
          (Contains-cons_cases e entry p.queue (Contains-permutation _ _ e (IsPermutation-sym _ _ queue) c));
      keeps_frontier = λ j c n. stays_in j c n (is_same j i) refl on refl;
      tidies = λ t j c. tidied t j c (is_same j i) refl on refl;
      spends = λ named h. spent named (h i (Contains-here i [])) on refl;
    }
      where
        waits : IsWaiting new on i
        waits = record { entry = entry; queued = there; on_side = refl; of_id = refl; in_frontier = λ v told. let now = frontier i in let same = same_itself i in let visible : hides (Some on) ≡ false = ap (λ s. hides (Some s)) v in grind arith }

        becomes : (j : ObjectId) (b : Bool) → is_same j i ≡ b → Becomes on (Contains (i ∷ []) j) (IsWaiting new on j) (mark_of p j) (mark_of new j)
        becomes j true e =
            subst (Becomes on (Contains (i ∷ []) j) (IsWaiting new on j) (mark_of p j)) (sym (let now = marks_now j in grind arith))
            (becomes_new on (mark_of p j) (ap (λ k. knows on (mark_of p k)) (same_is j i e) ∙ unknown) (subst (Contains (i ∷ [])) (sym (same_is j i e)) (Contains-here i [])) (subst (IsWaiting new on) (sym (same_is j i e)) waits))
        becomes j false e = subst (Becomes on (Contains (i ∷ []) j) (IsWaiting new on j) (mark_of p j)) (sym (let now = marks_now j in grind arith)) (stays (λ m. absurd (other j e m)))

        stays_in : (j : ObjectId) → set.contains p.frontier j ≡ true → mark_of new j ≢ Some side.Hidden → (b : Bool) → is_same j i ≡ b → (s : Side) → on ≡ s → set.contains new.frontier j ≡ true
        stays_in j c n false e s v = let now = frontier j in grind arith
        stays_in j c n true e side.Visible v =
            let now = frontier j in
            let was : set.contains p.frontier i ≡ true = ap (set.contains p.frontier) (sym (same_is j i e)) ∙ c in
            let visible : hides (Some on) ≡ false = ap (λ s. hides (Some s)) v in
            grind arith
        stays_in j c n true e side.Hidden v = absurd (n (let now = marks_now j in (let mark : mark_of new j ≡ Some on = grind arith in mark ∙ ap (λ s. Some s) v)))

        tidied : IsTidy p → (j : ObjectId) → set.contains new.frontier j ≡ true → (b : Bool) → is_same j i ≡ b → (s : Side) → on ≡ s → WaitsWithRow new j
        tidied t j c false e s v =
            let now = frontier j in
            let opened = t j (grind arith) in
            ((let mark = marks_now j in (let same : mark_of new j ≡ mark_of p j = grind arith in same ∙ opened.0)), opened.1, kept opened.1 opened.2, opened.3, opened.4, opened.5)
        tidied t j c true e side.Hidden v = absurd (let now = frontier j in let hidden : hides (Some on) ≡ true = ap (λ s. hides (Some s)) v in let bad : true ≡ false = grind arith in cc)
        tidied t j c true e side.Visible v = (
          (let mark = marks_now j in (let same : mark_of new j ≡ Some on = grind arith in same ∙ ap (λ s. Some s) v)),
          entry,
          there,
          v,
          sym (same_is j i e),
          told (is_told generation) refl,
        )
          where
            told : (b : Bool) → is_told generation ≡ b → is_told generation ≡ true
            told true k = k
            told false k =
                let now = frontier j in
                let opened = t i (grind arith) in
                absurd (let known : knows side.Visible (mark_of p i) ≡ false = ap (λ s. knows s (mark_of p i)) (sym v) ∙ unknown in let bad : true ≡ false = sym (ap is_some opened.0) ∙ known in cc)

        spent : (named : List ObjectId) → is_among i named ≡ true → (s : Side) → on ≡ s → room named new ≤ room named p
        spent named e side.Visible v =
            let fresh_here : is_some (mark_of p i) ≡ false = ap (λ s. knows s (mark_of p i)) (sym v) ∙ unknown in
            let marked : suc (left is_some new.marks named) ≡ left is_some p.marks named = left_less is_some named e refl fresh_here in
            let hidden : left hides new.marks named ≡ left hides p.marks named = left_same hides named e (grind arith) in
            let longer = length_now in
            omega arith
        spent named e side.Hidden v =
            let hidden : suc (left hides new.marks named) ≡ left hides p.marks named = left_less hides named e (ap (λ s. hides (Some s)) v) (ap (λ s. knows s (mark_of p i)) (sym v) ∙ unknown) in
            let same : is_some (mark_of p i) ≡ true → left is_some new.marks named ≡ left is_some p.marks named = λ o. left_same is_some named e (sym o) in
            let less : is_some (mark_of p i) ≡ false → suc (left is_some new.marks named) ≡ left is_some p.marks named = left_less is_some named e refl in
            let longer = length_now in
            grind arith

  -- to meet the ids that are left is to meet them all
  abbrev pub IsLeft : Side → List ObjectId → Painter F → List ObjectId → Painter F → Type 0
  IsLeft on all old ids p = (new : Painter F) → Meets on ids p new → Meets on all old new

  module _ {on : Side} {all : List ObjectId} {old : Painter F} {ids : List ObjectId} {p : Painter F} (h : IsLeft on all old ids p) where
    pub none_left : length ids ≡ 0 → Meets on all old p
    none_left e = h p (subst (λ xs. Meets on xs p p) (sym (nil_from_length ids e)) (meets_none on p))

    pub left_step : (i : ObjectId) (rest : List ObjectId) → ids ≡ i ∷ rest → (mid : Painter F) → Meets on (i ∷ []) p mid → IsLeft on all old rest mid
    left_step i rest first mid m new n = h new (subst (λ xs. Meets on xs p new) (sym first) (meets_then (i ∷ []) rest m n))

-- Ids one after the other, each of which may lose a child, and may become ready: which become ready, and in which order.
use Rattle.std.proofs.Common.{◌≡◌, ◌≤◌, ◌+◌, ℕ, List, [], ◌∷◌, ◌++◌, Bool, true, false, cond, Contains, refl, sym, ap, subst, ⊎_elim, ◌∙◌, arith, zero-add, true≢false, append-nil}
use Rattle.gix_topo.proofs.Common.{false_from_ne_true, or_cases, or_from, or_left, or_parts, ObjectId, is_same, is_among, Objects, same_is, same_itself, among_from, among_is, Contains-here, no_member, Side, Ends, Frontier, Walk, is_seen}
use Rattle.gix_topo.proofs.Common.{is_due, known_of, reached, with_frontier, Pushes, Starts, StartsAll, Keeps, passed, distinct_after, Ready, ready_ids, only_member}
use Rattle.gix_topo.specs.Inside.Starting.{waits, frees, none, more}
use Rattle.gix_revwalk.specs.Ids.{times}
use Rattle.gix_topo.specs.TopoOrder.{none as keeps_none, kept}
use Rattle.gix_topo.proofs.Counts.Frontier.{has_seen}
use Rattle.gix_topo.proofs.Counts.Children.{children_of, was_ready_of}
use Rattle.gix_topo.proofs.Counts.MakesReady.{MakesReady, made_none, made_one, made_more, marks_ready_known, makes_moved, due_parts, due_from}
use Rattle.gix_topo.proofs.Readiness.ReadyIds.{from_ids, ids-append, holds_on}
use Rattle.gix_topo.proofs.Readiness.IsReady.{keeps_in, keeps_on, keeps_append, first_from}

module _ {F : Type 0} (objects : F → Objects) (faulty : F → ObjectId → Type 0) where
  -- becoming ready, as the end shows it: no child is left, no end has seen it, and it wasn't ready before
  pub record IsDue (old new : Walk F) (p : ObjectId) : Type 0 where
    pub none_left : children_of new.counting.frontier p ≡ 0
    pub outside : has_seen new.counting.frontier Ends p ≡ false
    pub unmade : was_ready_of old.counting.frontier p ≡ false

  -- what these ids do, where each of them loses a child or none does
  pub record Frees (loses : Bool) (old : Walk F) (ids : List ObjectId) (added : List Ready) (new : Walk F) : Type 0 where
    pub ready : MakesReady objects faulty old ids added new
    pub children : (p : ObjectId) → cond loses (times p ids) 0 + children_of new.counting.frontier p ≡ children_of old.counting.frontier p
    pub holds : new.ready.commits ≡ old.ready.commits ++ added
    -- each at its first place, except for ids behind ids that aren't due
    pub due : ((p : ObjectId) → cond loses (times p ids) 0 ≤ 1) → (seen : List ObjectId) → ((j : ObjectId) → is_among j seen ≡ true → IsDue old new j → ⊥) → Keeps (IsDue old new) (distinct_after seen ids) (ready_ids added)

  pub frees_none : (loses : Bool) (old : Walk F) → Frees loses old [] [] old
  frees_none loses old = record {
    ready = made_none objects faulty old old.counting.frontier [] refl (λ s j. refl) (λ j. refl);
    children = λ p. nothing loses (children_of old.counting.frontier p);
    holds = sym (append-nil old.ready.commits);
    due = λ once seen h. keeps_none;
  }
    where
      nothing : (b : Bool) (n : ℕ) → cond b 0 0 + n ≡ n
      nothing b n = grind arith

  -- one id, where its child is lost so
  module _ (loses : Bool) (old : Walk F) (f : Frontier) (i : ObjectId) (queue : f.queue ≡ old.counting.frontier.queue) (moved : (s : Side) (j : ObjectId) → reached f.known s j ≡ reached old.counting.frontier.known s j) (made : (j : ObjectId) → was_ready_of f j ≡ was_ready_of old.counting.frontier j)
      (less : (p : ObjectId) → cond loses (times p (i ∷ [])) 0 + children_of f p ≡ children_of old.counting.frontier p) where
    pub waits_one : is_due (children_of f i) (known_of f.known i) ≡ false → Frees loses old (i ∷ []) [] (with_frontier objects faulty old f)
    waits_one d = record {
      ready = made_none objects faulty old f (i ∷ []) queue moved made;
      children = less;
      holds = sym (append-nil old.ready.commits);
      due = λ once seen h. go (is_among i seen);
    }
      where
        go : (b : Bool) → Keeps (IsDue old (with_frontier objects faulty old f)) (cond b [] (i ∷ [])) []
        go true = keeps_none
        go false = passed (λ q. true≢false (sym (due_from objects faulty (children_of f i) (known_of f.known i) q.none_left q.outside (made i ∙ q.unmade)) ∙ d)) keeps_none

    pub frees_one : {r : Ready} {new : Walk F} → is_due (children_of f i) (known_of f.known i) ≡ true → Pushes objects faulty (with_frontier objects faulty old f) i r new → Frees loses old (i ∷ []) (r ∷ []) new
    frees_one {r} {new} d p = record {
      ready = made_one objects faulty old f queue moved made p;
      children = λ j. ap (λ k. cond loses (times j (i ∷ [])) 0 + k) (marks_ready_known objects faulty f new.counting.frontier i p.made j).0 ∙ less j;
      holds = p.holds;
      due = λ once seen h. go seen h (is_among i seen) refl;
    }
      where
        is_due_now : IsDue old new i
        is_due_now =
            let parts = due_parts objects faulty (children_of f i) (known_of f.known i) d in
            record { none_left = (marks_ready_known objects faulty f new.counting.frontier i p.made i).0 ∙ parts.0; outside = ap is_seen (makes_moved objects faulty f new.counting.frontier i p.made Ends i) ∙ parts.1; unmade = sym (made i) ∙ parts.2 }

        go : (seen : List ObjectId) → ((j : ObjectId) → is_among j seen ≡ true → IsDue old new j → ⊥) → (b : Bool) → is_among i seen ≡ b → Keeps (IsDue old new) (cond b [] (i ∷ [])) (r.id ∷ [])
        go seen h true e = absurd (h i e is_due_now)
        go seen h false e = subst (λ j. Keeps (IsDue old new) (i ∷ []) (j ∷ [])) (sym p.id) (kept is_due_now keeps_none)

  -- one id, and then others
  pub frees_more : (loses : Bool) (old mid new : Walk F) (i : ObjectId) (ids : List ObjectId) (first others : List Ready) → Frees loses old (i ∷ []) first mid → Frees loses mid ids others new → Frees loses old (i ∷ ids) (first ++ others) new
  frees_more loses old mid new i ids first others a b = record {
    ready = made_more objects faulty old mid new i ids first others a.ready b.ready;
    children = λ p. joined loses (cond (is_same p i) 1 0) (times p ids) (children_of new.counting.frontier p) (children_of mid.counting.frontier p) (children_of old.counting.frontier p) (a.children p) (b.children p);
    holds = holds_on old.ready.commits first mid.ready.commits others new.ready.commits a.holds b.holds;
    due = due;
  }
    where
      joined : (l : Bool) (c t x y z : ℕ) → cond l (c + 0) 0 + y ≡ z → cond l t 0 + x ≡ y → cond l (c + t) 0 + x ≡ z
      joined l c t x y z g h = grind arith

      settled : (l : Bool) (t x y : ℕ) → cond l (1 + t) 0 ≤ 1 → cond l t 0 + x ≡ y → x ≡ y
      settled l t x y o h = grind arith

      fewer : (l : Bool) (c t : ℕ) → cond l (c + t) 0 ≤ 1 → (cond l (c + 0) 0 ≤ 1) × (cond l t 0 ≤ 1)
      fewer l c t o = (grind arith, grind arith)

      -- what is due after the first, or was due then, is due
      later : (p : ObjectId) → IsDue mid new p → IsDue old new p
      later p d = record { none_left = d.none_left; outside = d.outside; unmade = (or_parts (is_among p (ready_ids first)) (was_ready_of old.counting.frontier p) (sym (a.ready.made p) ∙ d.unmade)).1 }

      sooner : (p : ObjectId) → IsDue old mid p → IsDue old new p
      sooner p d = record { none_left = (let e = b.children p in let z : children_of mid.counting.frontier p ≡ 0 = d.none_left in omega arith); outside = ap is_seen (b.ready.moved Ends p) ∙ d.outside; unmade = d.unmade }

      due : ((p : ObjectId) → cond loses (times p (i ∷ ids)) 0 ≤ 1) → (seen : List ObjectId) → ((j : ObjectId) → is_among j seen ≡ true → IsDue old new j → ⊥) → Keeps (IsDue old new) (distinct_after seen (i ∷ ids)) (ready_ids (first ++ others))
      due once seen h = subst (Keeps (IsDue old new) (distinct_after seen (i ∷ ids))) (sym (ids-append first others)) (go (is_among i seen) refl)
        where
          each : (p : ObjectId) → (cond loses (cond (is_same p i) 1 0 + 0) 0 ≤ 1) × (cond loses (times p ids) 0 ≤ 1)
          each p = fewer loses (cond (is_same p i) 1 0) (times p ids) (once p)

          back : IsDue old new i → IsDue old mid i
          back d = record {
            none_left = sym (settled loses (times i ids) (children_of new.counting.frontier i) (children_of mid.counting.frontier i) (subst (λ x. cond loses (cond x 1 0 + times i ids) 0 ≤ 1) (same_itself i) (once i)) (b.children i)) ∙ d.none_left;
            outside = sym (ap is_seen (b.ready.moved Ends i)) ∙ d.outside;
            unmade = d.unmade;
          }

          lone : (x : Bool) (j : ObjectId) → Contains (cond x [] (i ∷ [])) j → i ≡ j
          lone true j m = absurd (no_member j m)
          lone false j m = only_member i j m

          head : Keeps (IsDue old new) (cond (is_among i seen) [] (i ∷ [])) (ready_ids first)
          head = keeps_on (λ j m. sooner j) (λ j m d. subst (IsDue old mid) (lone (is_among i seen) j m) (back (subst (IsDue old new) (sym (lone (is_among i seen) j m)) d))) (a.due (λ p. (each p).0) seen (λ j e d. h j e (sooner j d)))

          rest : (those : List ObjectId) → ((j : ObjectId) → is_among j those ≡ true → IsDue mid new j → ⊥) → is_among i those ≡ true → Keeps (IsDue old new) (distinct_after those ids) (ready_ids others)
          rest those n k = keeps_on (λ j m. later j) (λ j m d. record { none_left = d.none_left; outside = d.outside; unmade = a.ready.made j ∙ or_from (is_among j (ready_ids first)) (was_ready_of old.counting.frontier j) (false_from_ne_true _ (apart j m)) d.unmade })
              (b.due (λ p. (each p).1) those n)
            where
              apart : (j : ObjectId) → Contains (distinct_after those ids) j → is_among j (ready_ids first) ≡ true → ⊥
              apart j m e =
                  let r : (r : Ready) × Contains first r × (r.id ≡ j) = from_ids first j (among_is j (ready_ids first) e) in
                  true≢false (sym (subst (λ x. is_among x those ≡ true) (only_member i r.0.id (a.ready.among r.0 r.1) ∙ r.2) k) ∙ (first_from those ids j m).0)

          go : (x : Bool) → is_among i seen ≡ x → Keeps (IsDue old new) (cond x (distinct_after seen ids) (i ∷ distinct_after (i ∷ seen) ids)) (ready_ids first ++ ready_ids others)
          go true e = keeps_append (subst (λ x. Keeps (IsDue old new) (cond x [] (i ∷ [])) (ready_ids first)) e head) (rest seen (λ j k d. h j k (later j d)) e)
          go false e = keeps_append now (rest (i ∷ seen) (λ j k d. ⊎_elim (λ q. made_now (subst (IsDue mid new) (same_is j i q) d)) (λ q. h j q (later j d)) (or_cases (is_same j i) (is_among j seen) k)) (or_left _ _ (same_itself i)))
            where
              now : Keeps (IsDue old new) (i ∷ []) (ready_ids first)
              now = subst (λ x. Keeps (IsDue old new) (cond x [] (i ∷ [])) (ready_ids first)) e head

              made_now : IsDue mid new i → ⊥
              made_now d = true≢false (sym (a.ready.made i ∙ or_left (is_among i (ready_ids first)) _ (among_from i _ (keeps_in (IsDue old new) now i (Contains-here i []) (later i d)))) ∙ d.unmade)

  -- tips, none of which loses a child
  pub started_one : {old : Walk F} {i : ObjectId} {first : List Ready} {new : Walk F} → Starts objects faulty old i first new → Frees false old (i ∷ []) first new
  started_one {old} {i} (waits d) = waits_one false old old.counting.frontier i refl (λ s j. refl) (λ j. refl) (λ p. zero-add _) d
  started_one {old} {i} (frees d p) = frees_one false old old.counting.frontier i refl (λ s j. refl) (λ j. refl) (λ p. zero-add _) d p

  pub started : {old : Walk F} {ids : List ObjectId} {added : List Ready} {new : Walk F} → StartsAll objects faulty old ids added new → Frees false old ids added new
  started {old} none = frees_none false old
  started {old} {new = new} (more {mid = mid} {i = i} {ids = ids} {first = first} {others = others} s rest) = frees_more false old mid new i ids first others (started_one s) (started rest)

-- How the pending tips are read and sorted out, one after the other.
use Rattle.std.proofs.Common.{◌≡◌, ℤ, List, [], ◌∷◌, ◌++◌, Bool, true, false, not, ◌&&◌, ◌||◌, cond, Option, is_some, Ok, All, IsSome, refl, sym, ap, subst, ◌∙◌, append_assoc, append-nil, arith}
use Rattle.gix_simple.proofs.Common.{and-true, or-false, All-cons, All-nil, ObjectId, is_same, is_among, Objects, id_total, Pending, Error, Sorting, commit_at, time_of, time_in, SimpleWalk, cutoff, is_older, IsTipFault, FailsAtTip}
use Rattle.gix_simple.proofs.Common.{IsSortedIn, SortsIn, SortsAll, IsSortedByTime, timed, recent, outdated}
use Rattle.std.specs.FinSet as set
use Rattle.gix_revwalk.specs.declared.Parents.TheVariants as mode
use Rattle.gix_simple.specs.Building.{none, more}

module _ {F P : Type 0} (objects : F → Objects) (bad : F → ObjectId → Type 0) (limit : Option ℤ) where
  -- what reading one tip changes
  record Read (old : SimpleWalk F P) (i : ObjectId) (time : ℤ) (gone : Bool) (new : SimpleWalk F P) : Type 0 where
    pending : new.pending ≡ old.pending ++ cond gone [] (record { id = i; time = time } ∷ [])
    seen : (j : ObjectId) → set.contains new.seen j ≡ (set.contains old.seen j && not (gone && is_same j i))
    remembered : (j : ObjectId) → set.contains new.remembered j ≡ (set.contains old.remembered j || (gone && is_same j i))
    others : new ≡ record old { pending = new.pending; seen = new.seen; remembered = new.remembered }

  read_in : (old new : SimpleWalk F P) (i : ObjectId) (time : ℤ) (gone : Bool) → IsSortedIn old i time gone new → Read old i time gone new
  read_in old new i time true e = subst (Read old i time true) (sym e) (record {
    pending = sym (append-nil old.pending);
    seen = λ j. let r = set.contains-remove id_total old.seen i j in grind arith;
    remembered = λ j. let r = set.contains-insert id_total old.remembered i j in grind arith;
    others = refl;
  })
  read_in old new i time false e = subst (Read old i time false) (sym e) (record { pending = refl; seen = λ j. grind arith; remembered = λ j. grind arith; others = refl })

  pub kept_store : (old new : SimpleWalk F P) (i : ObjectId) → SortsIn objects bad limit old i (Ok tt) new → new.store ≡ old.store
  kept_store old new i s = ap (λ w. w.store) (read_in old new i s.0 (is_older s.0 limit) s.2).others

  -- what reading some tips leaves of a walk, whatever it held before
  record Sorted (found : Objects) (old : SimpleWalk F P) (tips : List Pending) (new : SimpleWalk F P) : Type 0 where
    read : All (λ p. IsSome (commit_at found p.id)) tips
    pending : new.pending ≡ old.pending ++ recent limit (timed found tips)
    seen : (i : ObjectId) → set.contains new.seen i ≡ (set.contains old.seen i && not (is_among i (outdated limit (timed found tips))))
    remembered : (i : ObjectId) → set.contains new.remembered i ≡ (set.contains old.remembered i || is_among i (outdated limit (timed found tips)))
    others : new ≡ record old { pending = new.pending; seen = new.seen; remembered = new.remembered }

  sorted : {old new : SimpleWalk F P} {tips : List Pending} → SortsAll objects bad limit old tips new → Sorted (objects old.store) old tips new
  sorted (none {old = old}) = record { read = All-nil (λ p. IsSome (commit_at (objects old.store) p.id)); pending = sym (append-nil old.pending); seen = λ i. sym (and-true (set.contains old.seen i)); remembered = λ i. sym (or-false (set.contains old.remembered i)); others = refl }
  sorted (more {old = old} {mid = mid} {new = new} {tip = tip} {tips = tips} s rest) =
      let found : Objects = objects old.store in
      let time : ℤ = time_of found tip.id in
      let f : Read old tip.id time (is_older time limit) mid = subst (λ t. Read old tip.id t (is_older t limit) mid) (sym (ap time_in s.1.stored ∙ s.1.same)) (read_in old mid tip.id s.0 (is_older s.0 limit) s.2) in
      let r : Sorted found mid tips new = subst (λ o. Sorted (objects o) mid tips new) (kept_store old mid tip.id s) (sorted rest) in
      let front : cond (is_older time limit) [] (record { id = tip.id; time = time } ∷ []) ++ recent limit (timed found tips) ≡ recent limit (timed found (tip ∷ tips)) = grind arith in
      record {
        read = All-cons (λ p. IsSome (commit_at found p.id)) tip tips (ap is_some s.1.stored) r.read;
        pending = r.pending ∙ ap (λ ps. ps ++ recent limit (timed found tips)) f.pending ∙ append_assoc old.pending _ _ ∙ ap (λ ps. old.pending ++ ps) front;
        seen = λ i. let a = r.seen i in let b = f.seen i in grind arith;
        remembered = λ i. let a = r.remembered i in let b = f.remembered i in grind arith;
        others = r.others ∙ ap (λ (w : SimpleWalk F P). record w { pending = new.pending; seen = new.seen; remembered = new.remembered }) f.others;
      }

module _ (objects : Objects) (bad : ObjectId → Type 0) where
  pub fails_first : (tip : Pending) (rest tips : List Pending) (e : Error) → tips ≡ tip ∷ rest → IsTipFault objects bad tip.id e → FailsAtTip objects bad tips e
  fails_first tip rest tips e front f = record { before = []; tip = tip; behind = rest; place = front; read = All-nil (λ p. IsSome (commit_at objects p.id)); fault = f }

  pub fails_later : (tip : Pending) (rest tips : List Pending) (e : Error) → tips ≡ tip ∷ rest → IsSome (commit_at objects tip.id) → FailsAtTip objects bad rest e → FailsAtTip objects bad tips e
  fails_later tip rest tips e front some f = record { before = tip ∷ f.before; tip = f.tip; behind = f.behind; place = front ∙ ap (λ xs. tip ∷ xs) f.place; read = All-cons (λ p. IsSome (commit_at objects p.id)) tip f.before some f.read; fault = f.fault }

pub read_some : {F P : Type 0} (objects : F → Objects) (bad : F → ObjectId → Type 0) (limit : Option ℤ) (old first new : SimpleWalk F P) (i : ObjectId) → old.store ≡ first.store → SortsIn objects bad limit old i (Ok tt) new → IsSome (commit_at (objects first.store) i)
read_some objects bad limit old first new i e s = subst (λ store. IsSome (commit_at (objects store) i)) e (ap is_some s.1.stored)

-- the pending commits of a walk, read from an empty list
pub sorted_so : {F P : Type 0} (objects : F → Objects) (bad : F → ObjectId → Type 0) (old : SimpleWalk F P) (by : Sorting) (start new : SimpleWalk F P) (tips : List Pending) → start ≡ record old { sorting = by; pending = [] } → tips ≡ old.pending → (limit : Option ℤ) → limit ≡ cutoff mode.All by → SortsAll objects bad limit start tips new → IsSortedByTime objects old by new
sorted_so objects bad old by start new tips e t limit l s =
    let r : Sorted objects bad (cutoff mode.All by) (objects old.store) (record old { sorting = by; pending = [] }) old.pending new =
    subst (λ tips. Sorted objects bad (cutoff mode.All by) (objects old.store) (record old { sorting = by; pending = [] }) tips new) t
    (subst (λ w. Sorted objects bad (cutoff mode.All by) (objects w.store) w tips new) e (sorted objects bad (cutoff mode.All by) (subst (λ limit. SortsAll objects bad limit start tips new) l s))) in
    record { read = r.read; pending = r.pending; seen = r.seen; remembered = r.remembered; others = r.others }

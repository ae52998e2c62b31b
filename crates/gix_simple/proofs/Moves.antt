-- What a step of a walk does, whatever faults come: it takes a commit out, asks about new ids, each of which may become pending, and may lose rows.
use Rattle.std.proofs.Common.{◌≡◌, ◌≢◌, ◌⊎◌, ◌≤◌, ◌+◌, ℕ, suc, ℤ, pos, List, [], ◌∷◌, ◌++◌, map, filter, length, Bool, true, not, cond, Option, Some, None, Result, Ok, Err, Contains, IsPermutation, refl, sym, ap, subst, inl, inr, ⊎_elim}
use Rattle.std.proofs.Common.{◌∙◌, arith, length-append, le_refl, le_trans}
use Rattle.std.specs.FinMap as map_of
use Rattle.std.specs.FinSet as set
use Rattle.gix_simple.proofs.Common.{or_right, or_left, map-append, length_permutation, ObjectId, is_same, is_among, kind_of, Item, commit_items, Objects, GraphRow, row_of, Info, Parents, by_mode, ids_of, Pending}
use Rattle.gix_simple.proofs.Common.{ids_at, scanned, text_parents, Error, named_in, SimpleWalk, Treated, StoreFails, GoesOn, unrowed, asked, Asks, IsNew, Treats, hidden, refused, accepted, dropped, enqueued}
use Rattle.gix_simple.proofs.Common.{store_fails, no_memory_after, TreatsAll, stops, Concludes, given, broken, Takes, by_row, by_store, not_found, Chooses, first, best, Steps, took, FirstStep, unhidden, Next, initial, later}
use Rattle.gix_simple.proofs.Common.{among-append, among_from, among_is, Contains-here, Contains-there, times-append, among_times, times_is_among, among_flat, walked_within}
use Rattle.gix_object.specs.declared.Kind.TheVariants as object
use Rattle.gix_object.specs.declared.decode.Error.{Error as DecodeError}
use Rattle.gix_revwalk.specs.declared.Parents.TheVariants as mode
use Rattle.gix_revwalk.specs.Ids.{times}
use Rattle.gix_simple.specs.Walk.{known, no_memory, none, more, paints, faulty_history}
use Rattle.gix_revwalk.proofs.Rows.{kept_either, ids_in_rows, found_entry}
use Rattle.gix_simple.proofs.Treated.{times-permutation, best_moved}

-- the parents that are scanned are those that are walked, of all that are named
pub scan_by : (m : Parents) (items : List (Result Item DecodeError)) → (scanned m items).0 ≡ by_mode m (scanned mode.All items).0
scan_by mode.All items = refl
scan_by mode.First [] = refl
scan_by mode.First (item ∷ items) = grind (arith, scan_by mode.First items)

-- of the second pending commits some, in any order
pub record Fewer (ps qs : List Pending) : Type 0 where
  pub shorter : length ps ≤ length qs
  pub as_often : (i : ObjectId) → times i (ids_of ps) ≤ times i (ids_of qs)

pub fewer_same : (ps : List Pending) → Fewer ps ps
fewer_same ps = record { shorter = le_refl _; as_often = λ i. le_refl _ }

pub fewer_then : {ps qs rs : List Pending} → Fewer ps qs → Fewer qs rs → Fewer ps rs
fewer_then a b = record { shorter = le_trans a.shorter b.shorter; as_often = λ i. le_trans (a.as_often i) (b.as_often i) }

fewer_by_one : (p : Pending) (ps : List Pending) → Fewer ps (p ∷ ps)
fewer_by_one p ps = record { shorter = omega arith; as_often = λ i. omega arith }

pub fewer_none : (ps qs : List Pending) → ps ≡ [] → Fewer ps qs
fewer_none ps qs e = subst (λ xs. Fewer xs qs) (sym e) (record { shorter = Prim.Native.Nat.zero-le; as_often = λ i. Prim.Native.Nat.zero-le })

fewer_moved : (ps qs : List Pending) → IsPermutation ps qs → Fewer qs ps
fewer_moved ps qs h = record {
  shorter = (let e : length qs ≡ length ps = length_permutation ps qs h in omega arith);
  as_often = λ i. let e : times i (ids_of qs) ≡ times i (ids_of ps) = times-permutation i ps qs h in omega arith;
}

pub fewer_filter : (p : Pending → Bool) (ps : List Pending) → Fewer (filter p ps) ps
fewer_filter p [] = fewer_same []
fewer_filter p (x ∷ ps) = let r = fewer_filter p ps in record { shorter = (let s = r.shorter in grind arith); as_often = λ i. let s = r.as_often i in grind arith }

-- what is held is what was pending, and one more
fewer_held : (old new : List Pending) (p : Pending) → new ≡ old ++ p ∷ [] → Fewer new (p ∷ old)
fewer_held old new p h = fewer_then (subst (λ ps. Fewer ps (old ++ p ∷ [])) (sym h) (fewer_same _)) record {
  shorter = (let e : length (old ++ p ∷ []) ≡ length old + 1 = length-append old (p ∷ []) in omega arith);
  as_often = λ i.
      let e : times i (ids_of (old ++ p ∷ [])) ≡ times i (ids_of old) + (cond (is_same i p.id) 1 0 + 0) = ap (times i) (map-append (λ q. q.id) old (p ∷ [])) ∙ times-append i (ids_of old) (p.id ∷ []) in
      omega arith;
}

pub fewer_within : {ps qs : List Pending} → Fewer ps qs → (i : ObjectId) → Contains (ids_of ps) i → Contains (ids_of qs) i
fewer_within {ps} {qs} f i m = among_is i (ids_of qs) (times_is_among i (ids_of qs) (le_trans (among_times i (ids_of ps) (among_from i (ids_of ps) m)) (f.as_often i)))

-- rows that may go twice may go
pub rows_then : {a b c : List GraphRow} → (b ≡ a) ⊎ (b ≡ []) → (c ≡ b) ⊎ (c ≡ []) → (c ≡ a) ⊎ (c ≡ [])
rows_then early late = ⊎_elim (λ e. ⊎_elim (λ f. inl (e ∙ f)) (λ f. inr (e ∙ f)) early) inr late

-- what is given has this id and this generation
abbrev pub IsGivenAs : ObjectId → Option ℕ → Result Info Error → Type 0
IsGivenAs i generation (Ok info) = (info.id ≡ i) × (info.generation ≡ generation)
IsGivenAs i generation (Err e) = Unit {0}

module _ {F P : Type 0} (objects : F → Objects) (faulty : F → ObjectId → Type 0) (answers : P → ObjectId → Bool → P → Type 0) where
  -- new ids that are Named are asked about one after the other, and each may become pending; the store fails, if it does, at one that is Named
  pub data Asking (Named : ObjectId → Type 0) : SimpleWalk F P → Treated → SimpleWalk F P → Type 0 where
    rests : {w : SimpleWalk F P} {how : Treated} → (how ≡ StoreFails → (i : ObjectId) × Named i × faulty w.store i) → Asking Named w how w
    asks : {w v : SimpleWalk F P} {p : Pending} {b : Bool} {q : P} {ps : List Pending} {how : Treated} → Named p.id → IsNew objects faulty answers w p.id
        → Asks objects faulty answers w p.id b q → Fewer ps (p ∷ w.pending) → Asking Named (asked objects faulty answers w p.id q ps) how v → Asking Named w how v

  treated : {Named : ObjectId → Type 0} {row : Bool} {i : ObjectId} {how last : Treated} {w v u : SimpleWalk F P} → Named i → Treats objects faulty answers w row i how v
      → ((how ≡ StoreFails → faulty v.store i) → Asking Named v last u) → Asking Named w last u
  treated n (hidden e) k = k (λ s. cc)
  treated n (known e) k = k (λ s. cc)
  treated {i = i} n (refused is_new a) k = asks {p = record { id = i; time = pos 0 }} n is_new a (fewer_by_one _ _) (k (λ s. cc))
  treated {i = i} n (accepted {time = time} is_new a reads (dropped e)) k = asks {p = record { id = i; time = time }} n is_new a (fewer_by_one _ _) (k (λ s. cc))
  treated {w = w} n (accepted is_new a reads (enqueued e last)) k = asks n is_new a (fewer_held w.pending _ _ last) (k (λ s. cc))
  treated {i = i} n (store_fails is_new a (store_fails o s failed)) k = asks {p = record { id = i; time = pos 0 }} n is_new a (fewer_by_one _ _) (k (λ s. failed))
  treated n no_memory k = k (λ s. cc)
  treated {i = i} {w = w} n (no_memory_after {pending = ps} is_new a left) k =
      asks {p = record { id = i; time = pos 0 }} n is_new a
      (⊎_elim (λ e. subst (λ xs. Fewer xs (record { id = i; time = pos 0 } ∷ w.pending)) (sym e) (fewer_by_one _ w.pending)) (fewer_none ps _) left) (k (λ s. cc))

  -- so are the parents of a commit treated
  pub asking : {Named : ObjectId → Type 0} {row : Bool} {ids : List ObjectId} {how : Treated} {w v : SimpleWalk F P} → ((i : ObjectId) → Contains ids i → Named i)
      → TreatsAll objects faulty answers row w ids how v → Asking Named w how v
  asking n none = rests (λ s. cc)
  asking n (more {i = i} {ids = ids} t ts) = treated (n i (Contains-here i ids)) t (λ f. asking (λ j m. n j (Contains-there j i ids m)) ts)
  asking n (stops {i = i} {ids = ids} ne t) = treated (n i (Contains-here i ids)) t (λ f. rests (λ s. (i, n i (Contains-here i ids), f s)))

  -- nothing else is changed
  pub kept : {Named : ObjectId → Type 0} {how : Treated} {w v : SimpleWalk F P} → Asking Named w how v
      → v ≡ record w { predicate = v.predicate; pending = v.pending; seen = v.seen; remembered = v.remembered }
  kept (rests f) = refl
  kept (asks n is_new a f rest) = kept rest

  pub treated_same : {row : Bool} {ids : List ObjectId} {how : Treated} {w v : SimpleWalk F P} → TreatsAll objects faulty answers row w ids how v
      → v ≡ record w { predicate = v.predicate; pending = v.pending; seen = v.seen; remembered = v.remembered }
  treated_same t = kept (asking {Named = λ i. Unit {0}} (λ i m. tt) t)

  -- what is behind a walk: pending commits and all rows may be gone, and what is lent and hidden may be other
  pub record Follows (w v : SimpleWalk F P) : Type 0 where
    pub same : v ≡ record w { rows = v.rows; pending = v.pending; hidden_tips = v.hidden_tips; hidden = v.hidden; text = v.text; current = v.current }
    pub rows : (v.rows ≡ w.rows) ⊎ (v.rows ≡ [])
    pub fewer : Fewer v.pending w.pending

  follows_then : {w v u : SimpleWalk F P} → Follows w v → Follows v u → Follows w u
  follows_then {u = u} a b = record {
    same = b.same ∙ ap (λ (x : SimpleWalk F P). record x { rows = u.rows; pending = u.pending; hidden_tips = u.hidden_tips; hidden = u.hidden; text = u.text; current = u.current }) a.same;
    rows = rows_then a.rows b.rows;
    fewer = fewer_then b.fewer a.fewer;
  }

  -- an id that rows or texts name
  abbrev pub IsListed : SimpleWalk F P → ObjectId → Type 0
  IsListed w i = is_among i (named_in objects w) ≡ true

  -- a step fails, and nothing is pending any more, or it takes a commit out, asks about the ids that it names, and answers
  pub data Moves (w : SimpleWalk F P) : Result Info Error → SimpleWalk F P → Type 0 where
    fails : {e : Error} {new : SimpleWalk F P} → 1 ≤ length w.pending → new.pending ≡ [] → Follows w new → Moves w (Err e) new
    takes : {p : Pending} {answer : Result Info Error} {how : Treated} {mid walk new : SimpleWalk F P} (generation : Option ℕ) → Follows w (record mid { pending = p ∷ mid.pending })
        → Asking (IsListed w) mid how walk → Follows walk new → IsGivenAs p.id generation answer → Moves w answer new

  pub listed_then : {w v : SimpleWalk F P} → Follows w v → (i : ObjectId) → IsListed v i → IsListed w i
  listed_then {w} {v} f i m = ⊎_elim along (λ e. among-append i (map (λ row. row.id) w.rows) (named_in objects (record w { rows = [] })) ∙ or_right _ _ (along e)) f.rows
    where
      along : {rows : List GraphRow} → v.rows ≡ rows → IsListed (record w { rows = rows }) i
      along e = subst (λ rows. IsListed (record w { rows = rows }) i) e (subst (λ x. IsListed x i) f.same m)

  -- the ids that a row or a text names are listed
  row_lists : (w : SimpleWalk F P) (row : GraphRow) (ids : List ObjectId) → ids_at w.rows row.parents ≡ Some ids → (i : ObjectId) → Contains (by_mode w.parents ids) i → IsListed w i
  row_lists w row ids e i m = among-append i (map (λ row. row.id) w.rows) _ ∙ or_left _ _ (ids_in_rows w.rows row.parents ids e i (walked_within w.parents ids i m))

  text_lists : (w : SimpleWalk F P) (c : ObjectId) (bytes : List ℕ) → map_of.get (objects w.store) c ≡ Some (record { kind = object.Commit; bytes = bytes }) → (i : ObjectId)
      → Contains (scanned w.parents (commit_items (kind_of c) bytes)).0 i → IsListed w i
  text_lists w c bytes e i m =
      let found : Contains (map_of.entries (objects w.store)) (c, record { kind = object.Commit; bytes = bytes }) =
      found_entry (map_of.entries (objects w.store)) c _ (sym (map_of.get-entries (objects w.store) c) ∙ e) in
      among-append i (map (λ row. row.id) w.rows) _ ∙ or_right (is_among i (map (λ row. row.id) w.rows)) _
      (among_flat (λ entry. by_mode w.parents (text_parents entry.0 entry.1)) (map_of.entries (objects w.store)) _ i found
      (among_from i _ (subst (λ ids. Contains ids i) (scan_by w.parents (commit_items (kind_of c) bytes)) m)))

  pub concludes : {i : ObjectId} {ps : List ObjectId} {generation : Option ℕ} {time : Option ℤ} {text : List ℕ} {fault : Option DecodeError} {how : Treated} {answer : Result Info Error} {walk new : SimpleWalk F P}
      → Concludes objects faulty answers i ps generation time text fault walk how answer new → Follows walk new × (new.rows ≡ walk.rows) × IsGivenAs i generation answer
  concludes (given f is) = (record { same = refl; rows = inl refl; fewer = fewer_same _ }, refl, (is.same_id, is.same_generation))
  concludes (broken f) = (record { same = refl; rows = inl refl; fewer = fewer_same _ }, refl, tt)
  concludes store_fails = (record { same = refl; rows = inl refl; fewer = fewer_same _ }, refl, tt)
  concludes no_memory = (record { same = refl; rows = inl refl; fewer = fewer_none [] _ refl }, refl, tt)

  -- rows that don't name its parents are gone
  unrowed_follows : {w : SimpleWalk F P} (v : SimpleWalk F P) (p : Pending) → Follows w (record v { pending = p ∷ v.pending }) → Follows w (record (unrowed v p.id) { pending = p ∷ v.pending })
  unrowed_follows v p f = follows_then f (record { same = refl; rows = kept_either v.rows (row_of v.rows p.id); fewer = fewer_same _ })

  takes_moves : {w v : SimpleWalk F P} {p : Pending} {answer : Result Info Error} {new : SimpleWalk F P} → Follows w (record v { pending = p ∷ v.pending })
      → Takes objects faulty answers v p answer new → Moves w answer new
  takes_moves {v = v} f (by_row {row = row} {ids = ids} r e treats c) =
      let k = concludes c in takes _ f (asking (λ i m. listed_then f i (row_lists v row ids e i m)) treats) k.0 k.2
  takes_moves {v = v} {p = p} f (by_store {bytes = bytes} u e treats c) =
      let k = concludes c in takes _ (unrowed_follows v p f) (asking (λ i m. listed_then f i (text_lists v p.id bytes e i m)) treats) k.0 k.2
  takes_moves {v = v} {p = p} f (not_found u fault) = takes {how = GoesOn} None (unrowed_follows v p f) (rests (λ s. cc)) (record { same = refl; rows = inl refl; fewer = fewer_same _ }) tt
  takes_moves {v = v} {p = p} f (no_memory left) =
      takes {how = GoesOn} None f (rests (λ s. cc))
      (record { same = refl; rows = ⊎_elim inl (λ e. rows_then (kept_either v.rows (row_of v.rows p.id)) (inl e)) left; fewer = fewer_none [] _ refl }) tt

  pub fewer_chosen : (w : SimpleWalk F P) (p : Pending) (others : List Pending) → Chooses objects faulty answers w p others → Fewer (p ∷ others) w.pending
  fewer_chosen w p others (first t e) = subst (Fewer (p ∷ others)) (sym e) (fewer_same _)
  fewer_chosen w p others (best t chosen) = fewer_moved w.pending (p ∷ others) (best_moved chosen)

  some_pending : (ps : List Pending) → ps ≢ [] → 1 ≤ length ps
  some_pending [] ne = absurd (ne refl)
  some_pending (p ∷ ps) ne = omega arith

  steps_moves : {w v : SimpleWalk F P} {answer : Result Info Error} {new : SimpleWalk F P} → Follows w v → Steps objects faulty answers v (Some answer) new → Moves w answer new
  steps_moves {v = v} f (no_memory some) = fails (le_trans (some_pending v.pending some) f.fewer.shorter) refl (follows_then f (record { same = refl; rows = inl refl; fewer = fewer_none [] _ refl }))
  steps_moves {v = v} f (took {taken = p} {others = others} chooses t) = takes_moves (follows_then f (record { same = refl; rows = inl refl; fewer = fewer_chosen v p others chooses })) t

  first_moves : {w : SimpleWalk F P} {answer : Result Info Error} {new : SimpleWalk F P} → FirstStep objects faulty answers w (Some answer) new → Moves w answer new
  first_moves (unhidden n steps) = steps_moves (record { same = refl; rows = inl refl; fewer = fewer_same _ }) steps
  first_moves {w} (paints {marks = marks} some tips paint steps) = steps_moves (record { same = refl; rows = paint.rows_left; fewer = fewer_filter (λ p. not (set.contains marks p.id)) w.pending }) steps
  first_moves {w} (faulty_history some tips left fault) = fails (some_pending w.pending some) refl (record { same = refl; rows = left; fewer = fewer_none [] _ refl })
  first_moves {w} (no_memory some tips left) = fails (some_pending w.pending some) refl (record { same = refl; rows = left; fewer = fewer_none [] _ refl })

  pub next_moves : {w : SimpleWalk F P} {answer : Result Info Error} {new : SimpleWalk F P} → Next objects faulty answers w (Some answer) new → Moves (record w { begun = true }) answer new
  next_moves (initial fresh s) = first_moves s
  next_moves {w} {answer} {new} (later begun s) = subst (λ b. Moves (record w { begun = b }) answer new) begun (steps_moves (record { same = refl; rows = inl refl; fewer = fewer_same _ }) s)

  -- no more is listed afterwards
  pub listed_before : {w : SimpleWalk F P} {answer : Result Info Error} {new : SimpleWalk F P} → Moves w answer new → (i : ObjectId) → IsListed new i → IsListed w i
  listed_before (fails some gone f) i m = listed_then f i m
  listed_before (takes {mid = mid} {walk = walk} generation f a g of) i m = listed_then f i (subst (λ x. IsListed x i) (kept a) (listed_then g i m))

  -- something was pending
  pub moves_pend : {w : SimpleWalk F P} {answer : Result Info Error} {new : SimpleWalk F P} → Moves w answer new → w.pending ≢ []
  moves_pend {w} (fails some gone f) e = let n : length w.pending ≡ 0 = ap length e in absurd (omega arith)
  moves_pend {w} (takes {mid = mid} generation f a g of) e =
      let n : length w.pending ≡ 0 = ap length e in
      let l : suc (length mid.pending) ≤ length w.pending = f.fewer.shorter in
      absurd (omega arith)

  pub moves_begun : {w : SimpleWalk F P} {answer : Result Info Error} {new : SimpleWalk F P} → Moves w answer new → new.begun ≡ w.begun
  moves_begun (fails some gone f) = ap (λ x. x.begun) f.same
  moves_begun (takes generation f a g of) = ap (λ x. x.begun) g.same ∙ ap (λ x. x.begun) (kept a) ∙ ap (λ x. x.begun) f.same

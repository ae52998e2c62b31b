-- Slices that are filled from a walk.
use Rattle.std.proofs.Common.{◌≡◌, ◌≢◌, ◌<◌, ◌+◌, ◌-◌, ℕ, nat_lt, nat_eq, Bool, true, false, cond, List, [], ◌∷◌, ◌++◌, map, length, take, drop, set, Option, Some, None, Result, Ok, Err, option_map, refl, sym, ap, subst, ◌∙◌, inl, inr, arith, length-append, append_assoc, append-nil, ltb-true, ltb-false, eqb-true}
use Rattle.std.proofs.lemmas.Bool.{eqb-false}
use Rattle.std.specs.Iterator.{Yields}
use Rattle.std.proofs.lemmas.List.{map-append, length-map, drop-drop}
use Rattle.std.proofs.lemmas.Grind.{flat_map-append}
use Rattle.std.proofs.Math.Seq.{take-append_seam, drop-append-add}
use Rattle.gix_revwalk.specs.declared.Info.{Info}
use Rattle.gix_words.specs.declared.fault.Fault.{Fault}
use Rattle.gix_batches.specs.declared.commit.Batch.{Batch}
use Rattle.gix_batches.specs.declared.commit.Commit.{Commit}
use Rattle.gix_batches.specs.declared.commit.CommitId.{CommitId}
use Rattle.gix_batches.specs.declared.commit.Ending.{Ending}
use Rattle.gix_batches.specs.declared.commit.Ending.TheVariants.{Ended, More, Small, Failed}
use Rattle.gix_revwalk.specs.Infos.{given}
use Rattle.gix_commands.specs.Walked.{Any, AsksForMore, Ends, EndsBy, before, enough, failed as fell, finished, cut_short, unstored}
use Rattle.gix_batches.specs.Draws.{Draws, ended, failed, more, small, Fills, FillsFront, Passes, ending_at, ids_given, least_of, most_of}
use Rattle.gix_batches.specs.Slices.{Holds, IsFull, IsOver, IsSkipped, Told, commit_of, commits_of, id_of, ids_of, told_by, told_of}
use Rattle.gix_batches.proofs.Slots.{put_next}

-- WHAT THE SLICES HOLD
told_more : (infos : List Info) (info : Info) → told_by (infos ++ info ∷ []) ≡ told_by infos ++ told_of info ∷ []
told_more infos info = map-append told_of infos (info ∷ [])

pub ids_more : (infos : List Info) (info : Info) → ids_of (told_by (infos ++ info ∷ [])) ≡ ids_of (told_by infos) ++ map id_of info.parent_ids.items
ids_more infos info =
    ap ids_of (told_more infos info)
    ∙ flat_map-append (λ (t : Told). map id_of t.parents) (told_by infos) (told_of info ∷ [])
    ∙ ap (λ xs. ids_of (told_by infos) ++ xs) (append-nil (map id_of info.parent_ids.items))

commits_long : (at : ℕ) (told : List Told) → length (commits_of at told) ≡ length told
commits_long at [] = refl
commits_long at (t ∷ told) = let h = commits_long (at + length t.parents) told in omega (arith, h)

commits_more : (at : ℕ) (told : List Told) (t : Told) → commits_of at (told ++ t ∷ []) ≡ commits_of at told ++ commit_of (at + length (ids_of told)) t ∷ []
commits_more at [] t = ap (λ k. commit_of k t ∷ []) (let e : at ≡ at + 0 = omega arith in e)
commits_more at (s ∷ told) t =
    ap (λ xs. commit_of at s ∷ xs)
    (commits_more (at + length s.parents) told t
    ∙ ap (λ k. commits_of (at + length s.parents) told ++ commit_of k t ∷ [])
    (let a : length (ids_of (s ∷ told)) ≡ length (map id_of s.parents) + length (ids_of told) = length-append (map id_of s.parents) (ids_of told) in
    let b : length (map id_of s.parents) ≡ length s.parents = length-map s.parents id_of in
    let e : at + length s.parents + length (ids_of told) ≡ at + length (ids_of (s ∷ told)) = omega (arith, a, b) in e))

module _ (infos : List Info) (info : Info) (used : ℕ) (used_is : used ≡ length (ids_of (told_by infos))) where
  pub one_longer : (at : ℕ) → at ≡ length infos → at + 1 ≡ length (infos ++ info ∷ [])
  one_longer at e = ap (λ k. k + 1) e ∙ sym (length-append infos (info ∷ []))

  pub more_used : (ids : List _) → ids ≡ info.parent_ids.items → used + length ids ≡ length (ids_of (told_by (infos ++ info ∷ [])))
  more_used ids is =
      let a : length (ids_of (told_by infos) ++ map id_of info.parent_ids.items) ≡ length (ids_of (told_by infos)) + length (map id_of info.parent_ids.items) = length-append (ids_of (told_by infos)) (map id_of info.parent_ids.items) in
      let b : length (map id_of info.parent_ids.items) ≡ length info.parent_ids.items = length-map info.parent_ids.items id_of in
      let c : length ids ≡ length info.parent_ids.items = ap length is in
      let d : used + length ids ≡ length (ids_of (told_by infos) ++ map id_of info.parent_ids.items) = omega (arith, a, b, c, used_is) in
      d ∙ ap length (sym (ids_more infos info))

  -- one commit more
  pub commit_put : (old room : List Commit) (at : ℕ) (c : Commit) → at ≡ length infos → c ≡ commit_of used (told_of info) → room ≡ commits_of 0 (told_by infos) ++ drop (length infos) old → at < length old
      → set room at c ≡ commits_of 0 (told_by (infos ++ info ∷ [])) ++ drop (length (infos ++ info ∷ [])) old
  commit_put old room at c e is holds fits =
      let long : length (commits_of 0 (told_by infos)) ≡ at = commits_long 0 (told_by infos) ∙ length-map infos told_of ∙ sym e in
      put_next (commits_of 0 (told_by infos)) old room at c long (holds ∙ ap (λ k. commits_of 0 (told_by infos) ++ drop k old) (sym e)) fits
      ∙ ap (λ x. (commits_of 0 (told_by infos) ++ x ∷ []) ++ drop (at + 1) old) (is ∙ ap (λ k. commit_of k (told_of info)) {y = 0 + length (ids_of (told_by infos))} (omega (arith, used_is)))
      ∙ ap (λ xs. xs ++ drop (at + 1) old) (sym (commits_more 0 (told_by infos) (told_of info)) ∙ ap (commits_of 0) (sym (told_more infos info)))
      ∙ ap (λ k. commits_of 0 (told_by (infos ++ info ∷ [])) ++ drop k old) (one_longer at e)

  -- and the ids of its parents
  pub ids_put : (old room new : List CommitId) (ids : List _) → ids ≡ info.parent_ids.items → room ≡ ids_of (told_by infos) ++ drop used old → new ≡ (take used room ++ map id_of ids) ++ drop (used + length ids) room
      → new ≡ ids_of (told_by (infos ++ info ∷ [])) ++ drop (used + length ids) old
  ids_put old room new ids is holds puts =
      let front : List CommitId = ids_of (told_by infos) in
      puts
      ∙ ap (λ r. (take used r ++ map id_of ids) ++ drop (used + length ids) r) holds
      ∙ ap (λ k. (take k (front ++ drop used old) ++ map id_of ids) ++ drop (k + length ids) (front ++ drop used old)) used_is
      ∙ ap (λ xs. (xs ++ map id_of ids) ++ drop (length front + length ids) (front ++ drop used old)) (take-append_seam front (drop used old))
      ∙ ap (λ xs. (front ++ map id_of ids) ++ xs) (drop-append-add front (drop used old) (length ids) ∙ drop-drop (length ids) used old)
      ∙ ap (λ xs. (front ++ map id_of xs) ++ drop (used + length ids) old) is
      ∙ ap (λ xs. xs ++ drop (used + length ids) old) (sym (ids_more infos info))

-- one more was drawn, and one less is left
pub one_less : (infos : List Info) (info : Info) (left limit : ℕ) → length infos + left ≡ limit → 0 < left → length (infos ++ info ∷ []) + (left - 1) ≡ limit
one_less infos info left limit e some = let more : length (infos ++ info ∷ []) ≡ length infos + 1 = length-append infos (info ∷ []) in omega (arith, e, some, more)

-- LIMITS
pub many : (infos : List Info) → length (ids_given infos) ≡ length infos
many infos = length-map infos (λ (info : Info). info.id)

pub below_room : (limit : Option ℕ) (room at : ℕ) → at < most_of limit room → at < room
below_room None room at l = l
below_room (Some n) room at l = go (nat_lt n room) refl l
  where
    go : (t : Bool) → nat_lt n room ≡ t → at < cond t n room → at < room
    go true e l = omega (arith, ltb-true n room e, l)
    go false e l = l

pub below_limit : (limit : Option ℕ) (room : ℕ) (infos : List Info) (at : ℕ) → at ≡ length infos → at < most_of limit room → AsksForMore limit (length infos)
below_limit None room infos at e l = tt
below_limit (Some n) room infos at e l = go (nat_lt n room) refl l
  where
    go : (t : Bool) → nat_lt n room ≡ t → at < cond t n room → length infos < n
    go true less l = omega (arith, e, l)
    go false less l = omega (arith, e, l, ltb-false n room less)

module _ {W E : Type 0} (Steps : W → Option (Result Info E) → W → Type 0) (Tells : E → Fault → Type 0) where
  -- STEPS
  yields_more : (walk mid at : W) (xs ys : List (Result Info E)) → Yields Steps walk xs mid → Yields Steps mid ys at → Yields Steps walk (xs ++ ys) at
  yields_more walk mid at [] ys h k = subst (λ (w : W). Yields Steps w ys at) (sym h) k
  yields_more walk mid at (x ∷ xs) ys h k = (h.0, h.1, yields_more h.0 mid at xs ys h.2 k)

  pub given_more : (walk mid at : W) (some infos : List Info) → Yields Steps walk (given some) mid → Yields Steps mid (given infos) at → Yields Steps walk (given (some ++ infos)) at
  given_more walk mid at some infos h k = subst (λ (list : List (Result Info E)). Yields Steps walk list at) (sym (map-append (λ (i : Info). Ok i) some infos)) (yields_more walk mid at (given some) (given infos) h k)

  pub drawn_one : (walk at new : W) (infos : List Info) (answer : Result Info E) (info : Info) → Yields Steps walk (given infos) at → Steps at (Some answer) new → answer ≡ Ok info → Yields Steps walk (given (infos ++ info ∷ [])) new
  drawn_one walk at new infos answer info h step is = given_more walk at new infos (info ∷ []) h (new, subst (λ (a : Result Info E). Steps at (Some a) new) is step, refl)

  pub by_limit : (limit : Option ℕ) (walk : W) (infos : List Info) {answer : Result (Unit {0}) Fault} → AsksForMore limit (length infos) → Ends Steps Tells Any walk infos answer → EndsBy Steps Tells Any ids_given limit walk infos answer
  by_limit None walk infos asks ends = ends
  by_limit (Some n) walk infos asks ends = before ends (omega (arith, asks, many infos))

  -- a fault came
  pub fault_came : (walk at new : W) (infos : List Info) (answer : Result Info E) (e : E) (f : Fault) → Yields Steps walk (given infos) at → Steps at (Some answer) new → answer ≡ Err e → Tells e f → Ends Steps Tells Any walk infos (Err f)
  fault_came walk at new infos answer e f h step is tells = fell e f new (at, h, subst (λ (a : Result Info E). Steps at (Some a) new) is step) tells

  -- the parents of the next commit don't fit
  pub too_many : (limit : Option ℕ) (walk at new : W) (infos : List Info) (answer : Result Info E) (info : Info) (ids : List _) → Yields Steps walk (given infos) at → Steps at (Some answer) new → answer ≡ Ok info → AsksForMore limit (length infos) → ids ≡ info.parent_ids.items
      → Draws Steps Tells limit walk infos (Small (length ids))
  too_many limit walk at new infos answer info ids h step is asks same =
      subst (λ xs. Draws Steps Tells limit walk infos (Small (length xs))) (sym same) (small new info (drawn_one walk at new infos answer info h step is) asks)

  module _ (limit : Option ℕ) (walk : W) (infos : List Info) (old new : List Commit) (rooms filled : List CommitId) (at used : ℕ) (number : at ≡ length infos) (used_is : used ≡ length (ids_of (told_by infos)))
      (commits : new ≡ commits_of 0 (told_by infos) ++ drop (length infos) old) (parents : filled ≡ ids_of (told_by infos) ++ drop used rooms) where
    -- so far the slices are filled
    pub fills : (ending : Ending) (batch : Batch) → Draws Steps Tells limit walk infos ending → IsFull (length old) (length rooms) (record { commits = at; parents = used; ending = ending }) → batch ≡ record { commits = at; parents = used; ending = ending }
        → FillsFront Steps Tells limit walk old new rooms filled batch
    fills ending batch draws full is = subst (λ b. FillsFront Steps Tells limit walk old new rooms filled b) (sym is) (record {
      infos = infos;
      draws = draws;
      holds = record {
        commits = commits ∙ ap (λ k. commits_of 0 (told_by infos) ++ drop k old) (sym (length-map infos told_of));
        parents = parents ∙ ap (λ k. ids_of (told_by infos) ++ drop k rooms) used_is;
        number = number ∙ sym (length-map infos told_of);
        ids = used_is;
      };
      full = full;
    })

    module _ (last : W) (drawn : Yields Steps walk (given infos) last) (most_is : at ≡ most_of limit (length old)) where
      at_end : (limit : Option ℕ) → at ≡ most_of limit (length old) → Draws Steps Tells limit walk infos (ending_at limit at) × IsFull (length old) (length rooms) (record { commits = at; parents = used; ending = ending_at limit at })
      at_end None is = (more last drawn tt, is)
      at_end (Some n) is = go (nat_eq n at) refl
        where
          least : (t : Bool) → nat_lt n (length old) ≡ t → at ≡ cond t n (length old) → n ≢ at → (at < n) × (at ≡ length old)
          least true l e other = absurd (other (sym e))
          least false l e other = (omega (arith, e, ltb-false n (length old) l, other), e)

          go : (t : Bool) → nat_eq n at ≡ t → Draws Steps Tells (Some n) walk infos (cond t Ended More) × IsFull (length old) (length rooms) (record { commits = at; parents = used; ending = cond t Ended More })
          go true e = (ended (enough last drawn (many infos ∙ sym number ∙ sym (eqb-true n at e))), tt)
          go false e =
              let l = least (nat_lt n (length old)) refl is (eqb-false n at e) in
              (more last drawn (omega (arith, number, l.0)), l.1)

      -- the loop ended
      pub fills_most : (ending : Ending) (batch : Batch) → ending ≡ ending_at limit at → batch ≡ record { commits = at; parents = used; ending = ending } → FillsFront Steps Tells limit walk old new rooms filled batch
      fills_most ending batch e is =
          let p = at_end limit most_is in
          fills (ending_at limit at) batch p.0 p.1 (is ∙ ap (λ x. record { commits = at; parents = used; ending = x }) e)

  -- BEHIND THOSE THAT ARE SKIPPED
  none_put : (old : List Commit) (rooms : List CommitId) (ending : Ending) → Holds [] old old rooms rooms (record { commits = 0; parents = 0; ending = ending })
  none_put old rooms ending = record { commits = refl; parents = refl; number = refl; ids = refl }

  module _ (limit : Option ℕ) (skip : ℕ) (walk : W) (old new : List Commit) (rooms filled : List CommitId) where
    least_within : (limit : Option ℕ) (infos : List Info) → length infos < least_of limit skip → AsksForMore limit (length infos) × (length infos < skip)
    least_within None infos l = (tt, l)
    least_within (Some n) infos l = go (nat_lt n skip) refl l
      where
        go : (t : Bool) → nat_lt n skip ≡ t → length infos < cond t n skip → (length infos < n) × (length infos < skip)
        go true e l = (l, omega (arith, ltb-true n skip e, l))
        go false e l = (omega (arith, ltb-false n skip e, l), l)

    -- the walk stopped among those that are skipped
    stopped : (infos : List Info) (ending : Ending) → IsOver ending → length infos < least_of limit skip → (AsksForMore limit (length infos) → Draws Steps Tells limit walk infos ending) → IsFull (length old) (length rooms) (record { commits = 0; parents = 0; ending = ending })
        → Fills Steps Tells limit skip walk old old rooms rooms (record { commits = 0; parents = 0; ending = ending })
    stopped infos ending over less draws full =
        let within = least_within limit infos less in
        record {
          skipped = infos;
          infos = [];
          draws = subst (λ (xs : List Info). Draws Steps Tells limit walk xs ending) (sym (append-nil infos)) (draws within.0);
          passed = inr (within.1, refl, over);
          holds = none_put old rooms ending;
          full = full;
        }

    pub none_filled : (ending : Ending) (last : W) → Passes Steps Tells (least_of limit skip) walk (Err ending) last → Fills Steps Tells limit skip walk old old rooms rooms (record { commits = 0; parents = 0; ending = ending })
    none_filled Ended last p = stopped p.0 Ended tt p.2 (λ asks. ended (by_limit limit walk p.0 asks p.1)) tt
    none_filled (Failed f) last p = stopped p.0 (Failed f) tt p.2 (λ asks. failed f (by_limit limit walk p.0 asks p.1)) tt
    none_filled More last p = absurd p
    none_filled (Small n) last p = absurd p

    -- what is drawn behind them
    module _ (mid : W) (some : List Info) (passed : Yields Steps walk (given some) mid) (infos : List Info) where
      ends_more : {answer : Result (Unit {0}) Fault} → Ends Steps Tells Any mid infos answer → Ends Steps Tells Any walk (some ++ infos) answer
      ends_more (finished last h) = finished last (h.0, given_more walk mid h.0 some infos passed h.1, h.2)
      ends_more (fell e f last h tells) = fell e f last (h.0, given_more walk mid h.0 some infos passed h.1, h.2) tells
      ends_more (cut_short info last h) = cut_short info last (h.0, given_more walk mid h.0 some infos passed h.1, h.2)
      ends_more (unstored info last h none) = absurd (none tt)

      both : length (some ++ infos) ≡ length some + length infos
      both = length-append some infos

      abbrev Behind : Option ℕ → Type 0
      Behind limit = (ending : Ending) → length some ≡ least_of limit skip → Draws Steps Tells (option_map (λ n. n - skip) limit) mid infos ending → Draws Steps Tells limit walk (some ++ infos) ending × IsSkipped skip some infos ending

      small_more : (limit : Option ℕ) (at : W) (next : Info) → Yields Steps mid (given (infos ++ next ∷ [])) at → AsksForMore limit (length (some ++ infos)) → Draws Steps Tells limit walk (some ++ infos) (Small (length next.parent_ids.items))
      small_more limit at next h asks = small at next (subst (λ (xs : List Info). Yields Steps walk (given xs) at) (sym (append_assoc some infos (next ∷ []))) (given_more walk mid at some (infos ++ next ∷ []) passed h)) asks

      open_end : Behind None
      open_end Ended all (ended ends) = (ended (ends_more ends), inl all)
      open_end (Failed f) all (failed f2 ends) = (failed f2 (ends_more ends), inl all)
      open_end More all (more at h asks) = (more at (given_more walk mid at some infos passed h) tt, inl all)
      open_end (Small n) all (small at next h asks) = (small_more None at next h tt, inl all)

      abbrev From : ℕ → Bool → Type 0
      From n t = (ending : Ending) → length some ≡ cond t n skip → Draws Steps Tells (Some (n - skip)) mid infos ending → Draws Steps Tells (Some n) walk (some ++ infos) ending × IsSkipped skip some infos ending

      limited : (n : ℕ) → Behind (Some n)
      limited n = go (nat_lt n skip) refl
        where
          nothing : (xs : List Info) → length xs ≡ 0 → xs ≡ []
          nothing [] e = refl
          nothing (x ∷ xs) e = absurd (omega (arith, e))

          -- the limit is reached by what is skipped
          early : nat_lt n skip ≡ true → From n true
          early less Ended all (ended (enough at h e)) =
              let l = ltb-true n skip less in
              (ended (enough at (given_more walk mid at some infos passed h) (omega (arith, both, all, e, l, many infos, many (some ++ infos)))), inr (omega (arith, all, l), nothing infos (omega (arith, e, l, many infos)), tt))
          early less Ended all (ended (before ends few)) = absurd (omega (arith, few, ltb-true n skip less))
          early less (Failed f) all (failed f2 (before ends few)) = absurd (omega (arith, few, ltb-true n skip less))
          early less More all (more at h few) = absurd (omega (arith, few, ltb-true n skip less))
          early less (Small k) all (small at next h few) = absurd (omega (arith, few, ltb-true n skip less))

          late : nat_lt n skip ≡ false → From n false
          late less Ended all (ended (enough at h e)) = (ended (enough at (given_more walk mid at some infos passed h) (omega (arith, both, all, e, ltb-false n skip less, many infos, many (some ++ infos)))), inl all)
          late less Ended all (ended (before ends few)) = (ended (before (ends_more ends) (omega (arith, both, all, few, ltb-false n skip less, many infos, many (some ++ infos)))), inl all)
          late less (Failed f) all (failed f2 (before ends few)) = (failed f2 (before (ends_more ends) (omega (arith, both, all, few, ltb-false n skip less, many infos, many (some ++ infos)))), inl all)
          late less More all (more at h few) = (more at (given_more walk mid at some infos passed h) (omega (arith, both, all, few, ltb-false n skip less)), inl all)
          late less (Small k) all (small at next h few) = (small_more (Some n) at next h (omega (arith, both, all, few, ltb-false n skip less)), inl all)

          go : (t : Bool) → nat_lt n skip ≡ t → From n t
          go true e = early e
          go false e = late e

      behind : (limit : Option ℕ) → Behind limit
      behind None = open_end
      behind (Some n) = limited n

    pub filled_behind : (left : Option ℕ) → left ≡ option_map (λ n. n - skip) limit → (mid : W) (number : ℕ) → number ≡ least_of limit skip → Passes Steps Tells number walk (Ok tt) mid → (batch : Batch) → FillsFront Steps Tells left mid old new rooms filled batch → Fills Steps Tells limit skip walk old new rooms filled batch
    filled_behind left is mid number least p batch f =
        let b = behind mid p.0 p.1 f.infos limit batch.ending (p.2 ∙ least) (subst (λ (l : Option ℕ). Draws Steps Tells l mid f.infos batch.ending) is f.draws) in
        record { skipped = p.0; infos = f.infos; draws = b.0; passed = b.1; holds = f.holds; full = f.full }

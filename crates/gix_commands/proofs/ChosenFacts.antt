-- What a chooser has chosen of the commits that a walk gave.
use Rattle.std.proofs.Common.{◌≡◌, ◌≢◌, ◌-◌, ◌+◌, ◌<◌, ℕ, zero, suc, List, [], ◌∷◌, ◌++◌, length, map, drop, filter, Bool, true, false, Option, Some, None, refl, sym, ap, subst, ◌∙◌, ◌⊎◌, ⊎_elim, arith, append-nil, length-append}
use Rattle.gix_commands.proofs.Common.{Contains-append_cases, no_member, only_member, ObjectId, Objects, Info, Shown, cond-false, cond-true, kept_in, text_next, time_of}
use Rattle.std.proofs.lemmas.List.Elements.{filter-append}
use Rattle.std.proofs.lemmas.List.{drop-append-le, drop_all, map-append}
use Rattle.gix_commands.specs.Chosen.{Choosing, HasObject, HasText, HasTextIn, Passes, fresh_choosing, is_kept, keeps, line_in, one_less, skipped, taken, unkept}
use Rattle.gix_commands.specs.Output.{Held, Takes}
use Rattle.gix_commands.specs.Walked.{Have}
use Rattle.gix_words.specs.declared.fault.Fault.{Fault}
use Rattle.gix_words.specs.declared.fault.Fault.TheVariants as fault
use Rattle.gix_words.specs.declared.words.Form.{Form}
use Rattle.gix_commands.proofs.OutputFacts.{IsLimitLeft, takes_more}

-- one more id
module _ (p : ObjectId → Bool) (skip : ℕ) (ids : List ObjectId) (i : ObjectId) where
  unkept_more : p i ≡ false → filter p (ids ++ i ∷ []) ≡ filter p ids
  unkept_more e = filter-append p ids (i ∷ []) ∙ ap (λ xs. filter p ids ++ xs) (cond-false (p i) (i ∷ []) [] e) ∙ append-nil (filter p ids)

  kept_more : p i ≡ true → filter p (ids ++ i ∷ []) ≡ filter p ids ++ i ∷ []
  kept_more e = filter-append p ids (i ∷ []) ∙ ap (λ xs. filter p ids ++ xs) (cond-true (p i) (i ∷ []) [] e)

  number_more : p i ≡ true → length (filter p (ids ++ i ∷ [])) ≡ length (filter p ids) + 1
  number_more e = ap length (kept_more e) ∙ length-append (filter p ids) (i ∷ [])

  skipped_more : p i ≡ true → 0 < skip - length (filter p ids) → drop skip (filter p (ids ++ i ∷ [])) ≡ drop skip (filter p ids)
  skipped_more e some =
      drop_all skip (filter p (ids ++ i ∷ [])) (omega (arith, number_more e, some)) ∙ sym (drop_all skip (filter p ids) (omega (arith, some)))

  taken_more : p i ≡ true → skip - length (filter p ids) ≡ 0 → drop skip (filter p (ids ++ i ∷ [])) ≡ drop skip (filter p ids) ++ i ∷ []
  taken_more e none = ap (drop skip) (kept_more e) ∙ drop-append-le skip (filter p ids) (i ∷ []) (omega (arith, none))

-- what some commits have, and one more has
pub have_none : (Has : ObjectId → Type 0) → Have Has []
have_none Has info c = absurd (no_member info c)

pub have_more : (Has : ObjectId → Type 0) (infos : List Info) (info : Info) → Have Has infos → Has info.id → Have Has (infos ++ info ∷ [])
have_more Has infos info all one other c = ⊎_elim (all other) (λ m. subst (λ (i : Info). Has i.id) (only_member info other m) one) (Contains-append_cases infos (info ∷ []) other c)

module _ (from : Choosing) where
  abbrev objects : Objects
  objects = from.objects

  abbrev shown : Shown
  shown = from.shown

  abbrev test : ObjectId → Bool
  test i = is_kept shown (length (text_next objects i)) (time_of objects i)

  abbrev ids_in : List Info → List ObjectId
  ids_in infos = map (λ info. info.id) infos

  -- a chooser to which these commits were shown
  pub record IsAt (infos : List Info) (c : Choosing) : Type 0 where
    pub objects_are : c.objects ≡ objects
    pub stored_are : c.stored ≡ from.stored
    pub rows_are : c.rows ≡ from.rows
    pub shown_is : c.shown ≡ shown
    pub skips : c.skip ≡ shown.skip - length (filter test (ids_in infos))
    pub left : IsLimitLeft shown.limit (length (kept_in objects shown infos)) c.left

  drop_none : (n : ℕ) → ◌≡◌ {A = List ObjectId} (drop n []) []
  drop_none zero = refl
  drop_none (suc n) = refl

  pub none_kept : kept_in objects shown [] ≡ []
  none_kept = drop_none shown.skip

  limit_whole : (limit : Option ℕ) (n : ℕ) → n ≡ 0 → IsLimitLeft limit n limit
  limit_whole None n e = refl
  limit_whole (Some most) n e = (most, refl, omega (arith, e))

  pub at_first : from ≡ fresh_choosing objects from.stored from.rows shown → IsAt [] from
  at_first is = subst (IsAt []) (sym is) (record {
    objects_are = refl;
    stored_are = refl;
    rows_are = refl;
    shown_is = refl;
    skips = omega arith;
    left = limit_whole shown.limit (length (kept_in objects shown [])) (ap length none_kept);
  })

  -- what is added to those that are written
  abbrev pub added_by : Bool → ObjectId → List ObjectId
  added_by true i = i ∷ []
  added_by false i = []

  ids_more : (infos : List Info) (info : Info) → ids_in (infos ++ info ∷ []) ≡ ids_in infos ++ info.id ∷ []
  ids_more infos info = map-append (λ (i : Info). i.id) infos (info ∷ [])

  less_by_one : (limit : Option ℕ) (n m : ℕ) (left : Option ℕ) → IsLimitLeft limit n left → left ≢ Some 0 → m ≡ n + 1 → IsLimitLeft limit m (one_less left)
  less_by_one None n m left is some e = ap one_less is
  less_by_one (Some most) n m left (zero, is, sum) some e = absurd (some is)
  less_by_one (Some most) n m left (suc k, is, sum) some e = let back : suc k - 1 ≡ k = omega arith in (k, ap one_less is ∙ ap Some back, omega (arith, sum, e))

  pub moves : (infos : List Info) (info : Info) (old new : Choosing) (t : Bool) → IsAt infos old → old.left ≢ Some 0 → Passes old info.id t new → IsAt (infos ++ info ∷ []) new × (kept_in objects shown (infos ++ info ∷ []) ≡ kept_in objects shown infos ++ added_by t info.id)
  moves infos info old new t at some passes = go old at some new t passes
    where
      same_test : (c : Choosing) → IsAt infos c → keeps c info.id ≡ test info.id
      same_test c at = (λ k. is_kept (at.shown_is k) (length (text_next (at.objects_are k) info.id)) (time_of (at.objects_are k) info.id))

      all : filter test (ids_in (infos ++ info ∷ [])) ≡ filter test (ids_in infos ++ info.id ∷ [])
      all = ap (filter test) (ids_more infos info)

      go : (c : Choosing) → IsAt infos c → c.left ≢ Some 0 → (new : Choosing) (t : Bool) → Passes c info.id t new → IsAt (infos ++ info ∷ []) new × (kept_in objects shown (infos ++ info ∷ []) ≡ kept_in objects shown infos ++ added_by t info.id)
      go c at some new t (unkept e) =
          let same = all ∙ unkept_more test shown.skip (ids_in infos) info.id (sym (same_test c at) ∙ e) in
          let kept = ap (drop shown.skip) same in (
            record {
              objects_are = at.objects_are;
              stored_are = at.stored_are;
              rows_are = at.rows_are;
              shown_is = at.shown_is;
              skips = at.skips ∙ ap (λ xs. shown.skip - length xs) (sym same);
              left = subst (λ xs. IsLimitLeft shown.limit (length xs) c.left) (sym kept) at.left;
            },
            kept ∙ sym (append-nil (kept_in objects shown infos)),
          )
      go c at some new t (skipped e more) =
          let is = sym (same_test c at) ∙ e in
          let number : length (filter test (ids_in (infos ++ info ∷ []))) ≡ length (filter test (ids_in infos)) + 1 = ap length all ∙ number_more test shown.skip (ids_in infos) info.id is in
          let kept = ap (drop shown.skip) all ∙ skipped_more test shown.skip (ids_in infos) info.id is (subst (λ n. 0 < n) at.skips more) in (
            record {
              objects_are = at.objects_are;
              stored_are = at.stored_are;
              rows_are = at.rows_are;
              shown_is = at.shown_is;
              skips = omega (arith, at.skips, number);
              left = subst (λ xs. IsLimitLeft shown.limit (length xs) c.left) (sym kept) at.left;
            },
            kept ∙ sym (append-nil (kept_in objects shown infos)),
          )
      go c at some new t (taken e none) =
          let is = sym (same_test c at) ∙ e in
          let number : length (filter test (ids_in (infos ++ info ∷ []))) ≡ length (filter test (ids_in infos)) + 1 = ap length all ∙ number_more test shown.skip (ids_in infos) info.id is in
          let kept = ap (drop shown.skip) all ∙ taken_more test shown.skip (ids_in infos) info.id is (sym at.skips ∙ none) in (
            record {
              objects_are = at.objects_are;
              stored_are = at.stored_are;
              rows_are = at.rows_are;
              shown_is = at.shown_is;
              skips = omega (arith, at.skips, none, number);
              left = less_by_one shown.limit (length (kept_in objects shown infos)) (length (kept_in objects shown (infos ++ info ∷ []))) c.left at.left some (ap length kept ∙ length-append (kept_in objects shown infos) (info.id ∷ []));
            },
            kept,
          )

  -- what such a chooser asks of each commit
  pub text_at : (infos : List Info) (c : Choosing) → IsAt infos c → HasTextIn c ≡ HasTextIn from
  text_at infos c at = (λ k. HasText (HasObject (at.stored_are k) (at.rows_are k)) (at.shown_is k))

  pub lacks_at : (infos : List Info) (c : Choosing) → IsAt infos c → (i : ObjectId) (e : Fault) → (e ≡ fault.Memory) ⊎ ((e ≡ fault.Missing i) × (HasTextIn c i → ⊥)) → (e ≡ fault.Memory) ⊎ ((e ≡ fault.Missing i) × (HasTextIn from i → ⊥))
  lacks_at infos c at i e h = subst (λ (Has : ObjectId → Type 0). (e ≡ fault.Memory) ⊎ ((e ≡ fault.Missing i) × (Has i → ⊥))) (text_at infos c at) h

  -- the lines of such a chooser
  pub lines_at : (infos : List Info) (c : Choosing) → IsAt infos c → line_in c.objects c.shown ≡ line_in objects shown
  lines_at infos c at = (λ k. line_in (at.objects_are k) (at.shown_is k))

  -- a commit that is written was added to what is written and held
  pub takes_kept : (infos : List Info) (info : Info) (t : Bool) → kept_in objects shown (infos ++ info ∷ []) ≡ kept_in objects shown infos ++ added_by t info.id → t ≡ true → (other line : ObjectId → List ℕ) → other ≡ line → (by f : Form) → f ≡ by → (a b c : Option (List ℕ)) (x y z : Held)
      → Takes line by a x (kept_in objects shown infos) b y → Takes other f b y (info.id ∷ []) c z → Takes line by a x (kept_in objects shown (infos ++ info ∷ [])) c z
  takes_kept infos info t kept is other line named by f same a b c x y z h k =
      subst (λ ids. Takes line by a x ids c z) (sym (kept ∙ ap (λ t. kept_in objects shown infos ++ added_by t info.id) is))
      (takes_more line by a b c x y z (kept_in objects shown infos) (info.id ∷ []) h (subst (λ (l : ObjectId → List ℕ). Takes l by b y (info.id ∷ []) c z) named (subst (λ (f : Form). Takes other f b y (info.id ∷ []) c z) same k)))

  -- and one that isn't changes nothing
  pub takes_left : (infos : List Info) (info : Info) (t : Bool) → kept_in objects shown (infos ++ info ∷ []) ≡ kept_in objects shown infos ++ added_by t info.id → t ≡ false → (line : ObjectId → List ℕ) (by : Form) (a b : Option (List ℕ)) (x y : Held)
      → Takes line by a x (kept_in objects shown infos) b y → Takes line by a x (kept_in objects shown (infos ++ info ∷ [])) b y
  takes_left infos info t kept is line by a b x y h =
      subst (λ ids. Takes line by a x ids b y) (sym (kept ∙ ap (λ t. kept_in objects shown infos ++ added_by t info.id) is ∙ append-nil (kept_in objects shown infos))) h

-- what was added, by a writer and a sink where branches join
pub joined : {W S : Type 0} (contents : W → Option (List ℕ)) (held : S → Held) (line : ObjectId → List ℕ) (by : Form) (a : Option (List ℕ)) (x : Held) (ids : List ObjectId) (writer last : W) (sink end : S) → last ≡ writer → end ≡ sink
    → Takes line by a x ids (contents writer) (held sink) → Takes line by a x ids (contents last) (held end)
joined contents held line by a x ids writer last sink end written holds h =
    subst (λ s. Takes line by a x ids (contents last) (held s)) (sym holds) (subst (λ w. Takes line by a x ids (contents w) (held sink)) (sym written) h)

-- one call of a chooser, by what it holds inside
module _ (old inside : Choosing) (i : ObjectId) (same : inside ≡ old) where
  pub passes_unkept : keeps old i ≡ false → (new : Choosing) → new ≡ old → Passes old i false new
  passes_unkept e new is = subst (Passes old i false) (sym is) (unkept e)

  here : keeps old i ≡ true → keeps inside i ≡ true
  here e = subst (λ c. keeps c i ≡ true) (sym same) e

  pub passes_skipped : keeps old i ≡ true → 0 < inside.skip → Passes old i false (record inside { skip = inside.skip - 1 })
  passes_skipped e more = subst (λ c. Passes c i false (record inside { skip = inside.skip - 1 })) same (skipped (here e) more)

  pub passes_taken : keeps old i ≡ true → inside.skip ≡ 0 → (n : ℕ) → inside.left ≡ Some n → Passes old i true (record inside { left = Some (n - 1) })
  passes_taken e none n is =
      subst (λ (l : Option ℕ). Passes old i true (record inside { left = l })) (ap one_less is) (subst (λ c. Passes c i true (record inside { left = one_less inside.left })) same (taken (here e) none))

  pub passes_all : keeps old i ≡ true → inside.skip ≡ 0 → inside.left ≡ None → (new : Choosing) → new ≡ old → Passes old i true new
  passes_all e none is new kept =
      subst (Passes old i true) (sym (kept ∙ sym same))
      (subst (λ (l : Option ℕ). Passes old i true (record inside { left = l })) (ap one_less is ∙ sym is) (subst (λ c. Passes c i true (record inside { left = one_less inside.left })) same (taken (here e) none)))

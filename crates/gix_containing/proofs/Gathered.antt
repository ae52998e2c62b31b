-- How the children of commits are gathered.
use Rattle.std.proofs.Common.{Vec, Global, ◌≡◌, ◌↔◌, ◌⊎◌, List, [], ◌∷◌, ◌++◌, Bool, true, false, cond, Some, None, Contains, refl, sym, ap, subst, inl, inr, ⊎_elim, ◌∙◌}
use Rattle.std.specs.FinMap as map_of
use Rattle.std.proofs.lemmas.Bool.{false≢true}
use Rattle.std.proofs.lemmas.List.Elements.{Contains-append_left, Contains-append_right, Contains-append_cases}
use Rattle.gix_hash.specs.declared.ObjectId.{ObjectId}
use Rattle.gix_hash.specs.Id.{id_cmp, is_same}
use Rattle.gix_hash.proofs.Ids.Membership.{Contains-here, no_member, id_total, same_is, same_from}
use Rattle.gix_hash.proofs.Lists.{only_member}
use Rattle.gix_containing.specs.Inside.Steps.{Children, ids_in, children_in, AddsTo, AddsChild, AreChildren}
use Rattle.gix_revwalk.specs.declared.Info.{Info}

-- the children of the other commits stay
now_in : (old : Children Global) (parent : ObjectId) (ids : Vec ObjectId Global) (i : ObjectId)
    → children_in (map_of.insert (map_of.remove old parent) parent ids) i ≡ ids_in (cond (is_same i parent) (Some ids) (map_of.get old i))
now_in old parent ids i =
    ap ids_in (map_of.get-insert id_total (map_of.remove old parent) parent ids i ∙ ap (cond (is_same i parent) (Some ids)) (map_of.get-remove id_total old parent i) ∙ twice (is_same i parent))
  where
    twice : (b : Bool) → cond b (Some ids) (cond b None (map_of.get old i)) ≡ cond b (Some ids) (map_of.get old i)
    twice true = refl
    twice false = refl

-- a child is added to one commit
pub adds_to : (child parent : ObjectId) (old new : Children Global) (ids : Vec ObjectId Global) → ids.items ≡ children_in old parent ++ child ∷ []
    → new ≡ map_of.insert (map_of.remove old parent) parent ids → AddsTo child parent old new
adds_to child parent old new ids more put i c = subst (λ xs. Contains xs c ↔ (Contains (children_in old i) c ⊎ ((c ≡ child) × (i ≡ parent)))) (sym (ap (λ m. children_in m i) put ∙ now_in old parent ids i)) (go (is_same i parent) refl)
  where
    go : (b : Bool) → is_same i parent ≡ b → Contains (ids_in (cond b (Some ids) (map_of.get old i))) c ↔ (Contains (children_in old i) c ⊎ ((c ≡ child) × (i ≡ parent)))
    go true e =
        let same : i ≡ parent = same_is i parent e in (
          λ m. ⊎_elim (λ h. inl (subst (λ p. Contains (children_in old p) c) (sym same) h)) (λ h. inr (sym (only_member child c h), same))
              (Contains-append_cases (children_in old parent) (child ∷ []) c (subst (λ xs. Contains xs c) more m)),
          λ h. subst (λ xs. Contains xs c) (sym more) (⊎_elim
              (λ m. Contains-append_left (children_in old parent) (child ∷ []) c (subst (λ p. Contains (children_in old p) c) same m))
              (λ s. Contains-append_right (children_in old parent) (child ∷ []) c (subst (Contains (child ∷ [])) (sym s.0) (Contains-here child []))) h),
        )
    go false e = (
      λ m. inl m,
      λ h. ⊎_elim (λ m. m) (λ s. absurd (false≢true (sym e ∙ same_from i parent s.1))) h,
    )

pub adds_none : (child : ObjectId) (old : Children Global) → AddsChild child [] old old
adds_none child old i c = (λ m. inl m, λ h. ⊎_elim (λ m. m) (λ s. absurd (no_member i s.1)) h)

-- and to one more
pub adds_more : (child parent : ObjectId) (ids later : List ObjectId) (old mid new : Children Global) → later ≡ ids ++ parent ∷ [] → AddsChild child ids old mid → AddsTo child parent mid new → AddsChild child later old new
adds_more child parent ids later old mid new l h a i c = subst (λ xs. Contains (children_in new i) c ↔ (Contains (children_in old i) c ⊎ ((c ≡ child) × Contains xs i))) (sym l) (
  λ m. ⊎_elim (λ k. ⊎_elim (λ o. inl o) (λ s. inr (s.0, Contains-append_left ids (parent ∷ []) i s.1)) ((h i c).0 k))
      (λ s. inr (s.0, Contains-append_right ids (parent ∷ []) i (subst (Contains (parent ∷ [])) (sym s.1) (Contains-here parent []))))
      ((a i c).0 m),
  λ k. ⊎_elim (λ o. (a i c).1 (inl ((h i c).1 (inl o))))
      (λ s. ⊎_elim (λ m. (a i c).1 (inl ((h i c).1 (inr (s.0, m))))) (λ m. (a i c).1 (inr (s.0, sym (only_member parent i m)))) (Contains-append_cases ids (parent ∷ []) i s.1)) k,
)

pub no_children : (children : Children Global) → children ≡ map_of.empty → AreChildren [] children
no_children children e i c = (
  λ m. absurd (no_member c (subst (λ xs. Contains xs c) (ap ids_in (ap (λ m. map_of.get m i) e ∙ map_of.get-empty id_cmp i)) m)),
  λ h. absurd (no_member h.0 h.1),
)

-- one more commit was given
pub children_more : (infos : List Info) (info : Info) (ids : List ObjectId) (old new : Children Global) → ids ≡ info.parent_ids.items → AreChildren infos old → AddsChild info.id ids old new → AreChildren (infos ++ info ∷ []) new
children_more infos info ids old new e h a i c = (
  λ m. ⊎_elim (λ o. let k = (h i c).0 o in (k.0, Contains-append_left infos (info ∷ []) k.0 k.1, k.2, k.3))
      (λ s. (info, Contains-append_right infos (info ∷ []) info (Contains-here info []), sym s.0, subst (λ xs. Contains xs i) e s.1)) ((a i c).0 m),
  λ k. ⊎_elim (λ m. (a i c).1 (inl ((h i c).1 (k.0, m, k.2, k.3))))
      (λ m. let same : info ≡ k.0 = only_member info k.0 m in (a i c).1 (inr (sym k.2 ∙ ap (λ x. x.id) (sym same), subst (λ xs. Contains xs i) (ap (λ x. x.parent_ids.items) (sym same) ∙ sym e) k.3)))
      (Contains-append_cases infos (info ∷ []) k.0 k.1),
)

-- The others that one reaches, and the parents that it reaches of what only they reach, are first common ancestors.
use Rattle.std.proofs.Common.{◌≡◌, ◌↔◌, List, [], ◌∷◌, ◌++◌, map, Bool, true, false, Contains, refl, sym, ap, subst, ⊎_elim, ◌∙◌}
use Rattle.std.specs.FinSet as set
use Rattle.std.proofs.lemmas.Bool.{false≢true, false_from_ne_true}
use Rattle.std.proofs.lemmas.List.Elements.{Contains-append_left, Contains-append_right, Contains-append_cases}
use Rattle.gix_hash.specs.declared.ObjectId.{ObjectId}
use Rattle.gix_hash.specs.Id.{id_cmp}
use Rattle.gix_hash.specs.Reach.{Reaches, start, step, Tells}
use Rattle.gix_hash.proofs.Ids.Membership.{Contains-here, Contains-there, Contains-cons_cases, no_member, among_from, among_is}
use Rattle.gix_merge_base.specs.Inside.Steps.{AreFirst, Collects, named_by}
use Rattle.gix_merge_base.proofs.Members.{new_distinct, new_within, new_unknown, new_from, of_some, in_all}
use Rattle.gix_merge_base.proofs.BestOfFirst.{itself}
use Rattle.gix_revwalk.specs.declared.Info.{Info}
use Rattle.gix_revwalk.specs.Ids.{new_ids}

abbrev pub given_by : List Info → List ObjectId
given_by infos = map (λ info. info.id) infos

info_of : (infos : List Info) (i : ObjectId) → Contains (given_by infos) i → (info : Info) × Contains infos info × (info.id ≡ i)
info_of [] i c = absurd (no_member i c)
info_of (info ∷ infos) i c =
    ⊎_elim (λ e. (info, Contains-here info infos, e)) (λ t. let r = info_of infos i t in (r.0, Contains-there r.0 info infos r.1, r.2)) (Contains-cons_cases i info.id (given_by infos) c)

in_given : (infos : List Info) (info : Info) → Contains infos info → Contains (given_by infos) info.id
in_given [] info c = absurd (no_member info c)
in_given (x ∷ infos) info c =
    ⊎_elim (λ e. subst (λ i. Contains (x.id ∷ given_by infos) i) (ap (λ y. y.id) e) (Contains-here x.id (given_by infos))) (λ t. Contains-there info.id x.id (given_by infos) (in_given infos info t)) (Contains-cons_cases info x infos c)

module _ (parents : ObjectId → List ObjectId) (one : ObjectId) (others : List ObjectId) (test : ObjectId → Bool) (tells : Tells test (Reaches parents (one ∷ []))) (infos : List Info)
    (exact : (i : ObjectId) → Contains (given_by infos) i ↔ (Reaches parents others i × (Reaches parents (one ∷ []) i → ⊥)))
    (whole : (info : Info) → Contains infos info → info.parent_ids.items ≡ parents info.id) (only : set.FinSet id_cmp) (given_are : Collects (given_by infos) only) (named : List ObjectId) (named_are : named ≡ others ++ named_by infos) where
  abbrev found : List ObjectId
  found = new_ids (set.contains only) named

  -- what is named is reached by others
  named_reached : (i : ObjectId) → Contains named i → Reaches parents others i
  named_reached i c =
      ⊎_elim start
      (λ t. let p = of_some (λ (x : Info). x.parent_ids.items) infos i t in step ((exact p.0.id).0 (in_given infos p.0 p.1)).0 (subst (λ xs. Contains xs i) (whole p.0 p.1) p.2))
      (Contains-append_cases others (named_by infos) i (subst (λ xs. Contains xs i) named_are c))

  -- what others reach and wasn't given is reached by one
  ungiven : (i : ObjectId) → Reaches parents others i → set.contains only i ≡ false → Reaches parents (one ∷ []) i
  ungiven i r e = go (test i) refl
    where
      go : (b : Bool) → test i ≡ b → Reaches parents (one ∷ []) i
      go true t = (tells i).0 t
      go false t = absurd (false≢true (sym e ∙ given_are i ∙ among_from i (given_by infos) ((exact i).1 (r, λ h. false≢true (sym t ∙ (tells i).1 h)))))

  -- what one reaches wasn't given
  outside : (i : ObjectId) → Reaches parents (one ∷ []) i → set.contains only i ≡ false
  outside i r = false_from_ne_true _ (λ e. ((exact i).0 (among_is i (given_by infos) (sym (given_are i) ∙ e))).1 r)

  -- each common ancestor is reached from one that was found
  covered : (i : ObjectId) → Reaches parents others i → Reaches parents (one ∷ []) i → (k : ObjectId) × Contains found k × Reaches parents (k ∷ []) i
  covered i (start s) h =
      (i, new_from (set.contains only) named i (subst (λ xs. Contains xs i) (sym named_are) (Contains-append_left others (named_by infos) i s)) (outside i h), itself parents i)
  covered i (step {c = c} r n) h = go (test c) refl (covered c r)
    where
      go : (b : Bool) → test c ≡ b → (Reaches parents (one ∷ []) c → (k : ObjectId) × Contains found k × Reaches parents (k ∷ []) c) → (k : ObjectId) × Contains found k × Reaches parents (k ∷ []) i
      go true t before = let k = before ((tells c).0 t) in (k.0, k.1, step k.2 n)
      go false t before =
          let g : Contains (given_by infos) c = (exact c).1 (r, λ w. false≢true (sym t ∙ (tells c).1 w)) in
          let p = info_of infos c g in
          let m : Contains p.0.parent_ids.items i = subst (λ xs. Contains xs i) (sym (whole p.0 p.1 ∙ ap parents p.2)) n in
          let in_named : Contains named i = subst (λ xs. Contains xs i) (sym named_are) (Contains-append_right others (named_by infos) i (in_all (λ (x : Info). x.parent_ids.items) infos p.0 i p.1 m)) in
          (i, new_from (set.contains only) named i in_named (outside i h), itself parents i)

  pub are_first : AreFirst parents one others found
  are_first = record {
    once = new_distinct (set.contains only) named;
    each = λ i c. let r = named_reached i (new_within (set.contains only) named i c) in record { of_one = ungiven i r (new_unknown (set.contains only) named i c); of_others = r };
    all = λ i k. covered i k.of_others k.of_one;
  }

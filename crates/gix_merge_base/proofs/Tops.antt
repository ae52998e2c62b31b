-- Where no two common ancestors reach each other, each is reached by a best one; and what follows of a fault where all reads whole.
use Rattle.std.proofs.Common.{◌≡◌, ◌⊎◌, ◌↔◌, List, [], ◌∷◌, Bool, true, false, Contains, refl, sym, subst, inl, inr, ⊎_elim, ◌∙◌}
use Rattle.std.proofs.lemmas.Bool.{false≢true}
use Rattle.gix_hash.specs.declared.ObjectId.{ObjectId}
use Rattle.gix_hash.specs.Reach.{Reaches, Tells}
use Rattle.gix_hash.proofs.Ids.Membership.{Contains-cons_cases, no_member}
use Rattle.gix_object.specs.declared.find.existing_iter.Error.TheVariants as existing
use Rattle.gix_object.specs.Object.{Objects}
use Rattle.gix_commitgraph.specs.Rows.{GraphRow}
use Rattle.gix_simple.proofs.ReachDecided.{reach_test}
use Rattle.gix_contained.specs.declared.Error.{Error}
use Rattle.gix_contained.specs.declared.Error.TheVariants as error
use Rattle.gix_contained.proofs.Faultless.{at_whole}
use Rattle.gix_merge_base.specs.Bases.{IsCommon, IsBest, AreBases, FailsBy, IsFaultOf}
use Rattle.gix_merge_base.specs.Laws.{IsAcyclicAmong}
use Rattle.gix_merge_base.proofs.BestOfFirst.{itself, onward}
use Rattle.gix_revwalk.specs.Agreeing.{IsAgreeing}
use Rattle.gix_revwalk.specs.Commits.{ReadsWhole, parents_of}
use Rattle.gix_revwalk.proofs.SomeOrder.{known_ids, known, reached_list}

module _ (objects : Objects) (one : ObjectId) (others : List ObjectId) where
  abbrev parents : ObjectId → List ObjectId
  parents = parents_of objects

  abbrev Common : ObjectId → Type 0
  Common = IsCommon parents one others

  abbrev Leads : ObjectId → ObjectId → Type 0
  Leads a i = Reaches parents (a ∷ []) i

  reach_known : (starts : List ObjectId) (i : ObjectId) → Reaches parents starts i ⊎ (Reaches parents starts i → ⊥)
  reach_known starts i = go (reach_test objects starts)
    where
      decided : (tells : ObjectId → Bool) → Tells tells (Reaches parents starts) → (b : Bool) → tells i ≡ b → Reaches parents starts i ⊎ (Reaches parents starts i → ⊥)
      decided tells h true e = inl ((h i).0 e)
      decided tells h false e = inr (λ r. false≢true (sym e ∙ (h i).1 r))

      go : (tells : ObjectId → Bool) × Tells tells (Reaches parents starts) → Reaches parents starts i ⊎ (Reaches parents starts i → ⊥)
      go t = decided t.0 t.1 (t.0 i) refl

  -- a common ancestor above another, or none
  above_known : (x m : ObjectId) → (Common x × Leads x m) ⊎ ((Common x × Leads x m) → ⊥)
  above_known x m =
      ⊎_elim
      (λ a. ⊎_elim (λ b. ⊎_elim (λ l. inl (record { of_one = a; of_others = b }, l)) (λ n. inr (λ h. n h.1)) (reach_known (x ∷ []) m)) (λ n. inr (λ h. n h.0.of_others)) (reach_known others x))
      (λ n. inr (λ h. n h.0.of_one)) (reach_known (one ∷ []) x)

  module _ (acyclic : IsAcyclicAmong parents Common) where
    -- above a common ancestor, one that none of these is above
    record IsTop (m : ObjectId) (xs : List ObjectId) (t : ObjectId) : Type 0 where
      common : Common t
      leads : Leads t m
      alone : (x : ObjectId) → Contains xs x → Common x → Leads x t → x ≡ t

    top : (m : ObjectId) → Common m → (xs : List ObjectId) → (t : ObjectId) × IsTop m xs t
    top m c [] = (m, record { common = c; leads = itself parents m; alone = λ x h k l. absurd (no_member x h) })
    top m c (x ∷ xs) = go (top m c xs)
      where
        go : (t : ObjectId) × IsTop m xs t → (t : ObjectId) × IsTop m (x ∷ xs) t
        go before = ⊎_elim
            (λ up. (
              x,
              record {
                common = up.0;
                leads = onward parents (x ∷ []) before.0 m up.1 before.1.leads;
                alone = λ y h k l. ⊎_elim (λ e. sym e) (λ n.
                    let same : y ≡ before.0 = before.1.alone y n k (onward parents (y ∷ []) x before.0 l up.1) in
                    same ∙ acyclic before.0 x before.1.common up.0 (subst (λ z. Leads z x) same l) up.1) (Contains-cons_cases y x xs h);
              },
            ))
            (λ none. (
              before.0,
              record {
                common = before.1.common;
                leads = before.1.leads;
                alone = λ y h k l. ⊎_elim (λ e. absurd (none (subst Common (sym e) k, subst (λ z. Leads z before.0) (sym e) l))) (λ n. before.1.alone y n k l) (Contains-cons_cases y x xs h);
              },
            ))
            (above_known x before.0)

    pub best_above : (i : ObjectId) → Common i → (b : ObjectId) × IsBest parents one others b × Leads b i
    best_above i c =
        let all = reached_list parents others (known_ids objects others) (known objects parents others (λ c i h. h)) in
        let t = top i c all.0 in
        (t.0, record { common = t.1.common; alone = λ j k l. t.1.alone j ((all.1 j).1 k.of_others) k l }, t.1.leads)

    pub some_base : (bases : List ObjectId) → AreBases parents one others bases → (i : ObjectId) → Common i → (base : ObjectId) × Contains bases base × Leads base i
    some_base bases are i c = let b = best_above i c in (b.0, (are.exact b.0).1 b.1, b.2)

    -- where others reach one, it is common itself, and reaches each common ancestor
    pub one_base : (bases : List ObjectId) → AreBases parents one others bases → Reaches parents others one → (i : ObjectId) → Contains bases i ↔ (i ≡ one)
    one_base bases are r i =
        let own : Common one = record { of_one = itself parents one; of_others = r } in (
          λ c. let b : IsBest parents one others i = (are.exact i).0 c in sym (b.alone one own b.common.of_one),
          λ e. subst (Contains bases) (sym e) ((are.exact one).1 (record { common = own; alone = λ j k l. acyclic j one k own l k.of_one })),
        )

module _ (objects : Objects) (faulty : ObjectId → Type 0) where
  -- at a commit that reads whole only the store fails
  pub store_alone : (rows : List GraphRow) (one : ObjectId) (others : List ObjectId) (e : Error) → IsAgreeing objects rows
      → ((i : ObjectId) → Reaches (parents_of objects) (one ∷ others) i → ReadsWhole objects i) → FailsBy objects faulty rows one others e
      → e ≡ error.Find existing.Store
  store_alone rows one others e agreeing whole fails = let f : IsFaultOf objects faulty one others e = fails agreeing in f.is ∙ at_whole objects faulty f.id f.why (whole f.id f.reached) f.fault

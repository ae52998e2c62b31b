-- Where all that ids reach are whole commits, what they reach by the parents that texts name is what they reach.
use Rattle.std.proofs.Common.{◌≡◌, ℕ, List, [], ◌∷◌, Contains, sym, subst, ⊎_elim}
use Rattle.gix_commands.proofs.Common.{ObjectId, step, Contains-cons_cases, no_member, Objects, parents_of, text_next, reach_more, text_whole, whole_from, IsNumberOf, AreWhole}
use Rattle.gix_hash.specs.Reach.{Reaches, start}
use Rattle.gix_commands.proofs.ListedCommits.{IsShown, IsShownBy}

module _ (objects : Objects) (ids : List ObjectId) (whole : AreWhole objects ids) where
  module _ (tip : ObjectId) (is_one : Contains ids tip) where
    same_at : (i : ObjectId) → Reaches (parents_of objects) (tip ∷ []) i → parents_of objects i ≡ text_next objects i
    same_at i r = text_whole objects i (whole_from objects i (whole i (reach_more (parents_of objects) (tip ∷ []) ids (λ j c. ⊎_elim (λ e. subst (Contains ids) e is_one) (λ n. absurd (no_member j n)) (Contains-cons_cases j tip [] c)) i r)))

    pub by_texts : (i : ObjectId) → Reaches (parents_of objects) (tip ∷ []) i → Reaches (text_next objects) (tip ∷ []) i
    by_texts i (start s) = start s
    by_texts i (step {c = c} r n) = step (by_texts c r) (subst (λ xs. Contains xs i) (same_at c r) n)

    pub by_commits : (i : ObjectId) → Reaches (text_next objects) (tip ∷ []) i → Reaches (parents_of objects) (tip ∷ []) i
    by_commits i (start s) = start s
    by_commits i (step {c = c} r n) = let p : Reaches (parents_of objects) (tip ∷ []) c = by_commits c r in step p (subst (λ xs. Contains xs i) (sym (same_at c p)) n)

  pub number_by_texts : (tip hidden : ObjectId) → Contains ids tip → Contains ids hidden → (n : ℕ) → IsNumberOf (IsShown objects (tip ∷ []) (hidden ∷ [])) n → IsNumberOf (IsShownBy (text_next objects) (tip ∷ []) (hidden ∷ [])) n
  number_by_texts tip hidden t h n k = record {
    ids = k.ids;
    distinct = k.distinct;
    each = λ i c. let s = k.each i c in (by_texts tip t i s.0, λ r. s.1 (by_commits hidden h i r));
    all = λ i s. k.all i (by_commits tip t i s.0, λ r. s.1 (by_texts hidden h i r));
    number = k.number;
  }

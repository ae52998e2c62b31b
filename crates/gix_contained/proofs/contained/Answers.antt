use Rattle.std.proofs.Common.{◌≡◌, ◌⊎◌, ◌==◌, suc, List, [], ◌∷◌, length, true, refl, sym, inl, inr, ⊎_elim, ◌∙◌, arith}
use Rattle.std.proofs.lemmas.Bool.{false≢true}
use Rattle.std.proofs.lemmas.Bool.Decides.{eqb_tells}
use Rattle.gix_hash.specs.declared.ObjectId.{ObjectId}
use Rattle.gix_contained.proofs.Marked.{none_selected, met_selected}
use Rattle.gix_contained.proofs.contained.Goals as goal
use Rattle.gix_contained.proofs.contained.Goals.{then-is_empty-via-then-is_empty, then-is_empty-via-else-is_empty+then-is_empty-2}

no_ids : (ids : List ObjectId) → (length ids == 0) ≡ true → ids ≡ []
no_ids [] e = refl
no_ids (i ∷ ids) e = ⊎_elim (λ t. absurd (some t.1)) (λ f. absurd (false≢true (sym f.0 ∙ e))) (eqb_tells (length (i ∷ ids)) 0)
  where
    some : suc (length ids) ≡ 0 → ⊥
    some k = omega arith

pub returns-then-is_empty-clause-ok : goal.returns-then-is_empty-clause-ok
returns-then-is_empty-clause-ok g c =
    let either : (c.args.tips.now ≡ []) ⊎ (c.args.ids.now ≡ []) = elim c.then-is_empty.branch [
      | then-is_empty-via-then-is_empty w ↦ inl (no_ids c.args.tips.now (sym c.is_empty.ensures ∙ w.if-is_empty.true))
      | then-is_empty-via-else-is_empty+then-is_empty-2 w ↦ inr (no_ids c.args.ids.now (sym w.is_empty-else-is_empty.ensures ∙ w.if-is_empty-2.true))
    ] in
    none_selected _ _ c.args.tips.now c.args.ids.now _ c.new.ensures.items either

pub returns-clause-ok : goal.returns-clause-ok
returns-clause-ok g c = met_selected _ _ c.args.tips.now c.args.ids.now _ _ c.in_ok-asked.ensures.ok.read (c.in_ok-met.ensures.ok c.args.ids.now c.in_ok-asked.ensures.ok.are_asked) c.in_ok-those.ensures

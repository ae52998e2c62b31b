-- Why painting fails: a commit that it had to read can't be read.
use Rattle.std.proofs.Common.{◌≡◌, ◌≢◌, List, false, true, refl, sym, ap, subst, inl, inr, ⊎_elim, ◌∙◌}
use Rattle.gix_paint.proofs.Common.{ObjectId, Objects, GraphRow, row_of, Hidden, Painter, QueueEntry, parents_of, IsHistory, DropsBy, IsFaultAt, IsHiddenFault, IsSettled, IsPassed, ReadFails, Pops}
use Rattle.gix_object.specs.declared.find.existing_iter.Error.TheVariants as existing
use Rattle.gix_paint.specs.declared.Hidden.TheVariants as hidden_by
use Rattle.gix_paint.specs.Inside.Painter.{rows_of}
use Rattle.gix_paint.proofs.Invariant.{IsSafe}
use Rattle.gix_paint.proofs.Order.{HoldsOf}
use Rattle.gix_paint.proofs.BeforeTurn.{popped_there, reaches_either}
use Rattle.gix_revwalk.specs.Reading.{DropsRows}
use Rattle.gix_paint.proofs.Turn.{dropped_so}

module _ {F : Type 0} (objects : F → Objects) (faulty : F → ObjectId → Type 0) (store : F) (rows : List GraphRow) (tips hidden_tips : List ObjectId) where
  -- the commit of an entry that was taken can't be read
  pub turn_fails : (why : Hidden) {w v : Painter F} (top : QueueEntry) → Pops w top v → IsSafe objects store rows w → (IsSettled w → ⊥) → ((history : Objects) → IsHistory (objects store) rows history → HoldsOf objects store history rows tips hidden_tips w)
      → ReadFails (objects v.source.objects.now) (faulty v.source.objects.now) (rows_of v.source.graph) v.source.in_use top.1.id why → why ≢ hidden_by.Find existing.Memory → IsHiddenFault (objects store) (faulty store) rows tips hidden_tips why
  turn_fails why {w} {v} top pops safe unsettled holds fails n =
      let k : IsPassed (rows_of v.source.graph) v.source.in_use top.1.id × IsFaultAt (objects v.source.objects.now) (faulty v.source.objects.now) top.1.id why = fails n in
      record {
        id = top.1.id;
        fault = subst (λ s. IsFaultAt (objects s) (faulty s) top.1.id why) (ap (λ s. s.objects.now) pops.source ∙ safe.same_store) k.1;
        reached = λ history known. reaches_either objects store history rows tips hidden_tips top.1.side top.1.id ((holds history known).0.reached top (popped_there pops));
        unrowed = λ history known.
            let dropped : DropsRows rows top.1.id → DropsBy (parents_of history) rows tips hidden_tips = λ d. dropped_so objects store history rows tips hidden_tips top pops safe known {after = false} (holds history known).0 (holds history known).1 unsettled (inr (refl, d)) (λ e. cc) in
            ⊎_elim (λ none. inl (ap (λ rs. row_of rs top.1.id) (sym those) ∙ none))
            (⊎_elim (λ unused. inr ((holds history known).0.dropped (λ r. let bad : false ≡ true = sym unused ∙ ap (λ s. s.in_use) pops.source ∙ r in cc))) (λ d. inr (dropped (subst (λ rs. DropsRows rs top.1.id) those d)))) k.0;
      }
    where
      those : rows_of v.source.graph ≡ rows
      those = ap (λ s. rows_of s.graph) pops.source ∙ safe.same_rows

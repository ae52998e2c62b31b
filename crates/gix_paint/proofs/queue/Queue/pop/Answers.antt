use Rattle.std.proofs.Common.{◌∷◌, IsPermutation, refl, sym, subst, ◌∙◌}
use Rattle.std.proofs.lemmas.List.{append-nil, nil_from_length}
use Rattle.gix_paint.proofs.Common.{IsPermutation-sym, IsNoneAbove, Told, QueueEntry}
use Rattle.gix_paint.specs.Inside.Queue.{queue_entries}
use Rattle.gix_paint.proofs.Waits.{pop_rowed, push_unrowed, entries-empty, entries-greatest}
use Rattle.gix_paint.proofs.queue.Queue.pop.Goals as goal

pub returns-in-Some-clause-some : goal.returns-in-Some-clause-some
returns-in-Some-clause-some c =
    subst (λ old. IsPermutation {X = QueueEntry} old ((Rattle.gix_paint.proofs.Common.Infinite, c.in-Some.entry) ∷ queue_entries c.pop.new.self.items c.self.inside.rowed)) c.self.view_is
    (IsPermutation-sym _ _ (push_unrowed c.pop.new.self.items c.self.inside.rowed refl c.in-Some.entry c.self.inside.unrowed.items c.in-Some.ensures.items))

pub returns-in_err-generation-clause-none : goal.returns-in_err-generation-clause-none
returns-in_err-generation-clause-none c =
    let unrowed = nil_from_length c.self.inside.unrowed.items (sym c.self.inside.unrowed.ok.0 ∙ c.in_default.ensures.cases.0) in
    let rowed = c.in_err-generation.ensures.empty.0 in
    rw c.from_residual.ensures (sym c.self.view_is ∙ (λ k. queue_entries (unrowed k) (rowed k)) ∙ entries-empty)

pub returns-clause-some : goal.returns-clause-some
returns-clause-some c =
    subst (λ items. IsPermutation {X = QueueEntry} c.args.self.now ((Told c.in_ok-generation.generation, c.in_ok-generation.entry) ∷ queue_entries items c.pop-2.new.self)) (c.in_default.ensures.items ∙ append-nil _)
    (pop_rowed c.self.inside.unrowed.items c.self.inside.rowed c.self.view_is (c.in_ok-generation.generation, c.in_ok-generation.entry) c.pop-2.new.self c.in_ok-generation.ensures.rest)

pub returns-clause-greatest : goal.returns-clause-greatest
returns-clause-greatest c =
    subst (IsNoneAbove (Told c.in_ok-generation.generation)) c.self.view_is
    (entries-greatest c.self.inside.unrowed.items c.self.inside.rowed c.in_ok-generation.generation (nil_from_length c.self.inside.unrowed.items (sym c.self.inside.unrowed.ok.0 ∙ c.in_default.ensures.cases.0)) c.in_ok-generation.ensures.greatest)

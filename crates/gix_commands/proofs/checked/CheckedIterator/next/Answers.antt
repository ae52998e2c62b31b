use Rattle.std.proofs.Common.{◌≡◌, Option, None, Some, Result, Ok, Err, sym, subst, ◌∙◌}
use Rattle.gix_commands.proofs.Common.{Info, Fault, rows_in}
use Rattle.gix_simple.specs.declared.Error.{Error}
use Rattle.gix_commands.specs.Checked.{CheckedWalk, Checks, Looks}
use Rattle.gix_commands.specs.Walked.{Answers}
use Rattle.gix_commands.proofs.CheckedSteps.{step_lost, step_ended, step_failed, step_gave}
use Rattle.gix_commands.proofs.RowedParents.{still_kept, given_rowed}
use Rattle.gix_commands.proofs.checked.CheckedIterator.next.Goals as goal

pub returns-in-Some-clause-steps : goal.returns-in-Some-clause-steps
returns-in-Some-clause-steps c =
    let old : CheckedWalk = record { walk = c.self.inside.walk; objects = c.self.inside.objects; rows = rows_in c.self.inside.graph; lost = c.self.inside.lost } in
    subst (λ (w : CheckedWalk). Checks w (Some (Err c.in-Some.fault)) (record old { lost = c.take.new.self })) c.self.view_is (step_lost old c.take.new.self c.in-Some.fault (sym c.in-Some.ensures.value) c.in-Some.ensures.after)

pub returns-in_err-info-clause-steps : goal.returns-in_err-info-clause-steps
returns-in_err-info-clause-steps c =
    let old : CheckedWalk = record { walk = c.self.inside.walk; objects = c.self.inside.objects; rows = rows_in c.self.inside.graph; lost = c.self.inside.lost } in
    subst (λ (a : Option (Result Info Fault)). Checks c.args.self.now a (record old { walk = c.next.new.self; lost = c.take.new.self })) (sym c.from_residual.ensures)
    (subst (λ (w : CheckedWalk). Checks w None (record old { walk = c.next.new.self; lost = c.take.new.self })) c.self.view_is
    (step_ended old c.take.new.self c.next.new.self (sym c.in_default.ensures.value) c.in_default.ensures.after c.in_err-info.ensures.steps))

pub invariant_of-self-in_err-info : goal.invariant_of-self-in_err-info
invariant_of-self-in_err-info c = still_kept {rows = rows_in c.self.inside.graph} {v = c.self.inside.walk} {new = c.next.new.self} c.self.invariant c.in_err-info.ensures.steps

pub invariant_of-self-in-Ok : goal.invariant_of-self-in-Ok
invariant_of-self-in-Ok c = still_kept {rows = rows_in c.self.inside.graph} {v = c.self.inside.walk} {new = c.next.new.self} c.self.invariant c.in_ok-info.ensures.steps

pub lost_parent-self-inside-requires : goal.lost_parent-self-inside-requires
lost_parent-self-inside-requires c =
    given_rowed c.self.inside.objects (rows_in c.self.inside.graph) {v = c.self.inside.walk} {new = c.next.new.self} c.in-Ok.info c.self.invariant
    (subst (λ (a : Result Info Error). Answers c.self.inside.walk (Some a) c.next.new.self) c.in-Ok.is c.in_ok-info.ensures.steps)

pub invariant_of-self-in-Err : goal.invariant_of-self-in-Err
invariant_of-self-in-Err c = still_kept {rows = rows_in c.self.inside.graph} {v = c.self.inside.walk} {new = c.next.new.self} c.self.invariant c.in_ok-info.ensures.steps

pub returns-in-Ok-clause-steps : goal.returns-in-Ok-clause-steps
returns-in-Ok-clause-steps c =
    let found : Option Fault = c.lost_parent-self-inside.result in
    let old : CheckedWalk = record { walk = c.self.inside.walk; objects = c.self.inside.objects; rows = rows_in c.self.inside.graph; lost = c.self.inside.lost } in
    let mid : CheckedWalk = record old { walk = c.next.new.self; lost = c.take.new.self } in
    let left : CheckedWalk = record { walk = c.self-in-Ok.inside.walk; objects = c.self-in-Ok.inside.objects; rows = rows_in c.self-in-Ok.inside.graph; lost = c.self-in-Ok.inside.lost } in
    let same : left ≡ mid = c.self-in-Ok.view_is ∙ c.lost_parent-self-inside.ensures.kept in
    let step : Answers c.self.inside.walk (Some (Ok c.in-Ok.info)) c.next.new.self = subst (λ (a : Result Info Error). Answers c.self.inside.walk (Some a) c.next.new.self) c.in-Ok.is c.in_ok-info.ensures.steps in
    let looks : Looks old.objects old.rows c.in-Ok.info.parent_ids.items found = c.lost_parent-self-inside.ensures.looks in
    subst (λ (w : CheckedWalk). Checks w (Some (Ok c.in-Ok.info)) (record left { lost = found })) c.self.view_is
    (subst (λ (l : CheckedWalk). Checks old (Some (Ok c.in-Ok.info)) (record l { lost = found })) (sym same) (step_gave old found c.next.new.self (sym c.in_default.ensures.value) c.in-Ok.info step looks))

pub returns-in-Err-clause-steps : goal.returns-in-Err-clause-steps
returns-in-Err-clause-steps c =
    let old : CheckedWalk = record { walk = c.self.inside.walk; objects = c.self.inside.objects; rows = rows_in c.self.inside.graph; lost = c.self.inside.lost } in
    let step : Answers c.self.inside.walk (Some (Err c.in-Err.fault)) c.next.new.self = subst (λ (a : Result Info Error). Answers c.self.inside.walk (Some a) c.next.new.self) c.in-Err.is c.in_ok-info.ensures.steps in
    subst (λ (w : CheckedWalk). Checks w (Some (Err c.from.result)) (record old { walk = c.next.new.self; lost = c.take.new.self })) c.self.view_is
    (step_failed old c.take.new.self c.next.new.self (sym c.in_default.ensures.value) c.in_default.ensures.after c.in-Err.fault c.from.result c.from.ensures step)

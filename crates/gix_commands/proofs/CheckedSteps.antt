-- One step of a checked walk, by what its code leaves.
use Rattle.std.proofs.Common.{◌≡◌, Option, None, Some, Ok, Err, sym, subst, ◌∙◌}
use Rattle.gix_commands.proofs.Common.{Info, Fault, fault_of_walk}
use Rattle.gix_simple.specs.declared.Error.{Error}
use Rattle.gix_commands.specs.Checked.{CheckedWalk, Checks, Looks, ended, failed, gave, lost}
use Rattle.gix_commands.specs.Walked.{Walk, Answers}

module _ (old : CheckedWalk) (after : Option Fault) where
  pub step_lost : (why : Fault) → old.lost ≡ Some why → after ≡ None → Checks old (Some (Err why)) (record old { lost = after })
  step_lost why is none = subst (λ (l : Option Fault). Checks old (Some (Err why)) (record old { lost = l })) (sym none) (lost why is)

  module _ (walk : Walk) (open_to : old.lost ≡ None) where
    pub step_ended : after ≡ None → Answers old.walk None walk → Checks old None (record old { walk = walk; lost = after })
    step_ended none a = subst (λ (l : Option Fault). Checks old None (record old { walk = walk; lost = l })) (open_to ∙ sym none) (ended open_to a)

    pub step_failed : after ≡ None → (e : Error) (why : Fault) → why ≡ fault_of_walk e → Answers old.walk (Some (Err e)) walk → Checks old (Some (Err why)) (record old { walk = walk; lost = after })
    step_failed none e why is a =
        subst (λ (f : Fault). Checks old (Some (Err f)) (record old { walk = walk; lost = after })) (sym is)
        (subst (λ (l : Option Fault). Checks old (Some (Err (fault_of_walk e))) (record old { walk = walk; lost = l })) (open_to ∙ sym none) (failed e open_to a))

    pub step_gave : (info : Info) → Answers old.walk (Some (Ok info)) walk → Looks old.objects old.rows info.parent_ids.items after → Checks old (Some (Ok info)) (record old { walk = walk; lost = after })
    step_gave info a looks = gave open_to a looks

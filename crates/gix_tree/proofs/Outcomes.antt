-- What each outcome of a visit says of the entry, of the answer, and of the ids that are known above the entry.
use Rattle.std.proofs.Common.{◌≡◌, Bool, true, false, refl, subst, Continue, Break}
use Rattle.gix_tree.proofs.Common.{Action, Outcome, Leaves, Enters, Cycles, Breaks, outcome_of}

-- by whether the entry is a tree, and whether its id is known
abbrev pub Says : Bool → Bool → Action → Outcome → Type 0
Says t known a Leaves = a ≡ Continue true → t ≡ false
Says t known a Enters = ((t ≡ true) × (a ≡ Continue true)) × (known ≡ false)
Says t known a Cycles = ((t ≡ true) × (a ≡ Continue true)) × (known ≡ true)
Says t known a Breaks = (b : Unit {0}) × (a ≡ Break b)

outcome_says : (t known : Bool) (a : Action) → Says t known a (outcome_of t a known)
outcome_says t known (Break b) = (b, refl)
outcome_says t known (Continue false) = λ e. cc
outcome_says true true (Continue true) = ((refl, refl), refl)
outcome_says true false (Continue true) = ((refl, refl), refl)
outcome_says false known (Continue true) = λ e. refl

pub says : (t known : Bool) (a : Action) (o : Outcome) → outcome_of t a known ≡ o → Says t known a o
says t known a o is = subst (Says t known a) is (outcome_says t known a)

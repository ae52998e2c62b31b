-- What is right of objects that were read is what the page promises of given objects and rows that have all of their commits and trees.
use Rattle.std.proofs.Common.{◌≡◌, ℕ, List, Option, Result, Ok, Err, inl, inr, ⊎_elim, refl, sym, subst}
use Rattle.gix_hash.specs.declared.ObjectId.{ObjectId}
use Rattle.gix_statement.specs.WholeStatement.{Objects, Row, Agree, Promises}
use Rattle.gix_words.specs.declared.fault.Fault.{Fault}
use Rattle.gix_words.specs.declared.fault.Fault.TheVariants as fault
use Rattle.gix_commands.proofs.Right.{IsRight}
use Rattle.gix_commands.proofs.GivenObjects.{HasAll, each_on}

module _ (read objects : Objects) (rows : List Row) (Stored : ObjectId → Type 0) (on : HasAll read Stored objects rows) (AreGiven : Objects → List Row → Type 0) (given : AreGiven objects rows) (agree : Agree objects rows) (words : List (List ℕ)) (old : Option (List ℕ)) where
  pub promised : (answer : Result (Unit {0}) Fault) (new : Option (List ℕ)) → IsRight read objects rows words old answer new → Promises fault.Write words AreGiven old answer new
  promised (Ok done) new each = (objects, rows, given, agree, each_on on each)
  promised (Err e) new right = ⊎_elim (λ same. inl same) (λ each. inr (objects, rows, given, agree, each_on on each)) right

-- what is promised of given things is promised of things that are more
pub promises_more : {AreGiven AreToo : Objects → List Row → Type 0} → ((objects : Objects) (rows : List Row) → AreGiven objects rows → AreToo objects rows)
    → (words : List (List ℕ)) (old : Option (List ℕ)) (answer : Result (Unit {0}) Fault) (new : Option (List ℕ)) → Promises fault.Write words AreGiven old answer new → Promises fault.Write words AreToo old answer new
promises_more more words old (Ok done) new (objects, rows, given, agree, each) = (objects, rows, more objects rows given, agree, each)
promises_more more words old (Err e) new p = ⊎_elim (λ same. inl same) (λ h. inr (h.0, h.1, more h.0 h.1 h.2, h.3, h.4)) p

-- a run that fails has written nothing
pub unwritten : (AreGiven : Objects → List Row → Type 0) (words : List (List ℕ)) (old : Option (List ℕ)) (result : Result (Unit {0}) Fault) (e : Fault) → result ≡ Err e → Promises fault.Write words AreGiven old result old
unwritten AreGiven words old result e same = subst (λ (r : Result (Unit {0}) Fault). Promises fault.Write words AreGiven old r old) (sym same) (inl refl)

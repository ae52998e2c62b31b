-- What is written of commits, in the words of the page.
use Rattle.std.proofs.Common.{◌≡◌, ◌⊎◌, ◌≤◌, ℕ, suc, List, Option, Some, None, Ok, Err, refl, sym, subst, inl, inr, arith}
use Rattle.gix_commands.proofs.Common.{Appends, Fault, ObjectId, Writes}
use Rattle.gix_statement.specs.WholeStatement as page
use Rattle.gix_statement.specs.WholeStatement.{Allows}
use Rattle.gix_words.specs.declared.words.Form.{Form}
use Rattle.gix_words.specs.declared.words.Form.TheVariants as form
use Rattle.gix_commands.specs.Chosen.{page_form}
use Rattle.gix_commands.specs.Walked.{AsksForMore}

-- of a list that has ended
pub ended_bytes : (line : ObjectId → List ℕ) (by : Form) (ids : List ObjectId) (old new : Option (List ℕ)) → Writes line by (Ok tt) ids old new → Appends old new (page.written line (page_form by) ids)
ended_bytes line form.Lines ids old new w = w
ended_bytes line form.Count ids old new w = w
ended_bytes line form.Reverse ids old new w = w

-- of one that hasn't: nothing, or lines
pub begun_bytes : (line : ObjectId → List ℕ) (by : Form) (e : Fault) (ids : List ObjectId) (old new : Option (List ℕ)) → Writes line by (Err e) ids old new → (new ≡ old) ⊎ ((page_form by ≡ page.Lines) × Appends old new (page.written line (page_form by) ids))
begun_bytes line form.Lines e ids old new w = inr (refl, w)
begun_bytes line form.Count e ids old new w = inl w
begun_bytes line form.Reverse e ids old new w = inl w

-- what a limit allows
pub allows_fewer : (limit : Option ℕ) (n : ℕ) → AsksForMore limit n → Allows limit n
allows_fewer None n more = tt
allows_fewer (Some most) n more = omega (arith, more)

pub allows_all : (limit : Option ℕ) (n : ℕ) → limit ≡ None → Allows limit n
allows_all limit n is = subst (λ l. Allows l n) (sym is) tt

pub allows_least : (limit : Option ℕ) (n most : ℕ) → limit ≡ Some most → n ≤ most → Allows limit n
allows_least limit n most is few = subst (λ l. Allows l n) (sym is) few

pub no_more : (limit : Option ℕ) (n most : ℕ) {A : Type 0} → limit ≡ Some most → n ≡ most → Allows limit (suc n) → A
no_more limit n most is e more = let few : suc n ≤ most = subst (λ l. Allows l (suc n)) is more in absurd (omega (arith, few, e))

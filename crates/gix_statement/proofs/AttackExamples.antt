-- Attacks, as theorems: what is refused because there is one right output, and what is admitted and harmless.
use Rattle.std.proofs.Common.{◌≡◌, ℕ, ℤ, List, [], ◌∷◌, ◌++◌, length, Some, None, Ok, Err, codes, refl, ap, arith, inl, inr}
use Rattle.std.proofs.lemmas.List.Elements.{All-nil}
use Rattle.gix_hash.specs.declared.ObjectId.{ObjectId}
use Rattle.gix_hash.proofs.Ids.Membership.{no_member}
use Rattle.gix_statement.specs.WholeStatement as page
use Rattle.gix_statement.specs.WholeStatement.{Objects, Row, Agree, AreFed, Allows, Begins, Follows, IsHistory, IsShown, IsNext, IsWhole, IsNumber, Promises, Serves, commits, lists, Spells, AreTips, Reaches, start, breadth, IsPending}
use Rattle.gix_statement.proofs.HoleExamples.{Read}
use Rattle.gix_statement.proofs.OneOutput.{one_output, one_beginning}
use Rattle.gix_statement.proofs.RunExamples.{input, newest_of_records, both_lines, spelled, child}
use Rattle.gix_statement.proofs.Tests.{all_digits}

abbrev tip : List ℕ
tip = codes "2222222222222222222222222222222222222222"

-- REFUSED. Over two records, a child and its parent, `newest CHILD` may end well with these two lines alone.
no_other_lines : {E : Type 0} (e : E) (out : List ℕ) → Promises e (codes "newest" ∷ tip ∷ []) (Read input) (Some []) (Ok tt) (Some out) → out ≡ both_lines
no_other_lines e out p = one_output e input (codes "newest" ∷ tip ∷ []) [] out both_lines p (newest_of_records e)

not_twice : {E : Type 0} (e : E) → Promises e (codes "newest" ∷ tip ∷ []) (Read input) (Some []) (Ok tt) (Some (both_lines ++ both_lines)) → ⊥
not_twice e p = let l : 164 ≡ 82 = ap length (no_other_lines e (both_lines ++ both_lines) p) in omega (arith, l)

not_nothing : {E : Type 0} (e : E) → Promises e (codes "newest" ∷ tip ∷ []) (Read input) (Some []) (Ok tt) (Some []) → ⊥
not_nothing e p = let l : 0 ≡ 82 = ap length (no_other_lines e [] p) in omega (arith, l)

-- And if it fails, its writer or anything else, what it wrote is a beginning of them.
no_other_beginning : {E : Type 0} (writer_failed e : E) (out : List ℕ) → Promises writer_failed (codes "newest" ∷ tip ∷ []) (Read input) (Some []) (Err e) (Some out) → (left : List ℕ) × (both_lines ≡ out ++ left)
no_other_beginning writer_failed e out p = one_beginning writer_failed input (codes "newest" ∷ tip ∷ []) [] out both_lines e p (newest_of_records writer_failed)

-- HARMLESS. Where nothing is to be listed in any case, ids needn't be there: `-n 0`, and a tip that is hidden itself, over empty input.
not_cut : {I : Type 0} (taken rest : List I) (i : I) → [] ≡ taken ++ i ∷ rest → ⊥
not_cut [] rest i e = cc
not_cut (x ∷ taken) rest i e = cc

module _ (objects : Objects) (rows : List Row) (parents : ObjectId → List ObjectId) (time : ObjectId → ℤ) where
  nothing_begun : (hidden : List ObjectId) → Begins parents parents time (child ∷ []) hidden (codes "breadth") []
  nothing_begun hidden = (All-nil _, (λ i j d l below. absurd (omega (arith, below))), λ taken rest i e. absurd (not_cut taken rest i e))

  no_lines : Serves objects rows parents time (Some []) (Some []) (codes "breadth" ∷ codes "-n" ∷ codes "0" ∷ tip ∷ [])
  no_lines = commits []
      (lists [] (codes "-n" ∷ codes "0" ∷ tip ∷ []) _ [] {hidden = []} (0, omega arith, refl)
      (page.at_most 0 (omega arith, omega arith, all_digits 10 (codes "0") refl, refl) (omega arith) (page.everything (inl (child, [], refl, spelled, (refl, refl))))) (λ e. cc) page.all (All-nil _) (λ e. cc) (nothing_begun [])
      (omega arith) (λ ended more. absurd (omega (arith, more))) (inl refl) refl) refl

  tip_hidden : Serves objects rows parents time (Some []) (Some []) (codes "breadth" ∷ tip ∷ (94 ∷ tip) ∷ [])
  tip_hidden = commits []
      (lists [] (tip ∷ (94 ∷ tip) ∷ []) _ [] {hidden = child ∷ []} (0, omega arith, refl) (page.everything (inl (child, [], refl, spelled, inr (child, [], refl, tip, refl, spelled, (refl, refl))))) (λ e. cc) page.all (All-nil _) (λ e. cc)
      (nothing_begun (child ∷ [])) tt (λ ended more. (none_next, λ acyclic i s. absurd (s.1 (up i s.0)))) (inl refl) refl) refl
    where
      up : (i : ObjectId) → Reaches parents (child ∷ []) i → Reaches parents (child ∷ []) i
      up i r = r

      none_next : (i : ObjectId) → IsNext parents parents time (child ∷ []) (child ∷ []) [] i (codes "breadth") → ⊥
      none_next i (breadth (before, after, is, none, p)) = p.2 (start p.0)

empty_objects : Objects
empty_objects i = None

nothing_agrees : Agree empty_objects []
nothing_agrees = ((λ i j d l m. absurd (omega (arith, m))), λ r c n. absurd (no_member r c))

empty_fed : Read [] empty_objects []
unfolding empty_objects
empty_fed = (([], inr refl, [], refl, λ i o. no_member (i, o)), refl)

no_lines_of_nothing : {E : Type 0} (e : E) → Promises e (codes "breadth" ∷ codes "-n" ∷ codes "0" ∷ tip ∷ []) (Read []) (Some []) (Ok tt) (Some [])
no_lines_of_nothing e = (empty_objects, [], empty_fed, nothing_agrees, λ parents time h. no_lines empty_objects [] parents time)

hidden_tip_of_nothing : {E : Type 0} (e : E) → Promises e (codes "breadth" ∷ tip ∷ (94 ∷ tip) ∷ []) (Read []) (Some []) (Ok tt) (Some [])
hidden_tip_of_nothing e = (empty_objects, [], empty_fed, nothing_agrees, λ parents time h. tip_hidden empty_objects [] parents time)

-- A store that is a part of a history, and has whole all that the target and the tips reach, has the answer of the history.
use Rattle.std.proofs.Common.{◌≡◌, ◌↔◌, List, [], ◌∷◌, Contains, refl, sym, ap, subst, ⊎_elim}
use Rattle.gix_hash.specs.declared.ObjectId.{ObjectId}
use Rattle.gix_hash.specs.Reach.{Reaches, start}
use Rattle.gix_hash.proofs.Ids.Membership.{Contains-here, Contains-there, Contains-cons_cases, no_member}
use Rattle.gix_hash.proofs.Lists.{only_member}
use Rattle.gix_object.specs.Object.{Objects}
use Rattle.gix_commitgraph.specs.Rows.{GraphRow}
use Rattle.gix_contained.specs.Contained.{AreContained, empty as none, reached, passed as unmet}
use Rattle.gix_containing.specs.Containing.{AreContaining, empty, contains, passed, FindsContaining}
use Rattle.gix_merge_base.proofs.Histories.{there, back}
use Rattle.gix_paint.specs.Painting.{IsHistory}
use Rattle.gix_revwalk.specs.Agreeing.{IsAgreeing}
use Rattle.gix_revwalk.specs.Commits.{ReadsWhole, parents_of}

-- whoever reaches the target by some parents does so by the others
moved : (parents others : ObjectId → List ObjectId) (target : ObjectId) {tips those : List ObjectId} → ((i : ObjectId) → Contains tips i → Reaches parents (i ∷ []) target ↔ Reaches others (i ∷ []) target)
    → AreContaining parents target tips those → AreContaining others target tips those
moved parents others target same empty = empty
moved parents others target same (contains {i = i} {tips = tips} r a) = contains ((same i (Contains-here i tips)).0 r) (moved parents others target (λ k m. same k (Contains-there k i tips m)) a)
moved parents others target same (passed {i = i} {tips = tips} n a) = passed (λ r. n ((same i (Contains-here i tips)).1 r)) (moved parents others target (λ k m. same k (Contains-there k i tips m)) a)

pub containing_of_history : (objects history : Objects) (rows : List GraphRow) (target : ObjectId) (tips those : List ObjectId) → IsAgreeing objects rows → IsHistory objects rows history → FindsContaining objects rows target tips those
    → AreContaining (parents_of history) target tips those
containing_of_history objects history rows target [] those agreeing h found = moved (parents_of objects) (parents_of history) target (λ i m. absurd (no_member i m)) (found.exact agreeing)
containing_of_history objects history rows target (x ∷ tips) those agreeing h found = moved (parents_of objects) (parents_of history) target same (found.exact agreeing)
  where
    whole : (i : ObjectId) → Reaches (parents_of objects) (target ∷ x ∷ tips) i → ReadsWhole objects i
    whole = found.read agreeing (λ e. cc)

    met : (i : ObjectId) → Contains (x ∷ tips) i → (j : ObjectId) → Contains (i ∷ []) j → Reaches (parents_of objects) (target ∷ x ∷ tips) j
    met i m j n = start (Contains-there j target (x ∷ tips) (subst (Contains (x ∷ tips)) (only_member i j n) m))

    same : (i : ObjectId) → Contains (x ∷ tips) i → Reaches (parents_of objects) (i ∷ []) target ↔ Reaches (parents_of history) (i ∷ []) target
    same i m = (
      there objects history h.read target (x ∷ tips) whole (i ∷ []) (met i m) target,
      back objects history h.read target (x ∷ tips) whole (i ∷ []) (met i m) target,
    )

-- of one history there is one answer
pub one_answer : (parents : ObjectId → List ObjectId) (target : ObjectId) {tips those these : List ObjectId} → AreContaining parents target tips those → AreContaining parents target tips these → those ≡ these
one_answer parents target empty empty = refl
one_answer parents target (contains {i = i} r a) (contains s b) = ap (λ xs. i ∷ xs) (one_answer parents target a b)
one_answer parents target (contains r a) (passed n b) = absurd (n r)
one_answer parents target (passed n a) (contains s b) = absurd (n s)
one_answer parents target (passed n a) (passed o b) = one_answer parents target a b

in_answer : (parents : ObjectId → List ObjectId) (target : ObjectId) {tips those : List ObjectId} → AreContaining parents target tips those → (i : ObjectId) → Contains those i → Reaches parents (i ∷ []) target
in_answer parents target empty i m = absurd (no_member i m)
in_answer parents target (contains {i = j} {those = those} r a) i m = ⊎_elim (λ e. subst (λ x. Reaches parents (x ∷ []) target) e r) (in_answer parents target a i) (Contains-cons_cases i j those m)
in_answer parents target (passed n a) i m = in_answer parents target a i m

into_answer : (parents : ObjectId → List ObjectId) (target : ObjectId) {tips those : List ObjectId} → AreContaining parents target tips those → (i : ObjectId) → Contains tips i → Reaches parents (i ∷ []) target → Contains those i
into_answer parents target empty i m r = absurd (no_member i m)
into_answer parents target (contains {i = j} {tips = tips} {those = those} s a) i m r =
    ⊎_elim (λ e. subst (Contains (j ∷ those)) e (Contains-here j those)) (λ t. Contains-there i j those (into_answer parents target a i t r)) (Contains-cons_cases i j tips m)
into_answer parents target (passed {i = j} {tips = tips} n a) i m r =
    ⊎_elim (λ e. absurd (n (subst (λ x. Reaches parents (x ∷ []) target) (sym e) r))) (λ t. into_answer parents target a i t r) (Contains-cons_cases i j tips m)

-- a tip contains the target if and only if the target is contained in it
pub is_converse : (parents : ObjectId → List ObjectId) (target i : ObjectId) (tips those met : List ObjectId) → AreContaining parents target tips those → AreContained parents (i ∷ []) (target ∷ []) met → Contains tips i → Contains those i ↔ Contains met target
is_converse parents target i tips those met a (reached r none) m = (λ c. Contains-here target [], λ c. into_answer parents target a i m r)
is_converse parents target i tips those met a (unmet n none) m = (λ c. absurd (n (in_answer parents target a i c)), λ c. absurd (no_member target c))

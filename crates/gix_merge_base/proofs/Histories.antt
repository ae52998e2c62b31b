-- A store that is a part of a history, and has whole all that one and others reach, has the bases of the history.
use Rattle.std.proofs.Common.{◌≡◌, List, [], ◌∷◌, Some, Contains, refl, sym, ap, subst, ◌∙◌}
use Rattle.gix_hash.specs.declared.ObjectId.{ObjectId}
use Rattle.gix_hash.specs.Reach.{Reaches, start, step}
use Rattle.gix_hash.proofs.Ids.Membership.{Contains-here, Contains-there}
use Rattle.gix_hash.proofs.Lists.{only_member}
use Rattle.gix_object.specs.CommitText.{Commit}
use Rattle.gix_object.specs.Object.{Objects}
use Rattle.gix_commitgraph.specs.Rows.{GraphRow}
use Rattle.gix_paint.specs.Painting.{IsHistory}
use Rattle.gix_simple.proofs.Theorem.{no_start}
use Rattle.gix_merge_base.specs.Bases.{IsCommon, IsBest, AreBases, FindsBases}
use Rattle.gix_revwalk.specs.Agreeing.{IsAgreeing}
use Rattle.gix_revwalk.specs.Commits.{ReadsWhole, commit_at, parents_in, parents_of}
use Rattle.gix_revwalk.proofs.Reached.{reach_more, reaches_from}

module _ (objects history : Objects) (part : (i : ObjectId) (commit : Commit) → commit_at objects i ≡ Some commit → commit_at history i ≡ Some commit) (one : ObjectId) (others : List ObjectId)
    (whole : (i : ObjectId) → Reaches (parents_of objects) (one ∷ others) i → ReadsWhole objects i) where
  abbrev Met : ObjectId → Type 0
  Met i = Reaches (parents_of objects) (one ∷ others) i

  same_parents : (i : ObjectId) → Met i → parents_of objects i ≡ parents_of history i
  same_parents i r = let w = whole i r in ap parents_in w.stored ∙ sym (ap parents_in (part i w.commit w.stored))

  module _ (tips : List ObjectId) (met : (i : ObjectId) → Contains tips i → Met i) where
    pub there : (i : ObjectId) → Reaches (parents_of objects) tips i → Reaches (parents_of history) tips i
    there i (start m) = start m
    there i (step {c = c} r n) = step (there c r) (subst (λ xs. Contains xs i) (same_parents c (reaches_from (parents_of objects) tips (one ∷ others) met c r)) n)

    pub back : (i : ObjectId) → Reaches (parents_of history) tips i → Reaches (parents_of objects) tips i
    back i (start m) = start m
    back i (step {c = c} r n) =
        let s : Reaches (parents_of objects) tips c = back c r in
        step s (subst (λ xs. Contains xs i) (sym (same_parents c (reaches_from (parents_of objects) tips (one ∷ others) met c s))) n)

  by_one : (i : ObjectId) → Contains (one ∷ []) i → Met i
  by_one i m = start (subst (Contains (one ∷ others)) (only_member one i m) (Contains-here one others))

  by_others : (i : ObjectId) → Contains others i → Met i
  by_others i m = start (Contains-there i one others m)

  common_there : (i : ObjectId) → IsCommon (parents_of objects) one others i → IsCommon (parents_of history) one others i
  common_there i k = record { of_one = there (one ∷ []) by_one i k.of_one; of_others = there others by_others i k.of_others }

  common_back : (i : ObjectId) → IsCommon (parents_of history) one others i → IsCommon (parents_of objects) one others i
  common_back i k = record { of_one = back (one ∷ []) by_one i k.of_one; of_others = back others by_others i k.of_others }

  by_common : (j : ObjectId) → IsCommon (parents_of objects) one others j → (i : ObjectId) → Contains (j ∷ []) i → Met i
  by_common j k i m = subst Met (only_member j i m) (reach_more (parents_of objects) others (one ∷ others) (λ x c. Contains-there x one others c) j k.of_others)

  best_there : (i : ObjectId) → IsBest (parents_of objects) one others i → IsBest (parents_of history) one others i
  best_there i b = record {
    common = common_there i b.common;
    alone = λ j k r. let c = common_back j k in b.alone j c (back (j ∷ []) (by_common j c) i r);
  }

  best_back : (i : ObjectId) → IsBest (parents_of history) one others i → IsBest (parents_of objects) one others i
  best_back i b = record {
    common = common_back i b.common;
    alone = λ j k r. b.alone j (common_there j k) (there (j ∷ []) (by_common j k) i r);
  }

  bases_there : (bases : List ObjectId) → AreBases (parents_of objects) one others bases → AreBases (parents_of history) one others bases
  bases_there bases are = record { rising = are.rising; exact = λ i. (λ c. best_there i ((are.exact i).0 c), λ b. (are.exact i).1 (best_back i b)) }

-- without others there is nothing in common, by whatever parents
no_bases : (parents others_parents : ObjectId → List ObjectId) (one : ObjectId) (bases : List ObjectId) → AreBases parents one [] bases → AreBases others_parents one [] bases
no_bases parents others_parents one bases are = record {
  rising = are.rising;
  exact = λ i. (λ c. absurd (no_start parents [] i ((are.exact i).0 c).common.of_others refl), λ b. absurd (no_start others_parents [] i b.common.of_others refl));
}

pub bases_of_history : (objects history : Objects) (rows : List GraphRow) (one : ObjectId) (others bases : List ObjectId) → IsAgreeing objects rows → IsHistory objects rows history → FindsBases objects rows one others bases
    → AreBases (parents_of history) one others bases
bases_of_history objects history rows one [] bases agreeing h found = no_bases (parents_of objects) (parents_of history) one bases (found.bases_are agreeing)
bases_of_history objects history rows one (x ∷ others) bases agreeing h found =
    bases_there objects history h.read one (x ∷ others) (found.read agreeing (λ e. cc)) bases (found.bases_are agreeing)

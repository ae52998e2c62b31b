-- A store that is a part of a history, and has whole all that two commits reach, has the numbers of the history.
use Rattle.std.proofs.Common.{◌≡◌, ◌↔◌, ℕ, List, [], ◌∷◌, Contains, sym, subst, ◌∙◌}
use Rattle.gix_hash.specs.declared.ObjectId.{ObjectId}
use Rattle.gix_hash.specs.Reach.{Reaches, start}
use Rattle.gix_hash.proofs.Ids.Membership.{Contains-here, Contains-there}
use Rattle.gix_hash.proofs.Lists.{only_member}
use Rattle.gix_object.specs.Object.{Objects}
use Rattle.gix_commitgraph.specs.Rows.{GraphRow}
use Rattle.gix_ahead.specs.Ahead.{FindsAhead, IsAhead}
use Rattle.gix_ahead.proofs.Counting.{same_number}
use Rattle.gix_merge_base.proofs.Histories.{there, back}
use Rattle.gix_paint.specs.Painting.{IsHistory}
use Rattle.gix_revwalk.specs.Agreeing.{IsAgreeing}
use Rattle.gix_revwalk.specs.Commits.{parents_of}

-- by parents by which both commits reach the same the number is the same
moved : (parents others : ObjectId → List ObjectId) (one other : ObjectId) (n : ℕ) → ((i : ObjectId) → Reaches parents (one ∷ []) i ↔ Reaches others (one ∷ []) i) → ((i : ObjectId) → Reaches parents (other ∷ []) i ↔ Reaches others (other ∷ []) i)
    → IsAhead parents one other n → IsAhead others one other n
moved parents others one other n same also a = record {
  ids = a.ids;
  once = a.once;
  exact = λ i. (
    (λ c. let r = (a.exact i).0 c in ((same i).0 r.0, λ k. r.1 ((also i).1 k))),
    (λ r. (a.exact i).1 ((same i).1 r.0, λ k. r.1 ((also i).0 k))),
  );
  number = a.number;
}

pub of_history : (objects history : Objects) (rows : List GraphRow) (one other : ObjectId) (ahead behind : ℕ) → IsAgreeing objects rows → IsHistory objects rows history → FindsAhead objects rows one other ahead behind
    → IsAhead (parents_of history) one other ahead × IsAhead (parents_of history) other one behind
of_history objects history rows one other ahead behind agreeing h found = (
  moved (parents_of objects) (parents_of history) one other ahead (same one (Contains-here one (other ∷ []))) (same other (Contains-there other one (other ∷ []) (Contains-here other []))) (found.ahead_is agreeing),
  moved (parents_of objects) (parents_of history) other one behind (same other (Contains-there other one (other ∷ []) (Contains-here other []))) (same one (Contains-here one (other ∷ []))) (found.behind_is agreeing),
)
  where
    same : (t : ObjectId) → Contains (one ∷ other ∷ []) t → (i : ObjectId) → Reaches (parents_of objects) (t ∷ []) i ↔ Reaches (parents_of history) (t ∷ []) i
    same t m i = (
      there objects history h.read one (other ∷ []) (found.read agreeing) (t ∷ []) met i,
      back objects history h.read one (other ∷ []) (found.read agreeing) (t ∷ []) met i,
    )
      where
        met : (j : ObjectId) → Contains (t ∷ []) j → Reaches (parents_of objects) (one ∷ other ∷ []) j
        met j c = start (subst (Contains (one ∷ other ∷ [])) (only_member t j c) m)

-- there is one number
pub one_number : (parents : ObjectId → List ObjectId) (one other : ObjectId) (m n : ℕ) → IsAhead parents one other m → IsAhead parents one other n → m ≡ n
one_number parents one other m n a b = sym a.number ∙ same_number a.ids b.ids a.once b.once (λ i c. (b.exact i).1 ((a.exact i).0 c)) (λ i c. (a.exact i).1 ((b.exact i).0 c)) ∙ b.number

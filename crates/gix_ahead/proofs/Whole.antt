-- The whole call: what its numbers say, and why it fails.
use Rattle.std.proofs.Common.{◌≡◌, ℕ, List, [], ◌∷◌, length, filter, Bool, true, false, not, ◌&&◌, Option, Some, None, Contains, IsSome, refl, sym, subst, ⊎_elim, ◌∙◌}
use Rattle.std.proofs.lemmas.Bool.{false≢true, false_from_ne_true}
use Rattle.gix_hash.specs.declared.ObjectId.{ObjectId}
use Rattle.gix_hash.specs.Reach.{Reaches, start, step}
use Rattle.gix_object.specs.CommitText.{Commit}
use Rattle.gix_hash.proofs.Ids.Membership.{Contains-here, Contains-there, Contains-cons_cases}
use Rattle.gix_hash.proofs.Lists.{only_member}
use Rattle.gix_object.specs.Object.{Objects}
use Rattle.gix_commitgraph.specs.Rows.{GraphRow}
use Rattle.gix_ahead.specs.Ahead.{FailsBy, FindsAhead, IsAhead}
use Rattle.gix_ahead.specs.Inside.Search.{ReachedMap, is_alone, is_reached, MarksReached, One, Other, Side, Tallies, tip_of}
use Rattle.gix_ahead.specs.Inside.Walks.{Numbers}
use Rattle.gix_ahead.proofs.Counting.{keeps, kept_once, passes}
use Rattle.gix_contained.specs.declared.Error.{Error}
use Rattle.gix_revwalk.specs.Ids.{AreDistinct}
use Rattle.gix_revwalk.specs.Commits.{ReadsWhole, commit_at, parents_of}
use Rattle.gix_revwalk.proofs.Reached.{reach_more}

alone_cases : (a b : Bool) → (a && not b) ≡ true → (a ≡ true) × (b ≡ false)
alone_cases true false e = (refl, refl)
alone_cases true true e = absurd (false≢true e)
alone_cases false b e = absurd (false≢true e)

is_alone_from : (a b : Bool) → a ≡ true → b ≡ false → (a && not b) ≡ true
is_alone_from a b e n = (λ k. e k && not (n k))

module _ (objects : Objects) (one other : ObjectId) (marks : ReachedMap) (m : MarksReached objects one other marks) where
  -- what a side alone reaches is so many
  ahead_of : (side opposite : Side) (ids : List ObjectId) (n : ℕ) → AreDistinct ids → ((i : ObjectId) → is_reached marks side i ≡ true → Contains ids i) → n ≡ length (filter (is_alone marks side opposite) ids)
      → IsAhead (parents_of objects) (tip_of one other side) (tip_of one other opposite) n
  ahead_of side opposite ids n once all is = record {
    ids = filter (is_alone marks side opposite) ids;
    once = kept_once (is_alone marks side opposite) ids once;
    exact = λ i. (
      (λ c. let p = alone_cases _ _ (passes (is_alone marks side opposite) ids i c) in ((m.exact side i).0 p.0, λ r. false≢true (sym p.1 ∙ (m.exact opposite i).1 r))),
      (λ r. let e = (m.exact side i).1 r.0 in keeps (is_alone marks side opposite) ids i (all i e) (is_alone_from _ _ e (false_from_ne_true _ (λ k. r.1 ((m.exact opposite i).0 k))))),
    );
    number = sym is;
  }

  -- each commit that either reaches is marked by a side
  side_of : (i : ObjectId) → Reaches (parents_of objects) (one ∷ other ∷ []) i → (side : Side) × (is_reached marks side i ≡ true)
  side_of i r = go i r
    where
      go : (i : ObjectId) → Reaches (parents_of objects) (one ∷ other ∷ []) i → (side : Side) × (is_reached marks side i ≡ true)
      go i (start c) = ⊎_elim
          (λ s. (One, (m.exact One i).1 (start (subst (Contains (one ∷ [])) s (Contains-here one [])))))
          (λ t. (Other, (m.exact Other i).1 (start t))) (Contains-cons_cases i one (other ∷ []) c)
      go i (step {c = c} r n) = let k = go c r in (k.0, (m.exact k.0 i).1 (step ((m.exact k.0 c).0 k.1) n))

  some_commit : (i : ObjectId) → IsSome (commit_at objects i) → ReadsWhole objects i
  some_commit i s = go (commit_at objects i) refl s
    where
      go : (o : Option Commit) → commit_at objects i ≡ o → IsSome o → ReadsWhole objects i
      go None e h = absurd (false≢true h)
      go (Some commit) e h = record { commit = commit; stored = e }

  pub finds_marked : (rows : List GraphRow) (ahead behind : ℕ) → Tallies marks ahead behind → FindsAhead objects rows one other ahead behind
  finds_marked rows ahead behind t = record {
    ahead_is = λ agreeing. ahead_of One Other t.ids ahead t.once (t.all One) t.ahead_is;
    behind_is = λ agreeing. ahead_of Other One t.ids behind t.once (t.all Other) t.behind_is;
    read = λ agreeing i r. let s = side_of i r in some_commit i (m.read s.0 i s.1);
  }

swapped : (parents : ObjectId → List ObjectId) (one other i : ObjectId) → Reaches parents (one ∷ other ∷ []) i → Reaches parents (other ∷ one ∷ []) i
swapped parents one other i = reach_more parents (one ∷ other ∷ []) (other ∷ one ∷ []) turn i
  where
    turn : (j : ObjectId) → Contains (one ∷ other ∷ []) j → Contains (other ∷ one ∷ []) j
    turn j c = ⊎_elim (λ s. subst (Contains (other ∷ one ∷ [])) s (Contains-there one other (one ∷ []) (Contains-here one [])))
        (λ t. subst (Contains (other ∷ one ∷ [])) (only_member other j t) (Contains-here other (one ∷ []))) (Contains-cons_cases j one (other ∷ []) c)

module _ (objects : Objects) (faulty : ObjectId → Type 0) (rows : List GraphRow) (one other : ObjectId) where
  pub finds_walked : (ahead behind : ℕ) → Numbers objects rows one other ahead → Numbers objects rows other one behind → FindsAhead objects rows one other ahead behind
  finds_walked ahead behind a b = record {
    ahead_is = a.is_ahead;
    behind_is = b.is_ahead;
    read = b.read;
  }

  -- a walk the other way round fails by a commit that either reaches
  pub fails_back : (e : Error) → FailsBy objects faulty rows other (one ∷ []) e → FailsBy objects faulty rows one (other ∷ []) e
  fails_back e f agreeing = let k = f agreeing in record { why = k.why; is = k.is; id = k.id; fault = k.fault; reached = swapped (parents_of objects) other one k.id k.reached }

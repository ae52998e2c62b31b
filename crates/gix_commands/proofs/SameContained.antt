-- Which ids a commit contains, in each history that has the commits at hand, and in the words of the statement.
use Rattle.std.proofs.Common.{◌≡◌, ℤ, List, [], ◌∷◌, Contains, IsSome, sym, subst, ◌∙◌}
use Rattle.gix_commands.proofs.Common.{ObjectId, Contains-here, Contains-there, Objects, commit_at, parents_of, text_next, text_whole, time_of, whole_from, AreWhole}
use Rattle.gix_contained.specs.Contained.{AreContained, empty, reached, passed}
use Rattle.gix_hash.specs.Reach.{Reaches}
use Rattle.gix_statement.specs.WholeStatement as page
use Rattle.gix_statement.proofs.EachHistory.{same_parents}
use Rattle.gix_commands.specs.Pages.{page_objects}
use Rattle.gix_commands.proofs.PageCommits.{fed_history, whole_there}
use Rattle.gix_commands.proofs.SameReach.{reach_back, reach_there}
use Rattle.gix_commands.proofs.TopoRuns.{named_whole}

module _ (objects : Objects) (other : ObjectId → List ObjectId) (times : ObjectId → ℤ) (another : page.IsHistory (page_objects objects) [] other times) (tip : ObjectId) where
  same : (c : ObjectId) → IsSome (commit_at objects c) → parents_of objects c ≡ other c
  same c w =
      text_whole objects c (whole_from objects c w)
      ∙ same_parents (page_objects objects) [] (text_next objects) other (time_of objects) times (fed_history objects) another c (whole_there objects c (whole_from objects c w))

  -- what is reached by the commits at hand is reached in each history
  forward : (i : ObjectId) → Reaches (parents_of objects) (tip ∷ []) i → page.Reaches other (tip ∷ []) i
  forward = reach_there (parents_of objects) other (tip ∷ []) (λ c i r m. subst (λ xs. Contains xs i) (same c (named_whole objects c i m)) m)

  -- and no more, where all of that is whole
  backward : AreWhole objects (tip ∷ []) → (i : ObjectId) → page.Reaches other (tip ∷ []) i → Reaches (parents_of objects) (tip ∷ []) i
  backward whole = reach_back (parents_of objects) other (tip ∷ []) (λ c i r m. subst (λ xs. Contains xs i) (sym (same c (whole c r))) m)

  pub contained_kept : (before : List ObjectId) {ids those : List ObjectId} → AreContained (parents_of objects) (tip ∷ []) ids those
      → ((a : ObjectId) → Contains ids a → (Reaches (parents_of objects) (tip ∷ []) a → ⊥) → AreWhole objects (tip ∷ []))
      → page.Keeps (λ (before : List ObjectId) i (after : List ObjectId). page.Reaches other (tip ∷ []) i) before ids those
  contained_kept before empty whole = page.empty
  contained_kept before (reached {i = i} {ids = more} r rest) whole = page.kept (forward i r) (contained_kept (i ∷ before) rest (λ a c. whole a (Contains-there a i more c)))
  contained_kept before (passed {i = i} {ids = more} n rest) whole =
      page.passed (λ k. n (backward (whole i (Contains-here i more) n) i k)) (contained_kept (i ∷ before) rest (λ a c. whole a (Contains-there a i more c)))

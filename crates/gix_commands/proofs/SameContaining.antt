-- Which tips contain a commit, by the parents that texts name and in the words of the statement.
use Rattle.std.proofs.Common.{List, [], ◌∷◌, Contains, subst}
use Rattle.gix_commands.proofs.Common.{ObjectId, Objects, AreWhole, Contains-here, Contains-there, only_member, parents_of, text_next}
use Rattle.gix_containing.specs.Containing.{AreContaining, empty, contains, passed}
use Rattle.gix_hash.specs.Reach.{Reaches, start}
use Rattle.gix_statement.specs.WholeStatement as page
use Rattle.gix_commands.specs.Pages.{page_objects}
use Rattle.gix_commands.proofs.SameReach.{back, is_there, there}

-- where all that the target and the tips reach are whole commits
module _ (objects : Objects) (target : ObjectId) (tips : List ObjectId) (whole : AreWhole objects (target ∷ tips)) where
  abbrev Met : ObjectId → Type 0
  Met = Reaches (parents_of objects) (target ∷ tips)

  by_tips : (j : ObjectId) → Contains tips j → Met j
  by_tips j m = start (Contains-there j target tips m)

  pub tips_there : (i : ObjectId) → page.Reaches (text_next objects) tips i → page.IsThere (page_objects objects) [] i
  tips_there = is_there objects (target ∷ tips) whole tips by_tips

  by_tip : (i : ObjectId) → Contains tips i → (j : ObjectId) → Contains (i ∷ []) j → Met j
  by_tip i m j n = by_tips j (subst (Contains tips) (only_member i j n) m)

  kept_so : (before : List ObjectId) {ids those : List ObjectId} → ((i : ObjectId) → Contains ids i → Contains tips i) → AreContaining (parents_of objects) target ids those
      → page.Keeps (λ (before : List ObjectId) i (after : List ObjectId). page.Reaches (text_next objects) (i ∷ []) target) before ids those
  kept_so before among empty = page.empty
  kept_so before among (contains {i = i} {tips = more} r rest) =
      page.kept (there objects (target ∷ tips) whole (i ∷ []) (by_tip i (among i (Contains-here i more))) target r) (kept_so (i ∷ before) (λ j m. among j (Contains-there j i more m)) rest)
  kept_so before among (passed {i = i} {tips = more} n rest) =
      page.passed (λ r. n (back objects (target ∷ tips) whole (i ∷ []) (by_tip i (among i (Contains-here i more))) target r)) (kept_so (i ∷ before) (λ j m. among j (Contains-there j i more m)) rest)

  pub containing_so : (those : List ObjectId) → AreContaining (parents_of objects) target tips those
      → page.Keeps (λ (before : List ObjectId) i (after : List ObjectId). page.Reaches (text_next objects) (i ∷ []) target) [] tips those
  containing_so those are = kept_so [] (λ i m. m) are

-- What commits reach, in the words of the library and in those of the statement.
use Rattle.std.proofs.Common.{◌≡◌, List, [], Contains, sym, subst}
use Rattle.gix_commands.proofs.Common.{ObjectId, Objects, AreWhole, parents_of, reaches_from, step, text_next, text_whole, whole_from}
use Rattle.gix_hash.specs.Reach.{Reaches, start}
use Rattle.gix_statement.specs.WholeStatement as page
use Rattle.gix_commands.specs.Pages.{page_objects}
use Rattle.gix_commands.proofs.PageCommits.{whole_there}

-- by parents of which the other function names those too, and no more
module _ (next other : ObjectId → List ObjectId) (starts : List ObjectId) where
  pub reach_there : ((c i : ObjectId) → Reaches next starts c → Contains (next c) i → Contains (other c) i) → (i : ObjectId) → Reaches next starts i → page.Reaches other starts i
  reach_there named i (start s) = page.start s
  reach_there named i (step {c = c} r n) = page.parent (reach_there named c r) (named c i r n)

  pub reach_back : ((c i : ObjectId) → Reaches next starts c → Contains (other c) i → Contains (next c) i) → (i : ObjectId) → page.Reaches other starts i → Reaches next starts i
  reach_back named i (page.start s) = start s
  reach_back named i (page.parent {child = c} r n) = let before = reach_back named c r in step before (named c i before n)

-- from ids that these ids reach, where all of that is whole commits
module _ (objects : Objects) (ids : List ObjectId) (whole : AreWhole objects ids) (starts : List ObjectId) (met : (j : ObjectId) → Contains starts j → Reaches (parents_of objects) ids j) where
  pub all_met : (i : ObjectId) → Reaches (parents_of objects) starts i → Reaches (parents_of objects) ids i
  all_met = reaches_from (parents_of objects) starts ids met

  same_at : (i : ObjectId) → Reaches (parents_of objects) starts i → parents_of objects i ≡ text_next objects i
  same_at i r = text_whole objects i (whole_from objects i (whole i (all_met i r)))

  pub there : (i : ObjectId) → Reaches (parents_of objects) starts i → page.Reaches (text_next objects) starts i
  there = reach_there (parents_of objects) (text_next objects) starts (λ c i r n. subst (λ xs. Contains xs i) (same_at c r) n)

  pub back : (i : ObjectId) → page.Reaches (text_next objects) starts i → Reaches (parents_of objects) starts i
  back = reach_back (parents_of objects) (text_next objects) starts (λ c i r n. subst (λ xs. Contains xs i) (sym (same_at c r)) n)

  pub is_there : (i : ObjectId) → page.Reaches (text_next objects) starts i → page.IsThere (page_objects objects) [] i
  is_there i r = whole_there objects i (whole_from objects i (whole i (all_met i (back i r))))

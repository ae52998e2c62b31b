-- Which faults walks may have, and commands that are served.
use Rattle.std.proofs.Common.{◌≡◌, ◌≢◌, ℕ, List, Option, None, Some, Result, Ok, Err, refl, sym, ap, subst, inl, inr, ◌∙◌}
use Rattle.gix_commands.proofs.Common.{ObjectId, GraphRow, Objects, Info, Fault, fault_of_find, fault_of_walk, fault_of_topo_walk, fault_of_search, fault_of_tree_walk, walked, not_walked, walked_down, not_built, not_listed, not_counted, not_selected, not_reaching, not_joined, Ends, EndsBy, finished, cut_short, enough, before, Request, kept_in}
use Rattle.gix_contained.specs.declared.Error.{Error as SearchError}
use Rattle.gix_contained.specs.declared.Error.TheVariants as search_error
use Rattle.gix_object.specs.declared.find.existing_iter.Error.{Error as ExistingError}
use Rattle.gix_object.specs.declared.find.existing_iter.Error.TheVariants as existing
use Rattle.gix_paint.specs.declared.Hidden.TheVariants as hidden_by
use Rattle.gix_simple.specs.declared.Error.{Error}
use Rattle.gix_simple.specs.declared.Error.TheVariants as error
use Rattle.gix_topo.specs.declared.Error.{Error as TopoError}
use Rattle.gix_topo.specs.declared.Error.TheVariants as topo_error
use Rattle.gix_tree.specs.declared.breadthfirst.Error.{Error as TreeError}
use Rattle.gix_tree.specs.declared.breadthfirst.Error.TheVariants as tree_error
use Rattle.gix_words.specs.declared.fault.Fault.TheVariants as fault
use Rattle.gix_commands.specs.Checked.{first_lost}
use Rattle.gix_commands.specs.Opening.{IsOpeningFault}
use Rattle.gix_commands.specs.Run as run
use Rattle.gix_commands.specs.Run.{Serves}
use Rattle.gix_commands.specs.TopoWalked as topo
use Rattle.gix_commands.specs.Walked.{Answers, IsWalkFault, failed, unstored}
use Rattle.gix_commands.proofs.LostParents.{lost_so}
use Rattle.gix_commands.proofs.MemoryFaults.{failed_so}

-- any but those of the words, of the input and of a commit-graph
abbrev pub IsOfWalk : Fault → Type 0
IsOfWalk fault.Usage = ⊥
IsOfWalk (fault.Id n) = ⊥
IsOfWalk (fault.Record n) = ⊥
IsOfWalk (fault.Graph e) = ⊥
IsOfWalk (fault.Row i) = ⊥
IsOfWalk (fault.Disagrees i) = ⊥
IsOfWalk fault.Read = ⊥
IsOfWalk e = Unit {0}

abbrev pub OfWalk : Result (Unit {0}) Fault → Type 0
OfWalk (Ok done) = Unit {0}
OfWalk (Err e) = IsOfWalk e

find_of_walk : (e : ExistingError) → IsOfWalk (fault_of_find e)
find_of_walk existing.Store = tt
find_of_walk e = tt

simple_of_walk : (e : Error) → IsOfWalk (fault_of_walk e)
simple_of_walk (error.Find e) = find_of_walk e
simple_of_walk (error.HiddenGraph (hidden_by.Find e)) = find_of_walk e
simple_of_walk e = tt

topo_of_walk : (e : TopoError) → IsOfWalk (fault_of_topo_walk e)
topo_of_walk (topo_error.Find e) = find_of_walk e
topo_of_walk e = tt

search_of_walk : (e : SearchError) → IsOfWalk (fault_of_search e)
search_of_walk (search_error.Find e) = find_of_walk e
search_of_walk e = tt

tree_of_walk : (e : TreeError) → IsOfWalk (fault_of_tree_walk e)
tree_of_walk (tree_error.Find e) = find_of_walk e
tree_of_walk e = tt

ends_of_walk : {W E : Type 0} {Steps : W → Option (Result Info E) → W → Type 0} {Tells : E → Fault → Type 0} {Has : ObjectId → Type 0} {walk : W} {infos : List Info} {answer : Result (Unit {0}) Fault}
    → ((e : E) (f : Fault) → Tells e f → IsOfWalk f) → Ends Steps Tells Has walk infos answer → OfWalk answer
ends_of_walk tells (finished new h) = tt
ends_of_walk tells (failed e f new h is) = tells e f is
ends_of_walk tells (cut_short info new h) = tt
ends_of_walk tells (unstored info new h none) = tt

by_of_walk : {W E : Type 0} (Steps : W → Option (Result Info E) → W → Type 0) (Tells : E → Fault → Type 0) (Has : ObjectId → Type 0) (those : List Info → List ObjectId) (limit : Option ℕ) (walk : W) (infos : List Info) (answer : Result (Unit {0}) Fault)
    → ((e : E) (f : Fault) → Tells e f → IsOfWalk f) → EndsBy Steps Tells Has those limit walk infos answer → OfWalk answer
by_of_walk Steps Tells Has those None walk infos answer tells ends = ends_of_walk tells ends
by_of_walk Steps Tells Has those (Some n) walk infos _ tells (enough at h e) = tt
by_of_walk Steps Tells Has those (Some n) walk infos answer tells (before ends less) = ends_of_walk tells ends

simple_tells : (e : Error) (f : Fault) → IsWalkFault e f → IsOfWalk f
simple_tells e f is = subst IsOfWalk (sym is) (simple_of_walk e)

topo_tells : (e : TopoError) (f : Fault) → topo.IsWalkFault e f → IsOfWalk f
topo_tells e f is = subst IsOfWalk (sym is) (topo_of_walk e)

lost_of_walk : (objects : Objects) (rows : List GraphRow) (ids : List ObjectId) (why : Fault) → (why ≢ fault.Memory → first_lost objects rows ids ≡ Some why) → OfWalk (Err why)
lost_of_walk objects rows ids why h = failed_so OfWalk tt (Err why) why refl (λ other. lost_so IsOfWalk (λ i. tt) (λ i. tt) tt objects rows ids why (h other))

pub serves_of_walk : {Stored : ObjectId → Type 0} {objects : Objects} {rows : List GraphRow} {old new : Option (List ℕ)} {request : Request} {answer : Result (Unit {0}) Fault} → Serves Stored objects rows old request answer new → OfWalk answer
serves_of_walk {objects = objects} (walked {shown = shown} walk infos s ends have whole a) = by_of_walk Answers IsWalkFault _ (kept_in objects shown) shown.limit walk infos _ simple_tells ends
serves_of_walk {objects = objects} {rows = rows} (run.lost walk at infos {why = why} by s h more l have a) = lost_of_walk objects rows l.last.parent_ids.items why l.lacks
serves_of_walk (not_walked why f) = simple_of_walk why
serves_of_walk {objects = objects} (walked_down {shown = shown} walk infos built ends have a) = by_of_walk topo.Answers topo.IsWalkFault _ (kept_in objects shown) shown.limit walk infos _ topo_tells ends
serves_of_walk (not_built why h) = topo_of_walk why
serves_of_walk (not_listed recorder why r) = tree_of_walk why
serves_of_walk (not_counted why f) = search_of_walk why
serves_of_walk (not_selected why f) = search_of_walk why
serves_of_walk (not_reaching why f) = search_of_walk why
serves_of_walk (not_joined why f) = search_of_walk why
serves_of_walk s = tt

-- a walk has no fault of layers that aren't opened
pub walk_opened : {answer : Result (Unit {0}) Fault} (e : Fault) → OfWalk answer → answer ≡ Err e → IsOpeningFault e → ⊥
walk_opened e w is (inl (why, same)) = subst OfWalk (is ∙ ap (λ f. Err f) same) w
walk_opened e w is (inr (i, same)) = subst OfWalk (is ∙ ap (λ f. Err f) same) w

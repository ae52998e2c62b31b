-- The commits that each walk gave are the beginning of the right list, or all of it, and are told as their texts say.
use Rattle.std.proofs.Common.{◌≡◌, ◌≢◌, ◌-◌, ◌+◌, ℕ, ℤ, Bool, true, false, All, List, [], ◌∷◌, ◌++◌, flat_map, length, take, Option, Some, None, Result, Ok, Err, refl, sym, ap, subst, ◌∙◌, arith, length-append}
use Rattle.std.specs.Iterator.{Yields}
use Rattle.gix_hash.specs.declared.ObjectId.{ObjectId}
use Rattle.gix_object.specs.Object.{Objects}
use Rattle.gix_revwalk.specs.Agreeing.{IsAgreeing}
use Rattle.gix_revwalk.specs.Commits.{by_mode, time_of}
use Rattle.gix_revwalk.specs.Texts.{text_next}
use Rattle.gix_revwalk.specs.declared.Info.{Info}
use Rattle.gix_revwalk.specs.declared.Parents.{Parents}
use Rattle.gix_simple.specs.Walk.{time_if, time_order}
use Rattle.gix_simple.specs.declared.Sorting.{Sorting}
use Rattle.gix_simple.specs.declared.Sorting.TheVariants as sorting
use Rattle.gix_topo.specs.declared.Sorting.{Sorting as TopoSorting}
use Rattle.gix_statement.specs.WholeStatement as page
use Rattle.gix_statement.specs.WholeStatement.{Allows, Chooses, InEach, IsThere, chosen, id_line}
use Rattle.gix_words.specs.Words.{Commits}
use Rattle.gix_words.specs.declared.fault.Fault.{Fault}
use Rattle.gix_words.specs.declared.words.Order.TheVariants.{Simple, Topo}
use Rattle.gix_words.specs.declared.words.Shown.{Shown}
use Rattle.gix_commands.specs.Checked.{CheckedWalk, Checks, GoesOnWhole, HaveParents, gone_on}
use Rattle.gix_commands.specs.Chosen.{kept_in, page_choice}
use Rattle.gix_commands.specs.Pages.{HaveTexts, page_objects}
use Rattle.gix_commands.specs.TopoWalked as topo
use Rattle.gix_revwalk.specs.Infos.{given}
use Rattle.gix_commands.specs.Walked.{Walk, Answers, Any, AsksForMore, Ends, EndsBy, IsWalkFault, StartsFrom, before, cut_short, enough, failed as fell, finished, unstored}
use Rattle.gix_commands.proofs.CheckedWalks.{IsChecked, enough_on, from_by, well, lacking}
use Rattle.gix_commands.proofs.CommitRuns.{ids_in}
use Rattle.gix_commands.proofs.GivenObjects.{itself}
use Rattle.gix_commands.proofs.RightRuns.{AreRead, down_there, simple_there}
use Rattle.gix_commands.proofs.RightSimple as simple
use Rattle.gix_commands.proofs.RightTopo as down
use Rattle.gix_commands.proofs.SameWords.{IsNameOf, IsOptionOf}
use Rattle.gix_commands.proofs.WrittenBytes.{allows_fewer}
use Rattle.gix_batches.specs.declared.commit.Ending.{Ending}
use Rattle.gix_batches.specs.declared.commit.Ending.TheVariants.{Ended, More, Small, Failed}
use Rattle.gix_batches.specs.Batches.{Shows, has_ended}
use Rattle.gix_batches.specs.Failing.{all_lines_to}
use Rattle.gix_batches.specs.Draws.{Draws, ended, failed, ids_given, more, small}
use Rattle.gix_batches.specs.Slices.{told_by}
use Rattle.gix_batches.specs.Walks.{IsItself}
use Rattle.gix_batches.proofs.Drawn.{many}
use Rattle.gix_batches.proofs.ToldTexts.{shows_read}
use Rattle.gix_batches.proofs.ToldWalks.{read_down, read_simple}
use Rattle.gix_batches.proofs.ToldWords.{behind_free, says_down, says_simple}

-- what a walk gave, however it ended
module _ {W E : Type 0} (Steps : W → Option (Result Info E) → W → Type 0) (Tells : E → Fault → Type 0) (walk : W) (infos : List Info) where
  ends_drawn : {answer : Result (Unit {0}) Fault} → Ends Steps Tells Any walk infos answer → (at : W) × Yields Steps walk (given infos) at
  ends_drawn (finished last h) = (h.0, h.1)
  ends_drawn (fell e f last h tells) = (h.0, h.1)
  ends_drawn (cut_short info last h) = (h.0, h.1)
  ends_drawn (unstored info last h none) = (h.0, h.1)

  pub by_drawn : (limit : Option ℕ) (answer : Result (Unit {0}) Fault) → EndsBy Steps Tells Any ids_given limit walk infos answer → (at : W) × Yields Steps walk (given infos) at
  by_drawn None answer ends = ends_drawn ends
  by_drawn (Some n) answer (enough at h e) = (at, h)
  by_drawn (Some n) answer (before ends less) = ends_drawn ends

  failed_asks : (limit : Option ℕ) (f : Fault) → EndsBy Steps Tells Any ids_given limit walk infos (Err f) → AsksForMore limit (length infos)
  failed_asks None f ends = tt
  failed_asks (Some n) f (before ends less) = omega (arith, less, many infos)

-- what nothing was asked of has what is asked
module _ {W E : Type 0} (Steps : W → Option (Result Info E) → W → Type 0) (Tells : E → Fault → Type 0) (Has : ObjectId → Type 0) (walk : W) (infos : List Info) where
  any_ends : {answer : Result (Unit {0}) Fault} → Ends Steps Tells Any walk infos answer → Ends Steps Tells Has walk infos answer
  any_ends (finished last h) = finished last h
  any_ends (fell e f last h tells) = fell e f last h tells
  any_ends (cut_short info last h) = cut_short info last h
  any_ends (unstored info last h none) = absurd (none tt)

  pub any_by : (those : List Info → List ObjectId) (limit : Option ℕ) (answer : Result (Unit {0}) Fault) → EndsBy Steps Tells Any those limit walk infos answer → EndsBy Steps Tells Has those limit walk infos answer
  any_by those None answer ends = any_ends ends
  any_by those (Some n) answer (enough at h e) = enough at h e
  any_by those (Some n) answer (before ends less) = before (any_ends ends) less

within_one : (limit : Option ℕ) (infos : List Info) (next : Info) → AsksForMore limit (length infos) → Allows limit (length (infos ++ next ∷ []))
within_one None infos next asks = tt
within_one (Some n) infos next asks = let l : length (infos ++ next ∷ []) ≡ length infos + 1 = length-append infos (next ∷ []) in omega (arith, asks, l)

-- where all lines are asked for, what is written is what a walk gave
pub all_kept : (limit : Option ℕ) {I : Type 0} (parents : I → List I) (time : I → ℤ) (ids : List I) → chosen parents time (page_choice (all_lines_to limit)) ids ≡ ids
all_kept limit parents time [] = refl
all_kept limit parents time (i ∷ ids) = ap (λ xs. i ∷ xs) (all_kept limit parents time ids)

-- the commit for whose parents there is no room
abbrev pub IsNextGood : (Bool → List Info → Type 0) → List Info → Ending → Type 0
IsNextGood Good infos Ended = Unit {0}
IsNextGood Good infos More = Unit {0}
IsNextGood Good infos (Small n) = (next : Info) × Good false (infos ++ next ∷ []) × (n ≡ length next.parent_ids.items)
IsNextGood Good infos (Failed e) = Unit {0}

module _ {W E : Type 0} (Steps : W → Option (Result Info E) → W → Type 0) where
  -- without the last
  front : (walk : W) (infos : List Info) (next : Info) (at : W) → Yields Steps walk (given (infos ++ next ∷ [])) at → (mid : W) × Yields Steps walk (given infos) mid
  front walk [] next at h = (walk, refl)
  front walk (i ∷ infos) next at h = let m = front h.0 infos next at h.2 in (m.0, (h.0, h.1, m.1))

  module _ (Tells : E → Fault → Type 0) (limit : Option ℕ) (walk : W) (Good : Bool → List Info → Type 0) (of_ended : (infos : List Info) → EndsBy Steps Tells Any ids_given limit walk infos (Ok tt) → Good true infos)
      (of_begun : (infos : List Info) (at : W) → Yields Steps walk (given infos) at → Allows limit (length infos) → Good false infos) where
    pub shown : (infos : List Info) (ending : Ending) → Draws Steps Tells limit walk infos ending → Good (has_ended ending) infos × IsNextGood Good infos ending
    shown infos Ended (ended ends) = (of_ended infos ends, tt)
    shown infos (Failed f) (failed f2 ends) =
        let d = by_drawn Steps Tells walk infos limit (Err f2) ends in
        (of_begun infos d.0 d.1 (allows_fewer limit _ (failed_asks Steps Tells walk infos limit f2 ends)), tt)
    shown infos More (more at h asks) = (of_begun infos at h (allows_fewer limit _ asks), tt)
    shown infos (Small n) (small at next h asks) =
        let m = front walk infos next at h in
        (of_begun infos m.0 m.1 (allows_fewer limit _ asks), (next, of_begun (infos ++ next ∷ []) at h (within_one limit infos next asks), refl))

module _ (objects : Objects) (agrees : IsAgreeing objects []) (read : AreRead objects []) (name : List ℕ) (option rest : List (List ℕ)) (limit : Option ℕ) (tips hidden : List ObjectId) (some : tips ≢ []) (place : ℕ)
    (chooses : Chooses tips hidden place rest (page_choice (all_lines_to limit))) where
  abbrev asked : List (List ℕ)
  asked = name ∷ (option ++ rest)

  abbrev pub Good : Bool → List Info → Type 0
  Good all infos = Shows (page_objects objects) asked (told_by infos) all

  abbrev shown_all : Shown
  shown_all = all_lines_to limit

  -- all that is given is kept
  kept_given : (infos : List Info) → kept_in objects shown_all infos ≡ ids_given infos
  kept_given infos = all_kept limit (text_next objects) (time_of objects) (ids_given infos)

  kept_so : kept_in objects shown_all ≡ ids_given
  kept_so = λ k infos. kept_given infos k

  number_so : (infos : List Info) → length (kept_in objects shown_all infos) ≡ length infos
  number_so infos = ap length (kept_given infos) ∙ many infos

  abbrev Listed : Bool → List Info → Type 0
  Listed all infos = All (IsThere (page_objects objects) []) (ids_in infos) × InEach (page_objects objects) [] (λ ps ts. page.Lists (page_objects objects) [] ps ts (flat_map id_line (kept_in objects shown_all infos)) all asked)

  each_line : (all : Bool) (infos : List Info) → Listed all infos → InEach (page_objects objects) [] (λ ps ts. page.Lists (page_objects objects) [] ps ts (flat_map id_line (ids_in infos)) all asked)
  each_line all infos l = subst (λ ids. InEach (page_objects objects) [] (λ ps ts. page.Lists (page_objects objects) [] ps ts (flat_map id_line ids) all asked)) (kept_given infos) l.1

  module _ (m : Parents) (by : Sorting) (named : IsNameOf name (Simple m by)) (chosen_by : IsOptionOf option (Simple m by)) (have : HaveTexts (Commits (Simple m by) shown_all tips hidden) (page_objects objects)) (walk : Walk) (starts : StartsFrom objects [] m by tips hidden walk) where
    good : (all : Bool) (infos : List Info) (last : Walk) → Yields Answers walk (given infos) last → Listed all infos → Good all infos
    good all infos last drawn l =
        shows_read objects asked (by_mode m) (time_if (time_order m by)) (λ r. says_simple r name option rest (behind_free tips hidden chooses) m by named chosen_by) all infos (each_line all infos l) l.0
        (read_simple objects agrees m by tips hidden walk starts infos last drawn)

    ended_good : (infos : List Info) → EndsBy Answers IsWalkFault Any ids_given limit walk infos (Ok tt) → GoesOnWhole objects [] by limit (length infos) infos → Good true infos
    ended_good infos ends whole =
        let d = by_drawn Answers IsWalkFault walk infos limit (Ok tt) ends in
        good true infos d.0 d.1
        (simple.ended_so objects [] agrees m by tips hidden some (simple_there objects [] agrees read Any (page_objects objects) [] (itself (page_objects objects)) None (Commits (Simple m by) shown_all tips hidden) have m by shown_all tips hidden refl) Any (page_objects objects) [] (itself (page_objects objects)) name option rest named chosen_by shown_all place chooses Any limit refl walk starts infos (λ info c e. tt)
        (subst (λ (those : List Info → List ObjectId). EndsBy Answers IsWalkFault Any those limit walk infos (Ok tt)) (sym kept_so) ends) (subst (λ n. GoesOnWhole objects [] by limit n infos) (sym (number_so infos)) whole))

    begun_good : (infos : List Info) (last : Walk) → Yields Answers walk (given infos) last → Allows limit (length infos) → (by ≢ sorting.BreadthFirst → HaveParents objects [] (take (length infos - 1) infos)) → Good false infos
    begun_good infos last drawn within parents =
        good false infos last drawn
        (simple.begun_so objects [] agrees m by tips hidden some (simple_there objects [] agrees read Any (page_objects objects) [] (itself (page_objects objects)) None (Commits (Simple m by) shown_all tips hidden) have m by shown_all tips hidden refl) Any (page_objects objects) [] (itself (page_objects objects)) name option rest named chosen_by shown_all place chooses refl walk starts infos (λ info c e. tt) last drawn
        (subst (Allows limit) (sym (number_so infos)) within) parents)

    abbrev pub IsShown : List Info → Ending → Type 0
    IsShown infos ending = Good (has_ended ending) infos × IsNextGood Good infos ending

    -- breadth first
    pub shown_breadth : by ≡ sorting.BreadthFirst → (infos : List Info) (ending : Ending) → Draws Answers IsWalkFault limit walk infos ending → IsShown infos ending
    shown_breadth is = shown Answers IsWalkFault limit walk Good (λ infos ends. ended_good infos ends (λ other. absurd (other is))) (λ infos at h within. begun_good infos at h within (λ other. absurd (other is)))

    -- by time
    abbrev checked : CheckedWalk
    checked = record { walk = walk; objects = objects; rows = []; lost = None }

    checked_ended : (infos : List Info) {answer : Result (Unit {0}) Fault} → IsChecked objects [] Any ids_given walk limit infos answer → answer ≡ Ok tt → Good true infos
    checked_ended infos {answer} (well ends whole) is = ended_good infos (subst (EndsBy Answers IsWalkFault Any ids_given limit walk infos) is ends) (λ other. subst (λ n. HaveParents objects [] (gone_on limit n infos)) (many infos) whole)
    checked_ended infos (lacking at h asks lacks) is = cc

    -- drawn so far, the walk and the parents behind all but the last
    drawn_so : (infos : List Info) → IsChecked objects [] Any ids_given walk (Some (length infos)) infos (Ok tt) → (at : Walk) × Yields Answers walk (given infos) at × HaveParents objects [] (take (length infos - 1) infos)
    drawn_so infos (well (enough at h e) whole) = (at, h, subst (HaveParents objects []) (enough_on objects [] (length infos) (length (ids_given infos)) infos e) whole)
    drawn_so infos (well (before ends less) whole) = absurd (omega (arith, less, many infos))

    checked_begun : (infos : List Info) (at : CheckedWalk) → Yields Checks checked (given infos) at → Allows limit (length infos) → Good false infos
    checked_begun infos at h within =
        let d = drawn_so infos (from_by objects [] Any ids_given walk (Some (length infos)) infos (Ok tt) (enough at h (many infos))) in
        begun_good infos d.0 d.1 within (λ other. d.2)

    pub shown_timed : (infos : List Info) (ending : Ending) → Draws Checks IsItself limit checked infos ending → IsShown infos ending
    shown_timed = shown Checks IsItself limit checked Good (λ infos ends. checked_ended infos (from_by objects [] Any ids_given walk limit infos (Ok tt) ends) refl) checked_begun

  module _ (m : Parents) (by : TopoSorting) (named : IsNameOf name (Topo m by)) (chosen : IsOptionOf option (Topo m by)) (have : HaveTexts (Commits (Topo m by) shown_all tips hidden) (page_objects objects)) (walk : topo.Walk) (built : topo.IsBuiltFrom objects [] m by tips hidden (Ok walk)) where
    good_down : (all : Bool) (infos : List Info) (last : topo.Walk) → Yields topo.Answers walk (given infos) last → Listed all infos → Good all infos
    good_down all infos last drawn l =
        shows_read objects asked (λ ids. ids) (λ time. Some time) (λ r. says_down r name option rest (behind_free tips hidden chooses) m by named) all infos (each_line all infos l) l.0
        (read_down objects agrees m by tips hidden walk built infos last drawn)

    down_ended : (infos : List Info) → EndsBy topo.Answers topo.IsWalkFault Any ids_given limit walk infos (Ok tt) → Good true infos
    down_ended infos ends =
        let d = by_drawn topo.Answers topo.IsWalkFault walk infos limit (Ok tt) ends in
        good_down true infos d.0 d.1 (down.ended_so objects [] agrees m by tips hidden some (down_there objects [] agrees read Any (page_objects objects) [] (itself (page_objects objects)) None (Commits (Topo m by) shown_all tips hidden) have) (read m by tips hidden) Any (page_objects objects) [] (itself (page_objects objects)) walk built name option rest named chosen shown_all place chooses Any limit refl infos (λ info c e. tt)
        (subst (λ (those : List Info → List ObjectId). EndsBy topo.Answers topo.IsWalkFault Any those limit walk infos (Ok tt)) (sym kept_so) ends))

    down_begun : (infos : List Info) (at : topo.Walk) → Yields topo.Answers walk (given infos) at → Allows limit (length infos) → Good false infos
    down_begun infos at h within =
        good_down false infos at h (down.begun_so objects [] agrees m by tips hidden some (down_there objects [] agrees read Any (page_objects objects) [] (itself (page_objects objects)) None (Commits (Topo m by) shown_all tips hidden) have) (read m by tips hidden) Any (page_objects objects) [] (itself (page_objects objects)) walk built name option rest named chosen shown_all place chooses refl infos (λ info c e. tt) at h
        (subst (Allows limit) (sym (number_so infos)) within))

    pub shown_down : (infos : List Info) (ending : Ending) → Draws topo.Answers topo.IsWalkFault limit walk infos ending → Good (has_ended ending) infos × IsNextGood Good infos ending
    shown_down = shown topo.Answers topo.IsWalkFault limit walk Good down_ended down_begun

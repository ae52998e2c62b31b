-- What a walk gave that was drawn to its end, and which best common ancestors were found, is all that the statement means by these: over a
-- store that has a commit for each row.
use Rattle.std.proofs.Common.{◌≢◌, ◌↔◌, ℤ, false, List, [], ◌∷◌, ◌++◌, map, None, Contains, IsSome, Ok, refl, sym, subst, ◌∙◌, inl, inr}
use Rattle.gix_commands.proofs.Common.{AreWhole, Contains-append_left, Contains-append_right, Ends, finished, GraphRow, Info, IsAgreeing, no_member, ObjectId, Objects, parents_of, time_of, transport, with_rows}
use Rattle.gix_commitgraph.specs.Packed.{AreGraphRows}
use Rattle.gix_graph_check.specs.Sound.{AreSound}
use Rattle.gix_graph_store.specs.Laws.{StoredAgree}
use Rattle.gix_hash.specs.Reach.{Reaches, start}
use Rattle.gix_merge_base.specs.Bases.{FindsBases}
use Rattle.gix_revwalk.specs.declared.Parents.TheVariants as mode
use Rattle.gix_simple.specs.declared.Sorting.TheVariants as sorting
use Rattle.gix_statement.proofs.EachHistory as each
use Rattle.gix_statement.specs.WholeStatement as page
use Rattle.gix_statement.specs.WholeStatement.{IsHistory}
use Rattle.gix_commands.specs.Pages.{page_objects, page_rows}
use Rattle.gix_commands.specs.Readable.{readable}
use Rattle.gix_commands.specs.Walked.{Answers, Any, IsWalkFault, StartsFrom, Walk}
use Rattle.gix_commands.proofs.KeptLists.{all_followed, tips_kept}
use Rattle.gix_commands.proofs.ListedCommits.{IsShown, IsSimpleBy, ListsBy}
use Rattle.gix_commands.proofs.PageCommits.{fed_history, whole_text}
use Rattle.gix_commands.proofs.ReadableObjects.{readable_agrees}
use Rattle.gix_commands.proofs.ReadableTexts.{text_kept}
use Rattle.gix_commands.proofs.RowsAsTexts.{every_agree, text_is_commit}
use Rattle.gix_commands.proofs.SameBases.{bases_so, one_there, others_there}
use Rattle.gix_commands.proofs.SameReach as same
use Rattle.gix_commands.proofs.SimpleRuns.{all_read, listed_whole}
use Rattle.gix_revwalk.specs.Texts.{text_next}

-- breadth first through all parents a list is one of what is shown
plain_list : (objects : Objects) (tips hidden ids : List ObjectId) → IsSimpleBy objects (parents_of objects) mode.All sorting.BreadthFirst tips hidden ids → (i : ObjectId) → Contains ids i ↔ IsShown objects tips hidden i
plain_list objects tips hidden ids l =
    let k : ListsBy objects (parents_of objects) (parents_of objects) None tips hidden ids =
    transport (λ j. ListsBy objects (parents_of objects) (all_followed objects (parents_of objects) mode.All sorting.BreadthFirst refl j) None (tips_kept objects sorting.BreadthFirst tips refl j) hidden ids) l in
    λ i. (λ c. let s = (k.exact i).0 c in (s.reached, s.outside), λ s. (k.exact i).1 (record { reached = s.0; outside = s.1 }))

module _ (objects : Objects) (rows : List GraphRow) (graph : AreGraphRows rows) (sound : AreSound rows) (agree : StoredAgree rows objects)
    (parents : ObjectId → List ObjectId) (time : ObjectId → ℤ) (history : IsHistory (page_objects objects) (page_rows rows) parents time) where
  abbrev pub every : Objects
  every = readable false (with_rows rows objects)

  agrees : IsAgreeing every rows
  agrees = readable_agrees false (with_rows rows objects) rows (every_agree whole_text rows objects graph sound agree)

  over_every : IsHistory (page_objects every) [] parents time
  over_every r (inl text) = history r (text_is_commit whole_text rows objects graph sound agree r (text_kept false (with_rows rows objects) r text))
  over_every r (inr none) = absurd (no_member r none.1)

  -- what ids reach, where all of it was read
  module _ (ids : List ObjectId) (whole : AreWhole every ids) (starts : List ObjectId) (met : (j : ObjectId) → Contains starts j → Reaches (parents_of every) ids j) where
    back : (i : ObjectId) → page.Reaches parents starts i → Reaches (parents_of every) starts i
    back i r = same.back every ids whole starts met i
        (each.reach_back (page_objects every) [] (text_next every) parents (time_of every) time (fed_history every) over_every starts (same.is_there every ids whole starts met) i r)

    there : (i : ObjectId) → Reaches (parents_of every) starts i → page.Reaches parents starts i
    there i r = each.reach_there (page_objects every) [] (text_next every) parents (time_of every) time (fed_history every) over_every starts (same.is_there every ids whole starts met) i
        (same.there every ids whole starts met i r)

  module _ (tips hidden : List ObjectId) (some : tips ≢ []) (behind : hidden ≢ []) (walk : Walk) (starts : StartsFrom every rows mode.All sorting.BreadthFirst tips hidden walk)
      (infos : List Info) where
    -- all that is shown was given
    pub shown_given : Ends Answers IsWalkFault Any walk infos (Ok tt) → (i : ObjectId) → page.IsShown parents parents time tips hidden i → Contains (map (λ info. info.id) infos) i
    shown_given (finished new h) i s =
        let kept = tips_kept every sorting.BreadthFirst tips refl in
        let whole : AreWhole every (tips ++ hidden) = transport (λ k. AreWhole every (kept k ++ hidden))
        (all_read every rows mode.All sorting.BreadthFirst tips hidden walk starts agrees infos h.0 new h.1 h.2 behind (λ e. some (sym kept ∙ e))) in
        let list = plain_list every tips hidden (map (λ info. info.id) infos) (listed_whole every rows mode.All sorting.BreadthFirst tips hidden walk starts agrees infos h.0 new h.1 h.2 behind) in
        (list i).1 (
          back (tips ++ hidden) whole tips (λ j c. start (Contains-append_left tips hidden j c)) i s.0,
          λ r. s.1 (there (tips ++ hidden) whole hidden (λ j c. start (Contains-append_right tips hidden j c)) i r),
        )

  -- all best common ancestors were found
  pub base_found : (one : ObjectId) (others bases : List ObjectId) → others ≢ [] → FindsBases every rows one others bases → (i : ObjectId) → page.IsBase parents one others i → Contains bases i
  base_found one others bases some found i b =
      let whole : AreWhole every (one ∷ others) = (λ j r. subst IsSome (sym (found.read agrees some j r).stored) refl) in
      (bases_so every one others whole bases (found.bases_are agrees) i).1
      (each.base_back (page_objects every) [] (text_next every) parents (time_of every) time (fed_history every) over_every one others (one_there every one others whole) (others_there every one others whole) i b)

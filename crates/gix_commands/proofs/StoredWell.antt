-- A run over what is stored, and over sound rows that agree with it, ends well where a request has what it needs.
use Rattle.std.proofs.Common.{◌≡◌, ℕ, List, [], ◌∷◌, ◌++◌, length, map, Bool, true, false, Option, Some, Result, Ok, Err, Contains, refl, sym, ap, subst, ◌∙◌}
use Rattle.std.proofs.lemmas.List.{map-append}
use Rattle.gix_commands.proofs.Common.{AreWhole, commit_at, commit_of_object, Commits, Contains-append_left, Contains-append_right, Contains-get_or, Contains-here, EndsWell, Fault, Files, GraphRow, Info, IsAgreeing, IsBuiltFrom, IsOutside, ObjectId, Objects}
use Rattle.gix_commands.proofs.Common.{Ahead, Bases, Contained, Containing, Parents, parents_of, reach_more, Request, request_of, RowAgrees, Simple, step, text_next, text_whole, Topo, walked_within, whole_from, with_rows, Yields, YieldsThen}
use Rattle.gix_commitgraph.specs.Packed.{AreGraphRows}
use Rattle.gix_commitgraph.specs.Rows.{no_row, row_at}
use Rattle.gix_graph_check.specs.Sound.{AreSound}
use Rattle.gix_graph_store.proofs.SoundRows.{stored-stays, told-rows-agree}
use Rattle.gix_graph_store.specs.Laws.{StoredAgree}
use Rattle.gix_graph_store.specs.StoredRows.{IsStoredSo}
use Rattle.gix_hash.specs.Reach.{Reaches, start}
use Rattle.gix_revwalk.specs.Infos.{given}
use Rattle.gix_topo.specs.declared.Sorting.{Sorting}
use Rattle.gix_commands.specs.Answerable.{IsAnswerable, StoredSucceeds}
use Rattle.gix_commands.specs.Chosen.{HasObject}
use Rattle.gix_commands.specs.Readable.{is_first, readable}
use Rattle.gix_commands.specs.Run.{ServesOver}
use Rattle.gix_commands.specs.StoredRuns as store
use Rattle.gix_commands.specs.StoredRuns.{FailsToAgree, RunsStored}
use Rattle.gix_commands.specs.TopoWalked.{Answers, Walk}
use Rattle.gix_commands.proofs.AheadRuns.{counts_well}
use Rattle.gix_commands.proofs.BasesRuns.{joins_well}
use Rattle.gix_commands.proofs.CommitRuns.{ok_same}
use Rattle.gix_commands.proofs.ContainedRuns.{selects_well}
use Rattle.gix_commands.proofs.ContainingRuns.{reaches_well}
use Rattle.gix_commands.proofs.FileRuns as file
use Rattle.gix_commands.proofs.ListedCommits.{followed_down}
use Rattle.gix_commands.proofs.OtherParents.{take_within}
use Rattle.gix_commands.proofs.ReadableObjects.{reaches_back, readable_agrees, readable_named, readable_sound, readable_whole, unfolds_back}
use Rattle.gix_commands.proofs.RowsAsTexts.{into_map}
use Rattle.gix_commands.proofs.SimpleFaults as simple
use Rattle.gix_commands.proofs.TopoBegins.{first_given_down}
use Rattle.gix_commands.proofs.TopoRuns as topo

-- one answer more
one_more : {S A : Type 0} (steps : S → Option A → S → Type 0) (from at new : S) (answers : List A) (answer : A) → Yields steps from answers at → steps at (Some answer) new → Yields steps from (answers ++ answer ∷ []) new
one_more steps from at new [] answer same more = (new, subst (λ s. steps s (Some answer) new) (sym same) more, refl)
one_more steps from at new (first ∷ answers) answer h more = (h.0, h.1, one_more steps h.0 at new answers answer h.2 more)

-- what a topological walk gives its tips reach, where all of that is whole
module _ (objects : Objects) (rows : List GraphRow) (agree : IsAgreeing objects rows) (m : Parents) (by : Sorting) (tips ends : List ObjectId) (whole : AreWhole objects (tips ++ ends)) where
  by_texts : (i : ObjectId) → Reaches (followed_down objects m) tips i → Reaches (parents_of objects) tips i
  by_texts i (start s) = start s
  by_texts i (step {c = c} r n) =
      let before = by_texts c r in
      let is_whole = whole_from objects c (whole c (reach_more (parents_of objects) tips (tips ++ ends) (λ j s. Contains-append_left tips ends j s) c before)) in
      step before (subst (λ ps. Contains ps i) (sym (text_whole objects c is_whole)) (walked_within m (text_next objects c) i n))

  given_reached : (walk : Walk) → IsBuiltFrom objects rows m by tips ends (Ok walk) → (infos : List Info) (info : Info) (new : Walk) → YieldsThen Answers walk (given infos) (Some (Ok info)) new → Reaches (parents_of objects) tips info.id
  given_reached walk built infos info new h =
      let all : List Info = infos ++ info ∷ [] in
      let ids : List ObjectId = map (λ (x : Info). x.id) all in
      let drawn : Yields Answers walk (given all) new = subst (λ list. Yields Answers walk list new) (sym (map-append Ok infos (info ∷ []))) (one_more Answers walk h.0 new (given infos) (Ok info) h.1 h.2) in
      let first = first_given_down objects rows agree m by tips ends walk built all new drawn in
      let last : Contains ids info.id = into_map (λ (x : Info). x.id) all info (Contains-append_right infos (info ∷ []) info (Contains-here info [])) in
      by_texts info.id (first.1.shown info.id (take_within (length ids) first.0 info.id (subst (λ xs. Contains xs info.id) (sym first.2) last))).reached

module _ (stored : Objects) (rows : List GraphRow) (graph : AreGraphRows rows) (sound : AreSound rows) (agree : StoredAgree rows stored) where
  every_agree : IsAgreeing (with_rows rows stored) rows
  every_agree = told-rows-agree rows stored graph sound agree

  stored_so : (row : GraphRow) → Contains rows row → IsStoredSo rows stored row
  stored_so row m object at =
      let a : RowAgrees (with_rows rows stored) rows row = every_agree row m in
      let is : commit_at stored row.id ≡ Some a.whole.commit = ap (commit_of_object row.id) (at ∙ sym (stored-stays rows stored row.id object at)) ∙ a.whole.stored in
      (a.whole.commit, is, sym (agree row object m at) ∙ is)

  -- so no row is a fault
  unagreed : {e : Fault} → FailsToAgree rows stored e → IsOutside e
  unagreed (store.unsound i first) = absurd (first.unsound (sound first.number no_row first.within))
  unagreed (store.disagrees i others d) = absurd (d.disagrees.1 (stored_so (row_at rows d.number) (Contains-get_or rows d.number no_row d.within)))
  unagreed store.no_memory = tt

  ends_stored : (request : Request) (answer : Result (Unit {0}) Fault) (old new : Option (List ℕ))
      → ((given : Result (Unit {0}) Fault) (left : Option (List ℕ)) → ServesOver stored rows old request given left → EndsWell given) → RunsStored request stored rows old answer new → EndsWell answer
  ends_stored request answer old new well store.without_memory = tt
  ends_stored request answer old new well (store.not_agreed fails) = unagreed fails
  ends_stored request answer old new well (store.served rows_sound agreed s) = well answer new s

  -- what a command reads
  abbrev every : Objects
  every = with_rows rows stored

  abbrev seen : Bool → Objects
  seen all_lines = readable all_lines every

  agrees : (all_lines : Bool) → IsAgreeing (seen all_lines) rows
  agrees all_lines = readable_agrees all_lines every rows every_agree

  serves_well : (request : Request) → IsAnswerable stored rows request → (old : Option (List ℕ)) (answer : Result (Unit {0}) Fault) (new : Option (List ℕ)) → ServesOver stored rows old request answer new → EndsWell answer
  serves_well (Commits (Simple m by) shown tips hidden) (whole, texts) old answer new s =
      simple.well (HasObject stored rows) (seen (is_first m)) rows (agrees (is_first m)) old m by shown tips hidden (readable_whole (is_first m) every (tips ++ hidden) whole)
      (λ i r. texts i (reaches_back (is_first m) every tips i r)) answer new s
  serves_well (Commits (Topo m by) shown tips hidden) (whole, texts) old answer new s =
      let there = readable_whole false every (tips ++ hidden) whole in
      topo.well (seen false) rows (agrees false) m by tips hidden there (HasObject stored rows) old shown
      (λ walk built infos info last h. texts info.id (reaches_back false every tips info.id (given_reached (seen false) rows (agrees false) m by tips hidden there walk built infos info last h))) answer new s
  serves_well (Files shown tree) (trees, named, few) old answer new s =
      file.well (seen false) shown tree (readable_sound false every (λ e. true) (tree ∷ []) trees) (readable_named false every tree named) (λ none visits u. few none visits (unfolds_back false every tree visits u)) old answer new s
  serves_well (Ahead one other) whole old answer new s = counts_well (seen false) rows (agrees false) one other (readable_whole false every (one ∷ other ∷ []) whole) answer new s
  serves_well (Contained tip ids) whole old answer new s = selects_well tip ids (seen false) rows (agrees false) (readable_whole false every (tip ∷ ids) whole) answer new s
  serves_well (Containing target tips) whole old answer new s = reaches_well (seen false) rows (agrees false) target tips (readable_whole false every (target ∷ tips) whole) answer new s
  serves_well (Bases one others) whole old answer new s = joins_well (seen false) rows (agrees false) one others (readable_whole false every (one ∷ others) whole) answer new s

pub stored_succeeds : StoredSucceeds
stored_succeeds request stored rows answer old new graph sound agree has =
    ends_stored stored rows graph sound agree request answer old new (serves_well stored rows graph sound agree request has old)

-- What a walk gave first is, in the words of the page, a beginning of the list; and each parent of what it gave was given with it: over a
-- store that has a commit for each row.
use Rattle.std.proofs.Common.{◌≡◌, ◌≢◌, ℕ, ℤ, true, false, List, [], ◌∷◌, ◌++◌, length, map, filter, drop, flat_map, Contains, Some, Ok, codes, refl, sym, ap, subst, ◌∙◌, inl, inr, ⊎_elim, take-append-drop}
use Rattle.std.specs.List.{AllZip}
use Rattle.std.proofs.lemmas.List.Elements.{All-contains, Contains-append_cases}
use Rattle.gix_hash.specs.declared.ObjectId.{ObjectId}
use Rattle.gix_hash.specs.Id.{kind_of}
use Rattle.gix_hash.proofs.Ids.Membership.{Contains-cons_cases, Contains-here, Contains-there, no_member}
use Rattle.gix_object.specs.CommitItems.{commit_items}
use Rattle.gix_object.specs.Object.{Objects}
use Rattle.gix_object.specs.declared.Kind.TheVariants as kind
use Rattle.gix_commitgraph.specs.Packed.{AreGraphRows}
use Rattle.gix_commitgraph.specs.Rows.{GraphRow}
use Rattle.gix_revwalk.specs.Agreeing.{IsAgreeing}
use Rattle.gix_revwalk.specs.Asking.{accepts_all}
use Rattle.gix_revwalk.specs.Commits.{time_of}
use Rattle.gix_revwalk.specs.Infos.{given}
use Rattle.gix_revwalk.specs.Texts.{text_next}
use Rattle.gix_revwalk.specs.declared.Info.{Info}
use Rattle.gix_revwalk.specs.declared.Parents.TheVariants as mode
use Rattle.gix_topo.specs.declared.Sorting.{Sorting as TopoSorting}
use Rattle.gix_topo.specs.declared.Sorting.TheVariants as topo
use Rattle.gix_topo.specs.Laws.{BeginsTextOrder, IsTextGiven}
use Rattle.gix_topo.specs.Walk.{IsCommitRead, IsReached, TopoPlan}
use Rattle.gix_topo.proofs.Run.Theorem.{begins_text}
use Rattle.std.specs.FinMap.{get}
use Rattle.std.specs.Iterator.{Yields}
use Rattle.gix_graph_check.specs.Sound.{AreSound}
use Rattle.gix_graph_store.specs.Laws.{StoredAgree}
use Rattle.gix_graph_store.specs.WithRows.{with_rows}
use Rattle.gix_statement.proofs.Descents.{begins_down}
use Rattle.gix_statement.proofs.EachHistory.{same_parents, same_time}
use Rattle.gix_statement.specs.WholeStatement.{Begins, IsHistory, IsShown, IsThere, Reaches}
use Rattle.gix_words.specs.Words.{Ahead}
use Rattle.gix_words.specs.declared.words.Order.TheVariants.{Topo}
use Rattle.gix_commands.specs.Pages.{page_objects, page_rows}
use Rattle.gix_commands.specs.Readable.{readable}
use Rattle.gix_commands.specs.TopoWalked.{Answers as TopoAnswers, IsBuiltFrom, plan_from, Walk as TopoWalk}
use Rattle.gix_commands.specs.Walked.{never_faulty, objects_of}
use Rattle.gix_commands.proofs.OrderNames.{down_name}
use Rattle.gix_commands.proofs.PageCommits.{fed_history, whole_text}
use Rattle.gix_commands.proofs.PageLists.{begins_so}
use Rattle.gix_commands.proofs.PageTexts.{scan_faultless, text_there}
use Rattle.gix_commands.proofs.ReachedIsRead.{reached_is_read}
use Rattle.gix_commands.proofs.ReadableObjects.{readable_agrees}
use Rattle.gix_commands.proofs.ReadableTexts.{have_texts, text_kept}
use Rattle.gix_commands.proofs.RowsAsTexts.{every_agree, text_is_commit}
use Rattle.gix_commands.proofs.SameCommits.{held}
use Rattle.gix_commands.proofs.SameDescents.{name_down}
use Rattle.gix_commands.proofs.SameLists.{listed_down}
use Rattle.gix_commands.proofs.SameOrders.{reaches_back}
use Rattle.gix_commands.proofs.SameWords.{IsNameOf}
use Rattle.gix_commands.proofs.TopoBegins.{first_given_down}
use Rattle.gix_commands.proofs.TopoRuns.{no_faults}

abbrev ids_in : List Info → List ObjectId
ids_in infos = map (λ info. info.id) infos

-- what is named behind what was given is named behind one of these
pub behind_one : (parents : ObjectId → List ObjectId) (infos : List Info) (i : ObjectId) → Contains (flat_map parents (ids_in infos)) i → (info : Info) × Contains infos info × Contains (parents info.id) i
behind_one parents [] i m = absurd (no_member i m)
behind_one parents (info ∷ infos) i m = ⊎_elim
    (λ here. (info, Contains-here info infos, here))
    (λ there. let n = behind_one parents infos i there in (n.0, Contains-there n.0 info infos n.1, n.2))
    (Contains-append_cases (parents info.id) (flat_map parents (ids_in infos)) i m)

in_ids : (infos : List Info) (info : Info) → Contains infos info → Contains (ids_in infos) info.id
in_ids [] info m = absurd (no_member info m)
in_ids (one ∷ infos) info m = ⊎_elim
    (λ (e : one ≡ info). subst (λ (x : Info). Contains (one.id ∷ ids_in infos) x.id) e (Contains-here one.id (ids_in infos)))
    (λ t. Contains-there info.id one.id (ids_in infos) (in_ids infos info t))
    (Contains-cons_cases info one infos m)

-- a topological walk gives a commit with all that its text names
named_down : (plan : TopoPlan Objects) (infos : List Info) (ids : List ObjectId) → AllZip (IsTextGiven objects_of plan) (given infos) (filter (λ i. true) ids) → (info : Info) → Contains infos info → info.parent_ids.items ≡ text_next plan.store info.id
named_down plan [] ids h info m = absurd (no_member info m)
named_down plan (one ∷ infos) [] h info m = absurd h
named_down plan (one ∷ infos) (i ∷ ids) h info m = ⊎_elim
    (λ (e : one ≡ info). subst (λ (x : Info). x.parent_ids.items ≡ text_next plan.store x.id) e (h.0.info_is.same_parents ∙ sym (ap (text_next plan.store) h.0.info_is.same_id)))
    (named_down plan infos ids h.1 info)
    (Contains-cons_cases info one infos m)

its_name : (by : TopoSorting) → IsNameOf (name_down by) (Topo mode.All by)
its_name topo.TopoOrder = refl
its_name topo.DateOrder = refl

module _ (objects : Objects) (rows : List GraphRow) (graph : AreGraphRows rows) (sound : AreSound rows) (agree : StoredAgree rows objects)
    (parents : ObjectId → List ObjectId) (time : ObjectId → ℤ) (history : IsHistory (page_objects objects) (page_rows rows) parents time) where
  abbrev every : Objects
  every = readable false (with_rows rows objects)

  abbrev IsHere : ObjectId → Type 0
  IsHere = IsThere (page_objects every) []

  abbrev texts : ObjectId → List ObjectId
  texts = text_next every

  agrees : IsAgreeing every rows
  agrees = readable_agrees false (with_rows rows objects) rows (every_agree whole_text rows objects graph sound agree)

  over_every : IsHistory (page_objects every) [] parents time
  over_every r (inl text) = history r (text_is_commit whole_text rows objects graph sound agree r (text_kept false (with_rows rows objects) r text))
  over_every r (inr none) = absurd (no_member r none.1)

  names_same : (i : ObjectId) → IsHere i → texts i ≡ parents i
  names_same = same_parents (page_objects every) [] texts parents (time_of every) time (fed_history every) over_every

  time_same : (i : ObjectId) → IsHere i → time_of every i ≡ time i
  time_same = same_time (page_objects every) [] texts parents (time_of every) time (fed_history every) over_every

  -- no commit is empty
  some_text : (i : ObjectId) (bytes : List ℕ) → get every i ≡ Some (record { kind = kind.Commit; bytes = bytes }) → bytes ≢ []
  some_text i bytes at e =
      (have_texts (Ahead i i) (with_rows rows objects)).0 i (held every i (record { kind = kind.Commit; bytes = bytes }) at ∙ ap (λ bs. Some (record { kind = codes "commit"; bytes = bs })) e)

  read_there : (i : ObjectId) → IsCommitRead every i → IsHere i
  read_there i c = text_there every i c.bytes (some_text i c.bytes c.stored) c.stored (scan_faultless (commit_items (kind_of i) c.bytes) c.faultless)

  -- `topo` and `date`
  module _ (by : TopoSorting) (tips hidden : List ObjectId) (some : tips ≢ []) (walk : TopoWalk) (built : IsBuiltFrom every rows mode.All by tips hidden (Ok walk)) (infos : List Info) (last : TopoWalk) (drawn : Yields TopoAnswers walk (given infos) last) where
    reached_there : (i : ObjectId) → IsReached objects_of (plan_from every rows mode.All by tips hidden) i → IsHere i
    reached_there i r = read_there i (reached_is_read every rows agrees mode.All by tips hidden walk built i r)

    above : (i : ObjectId) → Reaches texts tips i → IsHere i
    above i r = reached_there i (inl (reaches_back texts tips i r))

    below : (i : ObjectId) → Reaches texts hidden i → IsHere i
    below i r = reached_there i (inr (reaches_back texts hidden i r))

    begun_texts : Begins texts texts (time_of every) tips hidden (name_down by) (ids_in infos)
    begun_texts =
        let ids : List ObjectId = ids_in infos in
        let f = first_given_down every rows agrees mode.All by tips hidden walk built infos last drawn in
        begins_so texts texts (time_of every) tips hidden (name_down by) f.0 (listed_down every texts mode.All (name_down by) by (its_name by) tips hidden f.0 f.1) ids (drop (length ids) f.0)
        (sym (take-append-drop (length ids) f.0) ∙ ap (λ xs. xs ++ drop (length ids) f.0) f.2)

    begun : Begins parents parents time tips hidden (name_down by) (ids_in infos)
    begun =
        begins_down texts parents texts parents (time_of every) time tips hidden (λ c r. names_same c (above c r)) (λ c r. names_same c (below c r)) (λ c r. time_same c (above c r))
        (name_down by) (down_name (name_down by) mode.All by (its_name by)) (ids_in infos) begun_texts

    given_named : (info : Info) → Contains infos info → info.parent_ids.items ≡ texts info.id
    given_named =
        let b : BeginsTextOrder objects_of walk.plan (λ i. true) (given infos) =
        begins_text objects_of never_faulty accepts_all (λ i. true) walk last (given infos) (λ mid new i answer b a. a.0) built.1 (subst (λ (plan : TopoPlan Objects). IsAgreeing plan.store plan.rows) (sym built.0.plan) agrees) (no_faults infos) drawn in
        subst (λ (plan : TopoPlan Objects). (info : Info) → Contains infos info → info.parent_ids.items ≡ text_next plan.store info.id) built.0.plan (named_down walk.plan infos b.ids b.given)

    listed_there : (info : Info) → Contains infos info → IsHere info.id
    listed_there info m = above info.id (All-contains (λ i. IsShown texts texts (time_of every) tips hidden i) (ids_in infos) info.id begun_texts.0 (in_ids infos info m)).0

    parents_given : (i : ObjectId) → Contains (flat_map parents (ids_in infos)) i → (info : Info) × Contains infos info × Contains info.parent_ids.items i
    parents_given i m =
        let n = behind_one parents infos i m in
        (n.0, n.1, subst (λ ids. Contains ids i) (sym (given_named n.0 n.1 ∙ names_same n.0.id (listed_there n.0 n.1))) n.2)

  -- what `topo` and `date` gave first
  pub begun_down : (by : TopoSorting) (tips hidden : List ObjectId) → tips ≢ [] → (walk : TopoWalk) → IsBuiltFrom (readable false (with_rows rows objects)) rows mode.All by tips hidden (Ok walk)
      → (infos : List Info) (last : TopoWalk) → Yields TopoAnswers walk (given infos) last
      → Begins parents parents time tips hidden (name_down by) (map (λ info. info.id) infos)
      × ((i : ObjectId) → Contains (flat_map parents (map (λ info. info.id) infos)) i → (info : Info) × Contains infos info × Contains info.parent_ids.items i)
  begun_down by tips hidden some walk built infos last drawn =
      (begun by tips hidden some walk built infos last drawn, parents_given by tips hidden some walk built infos last drawn)

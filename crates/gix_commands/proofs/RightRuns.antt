-- What a run over objects and rows that agree with them has written is right in each history that has these objects, where what is said to
-- be a commit has the text of one.
use Rattle.std.proofs.Common.{◌≡◌, ◌≢◌, ℕ, List, [], ◌∷◌, Option, Some, Result, Ok, Err, Contains, codes, refl, sym, ap, subst, inl, ◌∙◌}
use Rattle.gix_commands.proofs.Common.{get, kind_of, Parents, ReadsParents, IsCommitRead, IsReached, objects_of, plan_from, IsBuiltFrom, Appends, Contains-get_or, Contains-here, Contains-there, ObjectId, Objects, GraphRow, IsAgreeing, text_next, time_of, Fault, Simple, Topo, AreWhole, whole_from, not_listed, unserved, Request, Commits, EntryLines, Files, Ahead, Contained, Containing, Bases, request_of, Shown}
use Rattle.gix_object.specs.CommitItems.{commit_items}
use Rattle.gix_object.specs.declared.Kind.TheVariants as kind
use Rattle.gix_revwalk.specs.declared.Parents.TheVariants as mode
use Rattle.gix_simple.specs.declared.Sorting.{Sorting}
use Rattle.gix_topo.specs.declared.Sorting.{Sorting as TopoSorting}
use Rattle.gix_statement.proofs.InEach.{Each, ahead_each, bases_each, containing_each, files_each}
use Rattle.gix_statement.specs.WholeStatement as page
use Rattle.gix_statement.specs.WholeStatement.{IsThere, Row, contains}
use Rattle.gix_commands.specs.Pages.{HaveTexts, page_objects}
use Rattle.gix_commands.specs.Run.{Serves, cut_off, misnamed, too_many}
use Rattle.gix_commands.specs.TopoWalked.{Walk as TopoWalk}
use Rattle.gix_commands.proofs.AheadRuns.{counted_so, counted_whole}
use Rattle.gix_commands.proofs.BasesRuns.{joined_so}
use Rattle.gix_commands.proofs.ContainedRuns.{selected_so}
use Rattle.gix_commands.proofs.ContainingRuns.{reaching_so}
use Rattle.gix_commands.proofs.RightSimple.{simple_right}
use Rattle.gix_commands.proofs.PageCommits.{all_there, fed_history, reached_there, whole_there}
use Rattle.gix_commands.proofs.PageTexts.{scan_faultless, text_there}
use Rattle.gix_commands.proofs.RightTopo.{topo_right}
use Rattle.gix_commands.proofs.Right.{IsRight, cut_right}
use Rattle.gix_commands.proofs.SameCommits.{held}
use Rattle.gix_commands.proofs.SameBases.{bases_so, one_there, others_there, rising_so}
use Rattle.gix_commands.proofs.SameContained.{contained_kept}
use Rattle.gix_commands.proofs.SameContaining.{containing_so, tips_there}
use Rattle.gix_commands.proofs.SameLists.{id_lines, number_shown}
use Rattle.gix_commands.proofs.SameWords.{AreWordsOf, are_words}
use Rattle.gix_commands.proofs.TextNumbers.{number_by_texts}
use Rattle.gix_commands.proofs.TopoRuns.{was_read}
use Rattle.gix_commands.proofs.GivenObjects.{HasAll, here_on, unfolds_on}
use Rattle.gix_commands.proofs.RightTrees.{tree_written}

-- a topological walk that was built has read all that its tips and ends reach
abbrev pub AreRead : Objects → List GraphRow → Type 0
AreRead objects rows =
    (m : Parents) (by : TopoSorting) (tips ends : List ObjectId) (walk : TopoWalk) → IsBuiltFrom objects rows m by tips ends (Ok walk)
    → (i : ObjectId) → IsReached objects_of (plan_from objects rows m by tips ends) i → IsCommitRead objects i

pub unrowed_read : (objects : Objects) → AreRead objects []
unrowed_read objects m by tips ends walk built i r = was_read objects m by tips ends walk built i r

module _ (objects : Objects) (rows : List GraphRow) (agrees : IsAgreeing objects rows) (read : AreRead objects rows) (Stored : ObjectId → Type 0) (given : page.Objects) (their : List Row) (on : HasAll (page_objects objects) Stored given their) (old : Option (List ℕ)) where
  abbrev RightSo : List (List ℕ) → Result (Unit {0}) Fault → Option (List ℕ) → Type 0
  RightSo words = IsRight (page_objects objects) given their words old

  abbrev EachSo : Option (List ℕ) → List (List ℕ) → Type 0
  EachSo = Each (page_objects objects) [] (text_next objects) (time_of objects) (fed_history objects) given their (here_on on) old

  files_right : (words : List (List ℕ)) (shown : EntryLines) (tree : ObjectId) → AreWordsOf words (Ok (Files shown tree)) → (answer : Result (Unit {0}) Fault) (new : Option (List ℕ)) → Serves Stored objects rows old (Files shown tree) answer new → RightSo words answer new
  files_right words shown tree (bound, option, text, within, ends, is, spells) (Ok tt) new s =
      let t = tree_written objects rows old new shown tree s in
      subst (EachSo new) (sym is) (files_each (page_objects objects) [] (text_next objects) (time_of objects) (fed_history objects) given their (here_on on) old new shown.limit bound option text within ends spells (on.tree tree t.0 t.2) (unfolds_on on t.3) t.4)
  files_right words shown tree w (Err e) new (not_listed recorder why walk) = inl refl
  files_right words shown tree w (Err e) new (misnamed recorder walk first) = inl refl
  files_right words shown tree w (Err e) new (too_many recorder walk names none more) = inl refl
  files_right words shown tree w (Err e) new unserved = inl refl
  files_right words shown tree w (Err e) new (cut_off {answer = answer} {full = full} some more s a b) = cut_right (page_objects objects) given their words old answer full new some more (files_right words shown tree w answer full s) a b

  ahead_right : (words : List (List ℕ)) (one other : ObjectId) → AreWordsOf words (Ok (Ahead one other)) → (new : Option (List ℕ)) → Serves Stored objects rows old (Ahead one other) (Ok tt) new → RightSo words (Ok tt) new
  ahead_right words one other (a, b, is, spells, spells_other) new s =
      let both : List ObjectId = one ∷ other ∷ [] in
      let n = counted_so objects rows agrees one other old new s in
      let whole : AreWhole objects both = counted_whole objects rows agrees one other old new s in
      let first : Contains both one = Contains-here one (other ∷ []) in
      let second : Contains both other = Contains-there other one (other ∷ []) (Contains-here other []) in
      subst (EachSo new) (sym is)
      (ahead_each (page_objects objects) [] (text_next objects) (time_of objects) (fed_history objects) given their (here_on on) old new n.0 n.1 spells spells_other
      (reached_there objects both whole one first) (reached_there objects both whole other second)
      (number_shown objects (text_next objects) one other n.0 (number_by_texts objects both whole one other first second n.0 n.2))
      (number_shown objects (text_next objects) other one n.1 (number_by_texts objects both whole other one second first n.1 n.3))
      n.4)

  contained_right : (words : List (List ℕ)) (tip : ObjectId) (ids : List ObjectId) → AreWordsOf words (Ok (Contained tip ids)) → (new : Option (List ℕ)) → Serves Stored objects rows old (Contained tip ids) (Ok tt) new → RightSo words (Ok tt) new
  contained_right words tip ids (rest, is, tips, some) new s =
      let k = selected_so tip ids objects rows agrees old new some s in
      subst (EachSo new) (sym is) (λ other times another.
      contains tips some (λ n d below. here_on on _ (whole_there objects _ (whole_from objects _ (k.there _ (Contains-get_or (tip ∷ ids) n d below)))))
      (contained_kept objects other times another tip [] k.exact k.whole) (subst (Appends old new) (id_lines k.those) k.written))

  containing_right : (words : List (List ℕ)) (target : ObjectId) (tips : List ObjectId) → AreWordsOf words (Ok (Containing target tips)) → (new : Option (List ℕ)) → Serves Stored objects rows old (Containing target tips) (Ok tt) new → RightSo words (Ok tt) new
  containing_right words target tips (rest, is, are, some) new s =
      let c = reaching_so objects rows agrees target tips old new some s in
      subst (EachSo new) (sym is)
      (containing_each (page_objects objects) [] (text_next objects) (time_of objects) (fed_history objects) given their (here_on on) old new are some
      (tips_there objects target tips c.2) (all_there objects (target ∷ tips) c.2)
      (containing_so objects target tips c.2 c.0 c.1) (subst (Appends old new) (id_lines c.0) c.3))

  bases_right : (words : List (List ℕ)) (one : ObjectId) (others : List ObjectId) → AreWordsOf words (Ok (Bases one others)) → (new : Option (List ℕ)) → Serves Stored objects rows old (Bases one others) (Ok tt) new → RightSo words (Ok tt) new
  bases_right words one others (rest, is, tips, some) new s =
      let c = joined_so objects rows agrees one others old new some s in
      subst (EachSo new) (sym is)
      (bases_each (page_objects objects) [] (text_next objects) (time_of objects) (fed_history objects) given their (here_on on) old new c.0 tips some
      (one_there objects one others c.2) (others_there objects one others c.2) (all_there objects (one ∷ others) c.2)
      (bases_so objects one others c.2 c.0 c.1) (rising_so c.0 c.1.rising) (subst (Appends old new) (id_lines c.0) c.3))

  -- commits that are read have the text of one
  module _ (request : Request) (have : HaveTexts request (page_objects objects)) where
    some_text : (i : ObjectId) (bytes : List ℕ) → get objects i ≡ Some (record { kind = kind.Commit; bytes = bytes }) → bytes ≢ []
    some_text i bytes at e = have.0 i (held objects i (record { kind = kind.Commit; bytes = bytes }) at ∙ ap (λ bs. Some (record { kind = codes "commit"; bytes = bs })) e)

    pub simple_there : (m : Parents) (by : Sorting) (shown : Shown) (tips hidden : List ObjectId) → request ≡ Commits (Simple m by) shown tips hidden → (i : ObjectId) → ReadsParents objects m i → IsThere (page_objects objects) [] i
    simple_there mode.All by shown tips hidden is i r = text_there objects i r.bytes (some_text i r.bytes r.stored) r.stored r.unbroken
    simple_there mode.First by shown tips hidden is i r = have.1 by shown tips hidden is i r.bytes (held objects i (record { kind = kind.Commit; bytes = r.bytes }) r.stored) r.unbroken

    pub down_there : (i : ObjectId) → IsCommitRead objects i → IsThere (page_objects objects) [] i
    down_there i c = text_there objects i c.bytes (some_text i c.bytes c.stored) c.stored (scan_faultless (commit_items (kind_of i) c.bytes) c.faultless)

  -- THE LAW
  right_of_words : (words : List (List ℕ)) (request : Request) → AreWordsOf words (Ok request) → HaveTexts request (page_objects objects) → (answer : Result (Unit {0}) Fault) (new : Option (List ℕ)) → Serves Stored objects rows old request answer new → RightSo words answer new
  right_of_words words (Commits (Simple m by) shown tips hidden) (name, option, rest, is, named, chosen, place, chooses, some) have answer new s =
      subst (λ asked. RightSo asked answer new) (sym is)
      (simple_right objects rows agrees m by tips hidden some (simple_there (Commits (Simple m by) shown tips hidden) have m by shown tips hidden refl) Stored given their on old name option rest named chosen shown place chooses answer new s)
  right_of_words words (Commits (Topo m by) shown tips ends) (name, option, rest, is, named, chosen, place, chooses, some) have answer new s =
      subst (λ asked. RightSo asked answer new) (sym is)
      (topo_right objects rows agrees m by tips ends some (down_there (Commits (Topo m by) shown tips ends) have) (read m by tips ends) Stored given their on old name option rest named chosen shown place chooses answer new s)
  right_of_words words (Files shown tree) w have answer new s = files_right words shown tree w answer new s
  right_of_words words (Ahead one other) w have (Ok tt) new s = ahead_right words one other w new s
  right_of_words words (Contained tip ids) w have (Ok tt) new s = contained_right words tip ids w new s
  right_of_words words (Containing target tips) w have (Ok tt) new s = containing_right words target tips w new s
  right_of_words words (Bases one others) w have (Ok tt) new s = bases_right words one others w new s
  right_of_words words request w have (Err e) new (cut_off {answer = answer} {full = full} some more s a b) = cut_right (page_objects objects) given their words old answer full new some more (right_of_words words request w have answer full s) a b
  right_of_words words request w have (Err e) new s = inl refl

  pub right : (words : List (List ℕ)) (request : Request) → request_of words ≡ Ok request → HaveTexts request (page_objects objects) → (answer : Result (Unit {0}) Fault) (new : Option (List ℕ)) → Serves Stored objects rows old request answer new → RightSo words answer new
  right words request asked have answer new s = right_of_words words request (subst (AreWordsOf words) asked (are_words words)) have answer new s

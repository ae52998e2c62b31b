-- What a run of `breadth`, `newest` or `oldest` over records has written is right in each history that has what was read, where what
-- was read are commits.
use Rattle.std.proofs.Common.{◌⊎◌, ⊎_elim, ◌≡◌, ◌≢◌, ◌-◌, ◌≤◌, ℕ, suc, List, [], ◌∷◌, ◌++◌, length, take, drop, Option, Some, None, Ok, All, Contains, codes, refl, sym, ap, subst, ◌∙◌, inl, inr, Bool, true, false, Result, Err, arith, take_at, take-append-drop, append-nil, length-append}
use Rattle.gix_commands.proofs.Common.{Appends, Yields, Contains-get_or, Contains-append_left, Contains-append_right, ObjectId, Parents, by_mode, Info, Simple, Commits, AreWhole, ReadsParents, text_next, time_of, time_order, IsAgreeing, GraphRow, Objects, no_start, reach_more, whole_from, step}
use Rattle.gix_commands.proofs.Common.{false≢true, Fault, walked, not_walked, unserved, StartsFrom, enough, before, cut_short, Ends, EndsBy, finished, Shown, kept_in, page_choice}
use Rattle.std.proofs.Math.ListN.{get_or}
use Rattle.std.proofs.Math.Seq.{take-append_seam}
use Rattle.gix_hash.specs.Reach as reach
use Rattle.gix_revwalk.specs.declared.Parents.TheVariants as mode
use Rattle.gix_simple.specs.declared.Sorting.{Sorting}
use Rattle.gix_simple.specs.declared.Sorting.TheVariants as sorting
use Rattle.gix_statement.proofs.InEach.{none_each, simple_each}
use Rattle.gix_statement.specs.WholeStatement as page
use Rattle.gix_statement.specs.WholeStatement.{Allows, InEach, IsThere, Reaches, Row, Chooses, chosen}
use Rattle.gix_commands.specs.Checked.{GoesOnWhole, HaveParents}
use Rattle.gix_commands.specs.Chosen.{HasText, line_in, page_form}
use Rattle.gix_commands.specs.Run.{Serves, cut_off, lost}
use Rattle.gix_revwalk.specs.Infos.{given}
use Rattle.gix_commands.specs.Walked.{Walk, Answers, AsksForMore, Have, IsWalkFault, failed, unstored}
use Rattle.gix_commands.specs.Pages.{page_objects}
use Rattle.gix_commands.proofs.CommitRuns.{ids_in, listed}
use Rattle.gix_commands.proofs.CheckedWalks.{enough_on, less_on}
use Rattle.gix_commands.proofs.PageCommits.{fed_history, whole_there}
use Rattle.gix_commands.proofs.GivenObjects.{AreStored, HasAll, here_on, ids_stored, same_bytes, texts_on}
use Rattle.gix_commands.proofs.PageLists.{Lists, begins_so, whole_so}
use Rattle.gix_commands.proofs.KeptLists.{followed_reaches}
use Rattle.gix_commands.proofs.LostParents.{whole_all}
use Rattle.gix_commands.proofs.OtherParents.{by_parents_reached, take_within}
use Rattle.gix_commands.proofs.SameLists.{is_followed, is_name_in, listed as is_list}
use Rattle.gix_commands.proofs.SameOrders.{reaches_back}
use Rattle.gix_commands.proofs.SameWords.{IsNameOf, IsOptionOf}
use Rattle.gix_commands.proofs.OrderNames.{all_parents, is_order, simple_name}
use Rattle.gix_commands.proofs.Right.{IsRight, begun_right, cut_right}
use Rattle.gix_commands.proofs.WrittenBytes.{allows_all, allows_fewer, allows_least, begun_bytes, ended_bytes, no_more}
use Rattle.gix_commands.proofs.SimpleBegins.{front, take_less, first_given, given_first, met_before, none_given, read_first}
use Rattle.gix_commands.proofs.SimpleRuns.{all_read, given_with, left_whole, no_ids, tips_read}
use Rattle.gix_commands.proofs.ListedCommits.{IsSimpleBy, followed, kept_tips}

first_within : (k : ℕ) (infos : List Info) (info : Info) → Contains (take k infos) info → Contains infos info
first_within k infos info c = subst (λ xs. Contains xs info) (take-append-drop k infos) (Contains-append_left (take k infos) (drop k infos) info c)

-- what is behind others and before one is before the last
in_front : (ids taken rest : List ObjectId) (j c : ObjectId) → ids ≡ taken ++ j ∷ rest → Contains taken c → Contains (front ids) c
in_front ids taken rest j c is m =
    let few : length taken ≤ length ids - 1 = omega (arith, ap length is, length-append taken (j ∷ rest)) in
    take_less (length taken) (length ids - 1) ids c few (subst (λ xs. Contains xs c) (sym (ap (take (length taken)) is ∙ take-append_seam taken (j ∷ rest))) m)

module _ (objects : Objects) (rows : List GraphRow) (agrees : IsAgreeing objects rows) (m : Parents) (by : Sorting) (tips hidden : List ObjectId) (some : tips ≢ [])
    (read_is : (i : ObjectId) → ReadsParents objects m i → IsThere (page_objects objects) [] i) (Stored : ObjectId → Type 0) (given_objects : page.Objects) (given_rows : List Row) (on : HasAll (page_objects objects) Stored given_objects given_rows) where
  abbrev left : List ObjectId
  left = kept_tips objects by tips

  abbrev texts : ObjectId → List ObjectId
  texts = text_next objects

  abbrev IsHere : ObjectId → Type 0
  IsHere = IsThere (page_objects objects) []

  -- a list that was read
  abbrev IsList : List ObjectId → Type 0
  IsList = IsSimpleBy objects texts m by tips hidden

  -- by time all parents are followed
  abbrev AreAll : Type 0
  AreAll = by ≢ sorting.BreadthFirst → m ≡ mode.All

  -- by time these commits' parents are there
  abbrev pub AreJudged : List ObjectId → Type 0
  AreJudged ids = by ≢ sorting.BreadthFirst → (c i : ObjectId) → Contains ids c → Contains (texts c) i → IsHere i

  -- what was listed is there, and so is what hidden tips reach, and by time what is named behind all but the last
  record AreRead (ids : List ObjectId) : Type 0 where
    there : All IsHere ids
    below : (i : ObjectId) → Reaches texts hidden i → IsHere i
    judged : AreJudged (front ids)

  -- where all that tips and hidden tips reach are whole commits
  module _ (whole : AreWhole objects (left ++ hidden)) where
    met : (i : ObjectId) → reach.Reaches texts (left ++ hidden) i → IsHere i
    met i r = whole_there objects i (whole_from objects i (whole i (by_parents_reached objects left hidden whole i r)))

    listed_met : (ids : List ObjectId) → IsList ids → (i : ObjectId) → Contains ids i → reach.Reaches texts (left ++ hidden) i
    listed_met ids l i c = reach_more texts left (left ++ hidden) (λ j n. Contains-append_left left hidden j n) i (followed_reaches objects texts m by left i ((l.exact i).0 c).reached)

    judged_whole : (ids : List ObjectId) → IsList ids → AreJudged ids
    judged_whole ids l other c i n p = met i (step (listed_met ids l c n) p)

    read_whole : (ids more : List ObjectId) → IsList (ids ++ more) → AreRead ids
    read_whole ids more l = record {
      there = λ k d few. let i = get_or ids k d in met i (listed_met (ids ++ more) l i (Contains-append_left ids more i (Contains-get_or ids k d few)));
      below = λ i r. met i (reach_more texts hidden (left ++ hidden) (λ j c. Contains-append_right left hidden j c) i (reaches_back texts hidden i r));
      judged = λ other c i n p. judged_whole (ids ++ more) l other c i (Contains-append_left ids more c (take_within (length ids - 1) ids c n)) p;
    }

  module _ (walk : Walk) (starts : StartsFrom objects rows m by tips hidden walk) where
    tips_there : by ≢ sorting.BreadthFirst → (i : ObjectId) → Contains tips i → IsHere i
    tips_there other i c = whole_there objects i (whole_from objects i (tips_read objects rows m by tips hidden walk starts other i c))

    module _ (infos : List Info) (every : AreAll) where
      -- without hidden tips each was read
      read_open : hidden ≡ [] → (last : Walk) → Yields Answers walk (given infos) last → (by ≢ sorting.BreadthFirst → HaveParents objects rows (take (length infos - 1) infos)) → AreRead (ids_in infos)
      read_open none last drawn parents = record {
        there = λ k d few.
            let i = get_or (ids_in infos) k d in
            read_is i (read_first objects rows m by tips hidden walk starts agrees infos last drawn none i (Contains-get_or (ids_in infos) k d few));
        below = λ i r. absurd (no_start texts hidden i (reaches_back texts hidden i r) none);
        judged = λ other c i n p.
            let g = given_first objects rows m by tips hidden walk starts agrees infos last drawn none c n in
            whole_there objects i (whole_all objects rows agrees g.0.parent_ids.items (parents other g.0 g.1) i (subst (λ xs. Contains xs i) (sym (g.2 ∙ ap (λ k. by_mode k (texts c)) (every other))) p));
      }

      -- a walk that ended
      read_ended : {Has : ObjectId → Type 0} → left ≢ [] → Ends Answers IsWalkFault Has walk infos (Ok tt) → (by ≢ sorting.BreadthFirst → HaveParents objects rows infos) → IsList (ids_in infos) → AreRead (ids_in infos) × AreJudged (ids_in infos)
      read_ended keeps (finished new h) parents l = go hidden refl
        where
          go : (hs : List ObjectId) → hidden ≡ hs → AreRead (ids_in infos) × AreJudged (ids_in infos)
          go [] e = (
            read_open e h.0 h.1 (λ other info c. parents other info (first_within (length infos - 1) infos info c)),
            λ other c i n p.
                let g = given_with objects rows m by tips hidden walk starts agrees infos h.0 new h.1 h.2 e c ((l.exact c).0 n).reached in
                whole_there objects i (whole_all objects rows agrees g.0.parent_ids.items (parents other g.0 g.1) i (subst (λ xs. Contains xs i) (sym (g.2 ∙ ap (λ k. by_mode k (texts c)) (every other))) p)),
          )
          go (j ∷ hs) e =
              let whole = all_read objects rows m by tips hidden walk starts agrees infos h.0 new h.1 h.2 (λ n. let c : [] ≡ j ∷ hs = sym n ∙ e in cc) keeps in
              (read_whole whole (ids_in infos) [] (subst IsList (sym (append-nil (ids_in infos))) l), judged_whole whole (ids_in infos) l)

    -- a walk that gave a commit
    read_begun : AreAll → (info : Info) (infos : List Info) (last : Walk) → Yields Answers walk (given (info ∷ infos)) last → (by ≢ sorting.BreadthFirst → HaveParents objects rows (take (length (info ∷ infos) - 1) (info ∷ infos))) → (more : List ObjectId)
        → IsList (ids_in (info ∷ infos) ++ more) → AreRead (ids_in (info ∷ infos))
    read_begun every info infos last drawn parents more l = go hidden refl left refl
      where
        go : (hs : List ObjectId) → hidden ≡ hs → (ls : List ObjectId) → left ≡ ls → AreRead (ids_in (info ∷ infos))
        go [] e ls f = read_open (info ∷ infos) every e last drawn parents
        go (j ∷ hs) e (k ∷ ls) f =
            let met_all = met_before objects rows m by tips hidden walk starts agrees info drawn.0 drawn.1 (λ n. let c : [] ≡ j ∷ hs = sym n ∙ e in cc) in
            read_whole (left_whole objects rows m by tips hidden walk starts (λ n. let c : [] ≡ k ∷ ls = sym n ∙ f in cc) met_all) (ids_in (info ∷ infos)) more l
        go (j ∷ hs) e [] f =
            let met_all = met_before objects rows m by tips hidden walk starts agrees info drawn.0 drawn.1 (λ n. let c : [] ≡ j ∷ hs = sym n ∙ e in cc) in
            let no : info.id ∷ ids_in infos ≡ [] = none_given objects rows m by tips hidden walk starts agrees (info ∷ infos) last drawn met_all f in
            cc

  module _ (name : List ℕ) (option words : List (List ℕ)) (named : IsNameOf name (Simple m by)) (chosen_by : IsOptionOf option (Simple m by))
      (shown : Shown) (place : ℕ) (chooses : Chooses tips hidden place words (page_choice shown)) where
    abbrev through : ObjectId → List ObjectId
    through = followed objects texts m by

    abbrev ListsSo : List ObjectId → Type 0
    ListsSo = Lists texts through (time_of objects) left hidden name

    lists_so : (ids : List ObjectId) → IsList ids → ListsSo ids
    lists_so = is_list objects texts through name (time_order m by) (is_name_in objects texts name option m by named chosen_by) left hidden

    by_time : name ≢ codes "breadth" → by ≢ sorting.BreadthFirst
    by_time late e = late (subst (λ b. IsNameOf name (Simple m b)) e named)

    every : AreAll
    every = all_parents m by option chosen_by

    -- those of them that are written
    abbrev kept : List ObjectId → List ObjectId
    kept ids = chosen texts (time_of objects) (page_choice shown) ids

    abbrev asked : List (List ℕ)
    asked = name ∷ (option ++ words)

    abbrev MayBe : Bool → Type 0
    MayBe ended = (ended ≡ true) ⊎ (page_form shown.form ≡ page.Lines)

    abbrev pub bytes_of : List ObjectId → List ℕ
    bytes_of ids = page.written (line_in objects shown) (page_form shown.form) (kept ids)

    -- what lines of these need is stored
    abbrev pub HaveText : List Info → Type 0
    HaveText infos = Have (HasText Stored shown) infos

    -- these are there, and in each history what is written of them is the list, or so far a beginning of it
    abbrev pub AreListed : Bool → List ObjectId → Type 0
    AreListed ended ids = All IsHere ids × InEach (page_objects objects) [] (λ ps ts. page.Lists given_objects given_rows ps ts (bytes_of ids) ended asked)

    abbrev HaveTexts : List ObjectId → Type 0
    HaveTexts = AreStored Stored (page_choice shown)

    -- the first of a list, which were read
    first_each : (ended : Bool) → MayBe ended → (walk : Walk) → StartsFrom objects rows m by tips hidden walk → (ids more : List ObjectId) → IsList (ids ++ more) → AreRead ids → HaveTexts ids → Allows shown.limit (length (kept ids))
        → ((ended ≡ true) × Allows shown.limit (suc (length (kept ids))) → (more ≡ []) × AreJudged ids) → AreListed ended ids
    first_each ended may walk starts ids more l r stored allows all =
        let those = lists_so (ids ++ more) l in (
          r.there,
          simple_each (page_objects objects) [] texts (time_of objects) (fed_history objects) given_objects given_rows (here_on on) None None name option words (page_choice shown) place tips hidden ids (is_order name (Simple m by) named) chooses some r.there (texts_on on (page_choice shown) ids stored r.there) allows ended may (bytes_of ids) (same_bytes on texts (time_of objects) (page_choice shown) ids stored r.there)
              (simple_name name m by named) (is_followed objects texts name option tips m by named chosen_by)
              (begins_so texts through (time_of objects) left hidden name (ids ++ more) those ids more refl)
              (λ one_more. let same : ids ++ more ≡ ids = ap (λ xs. ids ++ xs) (all one_more).0 ∙ append-nil ids in whole_so texts through (time_of objects) left hidden name ids (subst ListsSo same those))
              r.below (λ late. tips_there walk starts (by_time late)) (λ late taken rest j is c i n p. r.judged (by_time late) c i (in_front ids taken rest j c is n) p) (λ one_more late. (all one_more).1 (by_time late)),
        )

    -- nothing was listed
    none_each_so : (ended : Bool) → MayBe ended → (walk : Walk) → StartsFrom objects rows m by tips hidden walk → (ids : List ObjectId) → ids ≡ [] → HaveTexts ids → Allows shown.limit (length (kept ids)) → ((ended ≡ true) × Allows shown.limit (suc (length (kept ids))) → left ≡ [])
        → AreListed ended ids
    none_each_so ended may walk starts ids none stored allows unstarted =
        let there : All IsHere ids = (λ k d few. absurd (omega (arith, few, ap length none))) in (
          there,
          none_each (page_objects objects) [] texts (time_of objects) (fed_history objects) given_objects given_rows (here_on on) None None name option words (page_choice shown) place tips hidden ids (is_order name (Simple m by) named) chooses some there (texts_on on (page_choice shown) ids stored there) allows ended may (bytes_of ids) (same_bytes on texts (time_of objects) (page_choice shown) ids stored there)
              (simple_name name m by named) (is_followed objects texts name option tips m by named chosen_by) none unstarted (λ late. tips_there walk starts (by_time late)),
        )

    -- a walk that ended
    ended_each : (walk : Walk) (starts : StartsFrom objects rows m by tips hidden walk) {Has : ObjectId → Type 0} (infos : List Info) → HaveText infos → Ends Answers IsWalkFault Has walk infos (Ok tt) → (by ≢ sorting.BreadthFirst → HaveParents objects rows infos) → Allows shown.limit (length (kept (ids_in infos)))
        → AreListed true (ids_in infos)
    ended_each walk starts infos stored ends parents allows = go left refl
      where
        l : IsList (ids_in infos)
        l = listed objects rows agrees m by tips hidden walk infos starts ends

        go : (ls : List ObjectId) → left ≡ ls → AreListed true (ids_in infos)
        go [] f =
            let empty : ids_in infos ≡ [] = no_ids (ids_in infos) (λ i c. no_start through left i ((l.exact i).0 c).reached f) in
            none_each_so true (inl refl) walk starts (ids_in infos) empty (ids_stored Stored (page_choice shown) infos stored) allows (λ one_more. f)
        go (k ∷ ls) f =
            let r = read_ended walk starts infos every (λ n. let c : [] ≡ k ∷ ls = sym n ∙ f in cc) ends parents l in
            first_each true (inl refl) walk starts (ids_in infos) [] (subst IsList (sym (append-nil (ids_in infos))) l) r.0 (ids_stored Stored (page_choice shown) infos stored) allows (λ one_more. (refl, r.1))

    -- a walk that was drawn so far, and that gave as much as was asked for, or wasn't ended
    drawn_each : (ended : Bool) → MayBe ended → (walk : Walk) → StartsFrom objects rows m by tips hidden walk → (infos : List Info) → HaveText infos → (last : Walk) → Yields Answers walk (given infos) last
        → (by ≢ sorting.BreadthFirst → HaveParents objects rows (take (length infos - 1) infos)) → Allows shown.limit (length (kept (ids_in infos))) → ((ended ≡ true) × Allows shown.limit (suc (length (kept (ids_in infos)))) → ⊥)
        → AreListed ended (ids_in infos)
    drawn_each ended may walk starts [] stored last drawn parents allows none = none_each_so ended may walk starts [] refl (ids_stored Stored (page_choice shown) [] stored) allows (λ one_more. absurd (none one_more))
    drawn_each ended may walk starts (info ∷ infos) stored last drawn parents allows none =
        let ids : List ObjectId = ids_in (info ∷ infos) in
        let f = first_given objects rows m by tips hidden walk starts agrees (info ∷ infos) last drawn in
        let more : List ObjectId = drop (length ids) f.0 in
        let cut : f.0 ≡ ids ++ more = sym (take-append-drop (length ids) f.0) ∙ ap (λ xs. xs ++ more) f.2 in
        let l : IsList (ids ++ more) = subst IsList cut f.1 in
        first_each ended may walk starts ids more l (read_begun walk starts every info infos last drawn parents more l) (ids_stored Stored (page_choice shown) (info ∷ infos) stored) allows (λ one_more. absurd (none one_more))

    -- what a run of it lists that ends well
    pub ended_so : (Has : ObjectId → Type 0) (limit : Option ℕ) → shown.limit ≡ limit → (walk : Walk) → StartsFrom objects rows m by tips hidden walk → (infos : List Info) → HaveText infos → EndsBy Answers IsWalkFault Has (kept_in objects shown) limit walk infos (Ok tt)
        → GoesOnWhole objects rows by limit (length (kept_in objects shown infos)) infos → AreListed true (ids_in infos)
    ended_so Has None is walk starts infos stored ends parents = ended_each walk starts infos stored ends parents (allows_all shown.limit _ is)
    ended_so Has (Some n) is walk starts infos stored (before ends less) parents =
        ended_each walk starts infos stored ends (λ other. subst (HaveParents objects rows) (less_on objects rows n (length (kept_in objects shown infos)) infos less) (parents other)) (allows_least shown.limit _ n is (omega (arith, less)))
    ended_so Has (Some n) is walk starts infos stored (enough at drawn e) parents =
        drawn_each true (inl refl) walk starts infos stored at drawn (λ other. subst (HaveParents objects rows) (enough_on objects rows n (length (kept_in objects shown infos)) infos e) (parents other)) (allows_least shown.limit _ n is (omega (arith, e)))
        (λ one_more. no_more shown.limit (length (kept_in objects shown infos)) n is e one_more.1)

    -- and one that was drawn so far
    pub begun_so : page_form shown.form ≡ page.Lines → (walk : Walk) → StartsFrom objects rows m by tips hidden walk → (infos : List Info) → HaveText infos → (last : Walk) → Yields Answers walk (given infos) last → Allows shown.limit (length (kept_in objects shown infos))
        → (by ≢ sorting.BreadthFirst → HaveParents objects rows (take (length infos - 1) infos)) → AreListed false (ids_in infos)
    begun_so lines walk starts infos stored last drawn allows parents = drawn_each false (inr lines) walk starts infos stored last drawn parents allows (λ e. false≢true e.0)

    -- what is said of all is said of the first of them
    pub fewer_parents : (k : ℕ) (infos : List Info) → HaveParents objects rows infos → HaveParents objects rows (take k infos)
    fewer_parents k infos all info c = all info (first_within k infos info c)

    module _ (old new : Option (List ℕ)) where
      -- in each history the list was written, or so far a beginning of it
      abbrev pub IsWritten : Bool → Type 0
      IsWritten true = InEach (page_objects objects) [] (λ ps ts. page.Serves given_objects given_rows ps ts old new asked)
      IsWritten false = InEach (page_objects objects) [] (λ ps ts. page.HasBegun given_objects given_rows ps ts old new asked)

      pub written_so : (ended : Bool) (infos : List Info) → AreListed ended (ids_in infos) → Appends old new (bytes_of (ids_in infos)) → IsWritten ended
      written_so true infos each appends = λ ps ts h. page.commits (bytes_of (ids_in infos)) (each.1 ps ts h) appends
      written_so false infos each appends = λ ps ts h. (bytes_of (ids_in infos), each.1 ps ts h, appends)

      -- one that fails
      pub begun_each : page_form shown.form ≡ page.Lines → (walk : Walk) → StartsFrom objects rows m by tips hidden walk → (infos : List Info) → HaveText infos → (last : Walk) → Yields Answers walk (given infos) last → AsksForMore shown.limit (length (kept_in objects shown infos))
          → (by ≢ sorting.BreadthFirst → HaveParents objects rows (take (length infos - 1) infos)) → Appends old new (bytes_of (ids_in infos)) → IsWritten false
      begun_each lines walk starts infos stored last drawn more parents written =
          written_so false infos (begun_so lines walk starts infos stored last drawn (allows_fewer shown.limit _ more) parents) written

      failed_each : page_form shown.form ≡ page.Lines → (walk : Walk) → StartsFrom objects rows m by tips hidden walk → {Has : ObjectId → Type 0} (infos : List Info) → HaveText infos → {answer : Result (Unit {0}) Fault} → Ends Answers IsWalkFault Has walk infos answer → answer ≢ Ok tt
          → AsksForMore shown.limit (length (kept_in objects shown infos)) → (by ≢ sorting.BreadthFirst → HaveParents objects rows infos) → Appends old new (bytes_of (ids_in infos)) → IsWritten false
      failed_each lines walk starts infos stored (finished last h) fails more parents written = absurd (fails refl)
      failed_each lines walk starts infos stored (failed why f last h is) fails more parents written = begun_each lines walk starts infos stored h.0 h.1 more (λ other. fewer_parents (length infos - 1) infos (parents other)) written
      failed_each lines walk starts infos stored (cut_short info last h) fails more parents written = begun_each lines walk starts infos stored h.0 h.1 more (λ other. fewer_parents (length infos - 1) infos (parents other)) written
      failed_each lines walk starts infos stored (unstored info last h none) fails more parents written = begun_each lines walk starts infos stored h.0 h.1 more (λ other. fewer_parents (length infos - 1) infos (parents other)) written

      pub failed_run : (Has : ObjectId → Type 0) → page_form shown.form ≡ page.Lines → (walk : Walk) → StartsFrom objects rows m by tips hidden walk → (infos : List Info) → HaveText infos → (e : Fault) (limit : Option ℕ) → shown.limit ≡ limit → EndsBy Answers IsWalkFault Has (kept_in objects shown) limit walk infos (Err e)
          → GoesOnWhole objects rows by limit (length (kept_in objects shown infos)) infos → Appends old new (bytes_of (ids_in infos)) → IsWritten false
      failed_run Has lines walk starts infos stored e None is ends parents written = failed_each lines walk starts infos stored ends (λ s. cc) (subst (λ l. AsksForMore l (length (kept_in objects shown infos))) (sym is) tt) parents written
      failed_run Has lines walk starts infos stored e (Some n) is (before ends less) parents written =
          failed_each lines walk starts infos stored ends (λ s. cc) (subst (λ l. AsksForMore l (length (kept_in objects shown infos))) (sym is) less)
          (λ late. subst (HaveParents objects rows) (less_on objects rows n (length (kept_in objects shown infos)) infos less) (parents late)) written

  -- whatever a run of it answers, what it wrote is right
  module _ (old : Option (List ℕ)) (name : List ℕ) (option words : List (List ℕ)) (named : IsNameOf name (Simple m by)) (chosen_by : IsOptionOf option (Simple m by))
      (shown : Shown) (place : ℕ) (chooses : Chooses tips hidden place words (page_choice shown)) where
    pub simple_right : (answer : Result (Unit {0}) Fault) (new : Option (List ℕ)) → Serves Stored objects rows old (Commits (Simple m by) shown tips hidden) answer new → IsRight (page_objects objects) given_objects given_rows (name ∷ (option ++ words)) old answer new
    simple_right (Ok tt) new (walked walk infos starts ends stored parents written) =
        written_so name option words named chosen_by shown place chooses old new true infos (ended_so name option words named chosen_by shown place chooses (HasText Stored shown) shown.limit refl walk starts infos stored ends parents)
        (ended_bytes (line_in objects shown) shown.form (kept_in objects shown infos) old new written)
    simple_right (Err e) new (walked walk infos starts ends stored parents written) = ⊎_elim
        (λ same. inl same)
        (λ lines. begun_right (page_objects objects) given_objects given_rows (name ∷ (option ++ words)) old e new (failed_run name option words named chosen_by shown place chooses old new (HasText Stored shown) lines.0 walk starts infos stored e shown.limit refl ends parents lines.1))
        (begun_bytes (line_in objects shown) shown.form e (kept_in objects shown infos) old new written)
    simple_right (Err e) new (lost walk at infos late starts drawn more lacks stored written) =
        let place_is : take (length infos - 1) infos ≡ lacks.before =
        ap (take (length infos - 1)) lacks.place ∙ take_at lacks.before (lacks.last ∷ []) (length infos - 1) (omega (arith, ap length lacks.place, length-append lacks.before (lacks.last ∷ []))) in
        ⊎_elim
        (λ same. inl same)
        (λ lines. begun_right (page_objects objects) given_objects given_rows (name ∷ (option ++ words)) old e new (begun_each name option words named chosen_by shown place chooses old new lines.0 walk starts infos stored at drawn more (λ l. subst (HaveParents objects rows) (sym place_is) lacks.whole) lines.1))
        (begun_bytes (line_in objects shown) shown.form e (kept_in objects shown infos) old new written)
    simple_right (Err e) new (not_walked why f) = inl refl
    simple_right (Err e) new unserved = inl refl
    simple_right (Err e) new (cut_off {answer = answer} {full = full} some more s a b) = cut_right (page_objects objects) given_objects given_rows (name ∷ (option ++ words)) old answer full new some more (simple_right answer full s) a b

-- What a run of `topo` or `date` over records has written is right in each history that has what was read, where what was read are commits.
use Rattle.std.proofs.Common.{◌⊎◌, ⊎_elim, ◌≡◌, ◌≢◌, ℕ, suc, List, [], ◌∷◌, ◌++◌, length, drop, Option, Some, None, Ok, All, refl, sym, ap, subst, inl, inr, ◌∙◌, Bool, true, false, Result, Err, arith, append-nil, take-append-drop}
use Rattle.gix_commands.proofs.Common.{Appends, Contains-get_or, Contains-append_left, ObjectId, Info, Parents, Topo, Commits, IsBuiltFrom, text_next, time_of, IsAgreeing, GraphRow, Objects, objects_of, IsCommitRead, IsReached, plan_from, walked_down, not_built, unserved, Shown, kept_in, page_choice, false≢true, Fault, Yields, EndsBy, Ends, before, enough, cut_short, finished}
use Rattle.std.proofs.Math.ListN.{get_or}
use Rattle.gix_topo.specs.declared.Sorting.{Sorting}
use Rattle.gix_statement.proofs.InEach.{down_each}
use Rattle.gix_statement.specs.WholeStatement as page
use Rattle.gix_statement.specs.WholeStatement.{Allows, Chooses, InEach, IsThere, Row, chosen}
use Rattle.gix_commands.specs.Chosen.{HasText, line_in, page_form}
use Rattle.gix_commands.specs.Run.{Serves, cut_off}
use Rattle.gix_commands.specs.TopoWalked.{Walk, Answers, IsWalkFault}
use Rattle.gix_revwalk.specs.Infos.{given}
use Rattle.gix_commands.specs.Walked.{AsksForMore, Have, failed, unstored}
use Rattle.gix_commands.specs.Pages.{page_objects}
use Rattle.gix_commands.proofs.CommitRuns.{ids_in}
use Rattle.gix_commands.proofs.PageCommits.{fed_history}
use Rattle.gix_commands.proofs.GivenObjects.{AreStored, HasAll, here_on, ids_stored, same_bytes, texts_on}
use Rattle.gix_commands.proofs.PageLists.{Lists, begins_so, whole_so}
use Rattle.gix_commands.proofs.OrderNames.{down_name, is_order}
use Rattle.gix_commands.proofs.Right.{IsRight, begun_right, cut_right}
use Rattle.gix_commands.proofs.WrittenBytes.{allows_all, allows_fewer, allows_least, begun_bytes, ended_bytes, no_more}
use Rattle.gix_commands.proofs.SameLists.{is_followed_down, listed_down}
use Rattle.gix_commands.proofs.SameOrders.{reaches_back}
use Rattle.gix_commands.proofs.SameWords.{IsNameOf, IsOptionOf}
use Rattle.gix_commands.proofs.TopoBegins.{first_given_down}
use Rattle.gix_commands.proofs.TopoRuns.{listed_read}
use Rattle.gix_commands.proofs.ListedCommits.{ListsDown, followed_down}

module _ (objects : Objects) (rows : List GraphRow) (agrees : IsAgreeing objects rows) (m : Parents) (by : Sorting) (tips ends : List ObjectId) (some : tips ≢ []) (read_is : (i : ObjectId) → IsCommitRead objects i → IsThere (page_objects objects) [] i)
    (was_read : (walk : Walk) → IsBuiltFrom objects rows m by tips ends (Ok walk) → (i : ObjectId) → IsReached objects_of (plan_from objects rows m by tips ends) i → IsCommitRead objects i) (Stored : ObjectId → Type 0) (given_objects : page.Objects) (given_rows : List Row) (on : HasAll (page_objects objects) Stored given_objects given_rows) where
  abbrev IsList : List ObjectId → Type 0
  IsList = ListsDown objects (text_next objects) (followed_down objects m) by tips ends

  module _ (walk : Walk) (built : IsBuiltFrom objects rows m by tips ends (Ok walk)) where
    -- all that tips and ends reach was read
    read_there : (i : ObjectId) → IsReached objects_of (plan_from objects rows m by tips ends) i → IsThere (page_objects objects) [] i
    read_there i r = read_is i (was_read walk built i r)

    module _ (name : List ℕ) (option words : List (List ℕ)) (named : IsNameOf name (Topo m by)) (picked : IsOptionOf option (Topo m by))
        (shown : Shown) (place : ℕ) (chooses : Chooses tips ends place words (page_choice shown)) where
      abbrev asked : List (List ℕ)
      asked = name ∷ (option ++ words)

      abbrev ListsSo : List ObjectId → Type 0
      ListsSo = Lists (text_next objects) (followed_down objects m) (time_of objects) tips ends name

      abbrev kept : List ObjectId → List ObjectId
      kept ids = chosen (text_next objects) (time_of objects) (page_choice shown) ids

      abbrev pub bytes_of : List ObjectId → List ℕ
      bytes_of ids = page.written (line_in objects shown) (page_form shown.form) (kept ids)

      -- what lines of these need is stored
      abbrev pub HaveText : List Info → Type 0
      HaveText infos = Have (HasText Stored shown) infos

      -- these are there, and in each history what is written of them is the list, or so far a beginning of it
      abbrev pub AreListed : Bool → List ObjectId → Type 0
      AreListed ended ids = All (IsThere (page_objects objects) []) ids × InEach (page_objects objects) [] (λ ps ts. page.Lists given_objects given_rows ps ts (bytes_of ids) ended asked)

      -- the first of a list
      down_so : (ended : Bool) → (ended ≡ true) ⊎ (page_form shown.form ≡ page.Lines) → (ids more : List ObjectId) → IsList (ids ++ more) → AreStored Stored (page_choice shown) ids → Allows shown.limit (length (kept ids)) → ((ended ≡ true) × Allows shown.limit (suc (length (kept ids))) → more ≡ [])
          → AreListed ended ids
      down_so ended may ids more l stored allows all =
          let those : ListsSo (ids ++ more) = listed_down objects (text_next objects) m name by named tips ends (ids ++ more) l in
          let there : All (IsThere (page_objects objects) []) ids =
          (λ k d few. let i = get_or ids k d in read_there i (inl (l.shown i (Contains-append_left ids more i (Contains-get_or ids k d few))).reached)) in (
            there,
            down_each (page_objects objects) [] (text_next objects) (time_of objects) (fed_history objects) given_objects given_rows (here_on on) None None name option words (page_choice shown) place tips ends ids (is_order name (Topo m by) named) chooses some there (texts_on on (page_choice shown) ids stored there) allows ended may (bytes_of ids)
                (same_bytes on (text_next objects) (time_of objects) (page_choice shown) ids stored there) (down_name name m by named) (is_followed_down objects (text_next objects) m name by named option tips picked)
                (begins_so (text_next objects) (followed_down objects m) (time_of objects) tips ends name (ids ++ more) those ids more refl)
                (λ one_more. let same : ids ++ more ≡ ids = ap (λ xs. ids ++ xs) (all one_more) ∙ append-nil ids in whole_so (text_next objects) (followed_down objects m) (time_of objects) tips ends name ids (subst ListsSo same those))
                (λ i r. read_there i (inl (reaches_back (followed_down objects m) tips i r))) (λ i r. read_there i (inr (reaches_back (text_next objects) ends i r))),
          )

      -- a walk that ended
      whole_run : {Has : ObjectId → Type 0} (infos : List Info) → HaveText infos → Ends Answers IsWalkFault Has walk infos (Ok tt) → Allows shown.limit (length (kept_in objects shown infos)) → AreListed true (ids_in infos)
      whole_run infos stored drawn allows =
          let l = listed_read objects rows agrees m by tips ends walk built infos drawn in
          down_so true (inl refl) (ids_in infos) [] (subst IsList (sym (append-nil (ids_in infos))) l) (ids_stored Stored (page_choice shown) infos stored) allows (λ one_more. refl)

      -- a walk that was drawn so far
      first_run : (ended : Bool) → (ended ≡ true) ⊎ (page_form shown.form ≡ page.Lines) → (infos : List Info) → HaveText infos → (last : Walk) → Yields Answers walk (given infos) last → Allows shown.limit (length (kept_in objects shown infos))
          → ((ended ≡ true) × Allows shown.limit (suc (length (kept_in objects shown infos))) → ⊥) → AreListed ended (ids_in infos)
      first_run ended may infos stored last drawn allows none =
          let ids : List ObjectId = ids_in infos in
          let f = first_given_down objects rows agrees m by tips ends walk built infos last drawn in
          let more : List ObjectId = drop (length ids) f.0 in
          down_so ended may ids more (subst IsList (sym (take-append-drop (length ids) f.0) ∙ ap (λ xs. xs ++ more) f.2) f.1) (ids_stored Stored (page_choice shown) infos stored) allows (λ one_more. absurd (none one_more))

      -- what a run of it lists that ends well
      pub ended_so : (Has : ObjectId → Type 0) (limit : Option ℕ) → shown.limit ≡ limit → (infos : List Info) → HaveText infos → EndsBy Answers IsWalkFault Has (kept_in objects shown) limit walk infos (Ok tt) → AreListed true (ids_in infos)
      ended_so Has None is infos stored drawn = whole_run infos stored drawn (allows_all shown.limit _ is)
      ended_so Has (Some n) is infos stored (before drawn less) = whole_run infos stored drawn (allows_least shown.limit _ n is (omega (arith, less)))
      ended_so Has (Some n) is infos stored (enough at drawn e) =
          first_run true (inl refl) infos stored at drawn (allows_least shown.limit _ n is (omega (arith, e))) (λ one_more. no_more shown.limit (length (kept_in objects shown infos)) n is e one_more.1)

      -- and one that was drawn so far
      pub begun_so : page_form shown.form ≡ page.Lines → (infos : List Info) → HaveText infos → (last : Walk) → Yields Answers walk (given infos) last → Allows shown.limit (length (kept_in objects shown infos)) → AreListed false (ids_in infos)
      begun_so lines infos stored last drawn allows = first_run false (inr lines) infos stored last drawn allows (λ e. absurd (false≢true e.0))

      module _ (old new : Option (List ℕ)) where
        -- in each history the list was written, or so far a beginning of it
        abbrev pub IsWritten : Bool → Type 0
        IsWritten true = InEach (page_objects objects) [] (λ ps ts. page.Serves given_objects given_rows ps ts old new asked)
        IsWritten false = InEach (page_objects objects) [] (λ ps ts. page.HasBegun given_objects given_rows ps ts old new asked)

        pub written_so : (ended : Bool) (infos : List Info) → AreListed ended (ids_in infos) → Appends old new (bytes_of (ids_in infos)) → IsWritten ended
        written_so true infos each appends = λ ps ts h. page.commits (bytes_of (ids_in infos)) (each.1 ps ts h) appends
        written_so false infos each appends = λ ps ts h. (bytes_of (ids_in infos), each.1 ps ts h, appends)

        -- one that fails
        begun_run : page_form shown.form ≡ page.Lines → (infos : List Info) → HaveText infos → (last : Walk) → Yields Answers walk (given infos) last → AsksForMore shown.limit (length (kept_in objects shown infos)) → Appends old new (bytes_of (ids_in infos)) → IsWritten false
        begun_run lines infos stored last drawn more written = written_so false infos (begun_so lines infos stored last drawn (allows_fewer shown.limit _ more)) written

        failed_run : page_form shown.form ≡ page.Lines → {Has : ObjectId → Type 0} (infos : List Info) → HaveText infos → {answer : Result (Unit {0}) Fault} → Ends Answers IsWalkFault Has walk infos answer → answer ≢ Ok tt → AsksForMore shown.limit (length (kept_in objects shown infos)) → Appends old new (bytes_of (ids_in infos)) → IsWritten false
        failed_run lines infos stored (finished last h) fails more written = absurd (fails refl)
        failed_run lines infos stored (failed why f last h is) fails more written = begun_run lines infos stored h.0 h.1 more written
        failed_run lines infos stored (cut_short info last h) fails more written = begun_run lines infos stored h.0 h.1 more written
        failed_run lines infos stored (unstored info last h none) fails more written = begun_run lines infos stored h.0 h.1 more written

        pub stopped_run : (Has : ObjectId → Type 0) → page_form shown.form ≡ page.Lines → (infos : List Info) → HaveText infos → (e : Fault) (limit : Option ℕ) → shown.limit ≡ limit → EndsBy Answers IsWalkFault Has (kept_in objects shown) limit walk infos (Err e) → Appends old new (bytes_of (ids_in infos)) → IsWritten false
        stopped_run Has lines infos stored e None is drawn written = failed_run lines infos stored drawn (λ s. cc) (subst (λ l. AsksForMore l (length (kept_in objects shown infos))) (sym is) tt) written
        stopped_run Has lines infos stored e (Some n) is (before drawn less) written = failed_run lines infos stored drawn (λ s. cc) (subst (λ l. AsksForMore l (length (kept_in objects shown infos))) (sym is) less) written

  -- whatever a run of it answers, what it wrote is right
  module _ (old : Option (List ℕ)) (name : List ℕ) (option words : List (List ℕ)) (named : IsNameOf name (Topo m by)) (picked : IsOptionOf option (Topo m by))
      (shown : Shown) (place : ℕ) (chooses : Chooses tips ends place words (page_choice shown)) where
    pub topo_right : (answer : Result (Unit {0}) Fault) (new : Option (List ℕ)) → Serves Stored objects rows old (Commits (Topo m by) shown tips ends) answer new → IsRight (page_objects objects) given_objects given_rows (name ∷ (option ++ words)) old answer new
    topo_right (Ok tt) new (walked_down walk infos built drawn stored written) =
        written_so walk built name option words named picked shown place chooses old new true infos (ended_so walk built name option words named picked shown place chooses (HasText Stored shown) shown.limit refl infos stored drawn)
        (ended_bytes (line_in objects shown) shown.form (kept_in objects shown infos) old new written)
    topo_right (Err e) new (walked_down walk infos built drawn stored written) = ⊎_elim
        (λ same. inl same)
        (λ lines. begun_right (page_objects objects) given_objects given_rows (name ∷ (option ++ words)) old e new (stopped_run walk built name option words named picked shown place chooses old new (HasText Stored shown) lines.0 infos stored e shown.limit refl drawn lines.1))
        (begun_bytes (line_in objects shown) shown.form e (kept_in objects shown infos) old new written)
    topo_right (Err e) new (not_built why h) = inl refl
    topo_right (Err e) new unserved = inl refl
    topo_right (Err e) new (cut_off {answer = answer} {full = full} some more s a b) = cut_right (page_objects objects) given_objects given_rows (name ∷ (option ++ words)) old answer full new some more (topo_right answer full s) a b

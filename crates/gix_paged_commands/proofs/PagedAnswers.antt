-- What was decided over the rows of a graph that was read by pages is right of each graph whose files have these pages.
use Rattle.std.proofs.Common.{inl, ◌≡◌, ◌⊎◌, ℕ, ◌≤◌, ◌||◌, ℤ, List, [], ◌∷◌, ◌++◌, flat_map, length, map, Option, Some, Result, Ok, Err, Bool, true, false, cond, codes, All, Contains, refl, sym, ap, subst, ◌∙◌, inl, inr, ⊎_elim, arith}
use Rattle.std.proofs.Math.ListN.{get_or}
use Rattle.std.proofs.lemmas.List.{length-map}
use Rattle.std.proofs.lemmas.List.Elements.{Contains-append_cases, Contains-get_or}
use Rattle.gix_hash.specs.Id.{id_from_hex}
use Rattle.gix_hash.specs.declared.HexError.{HexError}
use Rattle.gix_hash.specs.declared.ObjectId.{ObjectId}
use Rattle.gix_object.specs.Object.{Objects}
use Rattle.gix_commitgraph.specs.Packed.{AreGraphRows}
use Rattle.gix_commitgraph.specs.Rows.{GraphRow}
use Rattle.gix_graph_check.specs.Sound.{AreSound}
use Rattle.gix_graph_store.specs.Laws.{StoredAgree}
use Rattle.gix_graph_store.specs.WithRows.{with_rows}
use Rattle.gix_revwalk.specs.declared.Info.{Info}
use Rattle.gix_revwalk.specs.declared.Parents.TheVariants as mode
use Rattle.gix_simple.specs.declared.Sorting.TheVariants as sorting
use Rattle.gix_topo.specs.declared.Sorting.{Sorting as TopoSorting}
use Rattle.gix_topo.specs.declared.Sorting.TheVariants as topo
use Rattle.gix_words.specs.Words.{Ahead, Bases, Commits, Contained, Containing, Files, Request, Ranked, ahead_from, ahead_of, asked, begins_with_sign, request_of, several_of}
use Rattle.gix_words.specs.declared.fault.Fault.{Fault}
use Rattle.gix_words.specs.declared.fault.Fault.TheVariants as fault
use Rattle.gix_words.specs.declared.words.Merges.{Merges}
use Rattle.gix_words.specs.declared.words.Order.{Order}
use Rattle.gix_words.specs.declared.words.Order.TheVariants.{Simple, Topo}
use Rattle.gix_words.specs.declared.words.Shown.{Shown}
use Rattle.gix_statement.specs.WholeStatement.{Agree, AreNamed, AreTips, Choice, Chooses, digits_in, Follows, IsBase, InEach, IsHistory, IsShown, Promises, Row, Serves, Spells}
use Rattle.gix_statement.specs.WholeStatement.{all, everything, first, merges, since}
use Rattle.gix_statement.proofs.OneAnswer.{IsOption, choice_once, is_option, long_word, no_list, spelled_once}
use Rattle.gix_history_cut.specs.Cut.{BeginsAbove, IsDecided, ShowsAbove}
use Rattle.gix_history_cut.proofs.CutCarried.{serves_cut}
use Rattle.gix_graph_pages.specs.GraphPages.{AnswersOver, Layer, all_rows}
use Rattle.gix_graph_pages.specs.PagedRows.{ArePaged, ArePart, IsAbove, Pages}
use Rattle.gix_commands.specs.Chosen.{kept_of, kept_until, page_choice}
use Rattle.gix_commands.specs.Pages.{AreRows, page_objects, page_rows}
use Rattle.gix_commands.specs.Readable.{readable}
use Rattle.gix_commands.specs.StoredRuns.{RunsStored, served}
use Rattle.gix_commands.proofs.DrawnShown.{base_found, shown_given}
use Rattle.gix_commands.proofs.RowsAsTexts.{from_map}
use Rattle.gix_commands.proofs.SameDescents.{name_down}
use Rattle.gix_commands.proofs.SameWords.{are_words, AreWordsOf, IsNameOf, IsOptionOf}
use Rattle.gix_paged_commands.specs.Decided.{FirstAbove, DecidesRequest, DrawsAbove}
use Rattle.gix_paged_commands.proofs.CutHistory.{Below, is_cut, is_history, known, not_below, there_on}
use Rattle.gix_paged_commands.proofs.FirstDrawn.{begun_down}

-- WORDS are read in one way.
order_option : (option : List (List ℕ)) (by : Order) → IsOptionOf option by → IsOption option
order_option option (Simple mode.All sorting.BreadthFirst) e = inl e
order_option option (Simple mode.First sorting.BreadthFirst) e = inr (inl e)
order_option option (Simple mode.All (sorting.ByCommitTime order)) e = inl e
order_option option (Simple mode.All (sorting.ByCommitTimeCutoff order seconds)) (number, n, is, same, e) = inr (inr (number, e))
order_option option (Simple mode.First (sorting.ByCommitTime order)) e = absurd e
order_option option (Simple mode.First (sorting.ByCommitTimeCutoff order seconds)) e = absurd e
order_option option (Topo mode.All by) e = inl e
order_option option (Topo mode.First by) e = inr (inl e)

-- words that are ids name these alone
ids_once : (words more : List (List ℕ)) (tips others : List ObjectId) → more ≡ words → AreTips words tips [] → AreTips more others [] → tips ≡ others
ids_once words more tips others e are those =
    (choice_once {tips = tips} {hidden = []} {others = others} {below = []} {p = 9} {q = 9} [] [] [] [] words more _ _ (inl refl) (inl refl) (everything are) (everything those) (ap (λ ws. [] ∷ ws) (sym e))).1

-- a name of `topo` or `date`
name_is : (name : List ℕ) (by : TopoSorting) → IsNameOf name (Topo mode.All by) → name ≡ name_down by
name_is name topo.TopoOrder e = e
name_is name topo.DateOrder e = e

-- no choice begins with an option of an order
not_first : {tips hidden : List ObjectId} {p : ℕ} {c : Choice} (words : List (List ℕ)) → Chooses tips hidden p (codes "--first-parent" ∷ words) c → ⊥
not_first {tips} {hidden} words (everything t) = omega (arith, long_word (codes "--first-parent") words tips hidden t)

not_since : {tips hidden : List ObjectId} {p : ℕ} {c : Choice} (words : List (List ℕ)) → Chooses tips hidden p (codes "--since" ∷ words) c → ⊥
not_since {tips} {hidden} words (everything t) = omega (arith, long_word (codes "--since") words tips hidden t)

-- so words that can be read without one follow all parents
plain : {parents : ObjectId → List ObjectId} {time : ObjectId → ℤ} {followed : ObjectId → List ObjectId} {tips starts others below : List ObjectId} {by : List ℕ} {p : ℕ} {c : Choice} (option rest more : List (List ℕ))
    → option ++ rest ≡ more → Chooses others below p more c → Follows parents time tips by option followed starts → (followed ≡ parents) × (starts ≡ tips)
plain option rest more is picks all = (refl, refl)
plain {others = others} {below = below} {p = p} {c = c} option rest more is picks (first named) =
    absurd (not_first rest (subst (λ ws. Chooses others below p ws c) (sym is) picks))
plain {others = others} {below = below} {p = p} {c = c} option rest more is picks (since {number = number} n named counts) =
    absurd (not_since (number ∷ rest) (subst (λ ws. Chooses others below p ws c) (sym is) picks))

-- WHICH COMMAND words are of
abbrev number_of : Request → ℕ
number_of (Commits by shown tips hidden) = 0
number_of (Ahead one other) = 1
number_of (Contained tip ids) = 2
number_of (Containing target tips) = 3
number_of (Bases one others) = 4
number_of (Files shown tree) = 5

abbrev IsOf : ℕ → Result Request Fault → Type 0
IsOf n (Ok request) = number_of request ≡ n
IsOf n (Err e) = Unit {0}

is_ahead : (rest : List (List ℕ)) → IsOf 1 (ahead_of rest)
is_ahead [] = tt
is_ahead (a ∷ []) = tt
is_ahead (a ∷ b ∷ next ∷ rest) = tt
is_ahead (a ∷ b ∷ []) = go (begins_with_sign a || begins_with_sign b)
  where
    from : (r s : Result ObjectId HexError) → IsOf 1 (ahead_from r s)
    from (Ok i) (Ok j) = refl
    from (Ok i) (Err why) = tt
    from (Err why) s = tt

    go : (t : Bool) → IsOf 1 (cond t (Err fault.Usage) (ahead_from (id_from_hex a) (id_from_hex b)))
    go true = tt
    go false = from (id_from_hex a) (id_from_hex b)

is_asked : (n : ℕ) (asks : ObjectId → List ObjectId → Request) → ((i : ObjectId) (ids : List ObjectId) → number_of (asks i ids) ≡ n) → (r : Result Ranked Fault) → IsOf n (asked asks r)
is_asked n asks is (Ok ids) = is ids.0 ids.1
is_asked n asks is (Err e) = tt

is_contained : (rest : List (List ℕ)) → IsOf 2 (request_of (codes "contains" ∷ rest))
is_contained rest = is_asked 2 Contained (λ i ids. refl) (several_of rest)

is_containing : (rest : List (List ℕ)) → IsOf 3 (request_of (codes "containing" ∷ rest))
is_containing rest = is_asked 3 Containing (λ i ids. refl) (several_of rest)

is_bases : (rest : List (List ℕ)) → IsOf 4 (request_of (codes "merge-base" ∷ rest))
is_bases rest = is_asked 4 Bases (λ i ids. refl) (several_of rest)

abbrev names : List (List ℕ)
names = codes "breadth" ∷ codes "newest" ∷ codes "oldest" ∷ codes "topo" ∷ codes "date" ∷ []

-- words of another command aren't those of a list
unlisted : (words : List (List ℕ)) (by name : List ℕ) (rest more : List (List ℕ)) → (length name ≡ 5) ⊎ (8 ≤ length name) → words ≡ by ∷ rest → words ≡ name ∷ more → Contains names by → ⊥
unlisted words by name rest more long is same named = let e : by ≡ name = cc in no_list name long (subst (Contains names) e named)

module _ (words : List (List ℕ)) (stored : Objects) (pages : Pages) (graph : List GraphRow) (least : ℕ)
    (graph_rows : AreGraphRows graph) (part : ArePart pages graph least) (sound : AreSound graph) (stored_agree : StoredAgree graph stored) (agree : Agree (page_objects stored) (page_rows graph))
    (layers : List Layer) (generation : ObjectId → ℕ) (read : ArePaged pages layers generation) (consistent : Agree (page_objects stored) (all_rows layers))
    (parents : ObjectId → List ObjectId) (time : ObjectId → ℤ) (history : IsHistory (page_objects stored) (all_rows layers) parents time) where
  abbrev rows : List Row
  rows = all_rows layers

  abbrev Low : ObjectId → Type 0
  Low = Below rows generation least

  abbrev Above : ObjectId → Type 0
  Above = IsAbove pages graph least

  abbrev every : Objects
  every = readable false (with_rows graph stored)

  abbrev so_far : ObjectId → List ObjectId
  so_far = known graph least parents

  over : IsHistory (page_objects stored) (page_rows graph) so_far time
  over = is_history pages graph least graph_rows part layers generation read (page_objects stored) consistent agree parents time history

  not_low : (i : ObjectId) → Above i → Low i → ⊥
  not_low = not_below pages graph least graph_rows part layers generation read (page_objects stored) consistent agree parents time history

  -- all that a walk shows that was drawn to its end
  drawn : (tips hidden : List ObjectId) → DrawsAbove Above every graph tips hidden → ShowsAbove Low so_far time tips hidden
  drawn tips hidden d i shown =
      let m = shown_given stored graph graph_rows sound stored_agree so_far time over tips hidden d.some_tips d.some_hidden d.walk d.starts d.infos d.ends i shown in
      let n = from_map (λ (info : Info). info.id) d.infos i m in
      not_low i (subst Above n.2 (d.above n.0 n.1))

  -- likewise with other names of its tips
  drawn_as : (tips hidden others below : List ObjectId) → DrawsAbove Above every graph others below → tips ≡ others → hidden ≡ below → ShowsAbove Low so_far time tips hidden
  drawn_as tips hidden others below d e f i shown = drawn others below d i (subst (λ (T : Type 0). T) (λ k. IsShown so_far so_far time (e k) (f k) i) shown)

  -- a walk that gave as many as are skipped and listed
  begun : (by : TopoSorting) (shown : Shown) (tips hidden : List ObjectId) → FirstAbove Above every graph by shown tips hidden → BeginsAbove Low so_far so_far time tips hidden (name_down by) (page_choice shown)
  begun by shown tips hidden d =
      let b = begun_down stored graph graph_rows sound stored_agree so_far time over by tips hidden d.some_tips d.walk d.built d.infos d.last d.gave in
      record {
        all = λ n s. ap (λ (u : Option ℤ). kept_until u s (kept_of shown.merges n true)) d.always ∙ ap (λ (m : Merges). kept_of m n true) d.any;
        most = d.most;
        limit = d.limit;
        ids = map (λ (info : Info). info.id) d.infos;
        begins = b.0;
        enough = length-map d.infos (λ (info : Info). info.id) ∙ d.number;
        above = λ i m. not_low i (⊎_elim (d.tips_above i) (λ f. let n = b.1 i f in d.parents_above n.0 n.1 i n.2)
            (Contains-append_cases tips (flat_map so_far (map (λ (info : Info). info.id) d.infos)) i m));
      }

  listed_above : (request : Request) → AreWordsOf words (Ok request) → DecidesRequest Above every graph request
      → {by : List ℕ} {place : ℕ} {option rest : List (List ℕ)} {c : Choice} {tips hidden starts : List ObjectId} {followed : ObjectId → List ObjectId}
      → words ≡ by ∷ (option ++ rest) → Contains names by
      → Chooses tips hidden place rest c → Follows so_far time tips by option followed starts
      → ShowsAbove Low so_far time tips hidden ⊎ BeginsAbove Low so_far followed time starts hidden by c
  listed_above (Commits order shown others below) (name, another, more, same, called, picked, place, picks, some) (inl d) {by = by} {option = option} {rest = rest} {c = c} {tips = tips} {hidden = hidden} is named chooses follows =
      let t = choice_once by name option another rest more c (page_choice shown) (is_option so_far time option follows) (order_option another order picked) chooses picks (sym is ∙ same) in
      inl (drawn_as tips hidden others below d t.1 t.2)
  listed_above (Commits (Topo mode.All sort) shown others below) (name, another, more, same, called, picked, place, picks, some) (inr d) {by = by} {option = option} {rest = rest} {c = c} is named chooses follows =
      let a = is_option so_far time option follows in
      let b = order_option another (Topo mode.All sort) picked in
      let t = choice_once by name option another rest more c (page_choice shown) a b chooses picks (sym is ∙ same) in
      let both : option ++ rest ≡ another ++ more = cc in
      let p = plain option rest more (both ∙ ap (λ o. o ++ more) picked) picks follows in
      let first_word : by ≡ name = cc in
      let starts_are = p.1 ∙ t.1 in
      let by_name = first_word ∙ name_is name sort called in
      inr (subst (λ (T : Type 0). T) (λ k. BeginsAbove Low so_far (sym p.0 k) time (sym starts_are k) (sym t.2 k) (sym by_name k) (sym t.0 k)) (begun sort shown others below d))
  listed_above (Commits (Topo mode.First sort) shown others below) are (inr d) is named chooses follows = absurd d
  listed_above (Commits (Simple m sort) shown others below) are (inr d) is named chooses follows = absurd d
  listed_above (Ahead one other) (a, b, same, s, t) d {by = by} is named chooses follows =
      absurd (unlisted words by (codes "ahead") _ _ (inl refl) is same named)
  listed_above (Contained tip ids) (more, same, tips, some) d {by = by} is named chooses follows =
      absurd (unlisted words by (codes "contains") _ _ (inr (omega arith)) is same named)
  listed_above (Containing target tips) (more, same, are, some) d {by = by} is named chooses follows =
      absurd (unlisted words by (codes "containing") _ _ (inr (omega arith)) is same named)
  listed_above (Bases one others) (more, same, tips, some) d {by = by} is named chooses follows =
      absurd (unlisted words by (codes "merge-base") _ _ (inr (omega arith)) is same named)
  listed_above (Files shown tree) are d is named chooses follows = absurd d

  ahead_above : (request : Request) → AreWordsOf words (Ok request) → DecidesRequest Above every graph request → number_of request ≡ 1
      → {a b : List ℕ} {one other : ObjectId} → words ≡ codes "ahead" ∷ a ∷ b ∷ [] → Spells (digits_in one) a one → Spells (digits_in other) b other
      → ShowsAbove Low so_far time (one ∷ []) (other ∷ []) × ShowsAbove Low so_far time (other ∷ []) (one ∷ [])
  ahead_above (Ahead left right) (x, y, same, u, v) d n {a = a} {b = b} {one = one} {other = other} is s t =
      let e : x ≡ a = cc in
      let f : y ≡ b = cc in
      let g : one ∷ [] ≡ left ∷ [] = ap (λ i. i ∷ []) (spelled_once a one left s (subst (λ w. Spells (digits_in left) w left) e u)) in
      let h : other ∷ [] ≡ right ∷ [] = ap (λ i. i ∷ []) (spelled_once b other right t (subst (λ w. Spells (digits_in right) w right) f v)) in
      (drawn_as (one ∷ []) (other ∷ []) (left ∷ []) (right ∷ []) d.0 g h, drawn_as (other ∷ []) (one ∷ []) (right ∷ []) (left ∷ []) d.1 h g)
  ahead_above request are d n is s t = absurd (omega (arith, n))

  contained_above : (request : Request) → AreWordsOf words (Ok request) → DecidesRequest Above every graph request → number_of request ≡ 2
      → {rest : List (List ℕ)} (tip : ObjectId) (ids : List ObjectId) → words ≡ codes "contains" ∷ rest → AreTips rest (tip ∷ ids) [] → All (λ i. Low i → ⊥) ids
  contained_above (Contained top others) (more, same, tips, some) d n {rest = rest} tip ids is are =
      let e : more ≡ rest = cc in
      let t = ids_once rest more (tip ∷ ids) (top ∷ others) e are tips in
      let f : ids ≡ others = cc in
      λ k i below. not_low _ (d _ (subst (λ xs. Contains xs (get_or ids k i)) f (Contains-get_or ids k i below)))
  contained_above request are d n tip ids is tips = absurd (omega (arith, n))

  containing_above : (request : Request) → AreWordsOf words (Ok request) → DecidesRequest Above every graph request → number_of request ≡ 3
      → {rest : List (List ℕ)} (target : ObjectId) (tips : List ObjectId) → words ≡ codes "containing" ∷ rest → AreTips rest (target ∷ tips) [] → Low target → ⊥
  containing_above (Containing goal others) (more, same, tips, some) d n {rest = rest} target ids is are =
      let e : more ≡ rest = cc in
      let t = ids_once rest more (target ∷ ids) (goal ∷ others) e are tips in
      let f : goal ≡ target = cc in
      not_low target (subst Above f d)
  containing_above request are d n target ids is tips = absurd (omega (arith, n))

  bases_above : (request : Request) → AreWordsOf words (Ok request) → DecidesRequest Above every graph request → number_of request ≡ 4
      → {rest : List (List ℕ)} (one : ObjectId) (others : List ObjectId) → words ≡ codes "merge-base" ∷ rest → AreTips rest (one ∷ others) []
      → ShowsAbove Low so_far time (one ∷ []) others × ((i : ObjectId) → IsBase so_far one others i → Low i → ⊥)
  bases_above (Bases left those) (more, same, tips, some) (d, (bases, found, above)) n {rest = rest} one others is are =
      let e : more ≡ rest = cc in
      let t = ids_once rest more (one ∷ others) (left ∷ those) e are tips in
      let f : one ≡ left = cc in
      let g : others ≡ those = cc in (
        drawn_as (one ∷ []) others (left ∷ []) those d (ap (λ i. i ∷ []) f) g,
        λ i base. not_low i (above i (base_found stored graph graph_rows sound stored_agree so_far time over left those bases d.some_hidden found i (subst (λ (T : Type 0). T) (λ k. IsBase so_far (f k) (g k) i) base))),
      )
  bases_above request are d n one others is tips = absurd (omega (arith, n))

  decided : (request : Request) → request_of words ≡ Ok request → DecidesRequest Above every graph request → IsDecided Low so_far time words
  decided request is_asked d = record {
    lists = λ is named chooses follows. listed_above request are d is named chooses follows;
    ahead = λ is s t. ahead_above request are d (is_of 1 (codes "ahead") is_ahead _ is) is s t;
    contains = λ tip ids is tips. contained_above request are d (is_of 2 (codes "contains") is_contained _ is) tip ids is tips;
    containing = λ target tips is ids. containing_above request are d (is_of 3 (codes "containing") is_containing _ is) target tips is ids;
    bases = λ one others is tips. bases_above request are d (is_of 4 (codes "merge-base") is_bases _ is) one others is tips;
  }
    where
      are : AreWordsOf words (Ok request)
      are = subst (AreWordsOf words) is_asked (are_words words)

      is_of : (n : ℕ) (name : List ℕ) → ((rest : List (List ℕ)) → IsOf n (request_of (name ∷ rest))) → (rest : List (List ℕ)) → words ≡ name ∷ rest → number_of request ≡ n
      is_of n name each rest is = subst (IsOf n) (ap request_of (sym is) ∙ is_asked) (each rest)

  right : (lines : List ℕ) (request : Request) → request_of words ≡ Ok request → DecidesRequest Above every graph request → Serves (page_objects stored) (page_rows graph) so_far time (Some []) (Some lines) words
      → Serves (page_objects stored) rows parents time (Some []) (Some lines) words
  right lines request asked d s = serves_cut (page_objects stored) rows (page_rows graph)
      (there_on pages graph least graph_rows part layers generation read (page_objects stored) consistent agree parents time history)
      Low parents so_far time (is_cut pages graph least graph_rows part layers generation read (page_objects stored) consistent agree parents time history)
      (Some []) (Some lines) words (decided request asked d) s

pub answers_over : (words : List (List ℕ)) (request : Request) → request_of words ≡ Ok request → (stored : Objects) (pages : Pages) (graph : List GraphRow) (least : ℕ) (lines : List ℕ)
    → AreGraphRows graph → ArePart pages graph least
    → RunsStored request stored graph (Some []) (Ok tt) (Some lines)
    → Promises fault.Write words (λ given rows. AreNamed given × (given ≡ page_objects stored) × AreRows graph rows) (Some []) (Ok tt) (Some lines)
    → DecidesRequest (IsAbove pages graph least) (readable false (with_rows graph stored)) graph request
    → AnswersOver (page_objects stored) words pages lines
answers_over words request asked stored pages graph least lines graph_rows part (served sound stored_agree s) (given, told, (named, same, (whole, told_is)), agree, each) d =
    let agreed : Agree (page_objects stored) (page_rows graph) = subst (λ (T : Type 0). T) (λ k. Agree (same k) (told_is k)) agree in
    let serve : InEach (page_objects stored) (page_rows graph) (λ parents time. Serves (page_objects stored) (page_rows graph) parents time (Some []) (Some lines) words) =
    subst (λ (T : Type 0). T) (λ k. InEach (same k) (told_is k) (λ parents time. Serves (same k) (told_is k) parents time (Some []) (Some lines) words)) each in (
      subst AreNamed same named,
      λ layers generation files sound_layers consistent parents time history.
          let read : ArePaged pages layers generation = record { files = files; sound = sound_layers } in
          right words stored pages graph least graph_rows part sound stored_agree agreed layers generation read consistent parents time history lines request asked d
          (serve (known graph least parents) time (is_history pages graph least graph_rows part layers generation read (page_objects stored) consistent agreed parents time history)),
    )

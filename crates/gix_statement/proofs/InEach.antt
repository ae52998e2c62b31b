-- What a proof of the statement has to bring for each command: the answer in one history of what was read, and that what was gone through
-- is there. It is then right of given objects and rows that have what was read, in each history of this.
use Rattle.std.proofs.Common.{Bool, true, All, AllPairs, Contains, List, Option, [], arith, codes, false, flat_map, length, refl, subst, suc, sym, ℕ, ℤ, ◌++◌, ◌∷◌, ◌≡◌, ◌≢◌, ◌⊎◌, ◌↔◌, ap, drop, ◌∙◌}
use Rattle.std.specs.declared.cmp.Ordering.TheVariants.{Less}
use Rattle.std.specs.Fmt.{digits}
use Rattle.std.specs.Io.KnownBytes.{Appends}
use Rattle.std.proofs.lemmas.List.Elements.{All-contains, All-nil}
use Rattle.gix_hash.proofs.Ids.Membership.{no_member}
use Rattle.gix_hash.specs.declared.ObjectId.{ObjectId}
use Rattle.gix_statement.specs.WholeStatement.{IsLimit, allowed, Objects, Row, IsThere, IsHistory, InEach, Allows, AreTips, Begins, IsWhole, IsNext, breadth, newest, oldest, date, topo, parent, Follows, id_line, digits_in, Spells, Keeps, Lists, lists, Serves, ahead, containing, bases, IsBase, by_bytes, files, Reaches, start, IsNumberShown, IsTree, Unfolds, Entry, entry_line, Choice, Chooses, Lines, chosen, commit_line, says_more, written}
use Rattle.gix_statement.proofs.Heart.{IsSimple}
use Rattle.gix_statement.proofs.EachHistory.{base_back, base_there, containing_there, counted_there, moved, same_parents, same_time, filter_same}
use Rattle.gix_statement.proofs.Descents.{IsDown, begins_down, followed_down, whole_down}
use Rattle.gix_statement.proofs.SameLines.{chosen_in, same_line, written_same}

module _ (objects : Objects) (rows : List Row) (parents : ObjectId → List ObjectId) (time : ObjectId → ℤ) (one : IsHistory objects rows parents time)
    (given : Objects) (their : List Row) (there_on : (i : ObjectId) → IsThere objects rows i → IsThere given their i) (old new : Option (List ℕ)) where
  abbrev pub Each : List (List ℕ) → Type 0
  Each words = InEach objects rows (λ ps ts. Serves given their ps ts old new words)

  all_on : (ids : List ObjectId) → All (IsThere objects rows) ids → All (IsThere given their) ids
  all_on ids there k d below = there_on _ (there k d below)

  abbrev AreThere : List ObjectId → Type 0
  AreThere starts = (i : ObjectId) → Reaches parents starts i → IsThere objects rows i

  module _ (by : List ℕ) (option words : List (List ℕ)) (c : Choice) (place : ℕ) (tips hidden ids : List ObjectId)
      (named : Contains (codes "breadth" ∷ codes "newest" ∷ codes "oldest" ∷ codes "topo" ∷ codes "date" ∷ []) by)
      (chooses : Chooses tips hidden place words c) (some : tips ≢ []) (there : All (IsThere objects rows) ids) (texts : says_more c.line.format ≡ true → All (IsThere given []) ids)
      (allows : Allows c.limit (length (chosen parents time c ids))) (ended : Bool) (may : (ended ≡ true) ⊎ (c.form ≡ Lines))
      (bytes : List ℕ) (is_written : bytes ≡ written (commit_line given parents time c.line) c.form (chosen parents time c ids)) where
    abbrev those : List (List ℕ)
    those = by ∷ (option ++ words)

    -- a list that has ended, or not yet
    abbrev pub EachLists : Type 0
    EachLists = InEach objects rows (λ ps ts. Lists given their ps ts bytes ended those)

    abbrev pub HasEnded : Type 0
    HasEnded = (ended ≡ true) × Allows c.limit (suc (length (chosen parents time c ids)))

    -- what is chosen of what is there is the same in each history
    module _ (other : ObjectId → List ObjectId) (times : ObjectId → ℤ) (another : IsHistory objects rows other times) where
      same_chosen : chosen parents time c ids ≡ chosen other times c ids
      same_chosen = ap (drop c.skip) (filter_same (λ i. c.keeps (length (parents i)) (time i)) (λ i. c.keeps (length (other i)) (times i)) ids kept)
        where
          kept : (i : ObjectId) → Contains ids i → c.keeps (length (parents i)) (time i) ≡ c.keeps (length (other i)) (times i)
          kept i m =
              let here : IsThere objects rows i = All-contains (IsThere objects rows) ids i there m in
              let p = same_parents objects rows parents other time times one another i here in
              let t = same_time objects rows parents other time times one another i here in
              (λ k. c.keeps (length (p k)) (t k))

      same_written : written (commit_line given parents time c.line) c.form (chosen parents time c ids) ≡ written (commit_line given other times c.line) c.form (chosen other times c ids)
      same_written = written_same (commit_line given parents time c.line) (commit_line given other times c.line) c.form (chosen parents time c ids) line ∙ ap (written (commit_line given other times c.line) c.form) same_chosen
        where
          line : (i : ObjectId) → Contains (chosen parents time c ids) i → commit_line given parents time c.line i ≡ commit_line given other times c.line i
          line i m =
              let here : IsThere objects rows i = All-contains (IsThere objects rows) ids i there (chosen_in parents time c ids i m) in
              same_line given given parents other time times c.line i (same_parents objects rows parents other time times one another i here) (same_time objects rows parents other time times one another i here) (λ e. refl)

      -- a list in this history, by its own
      listed : {followed : ObjectId → List ObjectId} {starts : List ObjectId} → Follows other times tips by option followed starts → Begins other followed times starts hidden by ids
          → (HasEnded → IsWhole other followed times starts hidden by ids) → Lists given their other times bytes ended those
      listed follows begins whole = lists option words c ids named chooses some follows (all_on ids there) texts begins
          (subst (λ xs. Allows c.limit (length xs)) same_chosen allows)
          (λ e more. whole (e, subst (λ xs. Allows c.limit (suc (length xs))) (sym same_chosen) more))
          may (is_written ∙ same_written)

    -- `breadth`, `newest`, `oldest`
    pub simple_each : IsSimple by → {followed : ObjectId → List ObjectId} {starts : List ObjectId} → Follows parents time tips by option followed starts
        → Begins parents followed time starts hidden by ids → (HasEnded → IsWhole parents followed time starts hidden by ids)
        → AreThere hidden → (by ≢ codes "breadth" → (i : ObjectId) → Contains tips i → IsThere objects rows i)
        → (by ≢ codes "breadth" → (taken rest : List ObjectId) (j : ObjectId) → ids ≡ taken ++ j ∷ rest → (c i : ObjectId) → Contains taken c → Contains (parents c) i → IsThere objects rows i)
        → (HasEnded → by ≢ codes "breadth" → (c i : ObjectId) → Contains ids c → Contains (parents c) i → IsThere objects rows i) → EachLists
    simple_each simple {followed} {starts} follows begins whole below first_judged judged every other times another =
        let m = moved objects rows parents other time times one another by simple tips hidden ids there below first_judged judged option followed starts follows in
        listed other times another m.1 (m.2 begins) (λ h. m.3 (every h) begins (whole h))

    -- nothing listed: then hidden ids needn't have been read, if no start is left or the limit is 0
    pub none_each : IsSimple by → {followed : ObjectId → List ObjectId} {starts : List ObjectId} → Follows parents time tips by option followed starts → ids ≡ [] → (HasEnded → starts ≡ [])
        → (by ≢ codes "breadth" → (i : ObjectId) → Contains tips i → IsThere objects rows i) → EachLists
    none_each simple {followed} {starts} follows nothing unstarted judged other times another =
        let m = moved objects rows parents other time times one another by simple tips [] [] (All-nil (IsThere objects rows)) (λ i r. absurd (unreached parents i r)) judged
        (λ late taken rest j is. absurd (not_cut taken rest j is)) option followed starts follows in
        listed other times another m.1
        (subst (Begins other m.0 times starts hidden by) (sym nothing) (All-nil _, (λ i j d l below. absurd (omega (arith, below))), λ taken rest i is. absurd (not_cut taken rest i is)))
        (λ h. subst (IsWhole other m.0 times starts hidden by) (sym nothing)
        (subst (λ from. IsWhole other m.0 times from hidden by []) (sym (unstarted h)) (none_next m.0 times by simple, λ acyclic i s. absurd (unreached m.0 i s.0))))
      where
        unreached : (names : ObjectId → List ObjectId) (i : ObjectId) → Reaches names [] i → ⊥
        unreached names i (start s) = no_member i s
        unreached names i (parent {child = c} r m) = unreached names c r

        not_cut : (taken rest : List ObjectId) (i : ObjectId) → [] ≡ taken ++ i ∷ rest → ⊥
        not_cut [] rest i e = cc
        not_cut (x ∷ taken) rest i e = cc

        none_next : (names : ObjectId → List ObjectId) (ts : ObjectId → ℤ) (name : List ℕ) → IsSimple name → (i : ObjectId) → IsNext other names ts [] hidden [] i name → ⊥
        none_next names ts name plain i (breadth (before, after, is, none, p)) = no_member i p.0
        none_next names ts name plain i (newest (before, after, is, none, p)) = no_member i p.0.0
        none_next names ts name plain i (oldest (before, after, is, none, p)) = no_member i p.0.0
        none_next names ts name plain i (date ready made f) = plain (1, omega arith, refl)
        none_next names ts name plain i (topo ready made f) = plain (0, omega arith, refl)

    -- `topo`, `date`
    pub down_each : IsDown by → {followed : ObjectId → List ObjectId} {starts : List ObjectId} → Follows parents time tips by option followed starts
        → Begins parents followed time starts hidden by ids → (HasEnded → IsWhole parents followed time starts hidden by ids)
        → ((i : ObjectId) → Reaches followed starts i → IsThere objects rows i) → AreThere hidden → EachLists
    down_each falls {followed} {starts} follows begins whole above below other times another =
        let f = followed_down parents other time times tips by falls option follows in
        let up : (c : ObjectId) → Reaches followed starts c → followed c ≡ f.0 c = (λ c r. f.2 c (same_parents objects rows parents other time times one another c (above c r))) in
        let down : (c : ObjectId) → Reaches parents hidden c → parents c ≡ other c = (λ c r. same_parents objects rows parents other time times one another c (below c r)) in
        let timed : (c : ObjectId) → Reaches followed starts c → time c ≡ times c = (λ c r. same_time objects rows parents other time times one another c (above c r)) in
        listed other times another f.1
        (begins_down parents other followed f.0 time times starts hidden up down timed by falls ids begins)
        (λ h. whole_down parents other followed f.0 time times starts hidden up down timed by falls ids begins (whole h))

  pub ahead_each : {a b : List ℕ} {left right : ObjectId} (n m : ℕ) → Spells (digits_in left) a left → Spells (digits_in right) b right
      → AreThere (left ∷ []) → AreThere (right ∷ []) → IsNumberShown parents parents time (left ∷ []) (right ∷ []) n → IsNumberShown parents parents time (right ∷ []) (left ∷ []) m
      → Appends old new (digits 10 false n ++ 32 ∷ (digits 10 false m ++ 10 ∷ [])) → Each (codes "ahead" ∷ a ∷ b ∷ [])
  ahead_each {left = left} {right = right} n m a b there others ns ms written other times another =
      ahead n m a b (there_on left (there left (start (0, omega arith, refl)))) (there_on right (others right (start (0, omega arith, refl))))
      (counted_there objects rows parents other time times one another (left ∷ []) (right ∷ []) there others n ns)
      (counted_there objects rows parents other time times one another (right ∷ []) (left ∷ []) others there m ms) written

  pub containing_each : {words : List (List ℕ)} {target : ObjectId} {tips those : List ObjectId} → AreTips words (target ∷ tips) [] → tips ≢ [] → AreThere tips → All (IsThere objects rows) (target ∷ tips)
      → Keeps (λ before i after. Reaches parents (i ∷ []) target) [] tips those → Appends old new (flat_map id_line those) → Each (codes "containing" ∷ words)
  containing_each {target = target} {tips = tips} {those = those} are some there all_there keeps written other times another =
      containing are some (all_on (target ∷ tips) all_there) (containing_there objects rows parents other time times one another target tips there those keeps) written

  pub bases_each : {words : List (List ℕ)} {left : ObjectId} {others : List ObjectId} (those : List ObjectId) → AreTips words (left ∷ others) [] → others ≢ [] → AreThere (left ∷ []) → AreThere others → All (IsThere objects rows) (left ∷ others)
      → ((i : ObjectId) → Contains those i ↔ IsBase parents left others i) → AllPairs (λ i j. by_bytes i j ≡ Less) those → Appends old new (flat_map id_line those) → Each (codes "merge-base" ∷ words)
  bases_each {left = left} {others = others} those are some above beyond all_there exact rising written other times another =
      bases those are some (all_on (left ∷ others) all_there)
      (λ i. (λ c. base_there objects rows parents other time times one another left others above beyond i ((exact i).0 c), λ b. (exact i).1 (base_back objects rows parents other time times one another left others above beyond i b)))
      rising written

  pub files_each : (limit : Option ℕ) (bound option : List (List ℕ)) (a : List ℕ) {ending : ℕ} {tree : ObjectId} {entries : List Entry} {placed : List (List ℕ × Entry)} → IsLimit bound limit
      → ((option ≡ []) × (ending ≡ 10)) ⊎ ((option ≡ codes "-z" ∷ []) × (ending ≡ 0)) → Spells (digits_in tree) a tree → IsTree given tree entries → Unfolds given [] entries placed
      → Appends old new (flat_map (entry_line ending) (allowed limit placed)) → Each (codes "files" ∷ (bound ++ (option ++ a ∷ [])))
  files_each limit bound option a within ends spells is unfolds written other times another = files limit bound option a within ends spells is unfolds written

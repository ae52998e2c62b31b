-- The lists of commits, the numbers of commits and the lines are those of the statement.
use Rattle.std.proofs.Common.{◌≡◌, ℕ, ℤ, List, [], ◌∷◌, ◌++◌, map, take, Contains, Option, Some, None, codes, flat_map, refl, sym, ap, subst, ◌∙◌, arith}
use Rattle.gix_commands.proofs.Common.{transport, ObjectId, IsListBy, Objects, CommitTimeOrder, Parents, by_mode, walked_within, time_of, cutoff, time_order, IsNumberOf, IsInWalk, Visit, Simple, Topo, EntryLines, allowed, file_line, file_lines, six_octal_digits}
use Rattle.gix_commands.proofs.Common.{Follows, IsNumberShown, entry_line}
use Rattle.gix_statement.specs.WholeStatement.{id_line}
use Rattle.std.specs.List.{take-map}
use Rattle.hex.specs.Hex.{encode_lower}
use Rattle.gix_revwalk.specs.declared.CommitTimeOrder.TheVariants as order
use Rattle.gix_revwalk.specs.declared.Parents.TheVariants as mode
use Rattle.gix_simple.specs.declared.Sorting.{Sorting}
use Rattle.gix_simple.specs.declared.Sorting.TheVariants as sorting
use Rattle.gix_topo.specs.declared.Sorting.{Sorting as TopoSorting}
use Rattle.gix_topo.specs.declared.Sorting.TheVariants as topo
use Rattle.gix_tree.specs.Recorder.{record_of}
use Rattle.gix_lines.proofs.Scripts.{joined_behind}
use Rattle.gix_statement.specs.WholeStatement as page
use Rattle.gix_commands.proofs.PageLists.{Lists}
use Rattle.gix_commands.proofs.KeptLists.{all_followed, cut_all, tips_kept}
use Rattle.gix_commands.proofs.SameOrders.{reaches, reaches_back, are_distinct, in_order_there, name_of}
use Rattle.gix_commands.proofs.SameDescents.{in_order_down, name_down}
use Rattle.gix_commands.proofs.SameTrees.{placed_by, same_bytes}
use Rattle.gix_commands.proofs.SameWords.{IsCutoff, IsNameOf, IsOptionOf}
use Rattle.gix_commands.proofs.ListedCommits.{IsShownBy, ListsBy, ListsDown, followed, kept_tips, lines_of_ids}

-- an order by its name
abbrev IsTopological : List ℕ → Type 0
IsTopological name = Contains (codes "topo" ∷ codes "date" ∷ []) name

is_topological : (name : List ℕ) (m : Parents) (by : TopoSorting) → IsNameOf name (Topo m by) → IsTopological name
is_topological name m topo.TopoOrder e = subst IsTopological (sym e) (0, omega arith, refl)
is_topological name m topo.DateOrder e = subst IsTopological (sym e) (1, omega arith, refl)

-- what commits reach through these parents
module _ (objects : Objects) (parents : ObjectId → List ObjectId) where
  abbrev time : ObjectId → ℤ
  time = time_of objects

  module _ (followed : ObjectId → List ObjectId) where
    shown : (from hidden : List ObjectId) (i : ObjectId) → IsInWalk followed parents from hidden i → page.IsShown parents followed time from hidden i
    shown from hidden i s = (reaches followed from i s.reached, λ r. s.outside (reaches_back parents hidden i r))

    shown_back : (from hidden : List ObjectId) (i : ObjectId) → page.IsShown parents followed time from hidden i → IsInWalk followed parents from hidden i
    shown_back from hidden i s = record { reached = reaches_back followed from i s.0; outside = λ r. s.1 (reaches parents hidden i r) }

    pub listed : (name : List ℕ) (o : Option CommitTimeOrder) → name ≡ name_of o → (from hidden ids : List ObjectId) → ListsBy objects parents followed o from hidden ids → Lists parents followed time from hidden name ids
    listed name o named from hidden ids l = (
      are_distinct ids l.once,
      λ i m. shown from hidden i ((l.exact i).0 m),
      subst (λ n. IsListBy (λ taken i. page.IsNext parents followed time from hidden taken i n) ids) (sym named) (in_order_there parents followed time from hidden l.in_order.0 l.in_order.1 o ids l.in_order.2),
      λ acyclic i s. (l.exact i).1 (shown_back from hidden i s),
    )

  -- what an order and its option have followed, and from where
  abbrev pub IsFollowed : List ℕ → List (List ℕ) → List ObjectId → Parents → Sorting → Type 0
  IsFollowed name option tips m by = Follows parents time tips name option (followed objects parents m by) (kept_tips objects by tips)

  plain : (m : Parents) (by : Sorting) → cutoff mode.All by ≡ None → (name : List ℕ) (option words : List (List ℕ)) (tips : List ObjectId) → option ≡ words → Follows parents time tips name words (λ c. by_mode m (parents c)) tips → IsFollowed name option tips m by
  plain m by e name option words tips same f =
      transport (λ k. Follows parents time tips name (sym same k) (sym (all_followed objects parents m by (cut_all m by e)) k) (sym (tips_kept objects by tips e) k)) f

  first_is : (ids : List ObjectId) → take 1 ids ≡ by_mode mode.First ids
  first_is [] = refl
  first_is (i ∷ ids) = refl

  since : (name : List ℕ) (option : List (List ℕ)) (tips : List ObjectId) (order : CommitTimeOrder) (seconds : ℤ) → Contains (codes "newest" ∷ codes "oldest" ∷ []) name → IsCutoff option seconds → IsFollowed name option tips mode.All (sorting.ByCommitTimeCutoff order seconds)
  since name option tips order seconds named (number, n, is, same, words) =
      transport (λ k. Follows parents time tips name (sym words k) (followed objects parents mode.All (sorting.ByCommitTimeCutoff order (sym same k))) (kept_tips objects (sorting.ByCommitTimeCutoff order (sym same k)) tips)) (page.since n named is)

  pub is_followed : (name : List ℕ) (option : List (List ℕ)) (tips : List ObjectId) (m : Parents) (by : Sorting) → IsNameOf name (Simple m by) → IsOptionOf option (Simple m by) → IsFollowed name option tips m by
  is_followed name option tips mode.All sorting.BreadthFirst named chosen = plain mode.All sorting.BreadthFirst refl name option [] tips chosen page.all
  is_followed name option tips mode.First sorting.BreadthFirst named chosen =
      transport (λ k. IsFollowed (sym named k) option tips mode.First sorting.BreadthFirst)
      (plain mode.First sorting.BreadthFirst refl (codes "breadth") option (codes "--first-parent" ∷ []) tips chosen
      (subst (λ next. Follows parents time tips (codes "breadth") (codes "--first-parent" ∷ []) next tips) (λ k c. first_is (parents c) k) (page.first (0, omega arith, refl))))
  is_followed name option tips mode.All (sorting.ByCommitTime by) named chosen = plain mode.All (sorting.ByCommitTime by) refl name option [] tips chosen page.all
  is_followed name option tips mode.All (sorting.ByCommitTimeCutoff order.NewestFirst seconds) named chosen = since name option tips order.NewestFirst seconds (0, omega arith, sym named) chosen
  is_followed name option tips mode.All (sorting.ByCommitTimeCutoff order.OldestFirst seconds) named chosen = since name option tips order.OldestFirst seconds (1, omega arith, sym named) chosen
  is_followed name option tips mode.First (sorting.ByCommitTime by) named chosen = absurd chosen
  is_followed name option tips mode.First (sorting.ByCommitTimeCutoff by seconds) named chosen = absurd chosen

  -- the name says the order
  pub is_name_in : (name : List ℕ) (option : List (List ℕ)) (m : Parents) (by : Sorting) → IsNameOf name (Simple m by) → IsOptionOf option (Simple m by) → name ≡ name_of (time_order m by)
  is_name_in name option mode.All sorting.BreadthFirst named chosen = named
  is_name_in name option mode.First sorting.BreadthFirst named chosen = named
  is_name_in name option mode.All (sorting.ByCommitTime order.NewestFirst) named chosen = named
  is_name_in name option mode.All (sorting.ByCommitTime order.OldestFirst) named chosen = named
  is_name_in name option mode.All (sorting.ByCommitTimeCutoff order.NewestFirst seconds) named chosen = named
  is_name_in name option mode.All (sorting.ByCommitTimeCutoff order.OldestFirst seconds) named chosen = named
  is_name_in name option mode.First (sorting.ByCommitTime by) named chosen = absurd chosen
  is_name_in name option mode.First (sorting.ByCommitTimeCutoff by seconds) named chosen = absurd chosen

  is_name_down : (name : List ℕ) (m : Parents) (by : TopoSorting) → IsNameOf name (Topo m by) → name ≡ name_down by
  is_name_down name m topo.TopoOrder e = e
  is_name_down name m topo.DateOrder e = e

  -- `topo` and `date`, through what is walked
  module _ (m : Parents) (name : List ℕ) (by : TopoSorting) (named : IsNameOf name (Topo m by)) where
    abbrev walked : ObjectId → List ObjectId
    walked c = by_mode m (parents c)

    pub listed_down : (tips ends ids : List ObjectId) → ListsDown objects parents walked by tips ends ids → Lists parents walked time tips ends name ids
    listed_down tips ends ids l = (
      are_distinct ids l.once,
      λ i c. shown walked tips ends i (l.shown i c),
      subst (λ n. IsListBy (λ taken i. page.IsNext parents walked time tips ends taken i n) ids) (sym (is_name_down name m by named)) (in_order_down parents walked time tips ends (λ c i n. walked_within m (parents c) i n) by ids l.in_order),
      λ acyclic i s. l.all (λ j w r. acyclic (is_topological name m by named) j (shown walked tips ends j w) (reaches walked (walked j) j r)) i (shown_back walked tips ends i s),
    )

    pub is_followed_down : (option : List (List ℕ)) (tips : List ObjectId) → IsOptionOf option (Topo m by) → Follows parents time tips name option (λ c. by_mode m (parents c)) tips
    is_followed_down option tips chosen = go m by named chosen
      where
        broad : (k : Parents) (by : TopoSorting) → IsNameOf name (Topo k by) → Contains (codes "breadth" ∷ codes "topo" ∷ codes "date" ∷ []) name
        broad k topo.TopoOrder e = (1, omega arith, sym e)
        broad k topo.DateOrder e = (2, omega arith, sym e)

        go : (k : Parents) (by : TopoSorting) → IsNameOf name (Topo k by) → IsOptionOf option (Topo k by) → Follows parents time tips name option (λ c. by_mode k (parents c)) tips
        go mode.All by named chosen = subst (λ o. Follows parents time tips name o parents tips) (sym chosen) page.all
        go mode.First by named chosen =
            subst (λ o. Follows parents time tips name o (λ c. by_mode mode.First (parents c)) tips) (sym chosen)
            (subst (λ next. Follows parents time tips name (codes "--first-parent" ∷ []) next tips) (λ k c. first_is (parents c) k) (page.first (broad mode.First by named)))

  pub number_shown : (tip hidden : ObjectId) (n : ℕ) → IsNumberOf (IsShownBy parents (tip ∷ []) (hidden ∷ [])) n → IsNumberShown parents parents time (tip ∷ []) (hidden ∷ []) n
  number_shown tip hidden n c = (
    c.ids,
    are_distinct c.ids c.distinct,
    λ i. (λ m. let s = c.each i m in shown parents (tip ∷ []) (hidden ∷ []) i (record { reached = s.0; outside = s.1 }), λ s. c.all i (let k = shown_back parents (tip ∷ []) (hidden ∷ []) i s in (k.reached, k.outside))),
    c.number,
  )

pub id_lines : (ids : List ObjectId) → lines_of_ids ids ≡ flat_map id_line ids
id_lines [] = refl
id_lines (i ∷ ids) = (λ k. encode_lower (same_bytes i k) ++ 10 ∷ [] ++ id_lines ids k)

-- the lines of entries
each_line : (ending : ℕ) (visits : List Visit) → flat_map (file_line ending) (map record_of visits) ≡ flat_map (entry_line ending) (map placed_by visits)
each_line ending [] = refl
each_line ending (v ∷ visits) = (λ k. six_octal_digits v.entry.mode ++ 32 ∷ (encode_lower (same_bytes v.entry.id k) ++ 32 ∷ (joined_behind v.place.names v.entry.name k ++ ending ∷ [])) ++ each_line ending visits k)

allowed_map : {X Y : Type 0} (f : X → Y) (limit : Option ℕ) (xs : List X) → allowed limit (map f xs) ≡ map f (allowed limit xs)
allowed_map f None xs = refl
allowed_map f (Some n) xs = take-map f n xs

pub entry_lines : (shown : EntryLines) (visits : List Visit) → file_lines shown (map record_of visits) ≡ flat_map (entry_line shown.ending) (allowed shown.limit (map placed_by visits))
entry_lines shown visits =
    ap (flat_map (file_line shown.ending)) (allowed_map record_of shown.limit visits) ∙ each_line shown.ending (allowed shown.limit visits)
    ∙ ap (flat_map (entry_line shown.ending)) (sym (allowed_map placed_by shown.limit visits))

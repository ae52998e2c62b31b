-- The words of a request ask for it.
use Rattle.std.proofs.Common.{◌≡◌, ◌≢◌, inl, inr, ◌+◌, ◌==◌, ◌||◌, ℕ, pos, negsuc, List, [], ◌∷◌, ◌++◌, map, true, Option, Some, None, Result, Ok, codes, bytes_eq, refl, sym, ap, subst, ◌∙◌}
use Rattle.std.specs.Prelude.{IfSome}
use Rattle.std.proofs.lemmas.Bool.{cond-true, cond-false}
use Rattle.std.specs.Fmt.{decimal}
use Rattle.std.specs.List.{AllByRecursion, list_all}
use Rattle.std.specs.Option.{option_map}
use Rattle.gix_hash.specs.declared.ObjectId.{ObjectId}
use Rattle.gix_hash.specs.Id.{hex_of}
use Rattle.gix_revwalk.specs.declared.CommitTimeOrder.TheVariants as order
use Rattle.gix_revwalk.specs.declared.Parents.TheVariants as mode
use Rattle.gix_simple.specs.declared.Sorting.TheVariants as sorting
use Rattle.gix_topo.specs.declared.Sorting.TheVariants as topo
use Rattle.gix_words.specs.declared.fault.Fault.{Fault}
use Rattle.gix_words.specs.declared.words.EntryLines.{EntryLines}
use Rattle.gix_words.specs.declared.words.Order.{Order}
use Rattle.gix_words.specs.declared.words.Order.TheVariants.{Simple, Topo}
use Rattle.gix_words.specs.declared.words.Shown.{Shown}
use Rattle.gix_words.specs.Printed.{AreIds, IsId, where_given, id_word, order_words, printed, shown_words, valued}
use Rattle.gix_words.specs.Words.{Request, Commits, Files, Ahead, Contained, Containing, Bases, ahead_from, asked, begins_with_sign, commits_in, ended_files_of, file_of, files_by, files_from, files_of, in_order_of, is_shown, listed_of, recent_of, request_of, several_from, several_of}
use Rattle.gix_words.specs.Writable.{IsNineDigits, IsEnding, IsOrder, IsWritable}
use Rattle.gix_words.proofs.ReadIds.{all_shown, id_again, id_plain, no_sign, tips_again}
use Rattle.gix_words.proofs.ReadOptions.{later_absent, no_first, none_first, other_word}
use Rattle.gix_words.proofs.ReadShown.{before_until, number, read_shown, time}

-- without an option of the order its words are those of a list
no_option : (by : Order) (words : List (List ℕ)) → no_first before_until words ≡ true → in_order_of by words ≡ listed_of by 2 words
no_option by [] e = refl
no_option by (option ∷ words) e =
    cond-false (bytes_eq option (codes "--first-parent")) _ _ (none_first (codes "--first-parent") [] (option ∷ words) (later_absent (codes "--since") (codes "--first-parent" ∷ []) (option ∷ words) e))
    ∙ cond-false (bytes_eq option (codes "--since")) _ _ (none_first (codes "--since") (codes "--first-parent" ∷ []) (option ∷ words) e)

other_parents : mode.First ≡ mode.All → ⊥
other_parents e = cc

-- the words of an order, and those of a list, ask for the list in this order
module _ (words : List (List ℕ)) (absent : no_first before_until words ≡ true) where
  in_order : (by : Order) → IsOrder by → (n : ℕ) × (request_of (order_words by ++ words) ≡ listed_of by n words)
  in_order (Simple mode.All sorting.BreadthFirst) h = (2, no_option (Simple mode.All sorting.BreadthFirst) words absent)
  in_order (Simple mode.First sorting.BreadthFirst) h = (3, refl)
  in_order (Simple mode.All (sorting.ByCommitTime order.NewestFirst)) h = (2, no_option (Simple mode.All (sorting.ByCommitTime order.NewestFirst)) words absent)
  in_order (Simple mode.All (sorting.ByCommitTime order.OldestFirst)) h = (2, no_option (Simple mode.All (sorting.ByCommitTime order.OldestFirst)) words absent)
  in_order (Simple mode.First (sorting.ByCommitTime by)) h = absurd (other_parents h)
  in_order (Simple mode.All (sorting.ByCommitTimeCutoff order.NewestFirst (pos n))) h = (4, ap (λ (o : Option ℕ). recent_of (Simple mode.All (sorting.ByCommitTime order.NewestFirst)) o words) (time n h.1))
  in_order (Simple mode.All (sorting.ByCommitTimeCutoff order.OldestFirst (pos n))) h = (4, ap (λ (o : Option ℕ). recent_of (Simple mode.All (sorting.ByCommitTime order.OldestFirst)) o words) (time n h.1))
  in_order (Simple mode.All (sorting.ByCommitTimeCutoff by (negsuc n))) h = absurd h.1
  in_order (Simple mode.First (sorting.ByCommitTimeCutoff by seconds)) h = absurd (other_parents h.0)
  in_order (Topo mode.All topo.TopoOrder) h = (2, no_option (Topo mode.All topo.TopoOrder) words absent)
  in_order (Topo mode.All topo.DateOrder) h = (2, no_option (Topo mode.All topo.DateOrder) words absent)
  in_order (Topo mode.First topo.TopoOrder) h = (3, refl)
  in_order (Topo mode.First topo.DateOrder) h = (3, refl)

-- the words of a list ask for it
commits_again : (by : Order) (shown : Shown) (tips hidden : List ObjectId) → AreIds (Commits by shown tips hidden) → IsWritable (Commits by shown tips hidden)
    → request_of (printed (Commits by shown tips hidden)) ≡ Ok (Commits by shown tips hidden)
commits_again by shown tips hidden ids (order, shows, some) =
    let read = read_shown tips hidden ids.0 ids.1 some shown shows in
    let place = in_order (shown_words shown ++ (map (id_word []) tips ++ map (id_word (codes "^")) hidden)) read.absent by order in
    place.1 ∙ ap (commits_in by) (read.reads place.0)

-- the words of a tree's entries ask for them
module _ (tree : ObjectId) (id : IsId tree) where
  file : (shown : EntryLines) (n : ℕ) → file_of shown n (hex_of tree) ≡ Ok (Files shown tree)
  file shown n = cond-false (begins_with_sign (hex_of tree)) _ _ (no_sign tree id) ∙ ap (files_from shown n) (id_again tree id)

  abbrev files : Option ℕ → ℕ → Result Request Fault
  files limit ending = Ok (Files (record { limit = limit; ending = ending }) tree)

  abbrev last : ℕ → List (List ℕ)
  last ending = where_given (ending == 0) (codes "-z") ++ hex_of tree ∷ []

  ended : (limit : Option ℕ) (n ending : ℕ) → IsEnding ending → ended_files_of limit n (last ending) ≡ files limit ending
  ended limit n ending (inl e) = subst (λ b. ended_files_of limit n (last b) ≡ files limit b) (sym e) (file (record { limit = limit; ending = 10 }) n)
  ended limit n ending (inr e) = subst (λ b. ended_files_of limit n (last b) ≡ files limit b) (sym e) (file (record { limit = limit; ending = 0 }) (n + 1))

  unlimited : (ending : ℕ) → IsEnding ending → files_of (last ending) ≡ files None ending
  unlimited ending (inl e) =
      subst (λ b. files_of (last b) ≡ files None b) (sym e)
      (cond-false (bytes_eq (hex_of tree) (codes "-n")) _ _ (other_word (hex_of tree) (codes "-n") (id_plain tree id).1 refl) ∙ file (record { limit = None; ending = 10 }) 2)
  unlimited ending (inr e) = subst (λ b. files_of (last b) ≡ files None b) (sym e) (file (record { limit = None; ending = 0 }) 3)

  files_again : (limit : Option ℕ) (ending : ℕ) → IfSome limit IsNineDigits → IsEnding ending → files_of (valued (codes "-n") (option_map decimal limit) ++ last ending) ≡ files limit ending
  files_again None ending few e = unlimited ending e
  files_again (Some m) ending few e = ap (λ (o : Option ℕ). files_by o (last ending)) (number m few) ∙ ended (Some m) 4 ending e

-- the words of an id and others are read as these
several_again : (first : ObjectId) (others : List ObjectId) → AllByRecursion IsId (first ∷ others) → others ≢ [] → several_of (map (id_word []) (first ∷ others)) ≡ Ok (first, others)
several_again first [] h some = absurd (some refl)
several_again first (next ∷ others) h some =
    cond-true (list_all is_shown (map (id_word []) (first ∷ next ∷ others))) _ _ (all_shown (first ∷ next ∷ others) h) ∙ ap several_from (tips_again 2 (first ∷ next ∷ others) h)

pub asked_again : (r : Request) → AreIds r → IsWritable r → request_of (printed r) ≡ Ok r
asked_again (Commits by shown tips hidden) ids w = commits_again by shown tips hidden ids w
asked_again (Files shown tree) id (few, e) = files_again tree id shown.limit shown.ending few e
asked_again (Ahead one other) ids w =
    cond-false (begins_with_sign (hex_of one) || begins_with_sign (hex_of other)) _ _ (λ k. no_sign one ids.0 k || no_sign other ids.1.0 k)
    ∙ (λ k. ahead_from (id_again one ids.0 k) (id_again other ids.1.0 k))
asked_again (Contained tip others) ids w = ap (asked Contained) (several_again tip others ids w)
asked_again (Containing target tips) ids w = ap (asked Containing) (several_again target tips ids w)
asked_again (Bases one others) ids w = ap (asked Bases) (several_again one others ids w)

-- What is told of a commit by the words of each order.
use Rattle.std.proofs.Common.{◌≡◌, ◌≢◌, ◌⊎◌, ℕ, suc, List, [], ◌∷◌, ◌++◌, length, take, Some, None, codes, refl, sym, ap, subst, ◌∙◌, inl, inr, ⊎_elim, arith}
use Rattle.gix_hash.specs.declared.ObjectId.{ObjectId}
use Rattle.gix_hash.specs.declared.ObjectId.TheVariants.{Sha1, Sha256}
use Rattle.gix_revwalk.specs.Commits.{by_mode}
use Rattle.gix_revwalk.specs.declared.CommitTimeOrder.TheVariants as order
use Rattle.gix_revwalk.specs.declared.Parents.{Parents}
use Rattle.gix_revwalk.specs.declared.Parents.TheVariants as mode
use Rattle.gix_simple.specs.Walk.{time_if, time_order}
use Rattle.gix_simple.specs.declared.Sorting.{Sorting}
use Rattle.gix_simple.specs.declared.Sorting.TheVariants as sorting
use Rattle.gix_topo.specs.declared.Sorting.{Sorting as TopoSorting}
use Rattle.gix_topo.specs.declared.Sorting.TheVariants as topo
use Rattle.gix_statement.specs.WholeStatement.{AreTips, Choice, Chooses, Row, at_most, counted, digits_in, everything, merges, no_merges, reversed, skip, until, with_format, with_parents, with_subject, with_time, zero_ended}
use Rattle.gix_words.specs.declared.words.Order.TheVariants.{Simple, Topo}
use Rattle.gix_commands.proofs.SameWords.{IsNameOf, IsOptionOf}
use Rattle.gix_batches.specs.Batches.{Says, breadth, first, timed}
use Rattle.gix_batches.specs.Slices.{Told}

abbrev first_word : List (List ℕ) → List ℕ
first_word [] = []
first_word (word ∷ words) = word

wide : (i : ObjectId) → (digits_in i ≡ 40) ⊎ (digits_in i ≡ 64)
wide (Sha1 x) = inl refl
wide (Sha256 x) = inr refl

-- no id is as short as an option
long : (i : ObjectId) (n : ℕ) → (n ≡ digits_in i) ⊎ (n ≡ suc (digits_in i)) → n ≡ 14 → ⊥
long i n is e = ⊎_elim
    (λ (w : digits_in i ≡ 40). ⊎_elim (λ (h : n ≡ digits_in i). omega (arith, w, h, e)) (λ (h : n ≡ suc (digits_in i)). omega (arith, w, h, e)) is)
    (λ (w : digits_in i ≡ 64). ⊎_elim (λ (h : n ≡ digits_in i). omega (arith, w, h, e)) (λ (h : n ≡ suc (digits_in i)). omega (arith, w, h, e)) is)
    (wide i)

tips_free : (words : List (List ℕ)) (tips hidden : List ObjectId) → AreTips words tips hidden → take 1 words ≢ codes "--first-parent" ∷ []
tips_free [] tips hidden are = λ e. let none : ◌≡◌ {A = List (List ℕ)} [] (codes "--first-parent" ∷ []) = e in cc
tips_free (word ∷ words) tips hidden (inl (i, more, is, s, a)) = λ e. let l : length word ≡ 14 = ap (λ ws. length (first_word ws)) e in long i (length word) (inl s.0) l
tips_free (word ∷ words) tips hidden (inr (i, more, is, id, w, s, a)) = λ e. let l : length word ≡ 14 = ap (λ ws. length (first_word ws)) e in long i (length word) (inr (ap length w ∙ ap suc s.0)) l

word_free : (word : List ℕ) (words : List (List ℕ)) → length word ≢ 14 → take 1 (word ∷ words) ≢ codes "--first-parent" ∷ []
word_free word words other = λ e. other (ap (λ ws. length (first_word ws)) e)

-- behind it no word is this option
pub behind_free : {place : ℕ} {words : List (List ℕ)} {c : Choice} (tips hidden : List ObjectId) → Chooses tips hidden place words c → take 1 words ≢ codes "--first-parent" ∷ []
behind_free tips hidden (everything {words = words} are) = tips_free words tips hidden are
behind_free tips hidden (until {number = number} {words = words} n is late more) = word_free (codes "--until") (number ∷ words) (λ e. omega (arith, e))
behind_free tips hidden (merges {words = words} late more) = word_free (codes "--merges") words (λ e. omega (arith, e))
behind_free tips hidden (no_merges {words = words} late more) = word_free (codes "--no-merges") words (λ e. omega (arith, e))
behind_free tips hidden (skip {number = number} {words = words} n is late more) = word_free (codes "--skip") (number ∷ words) (λ e. omega (arith, e))
behind_free tips hidden (at_most {number = number} {words = words} n is late more) = word_free (codes "-n") (number ∷ words) (λ e. omega (arith, e))
behind_free tips hidden (counted {words = words} late more) = word_free (codes "--count") words (λ e. omega (arith, e))
behind_free tips hidden (reversed {words = words} late more) = word_free (codes "--reverse") words (λ e. omega (arith, e))
behind_free tips hidden (with_time {words = words} late more) = word_free (codes "--timestamp") words (λ e. omega (arith, e))
behind_free tips hidden (with_parents {words = words} late more) = word_free (codes "--parents") words (λ e. omega (arith, e))
behind_free tips hidden (with_format {format = format} {words = words} is short late more) = word_free (codes "--format") (format ∷ words) (λ e. omega (arith, e))
behind_free tips hidden (with_subject {words = words} late more) = word_free (codes "--oneline") words (λ e. omega (arith, e))
behind_free tips hidden (zero_ended {words = words} late more) = word_free (codes "-z") words (λ e. omega (arith, e))

first_alone : (ids : List ObjectId) → by_mode mode.First ids ≡ take 1 ids
first_alone [] = refl
first_alone (i ∷ ids) = refl

-- a commit of a row, its parents by a mode, its time in an order by time
abbrev pub told_simple : Parents → Sorting → Row → Told
told_simple m by r = record { id = r.id; parents = by_mode m r.parents; time = time_if (time_order m by) r.time; generation = None }

abbrev pub told_down : Row → Told
told_down r = record { id = r.id; parents = r.parents; time = Some r.time; generation = None }

module _ (r : Row) (name : List ℕ) (option rest : List (List ℕ)) (free : take 1 rest ≢ codes "--first-parent" ∷ []) where
  named_so : (by : List ℕ) (t : Told) → name ≡ by → Says r (by ∷ (option ++ rest)) t → Says r (name ∷ (option ++ rest)) t
  named_so by t e says = subst (λ n. Says r (n ∷ (option ++ rest)) t) (sym e) says

  pub says_simple : (m : Parents) (by : Sorting) → IsNameOf name (Simple m by) → IsOptionOf option (Simple m by) → Says r (name ∷ (option ++ rest)) (told_simple m by r)
  says_simple mode.All sorting.BreadthFirst named plain = named_so (codes "breadth") _ named (subst (λ o. Says r (codes "breadth" ∷ (o ++ rest)) (told_simple mode.All sorting.BreadthFirst r)) (sym plain) (breadth free))
  says_simple mode.First sorting.BreadthFirst named chosen =
      named_so (codes "breadth") _ named
      (subst (λ o. Says r (codes "breadth" ∷ (o ++ rest)) (told_simple mode.First sorting.BreadthFirst r)) (sym chosen)
      (subst (λ ps. Says r (codes "breadth" ∷ codes "--first-parent" ∷ rest) (record { id = r.id; parents = ps; time = None; generation = None })) (sym (first_alone r.parents)) first))
  says_simple mode.All (sorting.ByCommitTime order.NewestFirst) named plain = named_so (codes "newest") _ named (timed (0, omega arith, refl))
  says_simple mode.All (sorting.ByCommitTime order.OldestFirst) named plain = named_so (codes "oldest") _ named (timed (1, omega arith, refl))
  says_simple mode.All (sorting.ByCommitTimeCutoff order.NewestFirst seconds) named chosen = named_so (codes "newest") _ named (timed (0, omega arith, refl))
  says_simple mode.All (sorting.ByCommitTimeCutoff order.OldestFirst seconds) named chosen = named_so (codes "oldest") _ named (timed (1, omega arith, refl))
  says_simple mode.First (sorting.ByCommitTime by) named chosen = absurd chosen
  says_simple mode.First (sorting.ByCommitTimeCutoff by seconds) named chosen = absurd chosen

  pub says_down : (m : Parents) (by : TopoSorting) → IsNameOf name (Topo m by) → Says r (name ∷ (option ++ rest)) (told_down r)
  says_down m topo.TopoOrder named = named_so (codes "topo") _ named (timed (2, omega arith, refl))
  says_down m topo.DateOrder named = named_so (codes "date") _ named (timed (3, omega arith, refl))

pub says_id : (r : Row) (words : List (List ℕ)) (t : Told) → Says r words t → t.id ≡ r.id
says_id r words t (breadth free) = refl
says_id r words t first = refl
says_id r words t (timed c) = refl

-- Words that name no tip, by the command that they are with an id behind them.
use Rattle.std.proofs.Common.{◌≡◌, ◌≢◌, ℕ, ℤ, pos, List, [], ◌∷◌, ◌++◌, length, nat_eq, map, Bool, true, false, cond, Option, Some, None, Result, Ok, Err, Contains, codes, refl, sym, subst, arith, eqb-true}
use Rattle.std.specs.Str.Lossy.{utf8_lossy}
use Rattle.gix_hash.specs.declared.ObjectId.{ObjectId}
use Rattle.gix_revwalk.specs.declared.CommitTimeOrder.TheVariants as order
use Rattle.gix_revwalk.specs.declared.Parents.TheVariants as mode
use Rattle.gix_simple.specs.declared.Sorting.TheVariants as sorting
use Rattle.gix_topo.specs.declared.Sorting.TheVariants as topo
use Rattle.gix_words.specs.declared.fault.Fault.{Fault}
use Rattle.gix_words.specs.declared.words.Form.{Form}
use Rattle.gix_words.specs.declared.words.Form.TheVariants as form
use Rattle.gix_words.specs.declared.words.Order.{Order}
use Rattle.gix_words.specs.declared.words.Order.TheVariants.{Simple, Topo}
use Rattle.gix_words.specs.Words.{Request, Commits, Files, Ahead, Contained, Containing, Bases, request_of}
use Rattle.gix_commands.specs.Chosen.{page_choice, page_form}
use Rattle.gix_commands.proofs.OrderNames.{is_order}
use Rattle.gix_commands.proofs.SameWords.{AreWordsOf, IsCutoff, IsNameOf, IsOptionOf, are_words}
use Rattle.gix_statement.specs.WholeStatement as page
use Rattle.gix_statement.specs.WholeStatement.{AreTips, Chooses, Follows}
use Rattle.gix_memory_commands.specs.Inside.{if_alone, is_number, lines_of_number, none_of, with_an_id}
use Rattle.gix_memory_commands.specs.Nothing.{LinesOfNone, OfNone, an_id, list, no_parents, no_time, none_written, others}
use Rattle.gix_memory_commands.specs.WordsOf.{words_of}

-- an option is one of the page, whatever is followed
abbrev IsFollowed : List ℕ → List (List ℕ) → List ObjectId → Type 0
IsFollowed name option tips = (followed : ObjectId → List ObjectId) × (starts : List ObjectId) × Follows no_parents no_time tips name option followed starts

plain : (name : List ℕ) (option : List (List ℕ)) (tips : List ObjectId) → option ≡ [] → IsFollowed name option tips
plain name option tips is = subst (λ o. IsFollowed name o tips) (sym is) (no_parents, tips, page.all)

first : (name : List ℕ) (option : List (List ℕ)) (tips : List ObjectId) → Contains (codes "breadth" ∷ codes "topo" ∷ codes "date" ∷ []) name
    → option ≡ codes "--first-parent" ∷ [] → IsFollowed name option tips
first name option tips named is = subst (λ o. IsFollowed name o tips) (sym is) (_, _, page.first named)

since : (name : List ℕ) (option : List (List ℕ)) (tips : List ObjectId) (seconds : ℤ) → Contains (codes "newest" ∷ codes "oldest" ∷ []) name
    → IsCutoff option seconds → IsFollowed name option tips
since name option tips seconds named (number, n, is, same, words) = subst (λ o. IsFollowed name o tips) (sym words) (_, _, page.since n named is)

is_followed : (name : List ℕ) (option : List (List ℕ)) (tips : List ObjectId) (by : Order) → IsNameOf name by → IsOptionOf option by → IsFollowed name option tips
is_followed name option tips (Simple mode.All sorting.BreadthFirst) named is = plain name option tips is
is_followed name option tips (Simple mode.First sorting.BreadthFirst) named is = first name option tips (0, omega arith, sym named) is
is_followed name option tips (Simple mode.All (sorting.ByCommitTime by)) named is = plain name option tips is
is_followed name option tips (Simple mode.First (sorting.ByCommitTime by)) named is = absurd is
is_followed name option tips (Simple mode.All (sorting.ByCommitTimeCutoff order.NewestFirst seconds)) named is = since name option tips seconds (0, omega arith, sym named) is
is_followed name option tips (Simple mode.All (sorting.ByCommitTimeCutoff order.OldestFirst seconds)) named is = since name option tips seconds (1, omega arith, sym named) is
is_followed name option tips (Simple mode.First (sorting.ByCommitTimeCutoff by seconds)) named is = absurd is
is_followed name option tips (Topo mode.All by) named is = plain name option tips is
is_followed name option tips (Topo mode.First topo.TopoOrder) named is = first name option tips (1, omega arith, sym named) is
is_followed name option tips (Topo mode.First topo.DateOrder) named is = first name option tips (2, omega arith, sym named) is

by_form : (f : Form) → none_written (page_form f) ≡ lines_of_number (is_number f)
by_form form.Lines = refl
by_form form.Count = refl
by_form form.Reverse = refl

no_number : {which : Bool} → None ≡ Some which → ⊥
no_number e = cc

one_id : (ids : List ObjectId) → length ids ≡ 1 → (i : ObjectId) × (ids ≡ i ∷ [])
one_id [] e = absurd (omega (arith, e))
one_id (i ∷ []) e = (i, refl)
one_id (i ∷ next ∷ ids) e = absurd (omega (arith, e))

-- one id alone
is_one : (ids : List ObjectId) (counts which : Bool) → if_alone (length ids) counts ≡ Some which → (i : ObjectId) × (ids ≡ i ∷ []) × (counts ≡ which)
is_one ids counts which e = go (nat_eq (length ids) 1) refl e
  where
    go : (t : Bool) → nat_eq (length ids) 1 ≡ t → cond t (Some counts) None ≡ Some which → (i : ObjectId) × (ids ≡ i ∷ []) × (counts ≡ which)
    go true same e = let k = one_id ids (eqb-true (length ids) 1 same) in (k.0, k.1, cc)
    go false same e = absurd (no_number e)

of_others : (words : List (List ℕ)) (by : List ℕ) → Contains (codes "contains" ∷ codes "containing" ∷ codes "merge-base" ∷ []) by → (rest : List (List ℕ))
    → words ++ an_id ∷ [] ≡ by ∷ rest → (one : ObjectId) (ids : List ObjectId) → AreTips rest (one ∷ ids) [] → (which : Bool)
    → if_alone (length ids) false ≡ Some which → OfNone words (lines_of_number which)
of_others words by named rest is one ids are which e =
    let k = is_one ids false which e in
    subst (λ w. OfNone words (lines_of_number w)) k.2 (others rest one k.0 is named (subst (λ more. AreTips rest (one ∷ more) []) k.1 are))

of_request : (words : List (List ℕ)) (r : Result Request Fault) → AreWordsOf (words ++ an_id ∷ []) r → (which : Bool) → none_of r ≡ Some which
    → OfNone words (lines_of_number which)
of_request words (Ok (Commits by shown tips hidden)) (name, option, rest, is, named, chosen, place, chooses, some) which e =
    let k = is_one tips (is_number shown.form) which e in
    let f = is_followed name option (k.0 ∷ []) by named chosen in
    subst (λ w. OfNone words (lines_of_number w)) k.2
    (subst (OfNone words) (by_form shown.form)
    (list option rest (page_choice shown) is (is_order name by named) f.2 (subst (λ those. Chooses those hidden place rest (page_choice shown)) k.1 chooses)))
of_request words (Ok (Contained tip ids)) (rest, is, are, some) which e = of_others words (codes "contains") (0, omega arith, refl) rest is tip ids are which e
of_request words (Ok (Containing target tips)) (rest, is, are, some) which e = of_others words (codes "containing") (1, omega arith, refl) rest is target tips are which e
of_request words (Ok (Bases one ids)) (rest, is, are, some) which e = of_others words (codes "merge-base") (2, omega arith, refl) rest is one ids are which e
of_request words (Ok (Files shown tree)) h which e = absurd (no_number e)
of_request words (Ok (Ahead one other)) h which e = absurd (no_number e)
of_request words (Err why) h which e = absurd (no_number e)

-- a text whose words are, with an id behind them, a command that asks for what this one alone is of
pub no_tip : (text : List ℕ) (which : Bool) → none_of (request_of (with_an_id text)) ≡ Some which → LinesOfNone text (lines_of_number which)
no_tip text which e = of_request (map utf8_lossy (words_of text)) (request_of (with_an_id text)) (are_words (with_an_id text)) which e

-- What is left behind each line that is taken.
use Rattle.std.proofs.Common.{ℕ, suc, ◌==◌, false, true, ◌⊎◌, inl, inr, ◌≡◌, List, [], ◌∷◌, length, codes, Option, Some, None, Result, Ok, Err, refl, sym, ap, subst, ◌∙◌, eqb-true, arith}
use Rattle.gix_hash.specs.declared.Kind.{Kind}
use Rattle.gix_hash.specs.declared.ObjectId.{ObjectId}
use Rattle.gix_object.specs.declared.decode.Error.{Error}
use Rattle.gix_object.specs.declared.decode.Error.TheVariants as fault
use Rattle.gix_object.specs.declared.commit.Place.{Place as State}
use Rattle.gix_object.specs.declared.commit.Place.TheVariants as state
use Rattle.gix_object.specs.declared.commit.Token.{Token}
use Rattle.gix_object.specs.declared.commit.Token.TheVariants as token
use Rattle.gix_object.specs.declared.commit.CommitRefIter.{CommitRefIter}
use Rattle.gix_object.specs.CommitItems.{Item, Tree, Parent, Author, Committer, AtTree, AtParents, AtCommitter, AtRest, AtEnd, Front, after_word, id_line_at, text_line_at, tree_front, author_front, committer_front, parent_front, front, items_from}
use Rattle.gix_object.specs.CommitRefIter.{place_of, commit_items_left, item_of, item_shown, IsTaken, first_committer, next_parent, behind_parent}
use Rattle.gix_object.proofs.Commits.Items.{items_from-step}
use Rattle.gix_object.proofs.Commits.ItemsLeft.{taken_first}

abbrev pub Items : Type 0
Items = List (Result Item Error)

-- a tree, or a fault, was the first of the items
abbrev pub TakesTree : Items → Result Token Error → Items → Type 0
TakesTree items (Ok t) rest = (i : ObjectId) × (items ≡ Ok (Tree i) ∷ rest)
TakesTree items (Err e) rest = items ≡ Err e ∷ rest

-- a parent or the author was, or a fault
abbrev pub TakesLine : Items → Result Token Error → Items → Type 0
TakesLine items (Ok (token.Parent i)) rest = items ≡ Ok (Parent i) ∷ rest
TakesLine items (Ok (token.Author line)) rest = items ≡ Ok (Author line.now) ∷ rest
TakesLine items (Ok (token.Tree i)) rest = ⊥
TakesLine items (Ok (token.Committer signature)) rest = ⊥
TakesLine items (Ok (token.Rest bytes)) rest = ⊥
TakesLine items (Err e) rest = items ≡ Err e ∷ rest

-- the committer was, or a fault
abbrev pub TakesCommitter : Items → Result Token Error → Items → Type 0
TakesCommitter items (Ok (token.Committer signature)) rest = items ≡ Ok (Committer signature.bytes.now) ∷ rest
TakesCommitter items (Ok (token.Tree i)) rest = ⊥
TakesCommitter items (Ok (token.Parent i)) rest = ⊥
TakesCommitter items (Ok (token.Author line)) rest = ⊥
TakesCommitter items (Ok (token.Rest bytes)) rest = ⊥
TakesCommitter items (Err e) rest = items ≡ Err e ∷ rest

-- as the test of the bytes left says it
abbrev pub IsSome : List ℕ → Type 0
IsSome bytes = false ≡ (length bytes == 0)

front_at : (k : Kind) (bytes : List ℕ) → IsSome bytes → front k AtTree bytes ≡ tree_front (id_line_at k (after_word (codes "tree ") bytes))
front_at k [] some = cc
front_at k (b ∷ bs) some = refl

front_at_parents : (k : Kind) (bytes : List ℕ) → IsSome bytes → front k AtParents bytes ≡ parent_front k bytes (after_word (codes "parent ") bytes) (id_line_at k (after_word (codes "parent ") bytes))
front_at_parents k [] some = cc
front_at_parents k (b ∷ bs) some = refl

front_at_committer : (k : Kind) (bytes : List ℕ) → IsSome bytes → front k AtCommitter bytes ≡ committer_front (text_line_at (after_word (codes "committer ") bytes))
front_at_committer k [] some = cc
front_at_committer k (b ∷ bs) some = refl

-- what is taken from the front at a place is the first of the items left
first_left : (it then : CommitRefIter) (f : Front) (r : Result Token Error) → front it.kind (place_of it.place) it.bytes.now ≡ f → IsTaken it f (Some r) then → commit_items_left it ≡ item_shown r ∷ commit_items_left then
first_left it then f r at taken = taken_first it then (Some r) (subst (λ f. IsTaken it f (Some r) then) (sym at) taken)

pub tree_left : (it then : CommitRefIter) (r : Result Token Error) → it.place ≡ state.Tree → IsSome it.bytes.now → IsTaken it (tree_front (id_line_at it.kind (after_word (codes "tree ") it.bytes.now))) (Some r) then → TakesTree (commit_items_left it) r (commit_items_left then)
tree_left it then r at some taken =
    go r (id_line_at it.kind (after_word (codes "tree ") it.bytes.now)) taken
    (first_left it then _ r (ap (λ p. front it.kind (place_of p) it.bytes.now) at ∙ front_at it.kind it.bytes.now some) taken)
  where
    go : (r : Result Token Error) (o : Option (ObjectId × List ℕ)) → IsTaken it (tree_front o) (Some r) then → commit_items_left it ≡ item_shown r ∷ commit_items_left then → TakesTree (commit_items_left it) r (commit_items_left then)
    go (Err e) o taken first = first
    go (Ok t) None taken first = cc
    go (Ok t) (Some line) taken first = let is : item_of t ≡ Tree line.0 = cc in (line.0, first ∙ ap (λ x. Ok x ∷ commit_items_left then) is)

pub line_left : (it then : CommitRefIter) (r : Result Token Error) → it.place ≡ state.Parents → IsSome it.bytes.now → IsTaken it (parent_front it.kind it.bytes.now (after_word (codes "parent ") it.bytes.now) (id_line_at it.kind (after_word (codes "parent ") it.bytes.now))) (Some r) then → TakesLine (commit_items_left it) r (commit_items_left then)
line_left it then r at some taken =
    go r (after_word (codes "parent ") it.bytes.now) (id_line_at it.kind (after_word (codes "parent ") it.bytes.now)) (text_line_at (after_word (codes "author ") it.bytes.now)) taken
    (first_left it then _ r (ap (λ p. front it.kind (place_of p) it.bytes.now) at ∙ front_at_parents it.kind it.bytes.now some) taken)
  where
    author : (t : Token) (l : Option (List ℕ × List ℕ)) → IsTaken it (author_front l) (Some (Ok t)) then → commit_items_left it ≡ Ok (item_of t) ∷ commit_items_left then → TakesLine (commit_items_left it) (Ok t) (commit_items_left then)
    author (token.Author line) l taken first = first
    author (token.Tree i) None taken first = cc
    author (token.Tree i) (Some r) taken first = cc
    author (token.Parent i) None taken first = cc
    author (token.Parent i) (Some r) taken first = cc
    author (token.Committer signature) None taken first = cc
    author (token.Committer signature) (Some r) taken first = cc
    author (token.Rest bytes) None taken first = cc
    author (token.Rest bytes) (Some r) taken first = cc

    go : (r : Result Token Error) (w : Option (List ℕ)) (o : Option (ObjectId × List ℕ)) (l : Option (List ℕ × List ℕ)) → IsTaken it (parent_front it.kind it.bytes.now w o) (Some r) then → commit_items_left it ≡ item_shown r ∷ commit_items_left then → TakesLine (commit_items_left it) r (commit_items_left then)
    go (Err e) w o l taken first = first
    go (Ok t) None o l taken first = author t (text_line_at (after_word (codes "author ") it.bytes.now)) taken first
    go (Ok t) (Some w) None l taken first = cc
    go (Ok (token.Parent i)) (Some w) (Some line) l taken first = first
    go (Ok (token.Tree i)) (Some w) (Some line) l taken first = cc
    go (Ok (token.Author i)) (Some w) (Some line) l taken first = cc
    go (Ok (token.Committer i)) (Some w) (Some line) l taken first = cc
    go (Ok (token.Rest i)) (Some w) (Some line) l taken first = cc

pub committer_left : (it then : CommitRefIter) (r : Result Token Error) → it.place ≡ state.Committer → IsSome it.bytes.now → IsTaken it (committer_front (text_line_at (after_word (codes "committer ") it.bytes.now))) (Some r) then → TakesCommitter (commit_items_left it) r (commit_items_left then)
committer_left it then r at some taken =
    go r (text_line_at (after_word (codes "committer ") it.bytes.now)) taken
    (first_left it then _ r (ap (λ p. front it.kind (place_of p) it.bytes.now) at ∙ front_at_committer it.kind it.bytes.now some) taken)
  where
    go : (r : Result Token Error) (l : Option (List ℕ × List ℕ)) → IsTaken it (committer_front l) (Some r) then → commit_items_left it ≡ item_shown r ∷ commit_items_left then → TakesCommitter (commit_items_left it) r (commit_items_left then)
    go (Err e) l taken first = first
    go (Ok (token.Committer signature)) l taken first = first
    go (Ok (token.Tree i)) None taken first = cc
    go (Ok (token.Tree i)) (Some r) taken first = cc
    go (Ok (token.Parent i)) None taken first = cc
    go (Ok (token.Parent i)) (Some r) taken first = cc
    go (Ok (token.Author line)) None taken first = cc
    go (Ok (token.Author line)) (Some r) taken first = cc
    go (Ok (token.Rest bytes)) None taken first = cc
    go (Ok (token.Rest bytes)) (Some r) taken first = cc

-- behind the committer there is no line, and nothing where no byte is left
pub nothing_more : (it : CommitRefIter) → (true ≡ (length it.bytes.now == 0)) ⊎ ((it.place ≡ state.Rest) ⊎ (it.place ≡ state.End))
    → (next_parent (commit_items_left it) ≡ Ok None) × (behind_parent (commit_items_left it) ≡ commit_items_left it) × (first_committer (commit_items_left it) ≡ Err fault.Missing)
unfolding commit_items_left
nothing_more it late = go it.bytes.now it.place late
  where
    of : (items some : Items) → items ≡ some → next_parent some ≡ Ok None → behind_parent some ≡ some → first_committer some ≡ Err fault.Missing
        → (next_parent items ≡ Ok None) × (behind_parent items ≡ items) × (first_committer items ≡ Err fault.Missing)
    of items some e none same missing = (ap next_parent e ∙ none, ap behind_parent e ∙ same ∙ sym e, ap first_committer e ∙ missing)

    go : (bytes : List ℕ) (p : State) → (true ≡ (length bytes == 0)) ⊎ ((p ≡ state.Rest) ⊎ (p ≡ state.End))
        → (next_parent (items_from it.kind (place_of p) bytes) ≡ Ok None) × (behind_parent (items_from it.kind (place_of p) bytes) ≡ items_from it.kind (place_of p) bytes) × (first_committer (items_from it.kind (place_of p) bytes) ≡ Err fault.Missing)
    go [] p late = (refl, refl, refl)
    go (b ∷ bs) p (inl e) = absurd (omega (arith, eqb-true (length (b ∷ bs)) 0 (sym e)))
    go (b ∷ bs) p (inr (inl at)) = of _ _ (ap (λ q. items_from it.kind (place_of q) (b ∷ bs)) at ∙ items_from-step it.kind AtRest (b ∷ bs)) refl refl refl
    go (b ∷ bs) p (inr (inr at)) = of _ _ (ap (λ q. items_from it.kind (place_of q) (b ∷ bs)) at ∙ items_from-step it.kind AtEnd (b ∷ bs)) refl refl refl

-- a line that is no committer's is passed over in the search for one
pub line_passed : (items rest : Items) (t : Token) → TakesLine items (Ok t) rest → (length items ≡ suc (length rest)) × (first_committer items ≡ first_committer rest)
line_passed items rest (token.Parent i) e = (ap length e, ap first_committer e)
line_passed items rest (token.Author line) e = (ap length e, ap first_committer e)
line_passed items rest (token.Tree i) e = absurd e
line_passed items rest (token.Committer signature) e = absurd e
line_passed items rest (token.Rest bytes) e = absurd e

-- the committer is left where it is
pub committer_stays : (items rest : Items) (t : Token) → TakesCommitter items (Ok t) rest → (next_parent items ≡ Ok None) × (behind_parent items ≡ items)
committer_stays items rest (token.Committer signature) e = (ap next_parent e, ap behind_parent e ∙ sym e)
committer_stays items rest (token.Parent i) e = absurd e
committer_stays items rest (token.Author line) e = absurd e
committer_stays items rest (token.Tree i) e = absurd e
committer_stays items rest (token.Rest bytes) e = absurd e

-- a line that is no parent's is the author's
pub author_taken : (items rest : Items) (t : Token) → TakesLine items (Ok t) rest → ((i : ObjectId) → t ≡ token.Parent i → ⊥) → (next_parent items ≡ Ok None) × (behind_parent items ≡ rest)
author_taken items rest (token.Author line) e other = (ap next_parent e, ap behind_parent e)
author_taken items rest (token.Parent i) e other = absurd (other i refl)
author_taken items rest (token.Tree i) e other = absurd e
author_taken items rest (token.Committer signature) e other = absurd e
author_taken items rest (token.Rest bytes) e other = absurd e

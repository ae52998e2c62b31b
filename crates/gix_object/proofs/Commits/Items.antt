-- The items from a place on: the front of what is left, and then the items behind it.
use Rattle.std.proofs.Common.{ℕ, suc, zero, ◌<◌, ◌≤◌, ◌≡◌, ◌≢◌, ◌++◌, List, [], ◌∷◌, length, codes, Option, Some, None, Result, Ok, Err, refl, sym, ap, ◌∙◌, arith, length-append}
use Rattle.std.specs.List.{AllByRecursion}
use Rattle.gix_hash.specs.declared.Kind.{Kind}
use Rattle.gix_hash.specs.declared.ObjectId.{ObjectId}
use Rattle.gix_object.specs.declared.decode.Error.{Error}
use Rattle.gix_hash.specs.Id.{id_of_hex}
use Rattle.gix_object.specs.CommitItems.{Item, Tree, Parent, Author, Committer, Rest, Place, AtTree, AtParents, AtCommitter, AtRest, AtEnd, Front, Found, Faulty, Ended, after_word, id_line_at, text_line_at, tree_front, author_front, committer_front, parent_front, front, unfolded, items_within, items_from, FaultsEnd}
use Rattle.gix_object.proofs.Commits.Lines.{after_word_found, line_at_found, id_line_at_found}

-- the line with an id that was found behind a word
pub record FoundId (k : Kind) (word bytes : List ℕ) (i : ObjectId) (rest : List ℕ) : Type 0 where
  pub digits : List ℕ
  pub spells : id_of_hex k digits ≡ Some i
  pub whole : bytes ≡ word ++ (digits ++ 10 ∷ rest)

-- the line of text that was found behind a word
pub record FoundLine (word bytes line rest : List ℕ) : Type 0 where
  pub one_line : AllByRecursion (λ b. b ≢ 10) line
  pub whole : bytes ≡ word ++ (line ++ 10 ∷ rest)

pub found_id : (k : Kind) (word bytes : List ℕ) (r : ObjectId × List ℕ) → id_line_at k (after_word word bytes) ≡ Some r → FoundId k word bytes r.0 r.1
found_id k word bytes r e = go (after_word word bytes) refl e
  where
    go : (o : Option (List ℕ)) → after_word word bytes ≡ o → id_line_at k o ≡ Some r → FoundId k word bytes r.0 r.1
    go None w e = cc
    go (Some rest) w e =
        let line : (digits : List ℕ) × (id_of_hex k digits ≡ Some r.0) × (rest ≡ digits ++ 10 ∷ r.1) = id_line_at_found k rest r e in
        record { digits = line.0; spells = line.1; whole = after_word_found word bytes rest w ∙ ap (λ x. word ++ x) line.2 }

pub found_line : (word bytes : List ℕ) (r : List ℕ × List ℕ) → text_line_at (after_word word bytes) ≡ Some r → FoundLine word bytes r.0 r.1
found_line word bytes r e = go (after_word word bytes) refl e
  where
    go : (o : Option (List ℕ)) → after_word word bytes ≡ o → text_line_at o ≡ Some r → FoundLine word bytes r.0 r.1
    go None w e = cc
    go (Some rest) w e =
        let line : AllByRecursion (λ b. b ≢ 10) r.0 × (rest ≡ r.0 ++ 10 ∷ r.1) = line_at_found rest r e in
        record { one_line = line.0; whole = after_word_found word bytes rest w ∙ ap (λ x. word ++ x) line.1 }

-- what is at the front of the bytes at a place
pub data Stands (k : Kind) (bytes : List ℕ) : Place → Front → Type 0 where
  ended : {place : Place} → Stands k bytes place Ended
  faulty : {place : Place} {e : Error} → Stands k bytes place (Faulty e)
  tree : {i : ObjectId} {rest : List ℕ} → FoundId k (codes "tree ") bytes i rest → Stands k bytes AtTree (Found (Tree i) AtParents rest)
  parent : {i : ObjectId} {rest : List ℕ} → FoundId k (codes "parent ") bytes i rest → Stands k bytes AtParents (Found (Parent i) AtParents rest)
  author : {line rest : List ℕ} → FoundLine (codes "author ") bytes line rest → Stands k bytes AtParents (Found (Author line) AtCommitter rest)
  committer : {line rest : List ℕ} → FoundLine (codes "committer ") bytes line rest → Stands k bytes AtCommitter (Found (Committer line) AtRest rest)
  remainder : 0 < length bytes → Stands k bytes AtRest (Found (Rest bytes) AtEnd [])

pub stands : (k : Kind) (place : Place) (bytes : List ℕ) → Stands k bytes place (front k place bytes)
stands k AtTree [] = ended
stands k AtTree (b ∷ bs) = go _ (found_id k (codes "tree ") (b ∷ bs))
  where
    go : (o : Option (ObjectId × List ℕ)) → ((r : ObjectId × List ℕ) → o ≡ Some r → FoundId k (codes "tree ") (b ∷ bs) r.0 r.1) → Stands k (b ∷ bs) AtTree (tree_front o)
    go None found = faulty
    go (Some r) found = tree (found r refl)
stands k AtParents [] = ended
stands k AtParents (b ∷ bs) = go _ _ (found_id k (codes "parent ") (b ∷ bs)) (lines _ (found_line (codes "author ") (b ∷ bs)))
  where
    lines : (o : Option (List ℕ × List ℕ)) → ((r : List ℕ × List ℕ) → o ≡ Some r → FoundLine (codes "author ") (b ∷ bs) r.0 r.1) → Stands k (b ∷ bs) AtParents (author_front o)
    lines None found = faulty
    lines (Some r) found = author (found r refl)

    go : (word : Option (List ℕ)) (o : Option (ObjectId × List ℕ)) → ((r : ObjectId × List ℕ) → o ≡ Some r → FoundId k (codes "parent ") (b ∷ bs) r.0 r.1) → Stands k (b ∷ bs) AtParents (author_front (text_line_at (after_word (codes "author ") (b ∷ bs)))) → Stands k (b ∷ bs) AtParents (parent_front k (b ∷ bs) word o)
    go None o found line = line
    go (Some word) None found line = faulty
    go (Some word) (Some r) found line = parent (found r refl)
stands k AtCommitter [] = ended
stands k AtCommitter (b ∷ bs) = go _ (found_line (codes "committer ") (b ∷ bs))
  where
    go : (o : Option (List ℕ × List ℕ)) → ((r : List ℕ × List ℕ) → o ≡ Some r → FoundLine (codes "committer ") (b ∷ bs) r.0 r.1) → Stands k (b ∷ bs) AtCommitter (committer_front o)
    go None found = faulty
    go (Some r) found = committer (found r refl)
stands k AtRest [] = ended
stands k AtRest (b ∷ bs) = remainder (omega arith)
stands k AtEnd bytes = ended

length_id : (k : Kind) (word bytes : List ℕ) (i : ObjectId) (rest : List ℕ) → FoundId k word bytes i rest → length rest < length bytes
length_id k word bytes i rest found =
    omega (arith, ap length found.whole, length-append word (found.digits ++ 10 ∷ rest), length-append found.digits (10 ∷ rest))

length_line : (word bytes line rest : List ℕ) → FoundLine word bytes line rest → length rest < length bytes
length_line word bytes line rest found =
    omega (arith, ap length found.whole, length-append word (line ++ 10 ∷ rest), length-append line (10 ∷ rest))

-- behind an item fewer bytes are left
pub unfolded_same : (k : Kind) (bytes : List ℕ) (place : Place) (f : Front) (more others : Place → List ℕ → List (Result Item Error)) → Stands k bytes place f → ((next : Place) (rest : List ℕ) → length rest < length bytes → more next rest ≡ others next rest) → unfolded f more ≡ unfolded f others
unfolded_same k bytes place f more others ended same = refl
unfolded_same k bytes place f more others faulty same = refl
unfolded_same k bytes place f more others (tree {i = i} {rest = rest} found) same = ap (λ x. Ok (Tree i) ∷ x) (same AtParents rest (length_id k (codes "tree ") bytes i rest found))
unfolded_same k bytes place f more others (parent {i = i} {rest = rest} found) same = ap (λ x. Ok (Parent i) ∷ x) (same AtParents rest (length_id k (codes "parent ") bytes i rest found))
unfolded_same k bytes place f more others (author {line = line} {rest = rest} found) same = ap (λ x. Ok (Author line) ∷ x) (same AtCommitter rest (length_line (codes "author ") bytes line rest found))
unfolded_same k bytes place f more others (committer {line = line} {rest = rest} found) same = ap (λ x. Ok (Committer line) ∷ x) (same AtRest rest (length_line (codes "committer ") bytes line rest found))
unfolded_same k bytes place f more others (remainder some) same = ap (λ x. Ok (Rest bytes) ∷ x) (same AtEnd [] some)

front-nil : (k : Kind) (place : Place) → front k place [] ≡ Ended
front-nil k AtTree = refl
front-nil k AtParents = refl
front-nil k AtCommitter = refl
front-nil k AtRest = refl
front-nil k AtEnd = refl

items_within-nil : (n : ℕ) (k : Kind) (place : Place) → items_within n k place [] ≡ []
items_within-nil zero k place = refl
items_within-nil (suc n) k place = ap (λ f. unfolded f (items_within n k)) (front-nil k place)

-- each item takes a byte at least, so from as many items on as there are bytes the bound on their number says nothing
pub items_within_enough : (n m : ℕ) (k : Kind) (place : Place) (bytes : List ℕ) → length bytes ≤ n → length bytes ≤ m → items_within n k place bytes ≡ items_within m k place bytes
items_within_enough n m k place [] l h = items_within-nil n k place ∙ sym (items_within-nil m k place)
items_within_enough zero m k place (b ∷ bs) l h = absurd (omega arith)
items_within_enough (suc n) zero k place (b ∷ bs) l h = absurd (omega arith)
items_within_enough (suc n) (suc m) k place (b ∷ bs) l h =
    unfolded_same k (b ∷ bs) place (front k place (b ∷ bs)) (items_within n k) (items_within m k) (stands k place (b ∷ bs)) (λ next rest less. items_within_enough n m k next rest (omega arith) (omega arith))

-- the items from a place on are what is at the front, and the items behind it
pub items_from-step : (k : Kind) (place : Place) (bytes : List ℕ) → items_from k place bytes ≡ unfolded (front k place bytes) (items_from k)
items_from-step k place bytes =
    items_within_enough (length bytes) (suc (length bytes)) k place bytes (omega arith) (omega arith)
    ∙ unfolded_same k bytes place (front k place bytes) (items_within (length bytes) k) (items_from k) (stands k place bytes) (λ next rest less. items_within_enough (length bytes) (length rest) k next rest (omega arith) (omega arith))

no_cell : {A : Type 0} (xs ys : List A) (y : A) → [] ≡ xs ++ y ∷ ys → ⊥
no_cell [] ys y e = cc
no_cell (x ∷ xs) ys y e = cc

fault_ends : (n : ℕ) (k : Kind) (place : Place) (bytes : List ℕ) (before behind : List (Result Item Error)) (e : Error) → items_within n k place bytes ≡ before ++ Err e ∷ behind → behind ≡ []
fault_ends zero k place bytes before behind e h = absurd (no_cell before behind (Err e) h)
fault_ends (suc n) k place bytes before behind e h = go (front k place bytes) before (λ next rest. fault_ends n k next rest) h
  where
    go : (f : Front) (before : List (Result Item Error)) → ((next : Place) (rest : List ℕ) (before behind : List (Result Item Error)) (e : Error) → items_within n k next rest ≡ before ++ Err e ∷ behind → behind ≡ []) → unfolded f (items_within n k) ≡ before ++ Err e ∷ behind → behind ≡ []
    go Ended before more h = absurd (no_cell before behind (Err e) h)
    go (Faulty d) [] more h = cc
    go (Faulty d) (x ∷ before) more h = let end : [] ≡ before ++ Err e ∷ behind = cc in absurd (no_cell before behind (Err e) end)
    go (Found item next rest) [] more h = cc
    go (Found item next rest) (x ∷ before) more h = let tail : items_within n k next rest ≡ before ++ Err e ∷ behind = cc in more next rest before behind e tail

pub faults_end : FaultsEnd
faults_end k bytes before behind e = fault_ends (length bytes) k AtTree bytes before behind e

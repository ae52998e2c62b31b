-- What an iterator over a commit's bytes has left, and what its answers show.
use Rattle.std.specs.Prelude.{◌≡◌, ℕ, List, [], ◌∷◌, Option, Some, None, Result, Ok, Err}
use Rattle.gix_hash.specs.declared.ObjectId.{ObjectId}
use Rattle.gix_object.specs.declared.decode.Error.{Error}
use Rattle.gix_object.specs.declared.decode.Error.TheVariants as fault
use Rattle.gix_object.specs.declared.commit.Place.{Place as State}
use Rattle.gix_object.specs.declared.commit.Place.TheVariants as state
use Rattle.gix_object.specs.declared.commit.Token.{Token}
use Rattle.gix_object.specs.declared.commit.Token.TheVariants as token
use Rattle.gix_object.specs.declared.commit.Signature.{Signature}
use Rattle.gix_object.specs.declared.commit.CommitRefIter.{CommitRefIter}
use Rattle.gix_object.specs.CommitItems.{Item, Tree, Parent, Author, Committer, Rest, Place, AtTree, AtParents, AtCommitter, AtRest, AtEnd, Front, Found, Faulty, Ended, items_from}

abbrev pub place_of : State → Place
place_of state.Tree = AtTree
place_of state.Parents = AtParents
place_of state.Committer = AtCommitter
place_of state.Rest = AtRest
place_of state.End = AtEnd

-- the items that the iterator has not given yet
unfoldable pub commit_items_left : CommitRefIter → List (Result Item Error)
commit_items_left it = items_from it.kind (place_of it.place) it.bytes.now

-- a token, seen without where its bytes lie in memory
abbrev pub item_of : Token → Item
item_of (token.Tree id) = Tree id
item_of (token.Parent id) = Parent id
item_of (token.Author line) = Author line.now
item_of (token.Committer signature) = Committer signature.bytes.now
item_of (token.Rest bytes) = Rest bytes.now

abbrev pub item_shown : Result Token Error → Result Item Error
item_shown (Ok t) = Ok (item_of t)
item_shown (Err e) = Err e

-- the id where the first item is a tree, its fault where it is one, or else that the tree is missing
abbrev pub first_tree : List (Result Item Error) → Result ObjectId Error
first_tree [] = Err fault.Missing
first_tree (Err e ∷ items) = Err e
first_tree (Ok (Tree i) ∷ items) = Ok i
first_tree (Ok (Parent i) ∷ items) = Err fault.Missing
first_tree (Ok (Author line) ∷ items) = Err fault.Missing
first_tree (Ok (Committer signature) ∷ items) = Err fault.Missing
first_tree (Ok (Rest bytes) ∷ items) = Err fault.Missing

-- the first committer or fault among the items, or that the committer is missing
abbrev pub first_committer : List (Result Item Error) → Result (List ℕ) Error
first_committer [] = Err fault.Missing
first_committer (Err e ∷ items) = Err e
first_committer (Ok (Tree i) ∷ items) = first_committer items
first_committer (Ok (Parent i) ∷ items) = first_committer items
first_committer (Ok (Author line) ∷ items) = first_committer items
first_committer (Ok (Committer signature) ∷ items) = Ok signature
first_committer (Ok (Rest bytes) ∷ items) = first_committer items

-- the next parent, behind the tree where that comes first; or that a fault comes, or neither
abbrev pub next_parent : List (Result Item Error) → Result (Option ObjectId) Error
next_parent [] = Ok None
next_parent (Err e ∷ items) = Err e
next_parent (Ok (Tree i) ∷ items) = next_parent items
next_parent (Ok (Parent i) ∷ items) = Ok (Some i)
next_parent (Ok (Author line) ∷ items) = Ok None
next_parent (Ok (Committer signature) ∷ items) = Ok None
next_parent (Ok (Rest bytes) ∷ items) = Ok None

-- the items behind it: without the author, but with what may come after that
abbrev pub behind_parent : List (Result Item Error) → List (Result Item Error)
behind_parent [] = []
behind_parent (Err e ∷ items) = items
behind_parent (Ok (Tree i) ∷ items) = behind_parent items
behind_parent (Ok (Parent i) ∷ items) = items
behind_parent (Ok (Author line) ∷ items) = items
behind_parent (Ok (Committer signature) ∷ items) = Ok (Committer signature) ∷ items
behind_parent (Ok (Rest bytes) ∷ items) = Ok (Rest bytes) ∷ items

abbrev pub signature_shown : Result Signature Error → Result (List ℕ) Error
signature_shown (Ok s) = Ok s.bytes.now
signature_shown (Err e) = Err e

-- what taking what is at the front answers, and how it leaves the iterator
abbrev pub IsTaken : CommitRefIter → Front → Option (Result Token Error) → CommitRefIter → Type 0
IsTaken it front None then = (Ended ≡ front) × (then ≡ it)
IsTaken it front (Some (Ok t)) then = (Found (item_of t) (place_of then.place) then.bytes.now ≡ front) × (then.kind ≡ it.kind)
IsTaken it front (Some (Err e)) then = (Faulty e ≡ front) × (place_of then.place ≡ AtEnd)

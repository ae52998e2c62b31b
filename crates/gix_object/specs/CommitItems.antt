-- The items of a commit object, read from the front of any bytes (gitformat-commit: the header lines `tree`, `parent`,
-- `author` and `committer`, and what follows).
use Rattle.std.specs.Prelude.{◌≡◌, ℕ, suc, zero, ◌*◌, ◌==◌, List, [], ◌∷◌, ◌++◌, length, take, drop, codes, Option, Some, None, Result, Ok, Err, if◌then◌else◌}
use Rattle.gix_hash.specs.declared.Kind.{Kind}
use Rattle.gix_hash.specs.declared.ObjectId.{ObjectId}
use Rattle.gix_object.specs.declared.decode.Error.{Error}
use Rattle.gix_object.specs.declared.decode.Error.TheVariants as fault
use Rattle.gix_hash.specs.Id.{id_len, id_of_hex}

pub data Item : Type 0 where
  Tree : (id : ObjectId) → Item
  Parent : (id : ObjectId) → Item
  Author : (line : List ℕ) → Item
  Committer : (signature : List ℕ) → Item
  Rest : (bytes : List ℕ) → Item

-- which item may come next
pub data Place : Type 0 where
  AtTree : Place
  AtParents : Place
  AtCommitter : Place
  AtRest : Place
  AtEnd : Place

-- what is at the front of the bytes that are left: an item with the place and the bytes behind it, a fault, or the end
pub data Front : Type 0 where
  Found : (item : Item) (place : Place) (rest : List ℕ) → Front
  Faulty : (error : Error) → Front
  Ended : Front

-- what follows a word at the front of the bytes
abbrev pub after_word : List ℕ → List ℕ → Option (List ℕ)
after_word [] bytes = Some bytes
after_word (w ∷ ws) [] = None
after_word (w ∷ ws) (b ∷ bs) = if b == w then after_word ws bs else None

abbrev pub with_byte : ℕ → Option (List ℕ × List ℕ) → Option (List ℕ × List ℕ)
with_byte b None = None
with_byte b (Some r) = Some (b ∷ r.0, r.1)

-- the bytes before the first newline, and the bytes behind it
abbrev pub line_at : List ℕ → Option (List ℕ × List ℕ)
line_at [] = None
line_at (b ∷ bs) = if b == 10 then Some ([], bs) else with_byte b (line_at bs)

-- an id in hex and a newline
abbrev pub id_before_newline : Option ObjectId → List ℕ → Option (ObjectId × List ℕ)
id_before_newline None rest = None
id_before_newline (Some i) [] = None
id_before_newline (Some i) (b ∷ rest) = if b == 10 then Some (i, rest) else None

abbrev pub id_line_at : Kind → Option (List ℕ) → Option (ObjectId × List ℕ)
id_line_at k None = None
id_line_at k (Some bytes) = id_before_newline (id_of_hex k (take (2 * id_len k) bytes)) (drop (2 * id_len k) bytes)

-- the line that begins with a word
abbrev pub text_line_at : Option (List ℕ) → Option (List ℕ × List ℕ)
text_line_at None = None
text_line_at (Some bytes) = line_at bytes

abbrev pub tree_front : Option (ObjectId × List ℕ) → Front
tree_front None = Faulty fault.Tree
tree_front (Some r) = Found (Tree r.0) AtParents r.1

abbrev pub author_front : Option (List ℕ × List ℕ) → Front
author_front None = Faulty fault.Author
author_front (Some r) = Found (Author r.0) AtCommitter r.1

abbrev pub committer_front : Option (List ℕ × List ℕ) → Front
committer_front None = Faulty fault.Committer
committer_front (Some r) = Found (Committer r.0) AtRest r.1

-- where the word `parent ` is at the front, an id and a newline have to follow
abbrev pub parent_front : Kind → List ℕ → Option (List ℕ) → Option (ObjectId × List ℕ) → Front
parent_front k bytes None _ = author_front (text_line_at (after_word (codes "author ") bytes))
parent_front k bytes (Some rest) None = Faulty fault.Parent
parent_front k bytes (Some rest) (Some r) = Found (Parent r.0) AtParents r.1

abbrev pub front : Kind → Place → List ℕ → Front
front k AtTree [] = Ended
front k AtTree (b ∷ bs) = tree_front (id_line_at k (after_word (codes "tree ") (b ∷ bs)))
front k AtParents [] = Ended
front k AtParents (b ∷ bs) = let word = after_word (codes "parent ") (b ∷ bs) in parent_front k (b ∷ bs) word (id_line_at k word)
front k AtCommitter [] = Ended
front k AtCommitter (b ∷ bs) = committer_front (text_line_at (after_word (codes "committer ") (b ∷ bs)))
front k AtRest [] = Ended
front k AtRest (b ∷ bs) = Found (Rest (b ∷ bs)) AtEnd []
front k AtEnd bytes = Ended

abbrev pub unfolded : Front → (Place → List ℕ → List (Result Item Error)) → List (Result Item Error)
unfolded Ended more = []
unfolded (Faulty e) more = Err e ∷ []
unfolded (Found item place rest) more = Ok item ∷ more place rest

-- the items from a place on, at most n of them
abbrev pub items_within : ℕ → Kind → Place → List ℕ → List (Result Item Error)
items_within zero k place bytes = []
items_within (suc n) k place bytes = unfolded (front k place bytes) (items_within n k)

-- the items from a place on: each takes a byte at least
abbrev pub items_from : Kind → Place → List ℕ → List (Result Item Error)
items_from k place bytes = items_within (length bytes) k place bytes

-- the items of a commit's bytes: tokens, and at most one fault, which is the last
abbrev pub commit_items : Kind → List ℕ → List (Result Item Error)
commit_items k bytes = items_from k AtTree bytes

-- a fault is the last item
abbrev pub FaultsEnd : Type 0
FaultsEnd = (k : Kind) (bytes : List ℕ) (before behind : List (Result Item Error)) (e : Error) → commit_items k bytes ≡ before ++ Err e ∷ behind → behind ≡ []

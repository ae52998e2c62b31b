-- The parents that the texts of commits name.
use Rattle.std.specs.Prelude.{List, [], ◌∷◌, Option, Some, None, Result, Ok, Err, ℕ}
use Rattle.gix_hash.specs.declared.ObjectId.{ObjectId}
use Rattle.gix_object.specs.declared.decode.Error.{Error as DecodeError}
use Rattle.gix_object.specs.CommitItems.{Item, Tree, Parent, Author, Committer, Rest, commit_items}
use Rattle.gix_revwalk.specs.declared.Parents.{Parents}
use Rattle.gix_revwalk.specs.declared.Parents.TheVariants as mode
use Rattle.std.specs.FinMap as map_of
use Rattle.gix_object.specs.declared.Kind.{Kind}
use Rattle.gix_object.specs.declared.Kind.TheVariants as object
use Rattle.gix_hash.specs.Id.{kind_of}
use Rattle.gix_object.specs.Object.{Object, Objects}

-- The parents read from a commit's items: up to the first item behind them, under `First` up to the first parent.
-- And the fault that ended the reading.
abbrev pub with_parent : ObjectId → List ObjectId × Option DecodeError → List ObjectId × Option DecodeError
with_parent i r = (i ∷ r.0, r.1)

abbrev pub scanned : Parents → List (Result Item DecodeError) → List ObjectId × Option DecodeError
scanned m [] = ([], None)
scanned m (Err e ∷ items) = ([], Some e)
scanned m (Ok (Tree i) ∷ items) = scanned m items
scanned mode.All (Ok (Parent i) ∷ items) = with_parent i (scanned mode.All items)
scanned mode.First (Ok (Parent i) ∷ items) = (i ∷ [], None)
scanned m (Ok (Author line) ∷ items) = ([], None)
scanned m (Ok (Committer signature) ∷ items) = ([], None)
scanned m (Ok (Rest bytes) ∷ items) = ([], None)

abbrev pub text_parents_of_kind : ObjectId → Kind → List ℕ → List ObjectId
text_parents_of_kind i object.Commit bytes = (scanned mode.All (commit_items (kind_of i) bytes)).0
text_parents_of_kind i object.Tree bytes = []
text_parents_of_kind i object.Blob bytes = []
text_parents_of_kind i object.Tag bytes = []

-- the parents that a commit's text names, also where it breaks off behind them; an object of another kind names none
abbrev pub text_parents : ObjectId → Object → List ObjectId
text_parents i object = text_parents_of_kind i object.kind object.bytes

abbrev pub next_in : ObjectId → Option Object → List ObjectId
next_in i None = []
next_in i (Some object) = text_parents i object

-- the parents that a stored commit's text names, also where it breaks off behind them
abbrev pub text_next : Objects → ObjectId → List ObjectId
text_next objects i = next_in i (map_of.get objects i)

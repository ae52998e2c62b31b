-- What a clause reads of a tree's entries as they are lent, and of the iterator over them, without where they lie in memory.
use Rattle.std.specs.Prelude.{◌≡◌, ℕ, ◌-◌, List, [], length, drop, Option, Result, Ok, Err, IfSome, OnErr}
use Rattle.std.specs.Iterator.{YieldsFirstBy}
use Rattle.bstr.specs.BStr.{bstr_bytes}
use Rattle.gix_hash.specs.declared.Kind.{Kind}
use Rattle.gix_object.specs.declared.decode.Error.{Error}
use Rattle.gix_object.specs.declared.tree.EntryRef.{EntryRef}
use Rattle.gix_object.specs.declared.tree.TreeRefIter.{TreeRefIter}
use Rattle.gix_object.specs.TreeItems.{TreeEntry, tree_items}

-- an entry that is lent
abbrev pub entry_of : EntryRef → TreeEntry
entry_of e = record { mode = e.mode.value; name = bstr_bytes e.filename; id = e.oid }

abbrev pub item_of : Result EntryRef Error → Result TreeEntry Error
item_of (Ok e) = Ok (entry_of e)
item_of (Err why) = Err why

-- the bytes that are not read yet
abbrev pub bytes_left : TreeRefIter → List ℕ
bytes_left it = it.rest.now

-- the kind of the ids in the tree
abbrev pub id_kind : TreeRefIter → Kind
id_kind it = it.kind

-- what the iterator still gives
abbrev pub items_left : TreeRefIter → List (Result TreeEntry Error)
items_left it = tree_items (id_kind it) (bytes_left it)

-- the last bytes of buf are these
abbrev pub IsEndOf : List ℕ → List ℕ → Type 0
IsEndOf bytes buf = drop (length buf - length bytes) buf ≡ bytes

-- A call of `next` gave the first of the items that were left, or `None` where none was. The bytes that it left are the end
-- of the bytes before, and none behind a fault, with ids of the same kind.
pub record ReadsNext (old : TreeRefIter) (result : Option (Result EntryRef Error)) (new : TreeRefIter) : Type 0 where
  pub item : YieldsFirstBy item_of items_left old result new
  pub end : IsEndOf (bytes_left new) (bytes_left old)
  pub kind : id_kind new ≡ id_kind old
  pub faulty : IfSome result (λ item. OnErr item (bytes_left new ≡ []))

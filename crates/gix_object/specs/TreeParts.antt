-- What the readers of a tree's parts return, without where it lies in memory.
use Rattle.std.specs.Prelude.{◌≡◌, ℕ, List, Result, Ok, Err}
use Rattle.std.specs.Borrow.{Bor}
use Rattle.gix_hash.specs.declared.Kind.{Kind}
use Rattle.gix_object.specs.declared.decode.Error.{Error}
use Rattle.gix_object.specs.declared.tree.EntryRef.{EntryRef}
use Rattle.gix_object.specs.TreeItems.{TreeFront, Found, Faulty, mode_at, entry_front}
use Rattle.gix_object.specs.TreeRefIter.{entry_of}

abbrev pub front_of : Result (EntryRef × Bor (List ℕ)) Error → TreeFront
front_of (Ok r) = Found (entry_of r.0) r.1.now
front_of (Err why) = Faulty why

abbrev pub IsFront : Kind → List ℕ → Result (EntryRef × Bor (List ℕ)) Error → Type 0
IsFront k bytes result = front_of result ≡ entry_front k (mode_at bytes)

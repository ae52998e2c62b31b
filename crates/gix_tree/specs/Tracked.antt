-- A recorder and what it tracks.
use Rattle.std.specs.Prelude.{◌≡◌, ℕ, List, [], ◌∷◌, ◌++◌, Option, Some}
use Rattle.bstr.specs.Owned.{bstring_bytes}
use Rattle.gix_object.specs.TreeItems.{TreeEntry}
use Rattle.gix_tree.specs.declared.recorder.Entry.{Entry}
use Rattle.gix_tree.specs.declared.recorder.Location.{Location}
use Rattle.gix_tree.specs.declared.recorder.Location.TheVariants.{Path}
use Rattle.gix_tree.specs.Delegate.{Call}
use Rattle.gix_tree.specs.Recorder.{Record, Recorded, Records, fresh, with_name, with_record}

-- an entry, as it was recorded
abbrev pub record_of_entry : Entry → Record
record_of_entry e = record { mode = e.mode.value; path = bstring_bytes e.filepath; id = e.oid }

pub record Tracked : Type 0 where
  pub location : Option Location
  pub held : Recorded

abbrev pub tracked : Option Location → List ℕ → List (List ℕ) → List Record → Tracked
tracked location path queue records = record { location = location; held = record { path = path; queue = queue; records = records } }

-- the path with a name behind it is the current one, and is queued
abbrev pub queued_with : List ℕ → Tracked → Tracked
queued_with name r = let path = with_name r.held.path name in tracked r.location path (r.held.queue ++ path ∷ []) r.held.records

-- the entry is recorded
abbrev pub recorded_with : TreeEntry → Tracked → Tracked
recorded_with e r = record r { held = with_record r.held e }

-- a recorder that was just made
abbrev pub fresh_recorder : Tracked
fresh_recorder = record { location = Some Path; held = fresh }

-- one call on a recorder
abbrev pub Tracks : Tracked → Call → Tracked → Type 0
Tracks old call new = (new.location ≡ old.location) × Records old.location old.held call new.held

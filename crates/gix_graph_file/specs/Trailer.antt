-- The hash at the end of a commit-graph file.
use Rattle.std.specs.Prelude.{ℕ, ◌-◌, ◌==◌, nat_lt, Bool, false, List, length, take, drop, slice_index, if◌then◌else◌}
use Rattle.std.specs.Str.{bytes_eq}
use Rattle.sha1.specs.Sha1.{sha1}
use Rattle.sha2.specs.Sha256.{sha256}

-- the last `size` bytes are the hash of those before
abbrev pub ends_with_hash : ℕ → (List ℕ → List ℕ) → List ℕ → Bool
ends_with_hash size hash file = bytes_eq (drop (length file - size) file) (hash (take (length file - size) file))

-- the head says which hash it is
unfoldable pub has_its_hash : List ℕ → Bool
has_its_hash file =
    if nat_lt (length file) 8 then false
    else if slice_index file 5 == 1 then ends_with_hash 20 sha1 file
    else if slice_index file 5 == 2 then ends_with_hash 32 sha256 file
    else false

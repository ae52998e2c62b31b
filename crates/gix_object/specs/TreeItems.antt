-- The entries of a tree object, read from the front of any bytes (a mode in octal digits, a space, a name, a NUL, an id).
use Rattle.std.specs.Prelude.{ℕ, suc, zero, ◌+◌, ◌*◌, ◌-◌, ◌==◌, ◌&&◌, nat_le, nat_lt, List, [], ◌∷◌, length, take, drop, position, Bool, Option, Some, None, Result, Ok, Err, if◌then◌else◌, bit_and}
use Rattle.gix_hash.specs.declared.Kind.{Kind}
use Rattle.gix_hash.specs.declared.ObjectId.{ObjectId}
use Rattle.gix_object.specs.declared.decode.Error.{Error}
use Rattle.gix_object.specs.declared.decode.Error.TheVariants as fault
use Rattle.gix_hash.specs.Id.{id_len, id_of}

-- an entry without where it lies in memory
pub record TreeEntry : Type 0 where
  pub mode : ℕ
  pub name : List ℕ
  pub id : ObjectId

-- a tree by the kind of file in its mode
abbrev pub is_tree : ℕ → Bool
is_tree mode = bit_and mode 0o170000 == 0o040000

-- what is at the front of the bytes that are left: an entry with the bytes behind it, a fault, or the end
pub data TreeFront : Type 0 where
  Found : (entry : TreeEntry) (rest : List ℕ) → TreeFront
  Faulty : (error : Error) → TreeFront
  Ended : TreeFront

abbrev pub parted_at : List ℕ → Option ℕ → Option (List ℕ × List ℕ)
parted_at bytes None = None
parted_at bytes (Some i) = Some (take i bytes, drop (i + 1) bytes)

-- the bytes before the first byte b, and the bytes behind it
abbrev pub parted : ℕ → List ℕ → Option (List ℕ × List ℕ)
parted b bytes = parted_at bytes (position (λ c. c == b) bytes)

abbrev pub is_octal : ℕ → Bool
is_octal b = nat_le 48 b && nat_le b 55

-- the number that octal digits say, behind digits that said n
abbrev pub octal_from : ℕ → List ℕ → Option ℕ
octal_from n [] = Some n
octal_from n (b ∷ bs) = if is_octal b then octal_from (8 * n + (b - 48)) bs else None

-- the mode that 1 to 6 octal digits say
abbrev pub mode_of : List ℕ → Option ℕ
mode_of digits = if nat_le 1 (length digits) && nat_le (length digits) 6 then octal_from 0 digits else None

abbrev pub mode_before : Option ℕ → List ℕ → Option (ℕ × List ℕ)
mode_before None rest = None
mode_before (Some mode) rest = Some (mode, rest)

abbrev pub mode_parted : Option (List ℕ × List ℕ) → Option (ℕ × List ℕ)
mode_parted None = None
mode_parted (Some p) = mode_before (mode_of p.0) p.1

-- 1 to 6 octal digits before a space: the mode, and the bytes behind the space
abbrev pub mode_at : List ℕ → Option (ℕ × List ℕ)
mode_at bytes = mode_parted (parted 32 bytes)

-- the name, which is before the first NUL, and the bytes behind the NUL
abbrev pub name_at : List ℕ → Option (List ℕ × List ℕ)
name_at bytes = parted 0 bytes

-- the id, and the bytes behind it
abbrev pub id_at : Kind → List ℕ → Option (ObjectId × List ℕ)
id_at k bytes = if nat_lt (length bytes) (id_len k) then None else Some (id_of k (take (id_len k) bytes), drop (id_len k) bytes)

abbrev pub named_front : ℕ → List ℕ → Option (ObjectId × List ℕ) → TreeFront
named_front mode name None = Faulty fault.EntryId
named_front mode name (Some r) = Found (record { mode = mode; name = name; id = r.0 }) r.1

abbrev pub moded_front : Kind → ℕ → Option (List ℕ × List ℕ) → TreeFront
moded_front k mode None = Faulty fault.EntryName
moded_front k mode (Some r) = named_front mode r.0 (id_at k r.1)

-- an entry at the front, or the first of its parts that is not there
abbrev pub entry_front : Kind → Option (ℕ × List ℕ) → TreeFront
entry_front k None = Faulty fault.EntryMode
entry_front k (Some r) = moded_front k r.0 (name_at r.1)

abbrev pub tree_front : Kind → List ℕ → TreeFront
tree_front k [] = Ended
tree_front k (b ∷ bs) = entry_front k (mode_at (b ∷ bs))

abbrev pub unfolded : TreeFront → (List ℕ → List (Result TreeEntry Error)) → List (Result TreeEntry Error)
unfolded Ended more = []
unfolded (Faulty e) more = Err e ∷ []
unfolded (Found entry rest) more = Ok entry ∷ more rest

-- the entries at the front, at most n of them
abbrev pub entries_within : ℕ → Kind → List ℕ → List (Result TreeEntry Error)
entries_within zero k bytes = []
entries_within (suc n) k bytes = unfolded (tree_front k bytes) (entries_within n k)

-- the entries of a tree's bytes, each of which takes a byte at least, and at most one fault, which is the last
abbrev pub tree_items : Kind → List ℕ → List (Result TreeEntry Error)
tree_items k bytes = entries_within (length bytes) k bytes

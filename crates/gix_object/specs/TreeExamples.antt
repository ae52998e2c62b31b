-- Worked examples of the items of trees.
use Rattle.std.specs.Prelude.{◌≡◌, ℕ, List, [], ◌∷◌, ◌++◌, replicate, codes, Ok, Err, true, false, refl}
use Rattle.gix_hash.specs.declared.Kind.TheVariants as kind
use Rattle.gix_hash.specs.declared.ObjectId.TheVariants as id
use Rattle.gix_object.specs.declared.decode.Error.TheVariants as fault
use Rattle.gix_object.specs.TreeItems.{TreeEntry, is_tree, tree_items}

-- an entry of a file named x, whose id has this many bytes, each of them 2
abbrev pub entry_bytes : ℕ → List ℕ
entry_bytes n = codes "100644 x" ++ 0 ∷ replicate n 2

abbrev pub file_x : TreeEntry
file_x = record { mode = 0o100644; name = codes "x"; id = id.Sha1 (replicate 20 2) }

pub no_entries : tree_items kind.Sha1 [] ≡ []
no_entries = refl

pub one_entry : tree_items kind.Sha1 (entry_bytes 20) ≡ Ok file_x ∷ []
one_entry = refl

pub long_id : tree_items kind.Sha256 (entry_bytes 32) ≡ Ok (record { mode = 0o100644; name = codes "x"; id = id.Sha256 (replicate 32 2) }) ∷ []
long_id = refl

pub cut_in_id : tree_items kind.Sha1 (entry_bytes 19) ≡ Err fault.EntryId ∷ []
cut_in_id = refl

-- the entries before a fault are read, and nothing behind it
pub fault_behind_entry : tree_items kind.Sha1 (entry_bytes 20 ++ codes "100644" ++ entry_bytes 20) ≡ Ok file_x ∷ Err fault.EntryMode ∷ []
fault_behind_entry = refl

pub no_name : tree_items kind.Sha1 (codes "100644 x") ≡ Err fault.EntryName ∷ []
no_name = refl

pub no_mode : tree_items kind.Sha1 (codes " x" ++ 0 ∷ replicate 20 2) ≡ Err fault.EntryMode ∷ []
no_mode = refl

pub mode_too_long : tree_items kind.Sha1 (codes "1006444 x") ≡ Err fault.EntryMode ∷ []
mode_too_long = refl

-- a name may be empty or hold a `/`, and a mode may begin with zeros
pub lenient : tree_items kind.Sha1 (codes "040000 a/b" ++ 0 ∷ replicate 20 2 ++ codes "7 " ++ 0 ∷ replicate 20 2)
    ≡ Ok (record { mode = 0o40000; name = codes "a/b"; id = id.Sha1 (replicate 20 2) })
    ∷ Ok (record { mode = 7; name = []; id = id.Sha1 (replicate 20 2) }) ∷ []
lenient = refl

pub directory_is_tree : is_tree 0o040000 ≡ true
directory_is_tree = refl

pub submodule_is_no_tree : is_tree 0o160000 ≡ false
submodule_is_no_tree = refl

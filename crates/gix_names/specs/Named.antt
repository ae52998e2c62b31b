-- The id that an object has: the hash of its kind, a space, the number of its bytes in decimal digits, a byte 0, and its bytes.
use Rattle.std.specs.Prelude.{◌≡◌, ◌≢◌, ◌⊎◌, ◌<◌, ◌^◌, ℕ, List, ◌∷◌, ◌++◌, length, codes, decimal}
use Rattle.sha1.specs.Sha1.{sha1}
use Rattle.sha2.specs.Sha256.{sha256}
use Rattle.gix_hash.specs.declared.Kind.{Kind as HashKind}
use Rattle.gix_hash.specs.declared.Kind.TheVariants as hash
use Rattle.gix_hash.specs.declared.ObjectId.{ObjectId}
use Rattle.gix_hash.specs.Id.{kind_of, id_of}
use Rattle.gix_object.specs.declared.Kind.{Kind}
use Rattle.gix_object.specs.declared.Kind.TheVariants as kind

abbrev pub kind_word : Kind → List ℕ
kind_word kind.Tree = codes "tree"
kind_word kind.Blob = codes "blob"
kind_word kind.Commit = codes "commit"
kind_word kind.Tag = codes "tag"

-- what is hashed
abbrev pub name_text : Kind → List ℕ → List ℕ
name_text object bytes = kind_word object ++ 32 ∷ (decimal (length bytes) ++ 0 ∷ bytes)

-- ids of 20 bytes are by SHA-1, and ids of 32 by SHA-256
abbrev pub hash_of : HashKind → List ℕ → List ℕ
hash_of hash.Sha1 text = sha1 text
hash_of hash.Sha256 text = sha256 text

-- the id of this kind that an object has
abbrev pub name_of : HashKind → Kind → List ℕ → ObjectId
name_of by object bytes = id_of by (hash_of by (name_text object bytes))

-- this id is the one that the object has
abbrev pub IsNamed : ObjectId → Kind → List ℕ → Type 0
IsNamed i object bytes = i ≡ name_of (kind_of i) object bytes

-- two texts of one hash
abbrev pub Collide : HashKind → List ℕ → List ℕ → Type 0
Collide by x y = (x ≢ y) × (hash_of by x ≡ hash_of by y)

-- two objects of one id are one object, or what is hashed of them are two texts of one hash
abbrev pub NamesAgree : Type 0
NamesAgree =
    (i : ObjectId) (k l : Kind) (a b : List ℕ) → length a < 2 ^ 64 → length b < 2 ^ 64 → IsNamed i k a → IsNamed i l b
    → ((k ≡ l) × (a ≡ b)) ⊎ Collide (kind_of i) (name_text k a) (name_text l b)

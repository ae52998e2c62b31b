-- The record at the front of a text, read from the left.
use Rattle.std.specs.Prelude.{ℕ, ◌==◌, List, [], ◌∷◌, take, drop, Option, Some, None, if◌then◌else◌, codes}
use Rattle.std.specs.Result.{result_ok}
use Rattle.std.specs.Str.{bytes_eq}
use Rattle.gix_object.specs.CommitItems.{with_byte}
use Rattle.gix_object.specs.declared.Kind.{Kind}
use Rattle.gix_object.specs.declared.Kind.TheVariants as kind
use Rattle.gix_hash.specs.declared.ObjectId.{ObjectId}
use Rattle.gix_hash.specs.Id.{id_from_hex}
use Rattle.gix_records.specs.Decimal.{decimal}
use Rattle.gix_records.specs.Records.{Record}
use Rattle.gix_records.specs.declared.front.Front.{Front}

-- the text before the first such byte, and the text after it
abbrev pub split_at_byte : ℕ → List ℕ → Option (List ℕ × List ℕ)
split_at_byte byte [] = None
split_at_byte byte (b ∷ bs) = if b == byte then Some ([], bs) else with_byte b (split_at_byte byte bs)

abbrev pub kind_named : List ℕ → Option Kind
kind_named word =
    if bytes_eq word (codes "commit") then Some kind.Commit
    else if bytes_eq word (codes "tree") then Some kind.Tree
    else if bytes_eq word (codes "blob") then Some kind.Blob
    else if bytes_eq word (codes "tag") then Some kind.Tag
    else None

infixl 10 ◌>>=◌
abbrev pub ◌>>=◌ : {A B : Type 0} → Option A → (A → Option B) → Option B
None >>= f = None
(Some x) >>= f = f x

-- the kind before the first space, and the text after the space
unfoldable pub front_kind : List ℕ → Option (Kind × List ℕ)
front_kind text = do
  word ← split_at_byte 32 text
  kind ← kind_named word.0
  Some (kind, word.1)

-- the id before the first space, and the text after the space
unfoldable pub front_id : List ℕ → Option (ObjectId × List ℕ)
front_id text = do
  digits ← split_at_byte 32 text
  id ← result_ok (id_from_hex digits.0)
  Some (id, digits.1)

abbrev pub split_behind : ℕ → List ℕ → List ℕ → Option (List ℕ × List ℕ)
split_behind byte bytes [] = None
split_behind byte bytes (b ∷ rest) = if b == byte then Some (bytes, rest) else None

-- n bytes, if this byte ends them, and the text after it
abbrev pub ended_at : ℕ → ℕ → List ℕ → Option (List ℕ × List ℕ)
ended_at byte n text = split_behind byte (take n text) (drop n text)

-- the record, and the text after it
unfoldable pub record_at : List ℕ → Option (Record × List ℕ)
record_at text = do
  kind ← front_kind text
  id ← front_id kind.1
  digits ← split_at_byte 10 id.1
  n ← decimal digits.0
  body ← ended_at 10 n digits.1
  Some (record { kind = kind.0; id = id.0; bytes = body.0 }, body.1)

-- a record that was found, and the text after it
abbrev pub front_shown : Front → Record × List ℕ
front_shown front = (record { kind = front.kind; id = front.id; bytes = front.bytes.now }, front.behind.now)

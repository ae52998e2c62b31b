-- What a command reads of objects: a commit whose text is none is given as one that no reader takes for a commit, so each command refuses it.
use Rattle.std.specs.Prelude.{ℕ, List, [], ◌∷◌, map, Bool, true, false, Option, Some, None}
use Rattle.std.specs.FinMap.{entries, from_sorted}
use Rattle.gix_hash.specs.declared.Kind.{Kind as HashKind}
use Rattle.gix_hash.specs.declared.ObjectId.{ObjectId}
use Rattle.gix_hash.specs.Id.{kind_of}
use Rattle.gix_object.specs.declared.decode.Error.{Error as DecodeError}
use Rattle.gix_object.specs.declared.Kind.{Kind}
use Rattle.gix_object.specs.declared.Kind.TheVariants as kind
use Rattle.gix_object.specs.CommitItems.{commit_items}
use Rattle.gix_object.specs.Object.{Object, Objects}
use Rattle.gix_revwalk.specs.declared.Parents.TheVariants as mode
use Rattle.gix_revwalk.specs.Texts.{scanned}
pub use Rattle.gix_words.specs.Printed.{is_first}
use Rattle.gix_words.specs.Words.{Request, Commits, Files, Ahead, Contained, Containing, Bases}
use Rattle.gix_words.specs.declared.words.Order.TheVariants.{Simple, Topo}

abbrev pub is_faultless : Option DecodeError → Bool
is_faultless None = true
is_faultless (Some e) = false

-- Whether the bytes of a commit are a text. They have to have a byte; and where all lines are asked for, there has to be no fault in the
-- reading of its tree and its parents.
abbrev pub is_text : (all_lines : Bool) → HashKind → List ℕ → Bool
is_text all_lines k [] = false
is_text false k (b ∷ bs) = true
is_text true k (b ∷ bs) = is_faultless (scanned mode.All (commit_items k (b ∷ bs))).1

-- these bytes, or else the one byte 0, which is no commit
abbrev pub or_zero : (are_text : Bool) → List ℕ → List ℕ
or_zero true bytes = bytes
or_zero false bytes = 0 ∷ []

abbrev pub readable_bytes : (all_lines : Bool) → ObjectId → Kind → List ℕ → List ℕ
readable_bytes all_lines i kind.Commit bytes = or_zero (is_text all_lines (kind_of i) bytes) bytes
readable_bytes all_lines i kind.Tree bytes = bytes
readable_bytes all_lines i kind.Blob bytes = bytes
readable_bytes all_lines i kind.Tag bytes = bytes

abbrev pub readable_object : (all_lines : Bool) → ObjectId → Object → Object
readable_object all_lines i o = record { kind = o.kind; bytes = readable_bytes all_lines i o.kind o.bytes }

-- the same objects, but for the bytes of commits that aren't a text
unfoldable pub readable : (all_lines : Bool) → Objects → Objects
readable all_lines objects = from_sorted (map (λ e. (e.0, readable_object all_lines e.0 e.1)) (entries objects))

-- Whether a command asks for all lines. By first parents alone a walk reads no line behind that of the first parent, so this is tested.
abbrev pub reads_all_lines : Request → Bool
reads_all_lines (Commits (Simple parents by) shown tips hidden) = is_first parents
reads_all_lines (Commits (Topo parents by) shown tips hidden) = false
reads_all_lines (Files shown tree) = false
reads_all_lines (Ahead one other) = false
reads_all_lines (Contained tip ids) = false
reads_all_lines (Containing target tips) = false
reads_all_lines (Bases one others) = false

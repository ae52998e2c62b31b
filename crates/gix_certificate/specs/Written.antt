-- A certificate as JSON.
use Rattle.std.specs.Prelude.{◌≡◌, ℕ, List, [], ◌∷◌, ◌++◌, map, codes, Option, Some, None, String, string_bytes}
use Rattle.std.specs.declared.alloc.Global.{Global}
use Rattle.hex.specs.Hex.{encode_lower}
use Rattle.sha2.specs.Sha256.{sha256}
use Rattle.serde_json.specs.Data.{Data, null, boolean, number, unsigned, string, array, object, member, no_members}
use Rattle.serde_json.specs.Read.{read}
use Rattle.serde_json.specs.View.{items_of}
use Rattle.gix_hash.specs.Id.{hex_of}
use Rattle.gix_hash.specs.declared.ObjectId.{ObjectId}
use Rattle.gix_certificate.specs.declared.digest.Digest.{Digest}
use Rattle.gix_certificate.specs.declared.record.Certificate.{Certificate}
use Rattle.gix_certificate.specs.declared.record.Lines.{Lines}
use Rattle.gix_certificate.specs.declared.record.Meaning.{Meaning}
use Rattle.gix_certificate.specs.declared.record.Meaning.TheVariants.{One, Symmetric}
use Rattle.gix_certificate.specs.declared.record.Page.{Page}
use Rattle.gix_certificate.specs.declared.record.Program.{Program}
use Rattle.gix_certificate.specs.declared.record.Revision.{Revision}
use Rattle.gix_certificate.specs.declared.record.Rows.{Rows}
use Rattle.gix_certificate.specs.declared.record.Rows.TheVariants.{Unused, Checked, Trusted, Border}

abbrev pub text_data : String Global → Data
text_data text = string (string_bytes text)

abbrev pub optional_data : Option (String Global) → Data
optional_data None = null
optional_data (Some text) = text_data text

abbrev pub digest_data : Digest → Data
digest_data digest = string (encode_lower digest.bytes)

abbrev pub id_data : ObjectId → Data
id_data id = string (hex_of id)

-- the data of each, in order
abbrev pub array_of : {A : Type 0} → (A → Data) → List A → Data
array_of data_of xs = array (items_of (map data_of xs))

abbrev pub output_data : Lines → Data
output_data output = object (
    member (codes "bytes") (number (unsigned output.bytes)) (
    member (codes "sha256") (digest_data output.sha256) no_members))

abbrev pub page_data : Page → Data
page_data page = object (
    member (codes "name") (text_data page.name) (
    member (codes "sha256") (digest_data page.sha256) no_members))

abbrev pub program_data : Program → Data
program_data program = object (
    member (codes "commit") (optional_data program.commit) (
    member (codes "proved_by") (optional_data program.proved_by) (
    member (codes "sha256") (digest_data program.sha256) (
    member (codes "version") (text_data program.version) no_members))))

abbrev pub meaning_data : Data → Meaning → Data
meaning_data word (One id is_excluded) = object (
    member (codes "excluded") (boolean is_excluded) (
    member (codes "id") (id_data id) (
    member (codes "word") word no_members)))
meaning_data word (Symmetric one other) = object (
    member (codes "id") (id_data one) (
    member (codes "other") (id_data other) (
    member (codes "word") word no_members)))

abbrev pub revision_data : Revision → Data
revision_data revision = meaning_data (text_data revision.word) revision.meaning

abbrev pub rows_word : Rows → List ℕ
rows_word Unused = codes "none"
rows_word Checked = codes "checked"
rows_word Trusted = codes "trusted"
rows_word Border = codes "border"

abbrev pub seal_data : Option Digest → Data
seal_data None = null
seal_data (Some digest) = digest_data digest

-- the members by rising names
abbrev pub certificate_data : Data → Certificate → Data
certificate_data seal certificate = object (
    member (codes "certificate") (number (unsigned 2)) (
    member (codes "lines") (array_of text_data certificate.lines.items) (
    member (codes "output") (output_data certificate.output) (
    member (codes "pages") (array_of page_data certificate.pages.items) (
    member (codes "program") (program_data certificate.program) (
    member (codes "question") (array_of text_data certificate.question.items) (
    member (codes "revisions") (array_of revision_data certificate.revisions.items) (
    member (codes "rows") (string (rows_word certificate.rows)) (
    member (codes "sha256") seal (
    member (codes "status") (number (unsigned certificate.status)) (
    member (codes "words") (array_of text_data certificate.words.items) no_members)))))))))))

-- the text is JSON that says this, no more and no less, and a newline
abbrev pub IsLineOf : Data → List ℕ → Type 0
IsLineOf said text = (json : List ℕ) × (text ≡ json ++ 10 ∷ []) × (read json ≡ Some said)

-- the text says what the certificate says, and its digest is that of a text that says the same with null in the digest's place
abbrev pub IsTextOf : Certificate → List ℕ → Type 0
IsTextOf certificate text = (bare : List ℕ)
    × IsLineOf (certificate_data null certificate) bare
    × IsLineOf (certificate_data (string (encode_lower (sha256 bare))) certificate) text

-- both certificates say the same of the output, the words, the question, the revisions, the program and the pages
abbrev pub SaysTheSame : Certificate → Certificate → Type 0
SaysTheSame a b =
    (a.status ≡ b.status)
    × (a.output.bytes ≡ b.output.bytes)
    × (digest_data a.output.sha256 ≡ digest_data b.output.sha256)
    × (rows_word a.rows ≡ rows_word b.rows)
    × (map text_data a.words.items ≡ map text_data b.words.items)
    × (map text_data a.lines.items ≡ map text_data b.lines.items)
    × (map text_data a.question.items ≡ map text_data b.question.items)
    × (map revision_data a.revisions.items ≡ map revision_data b.revisions.items)
    × (program_data a.program ≡ program_data b.program)
    × (map page_data a.pages.items ≡ map page_data b.pages.items)

-- two certificates with one text say the same
abbrev pub OneTextSaysOne : Type 0
OneTextSaysOne = (a b : Certificate) (text : List ℕ) → IsTextOf a text → IsTextOf b text → SaysTheSame a b

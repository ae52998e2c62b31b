-- How deep a certificate nests.
use Rattle.std.proofs.Common.{◌≤◌, ℕ, List, [], ◌∷◌, map, Option, Some, None, String, arith}
use Rattle.std.specs.declared.alloc.Global.{Global}
use Rattle.std.proofs.Math.Nat.{max-le}
use Rattle.serde_json.specs.Data.{Data, Members, depth, items_depth, members_depth}
use Rattle.serde_json.specs.Read.{max_depth}
use Rattle.serde_json.specs.View.{items_of}
use Rattle.gix_certificate.specs.declared.digest.Digest.{Digest}
use Rattle.gix_certificate.specs.declared.record.Certificate.{Certificate}
use Rattle.gix_certificate.specs.declared.record.Meaning.{Meaning}
use Rattle.gix_certificate.specs.declared.record.Meaning.TheVariants.{One, Symmetric}
use Rattle.gix_certificate.specs.declared.record.Page.{Page}
use Rattle.gix_certificate.specs.declared.record.Program.{Program}
use Rattle.gix_certificate.specs.Written.{certificate_data, optional_data, page_data, program_data, meaning_data, revision_data, seal_data, text_data}

items_nest : {A : Type 0} (k : ℕ) (data_of : A → Data) → ((x : A) → depth (data_of x) ≤ k) → (xs : List A) → items_depth (items_of (map data_of xs)) ≤ k
items_nest k data_of each [] = omega arith
items_nest k data_of each (x ∷ xs) = max-le (each x) (items_nest k data_of each xs)

optional_nests : (text : Option (String Global)) → depth (optional_data text) ≤ 0
optional_nests None = omega arith
optional_nests (Some text) = omega arith

program_nests : (program : Program) → depth (program_data program) ≤ 1
program_nests program =
    let commit = optional_nests program.commit in
    let proved_by = optional_nests program.proved_by in
    omega arith

meaning_nests : (word : Data) → depth word ≤ 0 → (meaning : Meaning) → depth (meaning_data word meaning) ≤ 1
meaning_nests word flat (One id is_excluded) = omega arith
meaning_nests word flat (Symmetric one other) = omega arith

pub seal_is_flat : (seal : Option Digest) → depth (seal_data seal) ≤ 0
seal_is_flat None = omega arith
seal_is_flat (Some digest) = omega arith

pub certificate_nests : (seal : Data) → depth seal ≤ 0 → (certificate : Certificate) → depth (certificate_data seal certificate) ≤ max_depth
certificate_nests seal flat certificate =
    let pages = items_nest 1 page_data (λ page. omega arith) certificate.pages.items in
    let revisions = items_nest 1 revision_data (λ revision. meaning_nests (text_data revision.word) (omega arith) revision.meaning) certificate.revisions.items in
    let words = items_nest 0 text_data (λ word. omega arith) certificate.words.items in
    let lines = items_nest 0 text_data (λ line. omega arith) certificate.lines.items in
    let question = items_nest 0 text_data (λ word. omega arith) certificate.question.items in
    let program = program_nests certificate.program in
    omega arith

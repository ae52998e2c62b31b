-- What it is good for that each file of a chain was compared with the commits: in one run or in several, and perhaps above other files.
use Rattle.std.specs.Prelude.{◌≡◌, ◌≢◌, ℕ, List, [], take, All, Option, Some, Contains, IsTrue}
use Rattle.gix_commitgraph.specs.Packed.{AreBytes}
use Rattle.gix_graph_file.specs.Trailer.{has_its_hash}
use Rattle.gix_graph_verify.specs.Verified.{IsVerified}
use Rattle.gix_statement.specs.WholeStatement.{AreNamed, InEach, Objects, Serves}
use Rattle.gix_graph_pages.specs.GraphPages.{AnswersOver}
use Rattle.gix_graph_pages.specs.NamedBelow.{AreNamedBelow, HaveAll, own_hash}
use Rattle.gix_commands.specs.Pages.{page_objects}
use Rattle.gix_checked_graph.specs.Checked.{HasAllOf}

-- A file has passed: `verify` found no difference in files of which it is one. The lowest of these, so many, weren't compared then: each had
-- passed before. All are among the files that were seen, and the objects have those that they were compared with.
pub data HasPassed (seen : List (List ℕ)) (objects : Objects) : List ℕ → Type 0 where
  among : (files : List (List ℕ)) (passed : ℕ) → All AreBytes files → ((file : List ℕ) → Contains files file → Contains seen file)
      → (verified : IsVerified files passed) → HasAllOf objects (page_objects verified.objects)
      → ((file : List ℕ) → Contains (take passed files) file → HasPassed seen objects file)
      → (file : List ℕ) → Contains files file → HasPassed seen objects file

-- Two different files end with one hash, and each with that of its other bytes: so two texts have one SHA-1, or one SHA-256.
abbrev pub HashClash : (seen : List (List ℕ)) → Type 0
HashClash seen = (one : List ℕ) × (other : List ℕ) × Contains seen one × Contains seen other × (one ≢ other)
    × IsTrue (has_its_hash one) × IsTrue (has_its_hash other) × (own_hash one ≡ own_hash other)

-- Lines that were written over pages of files are right, without any row, if each file has passed, and names those below it as far as its pages
-- show it: of all objects that have those that the run read and those that the files were compared with. Unless two of the files that were
-- seen have one hash, or two different objects one id.
abbrev pub PassedAnswers : Type 0
PassedAnswers = (seen files : List (List ℕ)) (read objects : Objects) (pages : List (List (Option (List ℕ)))) (words : List (List ℕ)) (lines : List ℕ)
    → (HashClash seen → ⊥) → AreNamed objects → ((file : List ℕ) → Contains files file → HasPassed seen objects file)
    → HaveAll pages files → AreNamedBelow pages → AnswersOver read words pages lines → HasAllOf objects read
    → InEach objects [] (λ parents time. Serves objects [] parents time (Some []) (Some lines) words)

-- What it is good for that git's commit-graph, one file or a chain, was compared with the commits, and no difference was found.
use Rattle.std.specs.Prelude.{◌≡◌, ◌≢◌, ℕ, List, [], map, take, All, AllPairs, Option, Some, None, Contains}
use Rattle.gix_hash.specs.declared.ObjectId.{ObjectId}
use Rattle.gix_commitgraph.specs.Packed.{AreBytes}
use Rattle.gix_graph_verify.specs.Verified.{IsVerified}
use Rattle.gix_statement.specs.WholeStatement.{AreNamed, Clash, InEach, IsText, Objects, Row, Serves}
use Rattle.gix_graph_pages.specs.GraphPages.{AnswersOver, AreSoundLayers, HaveFiles, Layer, all_rows}
use Rattle.gix_commands.specs.Pages.{page_objects}

-- The rows of the layers are in order and sound, and these objects, each under the hash of its text, say what the rows say.
pub record AreChecked (layers : List Layer) (checked : Objects) : Type 0 where
  pub generation : ObjectId → ℕ
  pub sound : AreSoundLayers layers generation
  pub apart : AllPairs (λ r s. r.id ≢ s.id) (all_rows layers)
  pub named : AreNamed checked
  pub texts : (r : Row) → Contains (all_rows layers) r → IsText checked r

-- objects that have each id of some, and none of them as another object
abbrev pub HasAllOf : (objects some : Objects) → Type 0
HasAllOf objects some = ((i : ObjectId) → some i ≢ None → objects i ≢ None) × (Clash some objects → ⊥)

-- Files in which `verify` found no difference are those of such layers, if the lowest, those that had passed before, were so already. The
-- objects may be any that have those that the files were compared with, now and before, unless two different objects have one id.
abbrev pub CheckedFiles : Type 0
CheckedFiles = (files : List (List ℕ)) (passed : ℕ) → All AreBytes files → (verified : IsVerified files passed)
    → (lower : List Layer) (checked objects : Objects) → map (λ layer. layer.file) lower ≡ take passed files → AreChecked lower checked
    → AreNamed objects → HasAllOf objects checked → HasAllOf objects (page_objects verified.objects)
    → (layers : List Layer) × (map (λ layer. layer.file) layers ≡ files) × AreChecked layers objects

-- Lines that were written over pages of such files are right, without any row, of all objects that have those that the run read and those
-- that the files were compared with.
abbrev pub CheckedAnswers : Type 0
CheckedAnswers = (layers : List Layer) (checked read objects : Objects) (pages : List (List (Option (List ℕ)))) (words : List (List ℕ))
    (lines : List ℕ) → AreChecked layers checked → HaveFiles pages layers → AnswersOver read words pages lines
    → HasAllOf objects read → HasAllOf objects checked
    → InEach objects [] (λ parents time. Serves objects [] parents time (Some []) (Some lines) words)

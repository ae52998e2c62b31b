-- A walk by time that goes on only where the parents of each commit that it gave are there.
use Rattle.std.specs.Prelude.{◌≡◌, ◌≢◌, ◌⊎◌, ◌+◌, ◌-◌, ◌*◌, ℕ, List, [], ◌∷◌, ◌++◌, length, take, Contains, Option, Some, None, Result, Ok, Err, nat_lt, if◌then◌else◌}
use Rattle.std.specs.FinMap.{get}
use Rattle.std.specs.Option.{option_or}
use Rattle.gix_hash.specs.declared.ObjectId.{ObjectId}
use Rattle.gix_hash.specs.Id.{kind_of}
use Rattle.gix_object.specs.declared.Kind.{Kind}
use Rattle.gix_object.specs.declared.Kind.TheVariants as kind
use Rattle.gix_object.specs.CommitText.{Commit, read_commit}
use Rattle.gix_object.specs.Object.{Object, Objects}
use Rattle.gix_commitgraph.specs.Rows.{GraphRow, row_of}
use Rattle.gix_revwalk.specs.declared.Info.{Info}
use Rattle.gix_simple.specs.declared.Error.{Error}
use Rattle.gix_simple.specs.declared.Sorting.{Sorting}
use Rattle.gix_simple.specs.declared.Sorting.TheVariants as sorting
use Rattle.gix_words.specs.declared.fault.Fault.{Fault}
use Rattle.gix_words.specs.declared.fault.Fault.TheVariants as fault
use Rattle.gix_words.specs.Faults.{fault_of_walk}
use Rattle.gix_simple.specs.Laws.{answers_left}
use Rattle.gix_commands.specs.Walked.{Walk, Answers, objects_of}

-- why an object is no commit that can be read to its committer, if it is none
abbrev pub fault_of_text : Option Commit → Option Fault
fault_of_text (Some commit) = None
fault_of_text None = Some fault.Broken

abbrev pub fault_of_kind : ObjectId → Kind → List ℕ → Option Fault
fault_of_kind i kind.Commit bytes = fault_of_text (read_commit (kind_of i) bytes)
fault_of_kind i kind.Tree bytes = Some (fault.WrongKind i)
fault_of_kind i kind.Blob bytes = Some (fault.WrongKind i)
fault_of_kind i kind.Tag bytes = Some (fault.WrongKind i)

abbrev pub fault_of_object : ObjectId → Option Object → Option Fault
fault_of_object i None = Some (fault.Missing i)
fault_of_object i (Some object) = fault_of_kind i object.kind object.bytes

-- where there is a row nothing is asked
abbrev pub unless_row : Option GraphRow → Option Fault → Option Fault
unless_row None why = why
unless_row (Some row) why = None

-- why a commit isn't there, by its row or else by its object, if it isn't
abbrev pub lost_at : Objects → List GraphRow → ObjectId → Option Fault
lost_at objects rows i = unless_row (row_of rows i) (fault_of_object i (get objects i))

-- the same of the first of some commits that isn't there
abbrev pub first_lost : Objects → List GraphRow → List ObjectId → Option Fault
first_lost objects rows [] = None
first_lost objects rows (i ∷ ids) = option_or (lost_at objects rows i) (first_lost objects rows ids)

-- all parents that a commit was given with are there
abbrev pub HasParents : Objects → List GraphRow → Info → Type 0
HasParents objects rows info = first_lost objects rows info.parent_ids.items ≡ None

abbrev pub HaveParents : Objects → List GraphRow → List Info → Type 0
HaveParents objects rows infos = (info : Info) → Contains infos info → HasParents objects rows info

-- of the commits that a walk gave, those behind which it was asked for another: all but the last if as many were written as the limit says
abbrev pub gone_on : Option ℕ → ℕ → List Info → List Info
gone_on None written infos = infos
gone_on (Some limit) written infos = if nat_lt written limit then infos else take (length infos - 1) infos

-- by time a walk goes on only behind commits whose parents are there
abbrev pub GoesOnWhole : Objects → List GraphRow → Sorting → Option ℕ → ℕ → List Info → Type 0
GoesOnWhole objects rows by limit written infos = by ≢ sorting.BreadthFirst → HaveParents objects rows (gone_on limit written infos)

-- a parent of the last of these commits isn't there, and this says why; or memory ran out before that was known
pub record LacksParent (objects : Objects) (rows : List GraphRow) (infos : List Info) (why : Fault) : Type 0 where
  pub before : List Info
  pub last : Info
  pub place : infos ≡ before ++ last ∷ []
  pub whole : HaveParents objects rows before
  pub lacks : why ≢ fault.Memory → first_lost objects rows last.parent_ids.items ≡ Some why

-- what the look at some commits finds, unless memory runs out
abbrev pub Looks : Objects → List GraphRow → List ObjectId → Option Fault → Type 0
Looks objects rows ids found = found ≢ Some fault.Memory → found ≡ first_lost objects rows ids

-- behind a commit that is given with a generation nothing is found
abbrev pub HasRows : Objects → List GraphRow → Info → Type 0
HasRows objects rows info = (generation : ℕ) → info.generation ≡ Some generation → HasParents objects rows info

-- a walk has these rows, or none since one of them proved corrupt
abbrev pub KeepsRows : List GraphRow → List GraphRow → Type 0
KeepsRows rows left = (left ≡ rows) ⊎ (left ≡ [])

-- a walk over objects and rows, and the fault that comes next, if there is one
pub record CheckedWalk : Type 0 where
  pub walk : Walk
  pub objects : Objects
  pub rows : List GraphRow
  pub lost : Option Fault

-- One answer: the fault that comes next, or else what the walk answers. Behind a commit its parents are looked at.
pub data Checks (old : CheckedWalk) : Option (Result Info Fault) → CheckedWalk → Type 0 where
  ended : {walk : Walk} → old.lost ≡ None → Answers old.walk None walk → Checks old None (record old { walk = walk })
  failed : {walk : Walk} (e : Error) → old.lost ≡ None → Answers old.walk (Some (Err e)) walk
      → Checks old (Some (Err (fault_of_walk e))) (record old { walk = walk })
  gave : {walk : Walk} {info : Info} {found : Option Fault} → old.lost ≡ None → Answers old.walk (Some (Ok info)) walk
      → Looks old.objects old.rows info.parent_ids.items found → Checks old (Some (Ok info)) (record old { walk = walk; lost = found })
  lost : (why : Fault) → old.lost ≡ Some why → Checks old (Some (Err why)) (record old { lost = None })

abbrev pub one_if_some : Option Fault → ℕ
one_if_some None = 0
one_if_some (Some why) = 1

-- how many answers may still come: two for each of the walk, and the fault that comes next
abbrev pub left_to_check : CheckedWalk → ℕ
left_to_check c = 2 * answers_left objects_of c.walk + one_if_some c.lost

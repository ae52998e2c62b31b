-- A topological walk over records.
use Rattle.std.specs.Prelude.{◌≡◌, ◌≢◌, List, Option, Result, Err}
use Rattle.gix_hash.specs.declared.ObjectId.{ObjectId}
use Rattle.gix_object.specs.Object.{Objects}
use Rattle.gix_commitgraph.specs.Rows.{GraphRow}
use Rattle.gix_revwalk.specs.declared.Info.{Info}
use Rattle.gix_revwalk.specs.declared.Parents.{Parents}
use Rattle.gix_revwalk.specs.declared.Unfiltered.{Unfiltered}
use Rattle.gix_topo.specs.declared.Error.{Error}
use Rattle.gix_topo.specs.declared.Sorting.{Sorting}
use Rattle.gix_topo.specs.Walk.{TopoPlan, TopoWalk, Next, Built}
use Rattle.gix_words.specs.declared.fault.Fault.{Fault}
use Rattle.gix_words.specs.declared.fault.Fault.TheVariants as fault
use Rattle.gix_words.specs.Faults.{fault_of_topo_walk}
use Rattle.gix_revwalk.specs.Asking.{accepts_all}
use Rattle.gix_commands.specs.Walked.{objects_of, never_faulty}

-- a walk over stored objects, whose look-ups don't fail, that gives all commits
abbrev pub Walk : Type 0
Walk = TopoWalk Objects Unfiltered

-- one answer of a walk
abbrev pub Answers : Walk → Option (Result Info Error) → Walk → Type 0
Answers = Next objects_of never_faulty accepts_all

-- from these tips in this order, through these parents, without what these ends reach, with these rows
abbrev pub plan_from : Objects → List GraphRow → Parents → Sorting → List ObjectId → List ObjectId → TopoPlan Objects
plan_from objects rows m by tips ends = record { store = objects; rows = rows; parents = m; sorting = by; tips = tips; ends = ends }

-- what building a walk so answers
abbrev pub IsBuiltFrom : Objects → List GraphRow → Parents → Sorting → List ObjectId → List ObjectId → Result Walk Error → Type 0
IsBuiltFrom objects rows m by tips ends answer =
    Built objects_of never_faulty accepts_all (record { plan = plan_from objects rows m by tips ends; predicate = record {} }) answer

-- which fault of a run its fault is
abbrev pub IsWalkFault : Error → Fault → Type 0
IsWalkFault e f = f ≡ fault_of_topo_walk e

-- a walk can't be built so, unless memory ran out
abbrev pub IsStartFault : Objects → List GraphRow → Parents → Sorting → List ObjectId → List ObjectId → Fault → Type 0
IsStartFault objects rows m by tips ends e =
    e ≢ fault.Memory → (why : Error) × IsBuiltFrom objects rows m by tips ends (Err why) × (e ≡ fault_of_topo_walk why)

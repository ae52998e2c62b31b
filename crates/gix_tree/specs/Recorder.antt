-- What a recorder holds, and what each call leaves of it.
use Rattle.std.specs.Prelude.{◌≡◌, ℕ, ◌==◌, List, [], ◌∷◌, ◌++◌, Bool, true, ◌&&◌, bytes_eq, Option, Some, None, if◌then◌else◌}
use Rattle.std.specs.declared.ops.ControlFlow.TheVariants.{Continue}
use Rattle.std.specs.Cmp.{IsEquivalence, and_equiv, on_equiv, nat_eq_equiv, eq_by_cmp_equiv}
use Rattle.std.specs.Cmp.Lexicographic.{nat_list_eq_equiv}
use Rattle.gix_hash.proofs.Ids.Membership.{id_total}
use Rattle.gix_hash.specs.declared.ObjectId.{ObjectId}
use Rattle.gix_hash.specs.Id.{is_same}
use Rattle.gix_object.specs.TreeItems.{TreeEntry}
use Rattle.gix_tree.specs.declared.recorder.Location.{Location}
use Rattle.gix_tree.specs.declared.recorder.Location.TheVariants.{Path, FileName}
use Rattle.gix_tree.specs.Delegate.{Call, PushPath, PopPath, PushBack, PopBack, PopFront, VisitTree, VisitNontree, Refused}
use Rattle.gix_tree.specs.Visits.{Visit}
use Rattle.gix_tree.specs.Paths.{path_of}

-- an entry, as it is recorded
pub record Record : Type 0 where
  pub mode : ℕ
  pub path : List ℕ
  pub id : ObjectId

-- whether two records are one
abbrev pub is_same_record : Record → Record → Bool
is_same_record a b = (a.mode == b.mode) && (bytes_eq a.path b.path && is_same a.id b.id)

pub is_same_record-equivalence : IsEquivalence is_same_record
is_same_record-equivalence =
    and_equiv (on_equiv (λ r. r.mode) nat_eq_equiv)
    (and_equiv (on_equiv (λ r. r.path) nat_list_eq_equiv)
    (on_equiv (λ r. r.id) (eq_by_cmp_equiv id_total)))

pub record Recorded : Type 0 where
  pub path : List ℕ
  pub queue : List (List ℕ)
  pub records : List Record

-- what a fresh recorder holds
abbrev pub fresh : Recorded
fresh = record { path = []; queue = []; records = [] }

abbrev pub behind_path : List ℕ → List ℕ → List ℕ
behind_path [] name = name
behind_path (b ∷ path) name = b ∷ path ++ 47 ∷ name

-- a path and a name behind it; nothing for an empty name
abbrev pub with_name : List ℕ → List ℕ → List ℕ
with_name path [] = path
with_name path (b ∷ name) = behind_path path (b ∷ name)

abbrev pub front_from : ℕ → Option (List ℕ) → Option (List ℕ)
front_from b (Some front) = Some (b ∷ front)
front_from b None = if b == 47 then Some [] else None

-- what is before the last `/`
abbrev pub before_slash : List ℕ → Option (List ℕ)
before_slash [] = None
before_slash (b ∷ bytes) = front_from b (before_slash bytes)

abbrev pub path_or_empty : Option (List ℕ) → List ℕ
path_or_empty None = []
path_or_empty (Some path) = path

-- a path without its last name
abbrev pub without_name : List ℕ → List ℕ
without_name path = path_or_empty (before_slash path)

-- the last of a queue, or an empty path, and what is left
abbrev pub last_path : List (List ℕ) → List ℕ
last_path [] = []
last_path (path ∷ []) = path
last_path (path ∷ next ∷ queue) = last_path (next ∷ queue)

abbrev pub without_last : List (List ℕ) → List (List ℕ)
without_last [] = []
without_last (path ∷ []) = []
without_last (path ∷ next ∷ queue) = path ∷ without_last (next ∷ queue)

abbrev pub first_path : List (List ℕ) → List ℕ
first_path [] = []
first_path (path ∷ queue) = path

abbrev pub without_first : List (List ℕ) → List (List ℕ)
without_first [] = []
without_first (path ∷ queue) = queue

abbrev pub with_record : Recorded → TreeEntry → Recorded
with_record r e = record r { records = r.records ++ record { mode = e.mode; path = r.path; id = e.id } ∷ [] }

-- what a call leaves of a recorder that tracks paths, names or nothing
abbrev pub recorded : Option Location → Recorded → Call → Recorded
recorded (Some Path) r (PushPath name) = record r { path = with_name r.path name }
recorded (Some Path) r PopPath = record r { path = without_name r.path }
recorded (Some Path) r (PushBack name) = let path = with_name r.path name in record r { path = path; queue = r.queue ++ path ∷ [] }
recorded (Some Path) r PopBack = record r { path = last_path r.queue; queue = without_last r.queue }
recorded (Some Path) r PopFront = record r { path = first_path r.queue; queue = without_first r.queue }
recorded (Some FileName) r (PushPath name) = record r { path = name }
recorded (Some FileName) r PopPath = r
recorded (Some FileName) r (PushBack name) = r
recorded (Some FileName) r PopBack = r
recorded (Some FileName) r PopFront = r
recorded None r (PushPath name) = r
recorded None r PopPath = r
recorded None r (PushBack name) = r
recorded None r PopBack = r
recorded None r PopFront = r
recorded location r (VisitTree entry answer) = with_record r entry
recorded location r (VisitNontree entry answer) = with_record r entry
recorded location r Refused = r

-- what calls leave, one after another
abbrev pub recorded_all : Option Location → Recorded → List Call → Recorded
recorded_all location r [] = r
recorded_all location r (call ∷ calls) = recorded_all location (recorded location r call) calls

-- a visit, as it is recorded with its path
abbrev pub record_of : Visit → Record
record_of v = record { mode = v.entry.mode; path = path_of v; id = v.entry.id }

-- what a recorder answers to a visit
abbrev pub IsRecorderAnswer : Call → Type 0
IsRecorderAnswer (PushPath name) = Unit {0}
IsRecorderAnswer PopPath = Unit {0}
IsRecorderAnswer (PushBack name) = Unit {0}
IsRecorderAnswer PopBack = Unit {0}
IsRecorderAnswer PopFront = Unit {0}
IsRecorderAnswer (VisitTree entry answer) = answer ≡ Continue true
IsRecorderAnswer (VisitNontree entry answer) = answer ≡ Continue true
IsRecorderAnswer Refused = Unit {0}

-- one call on a recorder
abbrev pub Records : Option Location → Recorded → Call → Recorded → Type 0
Records location old call new = IsRecorderAnswer call × (new ≡ recorded location old call)

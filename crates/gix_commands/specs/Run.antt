-- What a run of the program may answer and write.
use Rattle.std.specs.Prelude.{◌≡◌, ◌≢◌, ◌<◌, ℕ, List, [], ◌∷◌, length, Option, None, Result, Ok, Err}
use Rattle.std.specs.Io.KnownBytes.{Appends}
use Rattle.std.specs.Iterator.{Yields}
use Rattle.std.specs.List.{flat_map}
use Rattle.gix_hash.specs.declared.ObjectId.{ObjectId}
use Rattle.gix_object.specs.Object.{Objects}
use Rattle.gix_commitgraph.specs.Rows.{GraphRow}
use Rattle.gix_contained.specs.declared.Error.{Error as SearchError}
use Rattle.gix_contained.specs.Contained.{Selects, FailsBy}
use Rattle.gix_containing.specs.Containing.{FindsContaining}
use Rattle.gix_merge_base.specs.Bases as base
use Rattle.gix_merge_base.specs.Bases.{FindsBases}
use Rattle.gix_revwalk.specs.declared.Info.{Info}
use Rattle.gix_revwalk.specs.declared.Parents.{Parents}
use Rattle.gix_simple.specs.declared.Error.{Error}
use Rattle.gix_simple.specs.declared.Sorting.{Sorting}
use Rattle.gix_simple.specs.declared.Sorting.TheVariants as sorting
use Rattle.gix_topo.specs.declared.Error.{Error as TopoError}
use Rattle.gix_topo.specs.declared.Sorting.{Sorting as TopoSorting}
use Rattle.gix_tree.specs.declared.breadthfirst.Error.{Error as TreeError}
use Rattle.gix_tree.specs.Paths.{HaveNames}
use Rattle.gix_tree.specs.Tracked.{Tracked}
use Rattle.gix_tree_size.specs.Survey.{IsMisnamed, capped}
use Rattle.gix_words.specs.declared.fault.Fault.{Fault}
use Rattle.gix_words.specs.declared.fault.Fault.TheVariants as fault
use Rattle.gix_words.specs.declared.words.EntryLines.{EntryLines}
use Rattle.gix_words.specs.declared.words.Order.TheVariants.{Simple, Topo}
use Rattle.gix_words.specs.declared.words.Shown.{Shown}
use Rattle.gix_ahead.specs.Ahead.{FindsAhead}
use Rattle.gix_commands.specs.Ahead.{ahead_line}
use Rattle.gix_words.specs.Faults.{fault_of_walk, fault_of_topo_walk, fault_of_search, fault_of_tree_walk}
use Rattle.gix_commands.specs.Checked.{GoesOnWhole, LacksParent}
use Rattle.gix_commands.specs.Chosen.{HasObject, HasText, Writes, kept_in, line_in}
use Rattle.gix_commands.specs.Files.{RecordsTree, file_lines, most_entries}
use Rattle.gix_graph_check.specs.declared.Disagreement.TheVariants.{Row}
use Rattle.gix_graph_store.specs.Laws.{StoredAgree}
use Rattle.gix_graph_store.specs.StoredRows.{StoredDisagrees}
use Rattle.gix_graph_store.specs.WithRows.{with_rows}
use Rattle.gix_records.specs.Input.{Tells}
use Rattle.gix_records.specs.Records.{Record, AreRecords, IsBadRecord, stored}
use Rattle.gix_commands.specs.Opening.{Opens, FailsToOpen}
use Rattle.gix_commands.specs.Readable.{readable, reads_all_lines}
use Rattle.gix_commands.specs.TopoWalked as topo
use Rattle.gix_revwalk.specs.Infos.{given}
use Rattle.gix_commands.specs.Walked.{Walk, Answers, IsWalkFault, StartsFrom, FailsAtStart, EndsBy, Have, line_of, never_faulty, AsksForMore}
use Rattle.gix_words.specs.Words.{Request, Commits, Files, Ahead, Contained, Containing, Bases, request_of}

-- Over objects, rows for the walks of commits and a writer that has the bytes `old`: which answers a request may get, and which bytes the
-- writer then has. If lines have a format, each commit that is listed has to be stored.
pub data Serves (IsStored : ObjectId → Type 0) (objects : Objects) (rows : List GraphRow) (old : Option (List ℕ)) : Request → Result (Unit {0}) Fault → Option (List ℕ) → Type 0 where
  -- lines of the commits before a fault are written
  walked : {parents : Parents} {by : Sorting} {shown : Shown} {tips hidden : List ObjectId} (walk : Walk) (infos : List Info)
      {answer : Result (Unit {0}) Fault} {new : Option (List ℕ)}
      → StartsFrom objects rows parents by tips hidden walk → EndsBy Answers IsWalkFault (HasText IsStored shown) (kept_in objects shown) shown.limit walk infos answer
      → Have (HasText IsStored shown) infos → GoesOnWhole objects rows by shown.limit (length (kept_in objects shown infos)) infos
      → Writes (line_in objects shown) shown.form answer (kept_in objects shown infos) old new
      → Serves IsStored objects rows old (Commits (Simple parents by) shown tips hidden) answer new
  -- by time it ends behind a commit one of whose parents isn't there
  lost : {parents : Parents} {by : Sorting} {shown : Shown} {tips hidden : List ObjectId} (walk at : Walk) (infos : List Info) {why : Fault}
      {new : Option (List ℕ)} → by ≢ sorting.BreadthFirst
      → StartsFrom objects rows parents by tips hidden walk → Yields Answers walk (given infos) at
      → AsksForMore shown.limit (length (kept_in objects shown infos)) → LacksParent objects rows infos why
      → Have (HasText IsStored shown) infos → Writes (line_in objects shown) shown.form (Err why) (kept_in objects shown infos) old new
      → Serves IsStored objects rows old (Commits (Simple parents by) shown tips hidden) (Err why) new
  not_walked : {parents : Parents} {by : Sorting} {shown : Shown} {tips hidden : List ObjectId} (e : Error) → FailsAtStart objects by tips e
      → Serves IsStored objects rows old (Commits (Simple parents by) shown tips hidden) (Err (fault_of_walk e)) old
  walked_down : {parents : Parents} {by : TopoSorting} {shown : Shown} {tips ends : List ObjectId} (walk : topo.Walk) (infos : List Info)
      {answer : Result (Unit {0}) Fault} {new : Option (List ℕ)}
      → topo.IsBuiltFrom objects rows parents by tips ends (Ok walk) → EndsBy topo.Answers topo.IsWalkFault (HasText IsStored shown) (kept_in objects shown) shown.limit walk infos answer
      → Have (HasText IsStored shown) infos → Writes (line_in objects shown) shown.form answer (kept_in objects shown infos) old new
      → Serves IsStored objects rows old (Commits (Topo parents by) shown tips ends) answer new
  not_built : {parents : Parents} {by : TopoSorting} {shown : Shown} {tips ends : List ObjectId} (e : TopoError) → topo.IsBuiltFrom objects rows parents by tips ends (Err e)
      → Serves IsStored objects rows old (Commits (Topo parents by) shown tips ends) (Err (fault_of_topo_walk e)) old
  listed : {shown : EntryLines} {tree : ObjectId} (recorder : Tracked) (walk : RecordsTree objects tree recorder (Ok tt)) {new : Option (List ℕ)}
      → HaveNames walk.visits → Appends old new (file_lines shown recorder.held.records) → Serves IsStored objects rows old (Files shown tree) (Ok tt) new
  -- of a tree whose walk failed no line is written
  not_listed : {shown : EntryLines} {tree : ObjectId} (recorder : Tracked) (e : TreeError) → RecordsTree objects tree recorder (Err e)
      → Serves IsStored objects rows old (Files shown tree) (Err (fault_of_tree_walk e)) old
  -- and of a tree whose walk ended well, where a name is none. The first tree that has such a name is reported
  misnamed : {shown : EntryLines} {tree i : ObjectId} (recorder : Tracked) (walk : RecordsTree objects tree recorder (Ok tt)) → IsMisnamed walk.visits i
      → Serves IsStored objects rows old (Files shown tree) (Err (fault.Name i)) old
  -- and of a tree that has too many entries, where no limit was asked for
  too_many : {shown : EntryLines} {tree : ObjectId} (recorder : Tracked) (walk : RecordsTree objects tree recorder (Ok tt)) → HaveNames walk.visits
      → shown.limit ≡ None → most_entries < length walk.visits → Serves IsStored objects rows old (Files shown tree) (Err (fault.Entries (capped (length walk.visits)))) old
  counted : {one other : ObjectId} (ahead behind : ℕ) {new : Option (List ℕ)}
      → FindsAhead objects rows one other ahead behind → Appends old new (ahead_line ahead behind)
      → Serves IsStored objects rows old (Ahead one other) (Ok tt) new
  not_counted : {one other : ObjectId} (e : SearchError) → base.FailsBy objects (never_faulty objects) rows one (other ∷ []) e
      → Serves IsStored objects rows old (Ahead one other) (Err (fault_of_search e)) old
  selected : {tip : ObjectId} {ids : List ObjectId} (those : List ObjectId) {new : Option (List ℕ)}
      → Selects objects rows (tip ∷ []) ids those → Appends old new (flat_map line_of those) → Serves IsStored objects rows old (Contained tip ids) (Ok tt) new
  not_selected : {tip : ObjectId} {ids : List ObjectId} (e : SearchError) → FailsBy objects (never_faulty objects) rows (tip ∷ []) ids e
      → Serves IsStored objects rows old (Contained tip ids) (Err (fault_of_search e)) old
  reaching : {target : ObjectId} {tips : List ObjectId} (those : List ObjectId) {new : Option (List ℕ)}
      → FindsContaining objects rows target tips those → Appends old new (flat_map line_of those)
      → Serves IsStored objects rows old (Containing target tips) (Ok tt) new
  not_reaching : {target : ObjectId} {tips : List ObjectId} (e : SearchError) → base.FailsBy objects (never_faulty objects) rows target tips e
      → Serves IsStored objects rows old (Containing target tips) (Err (fault_of_search e)) old
  joined : {one : ObjectId} {others : List ObjectId} (bases : List ObjectId) {new : Option (List ℕ)}
      → FindsBases objects rows one others bases → Appends old new (flat_map line_of bases) → Serves IsStored objects rows old (Bases one others) (Ok tt) new
  not_joined : {one : ObjectId} {others : List ObjectId} (e : SearchError) → base.FailsBy objects (never_faulty objects) rows one others e
      → Serves IsStored objects rows old (Bases one others) (Err (fault_of_search e)) old
  -- memory ran out before anything was written
  unserved : {request : Request} → Serves IsStored objects rows old request (Err fault.Memory) old
  -- the writer failed: a beginning of what another answer writes is written
  cut_off : {request : Request} {answer : Result (Unit {0}) Fault} {full new : Option (List ℕ)} (some more : List ℕ)
      → Serves IsStored objects rows old request answer full → Appends old new some → Appends new full more
      → Serves IsStored objects rows old request (Err fault.Write) new

-- The same over what is stored, where each row is of a commit: the commit is there too if nothing is stored at the row's id.
abbrev pub ServesOver : Objects → List GraphRow → (old : Option (List ℕ)) → Request → Result (Unit {0}) Fault → Option (List ℕ) → Type 0
ServesOver stored rows old request = Serves (HasObject stored rows) (readable (reads_all_lines request) (with_rows rows stored)) rows old request

-- Over these words, a reader that has the bytes `has` and a writer that has the bytes `old`: which answers a run may give, and which bytes
-- the writer then has.
pub data Runs (words : List (List ℕ)) (has old : Option (List ℕ)) : Result (Unit {0}) Fault → Option (List ℕ) → Type 0 where
  -- memory ran out for the words or the input
  without_memory : Runs words has old (Err fault.Memory) old
  no_command : {e : Fault} → request_of words ≡ Err e → Runs words has old (Err e) old
  not_read : (request : Request) → request_of words ≡ Ok request → Runs words has old (Err fault.Read) old
  bad_record : (request : Request) (input : List ℕ) (n : ℕ) → request_of words ≡ Ok request → Tells has input → IsBadRecord n input
      → Runs words has old (Err (fault.Record n)) old
  served : (request : Request) (input : List ℕ) (records : List Record) {answer : Result (Unit {0}) Fault} {new : Option (List ℕ)}
      → request_of words ≡ Ok request → Tells has input → AreRecords records input
      → Serves (HasObject (stored records) []) (readable (reads_all_lines request) (stored records)) [] old request answer new → Runs words has old answer new

-- The same over the files of a commit-graph, lowest layer first: walks have its rows, and where nothing is stored at the id of a row there is
-- the commit that the row says. Words are tested first, then the layers are opened, then the input is read, and then what is stored is
-- compared with the rows.
pub data RunsOver (words layers : List (List ℕ)) (has old : Option (List ℕ)) : Result (Unit {0}) Fault → Option (List ℕ) → Type 0 where
  -- memory ran out before a walk was begun
  without_memory : RunsOver words layers has old (Err fault.Memory) old
  no_command : {e : Fault} → request_of words ≡ Err e → RunsOver words layers has old (Err e) old
  not_opened : (request : Request) {e : Fault} → request_of words ≡ Ok request → FailsToOpen layers e → RunsOver words layers has old (Err e) old
  not_read : (request : Request) (rows : List GraphRow) → request_of words ≡ Ok request → Opens layers rows
      → RunsOver words layers has old (Err fault.Read) old
  bad_record : (request : Request) (rows : List GraphRow) (input : List ℕ) (n : ℕ) → request_of words ≡ Ok request → Opens layers rows
      → Tells has input → IsBadRecord n input → RunsOver words layers has old (Err (fault.Record n)) old
  disagrees : (request : Request) (rows : List GraphRow) (input : List ℕ) (records : List Record) (i : ObjectId)
      → request_of words ≡ Ok request → Opens layers rows → Tells has input → AreRecords records input
      → StoredDisagrees (stored records) (never_faulty (stored records)) rows (Row i) → RunsOver words layers has old (Err (fault.Disagrees i)) old
  served : (request : Request) (rows : List GraphRow) (input : List ℕ) (records : List Record) {answer : Result (Unit {0}) Fault} {new : Option (List ℕ)}
      → request_of words ≡ Ok request → Opens layers rows → Tells has input → AreRecords records input → StoredAgree rows (stored records)
      → ServesOver (stored records) rows old request answer new
      → RunsOver words layers has old answer new

-- What a run over rows answers is what the page promises: over a store, or over the files of a commit-graph and records.
use Rattle.std.proofs.Common.{◌≡◌, ℕ, List, [], ◌∷◌, Option, Result, Ok, Contains, refl, ap, ◌∙◌, inl, inr, ⊎_elim}
use Rattle.std.specs.List.{AllByRecursion}
use Rattle.std.proofs.lemmas.List.Elements.{All-contains}
use Rattle.gix_commands.proofs.Common.{Fault, GraphRow, IsAgreeing, Contains-cons_cases, no_member, Objects, Request, request_of, stored, with_rows}
use Rattle.gix_commitgraph.specs.Packed.{AreGraphRows}
use Rattle.gix_commitgraph.specs.Renumbering.{HasSameRows, HaveDistinctIds, HavePlacesWithin}
use Rattle.gix_commitgraph.specs.declared.ParentPlace.{ParentPlace}
use Rattle.gix_commitgraph.specs.declared.ParentPlace.TheVariants as place
use Rattle.gix_graph_check.specs.Sound.{AreSound, IsSound, IsSoundPlace}
use Rattle.gix_graph_store.specs.Laws.{StoredAgree}
use Rattle.gix_statement.specs.CommitGraph.{AreLayers}
use Rattle.gix_statement.specs.WholeStatement as page
use Rattle.gix_statement.specs.WholeStatement.{Agree, AreFed, IsCommit, Promises, Row, text_in}
use Rattle.gix_words.specs.declared.fault.Fault.TheVariants as fault
use Rattle.gix_commands.specs.Chosen.{HasObject}
use Rattle.gix_commands.specs.Opening.{AreReadFrom}
use Rattle.gix_commands.specs.Pages.{AreRows, page_objects, page_rows}
use Rattle.gix_commands.specs.Readable.{readable, reads_all_lines}
use Rattle.gix_commands.specs.Run as run
use Rattle.gix_commands.specs.Run.{RunsOver, ServesOver}
use Rattle.gix_commands.specs.StoredRuns as store
use Rattle.gix_commands.specs.StoredRuns.{RunsStored}
use Rattle.gix_commands.proofs.PageCommits.{whole_text}
use Rattle.gix_commands.proofs.RightRuns.{right}
use Rattle.gix_commands.proofs.FileOrder.{back, chain_layers, forth, rows_apart}
use Rattle.gix_commands.proofs.GivenObjects.{HasAll}
use Rattle.gix_commands.proofs.Promised.{promised}
use Rattle.gix_commands.proofs.ReadableObjects.{readable_agrees}
use Rattle.gix_commands.proofs.ReachedIsRead.{reached_is_read}
use Rattle.gix_commands.proofs.ReadableTexts.{bytes_kept, have_texts, text_kept, tree_kept}
use Rattle.gix_commands.proofs.RowsAsTexts.{every_agree, rows_agree, stored_there, text_is_commit, tree_is_tree}
use Rattle.gix_commands.proofs.SameCommits.{are_fed}

-- what a command reads of a store that has a commit for each row
abbrev pub seen : Request → List GraphRow → Objects → Objects
seen request rows objects = readable (reads_all_lines request) (with_rows rows objects)

module _ (words : List (List ℕ)) (request : Request) (asked : request_of words ≡ Ok request) (rows : List GraphRow) (objects : Objects) (graph : AreGraphRows rows) (sound : AreSound rows) (agree : StoredAgree rows objects)
    (AreGiven : page.Objects → List Row → Type 0) (old : Option (List ℕ)) (answer : Result (Unit {0}) Fault) (new : Option (List ℕ)) (served : ServesOver objects rows old request answer new) where
  seen_agrees : IsAgreeing (seen request rows objects) rows
  seen_agrees = readable_agrees (reads_all_lines request) (with_rows rows objects) rows (every_agree whole_text rows objects graph sound agree)

  -- rows in any order
  module _ (those : List Row) (all : (r : Row) → Contains (page_rows rows) r → Contains those r) (consistent : Agree (page_objects objects) those) (given : AreGiven (page_objects objects) those) where
    of_rows : (r : Row) → IsCommit (page_objects objects) (page_rows rows) r → IsCommit (page_objects objects) those r
    of_rows r (inl text) = inl text
    of_rows r (inr (none, c)) = inr (none, all r c)

    on : HasAll (page_objects (seen request rows objects)) (HasObject objects rows) (page_objects objects) those
    on = record {
      commit = λ r c. ⊎_elim
          (λ text. of_rows r (text_is_commit whole_text rows objects graph sound agree r (text_kept (reads_all_lines request) (with_rows rows objects) r text)))
          (λ none. absurd (no_member r none.1)) c;
      tree = λ i entries tree. tree_is_tree whole_text rows objects graph sound agree i entries (tree_kept (reads_all_lines request) (with_rows rows objects) i entries tree);
      text = λ i stored there.
          let kept = bytes_kept (reads_all_lines request) (with_rows rows objects) i there in
          let own = stored_there whole_text rows objects graph sound agree i stored kept.0 in
          (own.0, kept.1 ∙ ap text_in own.1);
    }

    served_over : Promises fault.Write words AreGiven old answer new
    served_over =
        promised (page_objects (seen request rows objects)) (page_objects objects) those (HasObject objects rows) on AreGiven given consistent words old answer new
        (right (seen request rows objects) rows seen_agrees (reached_is_read (seen request rows objects) rows seen_agrees) (HasObject objects rows) (page_objects objects) those on old words request asked (have_texts request (with_rows rows objects)) answer new served)

  pub served_sorted : AreGiven (page_objects objects) (page_rows rows) → Promises fault.Write words AreGiven old answer new
  served_sorted given = served_over (page_rows rows) (λ r c. c) (rows_agree whole_text rows objects graph sound agree) given

  -- the rows of a list of which the graph was made
  module _ (list : List GraphRow) (distinct : HaveDistinctIds list) (within : HavePlacesWithin list) (same : HasSameRows list rows) where
    list_agrees : Agree (page_objects objects) (page_rows list)
    list_agrees = (rows_apart list distinct, λ r c. (rows_agree whole_text rows objects graph sound agree).1 r (forth list rows same within distinct r c))

    pub served_unsorted : AreGiven (page_objects objects) (page_rows list) → Promises fault.Write words AreGiven old answer new
    served_unsorted given = served_over (page_rows list) (back list rows same within distinct) list_agrees given

-- a sound row has no corrupt place
no_fault_in : (rows : List GraphRow) (generation : ℕ) (places : List ParentPlace) → AllByRecursion (IsSoundPlace rows generation) places → Contains places place.Fault → ⊥
no_fault_in rows generation [] sound c = no_member place.Fault c
no_fault_in rows generation (place.At n ∷ places) sound c = ⊎_elim (λ e. let no : place.At n ≡ place.Fault = e in cc) (no_fault_in rows generation places sound.1) (Contains-cons_cases place.Fault (place.At n) places c)
no_fault_in rows generation (place.Fault ∷ places) sound c = absurd sound.0

no_faults : (rows : List GraphRow) → AreSound rows → (row : GraphRow) → Contains rows row → Contains row.parents place.Fault → ⊥
no_faults rows sound row c = no_fault_in rows row.generation row.parents (All-contains (IsSound rows) rows row sound c).parents

-- what is stored, and the rows
abbrev pub AreStored : Objects → List GraphRow → page.Objects → List Row → Type 0
AreStored stored graph objects rows = (objects ≡ page_objects stored) × AreRows graph rows

pub stored_promises : (words : List (List ℕ)) {request : Request} {objects : Objects} {rows : List GraphRow} {old new : Option (List ℕ)} {answer : Result (Unit {0}) Fault} → request_of words ≡ Ok request → AreGraphRows rows → RunsStored request objects rows old answer new
    → Promises fault.Write words (AreStored objects rows) old answer new
stored_promises words t graph store.without_memory = inl refl
stored_promises words t graph (store.not_agreed f) = inl refl
stored_promises words {request} {objects} {rows} {old} {new} {answer} t graph (store.served sound agree s) =
    served_sorted words request t rows objects graph sound agree (AreStored objects rows) old answer new s (refl, (no_faults rows sound, refl))

-- rows that were read from files, as these have them
served_from : (words : List (List ℕ)) (objects : Objects) (AreGiven : page.Objects → List Row → Type 0) {layers : List (List ℕ)} {rows : List GraphRow} {old new : Option (List ℕ)} {answer : Result (Unit {0}) Fault} → AreReadFrom layers rows
    → (request : Request) → request_of words ≡ Ok request → AreSound rows → StoredAgree rows objects → ServesOver objects rows old request answer new
    → ((those : List Row) → AreLayers [] layers [] those → AreGiven (page_objects objects) those) → Promises fault.Write words AreGiven old answer new
served_from words objects AreGiven {layers} {rows} {old} {new} {answer} from request t sound agree s given =
    served_unsorted words request t rows objects from.chain.sound sound agree AreGiven old answer new s
    from.chain.rows from.chain.accepted.2 from.chain.accepted.3 from.chain.same (given (page_rows from.chain.rows) (chain_layers layers rows from.bytes from.chain sound))

-- what is stored, and the rows of files
pub stored_from : (words layers : List (List ℕ)) {request : Request} {objects : Objects} {rows : List GraphRow} {old new : Option (List ℕ)} {answer : Result (Unit {0}) Fault} → request_of words ≡ Ok request → AreReadFrom layers rows → RunsStored request objects rows old answer new
    → Promises fault.Write words (λ given those. (given ≡ page_objects objects) × AreLayers [] layers [] those) old answer new
stored_from words layers t from store.without_memory = inl refl
stored_from words layers t from (store.not_agreed f) = inl refl
stored_from words layers {request} {objects} t from (store.served sound agree s) =
    served_from words objects (λ given those. (given ≡ page_objects objects) × AreLayers [] layers [] those) from request t sound agree s (λ those are. (refl, are))

-- the objects of records, and the rows of files
abbrev pub AreFedOver : (layers : List (List ℕ)) → (has : Option (List ℕ)) → page.Objects → List Row → Type 0
AreFedOver layers has objects rows = AreFed has objects × AreLayers [] layers [] rows

pub over_promises : {words layers : List (List ℕ)} {has old new : Option (List ℕ)} {answer : Result (Unit {0}) Fault} → RunsOver words layers has old answer new → Promises fault.Write words (AreFedOver layers has) old answer new
over_promises run.without_memory = inl refl
over_promises (run.no_command t) = inl refl
over_promises (run.not_opened request t f) = inl refl
over_promises (run.not_read request rows t o) = inl refl
over_promises (run.bad_record request rows input n t o h b) = inl refl
over_promises (run.disagrees request rows input records i t o h are d) = inl refl
over_promises {words} {layers} {has} {old} {new} {answer} (run.served request rows input records t opens told are agree s) =
    served_from words (stored records) (AreFedOver layers has) opens.read request t opens.sound agree s (λ those are_layers. (are_fed records has input told are, are_layers))

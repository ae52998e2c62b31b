-- What the clause `runs` of a run says is what the page promises of it.
use Rattle.std.proofs.Common.{◌≡◌, ℕ, List, [], Option, Result, Ok, refl, inl, ⊎_elim}
use Rattle.gix_commands.proofs.Common.{ObjectId, Objects, stored, none_agree, no_member, Fault, request_of, Runs, without_memory, no_command, not_read, bad_record, served, Request}
use Rattle.gix_words.specs.declared.fault.Fault.TheVariants as fault
use Rattle.gix_statement.specs.WholeStatement as page
use Rattle.gix_statement.specs.WholeStatement.{Agree, AreFed, IsCommit, Promises, Row}
use Rattle.gix_commands.specs.Pages.{page_objects}
use Rattle.gix_commands.specs.Readable.{readable, reads_all_lines}
use Rattle.gix_commands.specs.Run.{Serves}
use Rattle.gix_commands.proofs.PageCommits.{agree}
use Rattle.gix_commands.proofs.RightRuns.{right, unrowed_read}
use Rattle.gix_commands.proofs.GivenObjects.{HasAll}
use Rattle.gix_commands.proofs.Promised.{promised}
use Rattle.gix_commands.proofs.ReadableTexts.{have_texts, bytes_kept, text_kept, tree_kept}
use Rattle.gix_commands.proofs.SameCommits.{are_fed}

-- what a command reads of objects
abbrev pub seen : Request → Objects → Objects
seen request objects = readable (reads_all_lines request) objects

-- of a run over objects alone, whatever rows there are that contradict none
pub unrowed_promises : (words : List (List ℕ)) (request : Request) → request_of words ≡ Ok request → (objects : Objects) (those : List Row) → Agree (page_objects objects) those → (AreGiven : page.Objects → List Row → Type 0) → AreGiven (page_objects objects) those
    → {Stored : ObjectId → Type 0} (old : Option (List ℕ)) (result : Result (Unit {0}) Fault) (new : Option (List ℕ)) → Serves Stored (seen request objects) [] old request result new → Promises fault.Write words AreGiven old result new
unrowed_promises words request asked objects those agree AreGiven given {Stored} old result new s =
    promised (page_objects (seen request objects)) (page_objects objects) those Stored on AreGiven given agree words old result new
    (right (seen request objects) [] (none_agree (seen request objects) [] refl) (unrowed_read (seen request objects)) Stored (page_objects objects) those on old words request asked (have_texts request objects) result new s)
  where
    on : HasAll (page_objects (seen request objects)) Stored (page_objects objects) those
    on = record {
      commit = λ r c. ⊎_elim (λ text. inl (text_kept (reads_all_lines request) objects r text)) (λ none. absurd (no_member r none.1)) c;
      tree = tree_kept (reads_all_lines request) objects;
      text = λ i stored there. bytes_kept (reads_all_lines request) objects i there;
    }

pub promises : {words : List (List ℕ)} {has old : Option (List ℕ)} {result : Result (Unit {0}) Fault} {new : Option (List ℕ)} → Runs words has old result new
    → Promises fault.Write words (λ (objects : page.Objects) (rows : List Row). AreFed has objects × (rows ≡ [])) old result new
promises without_memory = inl refl
promises (no_command t) = inl refl
promises (not_read request t) = inl refl
promises (bad_record request input n t h b) = inl refl
promises {words = words} {has = has} {old = old} {result = result} {new = new} (served request input rs asked told are s) =
    unrowed_promises words request asked (stored rs) [] (agree (stored rs)) (λ (objects : page.Objects) (rows : List Row). AreFed has objects × (rows ≡ [])) (are_fed rs has input told are, refl) old result new s

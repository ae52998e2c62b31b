-- What a run of `breadth`, `newest` or `oldest` writes, by what commits reach.
use Rattle.std.proofs.Common.{◌≡◌, ◌≢◌, ℕ, List, [], ◌∷◌, ◌++◌, map, Option, Some, Result, Ok, Err, refl, sym, subst, ◌∙◌}
use Rattle.gix_commands.proofs.Common.{ObjectId, Objects, GraphRow, IsAgreeing, none_agree, Info, Parents, time_order}
use Rattle.gix_commands.proofs.Common.{text_next, Fault, AreWhole, EndsWell}
use Rattle.gix_commands.proofs.Common.{stored, Runs, without_memory, no_command, not_read, bad_record, served, Ends, StartsFrom, finished, Request, request_of, only_reading}
use Rattle.gix_commands.proofs.Common.{no_bad_record}
use Rattle.gix_simple.specs.declared.Sorting.{Sorting}
use Rattle.gix_records.specs.Records.{Record, AreRecords}
use Rattle.gix_commands.specs.Readable.{readable, reads_all_lines}
use Rattle.gix_commands.specs.Chosen.{HasObject}
use Rattle.gix_commands.specs.Run.{Serves}
use Rattle.gix_commands.specs.Walked.{Walk, Answers, IsWalkFault}
use Rattle.gix_commands.proofs.ReadableObjects.{readable_whole}
use Rattle.gix_commands.proofs.SimpleRuns.{all_read, listed_none, listed_text, listed_whole}
use Rattle.gix_commands.proofs.OtherParents.{by_texts}
use Rattle.gix_commands.proofs.ListedCommits.{IsSimpleBy, kept_tips}

abbrev pub ids_in : List Info → List ObjectId
ids_in infos = map (λ info. info.id) infos

pub ok_same : {a b : Request} → ◌≡◌ {A = Result Request Fault} (Ok a) (Ok b) → a ≡ b
ok_same e = cc

-- a run fails in its words or its input only where what was asked for of these records fails so
pub ends_well : (words : List (List ℕ)) (input : List ℕ) (records : List Record) (request : Request) (answer : Result (Unit {0}) Fault) (old new : Option (List ℕ)) → request_of words ≡ Ok request → AreRecords records input
    → ((given : Result (Unit {0}) Fault) (left : Option (List ℕ)) → Serves (HasObject (stored records) []) (readable (reads_all_lines request) (stored records)) [] old request given left → EndsWell given) → Runs words (Some input) old answer new → EndsWell answer
ends_well words input records request answer old new asked are well without_memory = tt
ends_well words input records request answer old new asked are well (no_command t) = let n : Err _ ≡ Ok request = sym t ∙ asked in cc
ends_well words input records request answer old new asked are well (not_read other t) = tt
ends_well words input records request answer old new asked are well (bad_record other there n t same b) = absurd (no_bad_record n records there b (subst (AreRecords records) (sym same) are))
ends_well words input records request answer old new asked are well (served other there read t same is s) =
    well answer new (subst (λ r. Serves (HasObject (stored records) []) (readable (reads_all_lines r) (stored records)) [] old r answer new) (ok_same (sym t ∙ asked)) (subst (λ rs. Serves (HasObject (stored rs) []) (readable (reads_all_lines other) (stored rs)) [] old other answer new) (only_reading read records input (subst (AreRecords read) same is) are) s))

-- the same where that is so of all whole commits that are reached
pub ends_whole : (words : List (List ℕ)) (input : List ℕ) (records : List Record) (request : Request) (ids : List ObjectId) (answer : Result (Unit {0}) Fault) (old new : Option (List ℕ)) → request_of words ≡ Ok request → AreRecords records input → AreWhole (stored records) ids
    → ((Stored : ObjectId → Type 0) (objects : Objects) (rows : List GraphRow) → ((i : ObjectId) → Stored i) → IsAgreeing objects rows → AreWhole objects ids → (given : Result (Unit {0}) Fault) (left : Option (List ℕ)) → Serves Stored objects rows old request given left → EndsWell given) → Runs words (Some input) old answer new → EndsWell answer
ends_whole words input records request ids answer old new asked are whole well =
    let those : Objects = readable (reads_all_lines request) (stored records) in
    ends_well words input records request answer old new asked are (well (HasObject (stored records) []) those [] (λ i some. absurd (some refl)) (none_agree those [] refl) (readable_whole (reads_all_lines request) (stored records) ids whole))

module _ (objects : Objects) (rows : List GraphRow) (agreeing : IsAgreeing objects rows) (m : Parents) (by : Sorting) (tips hidden : List ObjectId) where
  abbrev left : List ObjectId
  left = kept_tips objects by tips

  -- what a walk gave that ended is such a list by the parents that texts name
  pub listed : {Has : ObjectId → Type 0} (walk : Walk) (infos : List Info) → StartsFrom objects rows m by tips hidden walk → Ends Answers IsWalkFault Has walk infos (Ok tt) → IsSimpleBy objects (text_next objects) m by tips hidden (ids_in infos)
  listed walk infos starts (finished last h) = go hidden refl left refl
    where
      go : (hs : List ObjectId) → hidden ≡ hs → (ls : List ObjectId) → left ≡ ls → IsSimpleBy objects (text_next objects) m by tips hidden (ids_in infos)
      go [] e ls f = listed_text objects rows m by tips hidden walk starts agreeing infos h.0 last h.1 h.2 e
      go (j ∷ hs) e (k ∷ ls) f =
          let behind : hidden ≢ [] = λ n. let c : [] ≡ j ∷ hs = sym n ∙ e in cc in
          let keeps : left ≢ [] = λ n. let c : [] ≡ k ∷ ls = sym n ∙ f in cc in
          let whole : AreWhole objects (left ++ hidden) = all_read objects rows m by tips hidden walk starts agreeing infos h.0 last h.1 h.2 behind keeps in
          by_texts objects m by left hidden (time_order m by) (ids_in infos) whole (listed_whole objects rows m by tips hidden walk starts agreeing infos h.0 last h.1 h.2 behind)
      go (j ∷ hs) e [] f = listed_none objects rows m by tips hidden walk starts agreeing infos h.0 last h.1 h.2 (λ n. let c : [] ≡ j ∷ hs = sym n ∙ e in cc) f

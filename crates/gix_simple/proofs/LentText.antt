-- Treating parents neither reads nor changes the text that a walk lends, and its hidden tips; nor does the answer depend on them.
use Rattle.std.proofs.Common.{ℕ, ℤ, List, Bool, Option, Result}
use Rattle.gix_simple.proofs.Common.{ObjectId, Objects, Info, Error, SimpleWalk, Treated, Asks, remembers, ReadsTime, unasked, from_row, from_store, IsNew, Treats, hidden, refused, accepted, store_fails, no_memory_after, TreatsAll}
use Rattle.gix_simple.proofs.Common.{stops, Concludes, given, broken}
use Rattle.gix_object.specs.declared.decode.Error.{Error as DecodeError}
use Rattle.gix_simple.specs.Walk.{asks, known, no_memory, none, more}

module _ {F P : Type 0} (objects : F → Objects) (faulty : F → ObjectId → Type 0) (answers : P → ObjectId → Bool → P → Type 0)
    (text : List ℕ → List ℕ) (current : Option ObjectId → Option ObjectId) (tips : List ObjectId → List ObjectId) where
  -- a walk that lends another text, or has other hidden tips
  abbrev changed : SimpleWalk F P → SimpleWalk F P
  changed walk = record walk { text = text walk.text; current = current walk.current; hidden_tips = tips walk.hidden_tips }

  asks_with : {old : SimpleWalk F P} {i : ObjectId} {answer : Bool} {p : P} → Asks objects faulty answers old i answer p → Asks objects faulty answers (changed old) i answer p
  asks_with (remembers e) = remembers e
  asks_with (asks e a) = asks e a

  new_with : {old : SimpleWalk F P} {i : ObjectId} → IsNew objects faulty answers old i → IsNew objects faulty answers (changed old) i
  new_with n = record { open_to = n.open_to; unseen = n.unseen }

  time_with : {old : SimpleWalk F P} {by_row : Bool} {i : ObjectId} {r : _} → ReadsTime objects faulty answers old by_row i r → ReadsTime objects faulty answers (changed old) by_row i r
  time_with (unasked e) = unasked e
  time_with (from_row e b) = from_row e b
  time_with (from_store e b) = from_store e b
  time_with (store_fails e b f) = store_fails e b f

  treats_with : {by_row : Bool} {i : ObjectId} {how : Treated} {old new : SimpleWalk F P} → Treats objects faulty answers old by_row i how new → Treats objects faulty answers (changed old) by_row i how (changed new)
  treats_with (hidden e) = hidden e
  treats_with (known e) = known e
  treats_with (refused n a) = refused (new_with n) (asks_with a)
  treats_with (accepted n a t q) = accepted (new_with n) (asks_with a) (time_with t) q
  treats_with (store_fails n a t) = store_fails (new_with n) (asks_with a) (time_with t)
  treats_with no_memory = no_memory
  treats_with (no_memory_after n a left) = no_memory_after (new_with n) (asks_with a) left

  pub treats_all_with : {by_row : Bool} {how : Treated} {new : SimpleWalk F P} {old : SimpleWalk F P} {ids : List ObjectId} → TreatsAll objects faulty answers by_row old ids how new → TreatsAll objects faulty answers by_row (changed old) ids how (changed new)
  treats_all_with none = none
  treats_all_with (more t rest) = more (treats_with t) (treats_all_with rest)
  treats_all_with (stops h t) = stops h (treats_with t)

  pub concludes_with : {i : ObjectId} {ps : List ObjectId} {generation : Option ℕ} {time : Option ℤ} {shown : List ℕ} {fault : Option DecodeError} {walk : SimpleWalk F P} {how : Treated} {answer : Result Info Error} {new : SimpleWalk F P}
      → Concludes objects faulty answers i ps generation time shown fault walk how answer new
      → Concludes objects faulty answers i ps generation time shown fault (changed walk) how answer (record new { hidden_tips = tips new.hidden_tips })
  concludes_with (given f is) = given f is
  concludes_with (broken f) = broken f
  concludes_with store_fails = store_fails
  concludes_with no_memory = no_memory

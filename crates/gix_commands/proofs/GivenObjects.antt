-- Given objects and rows that have what was read of others: what is written of that is right of them.
use Rattle.std.proofs.Common.{◌≡◌, true, List, [], ℕ, ℤ, All, Contains, map, refl, subst}
use Rattle.std.proofs.lemmas.List.Elements.{All-contains}
use Rattle.std.proofs.Math.ListN.{get_or}
use Rattle.gix_commands.proofs.Common.{Contains-get_or, Info, ObjectId}
use Rattle.gix_statement.proofs.SameLines.{same_texts}
use Rattle.gix_statement.specs.WholeStatement.{Choice, Entry, InEach, IsCommit, IsThere, IsTree, Objects, Row, Unfolds, chosen, commit_line, other, says_more, text_in, tree, whole, written}
use Rattle.gix_commands.specs.Walked.{Any, Have}
use Rattle.gix_commands.proofs.RowsAsTexts.{from_map}

-- they have each commit and each tree that was read, and if a commit is stored, the same text of it
pub record HasAll (read : Objects) (Stored : ObjectId → Type 0) (given : Objects) (rows : List Row) : Type 0 where
  pub commit : (r : Row) → IsCommit read [] r → IsCommit given rows r
  pub tree : (i : ObjectId) (entries : List Entry) → IsTree read i entries → IsTree given i entries
  pub text : (i : ObjectId) → Stored i → IsThere read [] i → IsThere given [] i × (text_in (read i) ≡ text_in (given i))

-- what was read has all of itself
pub itself : (read : Objects) → HasAll read Any read []
itself read = record { commit = λ r c. c; tree = λ i entries t. t; text = λ i any there. (there, refl) }

-- if lines have a format, these are stored
abbrev pub AreStored : (ObjectId → Type 0) → Choice → List ObjectId → Type 0
AreStored Stored c ids = says_more c.line.format ≡ true → (i : ObjectId) → Contains ids i → Stored i

pub ids_stored : (Stored : ObjectId → Type 0) (c : Choice) (infos : List Info) → Have (λ i. says_more c.line.format ≡ true → Stored i) infos → AreStored Stored c (map (λ info. info.id) infos)
ids_stored Stored c infos have e i m = let from = from_map (λ (info : Info). info.id) infos i m in subst Stored from.2 (have from.0 from.1 e)

module _ {read : Objects} {Stored : ObjectId → Type 0} {given : Objects} {rows : List Row} (on : HasAll read Stored given rows) where
  pub here_on : (i : ObjectId) → IsThere read [] i → IsThere given rows i
  here_on i (r, is, commit) = (r, is, on.commit r commit)

  pub unfolds_on : {path : List ℕ} {entries : List Entry} {placed : List (List ℕ × Entry)} → Unfolds read path entries placed → Unfolds given path entries placed
  unfolds_on whole = whole
  unfolds_on (other mode rest) = other mode (unfolds_on rest)
  unfolds_on (tree {e = e} {inner = inner} mode is inside rest) = tree mode (on.tree e.id inner is) (unfolds_on inside) (unfolds_on rest)

  -- what holds in each history of what was read holds in each of the given
  pub each_on : {P : (ObjectId → List ObjectId) → (ObjectId → ℤ) → Type 0} → InEach read [] P → InEach given rows P
  each_on each ps ts h = each ps ts (λ r c. h r (on.commit r c))

  pub texts_on : (c : Choice) (ids : List ObjectId) → AreStored Stored c ids → All (IsThere read []) ids → says_more c.line.format ≡ true → All (IsThere given []) ids
  texts_on c ids stored there e k d few = (on.text (get_or ids k d) (stored e _ (Contains-get_or ids k d few)) (there k d few)).0

  pub same_bytes : (parents : ObjectId → List ObjectId) (time : ObjectId → ℤ) (c : Choice) (ids : List ObjectId) → AreStored Stored c ids → All (IsThere read []) ids
      → written (commit_line read parents time c.line) c.form (chosen parents time c ids) ≡ written (commit_line given parents time c.line) c.form (chosen parents time c ids)
  same_bytes parents time c ids stored there = same_texts read given parents time c ids (λ e i m. (on.text i (stored e i m) (All-contains (IsThere read []) ids i there m)).1)

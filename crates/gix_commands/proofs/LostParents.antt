-- Which commits aren't there, and why.
use Rattle.std.proofs.Common.{◌≡◌, ◌≢◌, ℕ, List, [], ◌∷◌, Option, None, Some, Result, Ok, Err, Contains, refl, sym, ap, subst, ◌∙◌, ⊎_elim}
use Rattle.gix_commands.proofs.Common.{IsExistingFault, fault_of_find, never_faulty, seconds_of, get, Contains-cons_cases, Contains-here, Contains-there, no_member, ObjectId, kind_of, Object, Objects, Commit, read_commit, GraphRow, row_of, IsAgreeing, row_stands, ReadsWhole, commit_of_object, Fault}
use Rattle.std.specs.Option.{option_or}
use Rattle.gix_object.specs.declared.Kind.{Kind}
use Rattle.gix_object.specs.declared.Kind.TheVariants as object
use Rattle.gix_object.specs.declared.commit.CommitRefIter.{CommitRefIter}
use Rattle.gix_object.specs.declared.commit.Signature.{Signature}
use Rattle.gix_object.specs.declared.decode.Error.{Error as DecodeError}
use Rattle.gix_object.specs.declared.find.existing_iter.Error.{Error as ExistingError}
use Rattle.gix_object.specs.declared.find.existing_iter.Error.TheVariants as existing
use Rattle.gix_object.specs.CommitItems.{commit_items}
use Rattle.gix_object.specs.CommitRefIter.{commit_items_left, first_committer, signature_shown}
use Rattle.gix_object.specs.Find.{FindsCommit}
use Rattle.gix_revwalk.proofs.Committer.{fault_unread}
use Rattle.gix_revwalk.proofs.CommitterTime.{found_read}
use Rattle.gix_words.specs.declared.fault.Fault.TheVariants as fault
use Rattle.gix_commands.specs.Checked.{fault_of_kind, fault_of_object, fault_of_text, first_lost, lost_at, unless_row}

-- what holds of such a fault
module _ (P : Fault → Type 0) (missing : (i : ObjectId) → P (fault.Missing i)) (wrong : (i : ObjectId) → P (fault.WrongKind i)) (broken : P fault.Broken) where
  abbrev IsSo : Option Fault → Type 0
  IsSo None = Unit {0}
  IsSo (Some why) = P why

  of_text : (commit : Option Commit) → IsSo (fault_of_text commit)
  of_text None = broken
  of_text (Some commit) = tt

  of_kind : (i : ObjectId) (k : Kind) (bytes : List ℕ) → IsSo (fault_of_kind i k bytes)
  of_kind i object.Commit bytes = of_text (read_commit (kind_of i) bytes)
  of_kind i object.Tree bytes = wrong i
  of_kind i object.Blob bytes = wrong i
  of_kind i object.Tag bytes = wrong i

  of_object : (i : ObjectId) (o : Option Object) → IsSo (fault_of_object i o)
  of_object i None = missing i
  of_object i (Some o) = of_kind i o.kind o.bytes

  unless : (row : Option GraphRow) (why : Option Fault) → IsSo why → IsSo (unless_row row why)
  unless None why so = so
  unless (Some row) why so = tt

  either : (a b : Option Fault) → IsSo a → IsSo b → IsSo (option_or a b)
  either None b so other = other
  either (Some why) b so other = so

  of_all : (objects : Objects) (rows : List GraphRow) (ids : List ObjectId) → IsSo (first_lost objects rows ids)
  of_all objects rows [] = tt
  of_all objects rows (i ∷ ids) = either (lost_at objects rows i) (first_lost objects rows ids) (unless (row_of rows i) (fault_of_object i (get objects i)) (of_object i (get objects i))) (of_all objects rows ids)

  pub lost_so : (objects : Objects) (rows : List GraphRow) (ids : List ObjectId) (why : Fault) → first_lost objects rows ids ≡ Some why → P why
  lost_so objects rows ids why e = subst IsSo e (of_all objects rows ids)

none_either : (a b : Option Fault) → option_or a b ≡ None → (a ≡ None) × (b ≡ None)
none_either None b e = (refl, e)
none_either (Some why) b e = cc

module _ (objects : Objects) (i : ObjectId) where
  text_there : (commit : Commit) (o : Option Object) → commit_of_object i o ≡ Some commit → fault_of_object i o ≡ None
  text_there commit None e = cc
  text_there commit (Some o) e = go o.kind e
    where
      go : (k : Kind) → commit_of_object i (Some (record o { kind = k })) ≡ Some commit → fault_of_kind i k o.bytes ≡ None
      go object.Commit r = ap fault_of_text r
      go object.Tree r = cc
      go object.Blob r = cc
      go object.Tag r = cc

  -- what reads whole is there
  pub there : (rows : List GraphRow) → ReadsWhole objects i → lost_at objects rows i ≡ None
  there rows whole = go (row_of rows i)
    where
      go : (row : Option GraphRow) → unless_row row (fault_of_object i (get objects i)) ≡ None
      go None = text_there whole.commit (get objects i) whole.stored
      go (Some row) = refl

  read_there : (o : Option Object) → get objects i ≡ o → fault_of_object i o ≡ None → ReadsWhole objects i
  read_there None e f = cc
  read_there (Some o) e f = go o.kind refl f
    where
      text : (c : Option Commit) → read_commit (kind_of i) o.bytes ≡ c → o.kind ≡ object.Commit → fault_of_text c ≡ None → ReadsWhole objects i
      text None r k f = cc
      text (Some commit) r k f = record { commit = commit; stored = ap (commit_of_object i) e ∙ ap (λ x. commit_of_object i (Some (record o { kind = x }))) k ∙ r }

      go : (k : Kind) → o.kind ≡ k → fault_of_kind i k o.bytes ≡ None → ReadsWhole objects i
      go object.Commit k r = text (read_commit (kind_of i) o.bytes) refl k r
      go object.Tree k r = cc
      go object.Blob k r = cc
      go object.Tag k r = cc

  -- and what is there, by a row that agrees or by its text, reads whole
  whole_there : (rows : List GraphRow) → IsAgreeing objects rows → lost_at objects rows i ≡ None → ReadsWhole objects i
  whole_there rows agrees e = go (row_of rows i) refl e
    where
      go : (row : Option GraphRow) → row_of rows i ≡ row → unless_row row (fault_of_object i (get objects i)) ≡ None → ReadsWhole objects i
      go None at f = read_there (get objects i) refl f
      go (Some row) at f = let s = row_stands rows i row at in subst (ReadsWhole objects) (sym s.1) (agrees row s.0).whole

pub all_there : (objects : Objects) (rows : List GraphRow) (ids : List ObjectId) → ((i : ObjectId) → Contains ids i → ReadsWhole objects i) → first_lost objects rows ids ≡ None
all_there objects rows [] whole = refl
all_there objects rows (i ∷ ids) whole = ap (λ o. option_or o (first_lost objects rows ids)) (there objects i rows (whole i (Contains-here i ids))) ∙ all_there objects rows ids (λ j c. whole j (Contains-there j i ids c))

pub whole_all : (objects : Objects) (rows : List GraphRow) → IsAgreeing objects rows → (ids : List ObjectId) → first_lost objects rows ids ≡ None → (i : ObjectId) → Contains ids i → ReadsWhole objects i
whole_all objects rows agrees [] e i c = absurd (no_member i c)
whole_all objects rows agrees (j ∷ ids) e i c =
    let n : (lost_at objects rows j ≡ None) × (first_lost objects rows ids ≡ None) = none_either (lost_at objects rows j) (first_lost objects rows ids) e in
    ⊎_elim (λ same. subst (ReadsWhole objects) same (whole_there objects j rows agrees n.0)) (whole_all objects rows agrees ids n.1 i) (Contains-cons_cases i j ids c)

-- what a look at a commit finds
module _ (objects : Objects) (rows : List GraphRow) (i : ObjectId) where
  pub lost_by_row : row_of rows i ≢ None → None ≡ lost_at objects rows i
  lost_by_row some = go (row_of rows i) some
    where
      go : (row : Option GraphRow) → row ≢ None → None ≡ unless_row row (fault_of_object i (get objects i))
      go None some = absurd (some refl)
      go (Some row) some = refl

  without_row : row_of rows i ≡ None → (why : Option Fault) → fault_of_object i (get objects i) ≡ why → why ≡ lost_at objects rows i
  without_row none why e = sym e ∙ ap (λ row. unless_row row (fault_of_object i (get objects i))) (sym none)

  pub lost_unfound : row_of rows i ≡ None → (e : ExistingError) (why : Fault) → why ≡ fault_of_find e → (e ≢ existing.Memory → IsExistingFault objects (never_faulty objects) i object.Commit e) → ◌≢◌ {A = Option Fault} (Some why) (Some fault.Memory) → Some why ≡ lost_at objects rows i
  lost_unfound none existing.Store why is h other = absurd (h (λ m. cc))
  lost_unfound none existing.Memory why is h other = absurd (other (ap (λ f. Some f) is))
  lost_unfound none (existing.NotFound oid) why is h other =
      let f = h (λ m. cc) in
      without_row none (Some why) (ap (fault_of_object i) f.1 ∙ (let same : fault.Missing i ≡ why = ap (λ j. fault.Missing j) (sym f.0) ∙ sym is in ap (λ x. Some x) same))
  lost_unfound none (existing.ObjectKind oid wanted actual) why is h other =
      let f = h (λ m. cc) in
      let same : fault.WrongKind i ≡ why = ap (λ j. fault.WrongKind j) (sym f.0) ∙ sym is in
      without_row none (Some why) (ap (fault_of_object i) f.4 ∙ wrong actual f.2 f.3 ∙ ap (λ x. Some x) same)
    where
      wrong : (k : Kind) → k ≢ object.Commit → (bytes : List ℕ) → fault_of_kind i k bytes ≡ Some (fault.WrongKind i)
      wrong object.Commit other bytes = absurd (other refl)
      wrong object.Tree other bytes = refl
      wrong object.Blob other bytes = refl
      wrong object.Tag other bytes = refl

  module _ (items : CommitRefIter) (found : FindsCommit objects (never_faulty objects) i (Ok items)) (read : Result Signature DecodeError) (shown : signature_shown read ≡ first_committer (commit_items_left items)) where
    pub lost_unread : row_of rows i ≡ None → (e : DecodeError) → read ≡ Err e → Some fault.Broken ≡ lost_at objects rows i
    lost_unread none e is =
        without_row none (Some fault.Broken)
        (ap (fault_of_object i) found.1 ∙ ap fault_of_text (fault_unread (commit_items (kind_of i) found.0) e (ap first_committer (sym found.2) ∙ sym shown ∙ ap signature_shown is)))

    pub read_whole : (signature : Signature) → read ≡ Ok signature → None ≡ lost_at objects rows i
    read_whole signature is =
        let h = found_read objects (never_faulty objects) i items found read shown signature is (seconds_of signature.bytes.now) refl in
        sym (there objects i rows (record { commit = h.commit; stored = h.stored }))

-- a look at one commit after the other
module _ (objects : Objects) (rows : List GraphRow) (i : ObjectId) (ids : List ObjectId) (found : Option Fault) (looks : ◌≢◌ {A = Option Fault} found (Some fault.Memory) → found ≡ lost_at objects rows i) where
  pub first_found : found ≢ None → ◌≢◌ {A = Option Fault} found (Some fault.Memory) → found ≡ first_lost objects rows (i ∷ ids)
  first_found some other = go (lost_at objects rows i) (looks other)
    where
      go : (at : Option Fault) → found ≡ at → found ≡ option_or at (first_lost objects rows ids)
      go None e = absurd (some e)
      go (Some why) e = e

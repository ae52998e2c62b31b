-- A committer is read exactly where a commit is, and has the commit's time.
use Rattle.std.proofs.Common.{ℕ, zero, suc, ◌≡◌, List, [], ◌∷◌, ◌++◌, length, Option, Some, None, Result, Ok, Err, pos, ℤ, refl, sym, ap, subst, ◌∙◌}
use Rattle.std.specs.FinMap.{get}
use Rattle.gix_hash.specs.declared.Kind.{Kind}
use Rattle.gix_revwalk.proofs.Common.{ObjectId, kind_of, Objects, commit_items_left, first_committer, signature_shown, Commit, commit_of, commit_of_items, read_commit, seconds_of, commit_at, commit_of_object, time_in, time_of, HasTime}
use Rattle.gix_object.specs.declared.Kind.TheVariants as object
use Rattle.gix_object.specs.declared.decode.Error.{Error as DecodeError}
use Rattle.gix_object.specs.CommitItems.{AtTree, AtParents, AtCommitter, Front, tree_front, committer_front, unfolded, items_within, commit_items}
use Rattle.gix_object.specs.declared.commit.CommitRefIter.{CommitRefIter}
use Rattle.gix_object.specs.declared.commit.Signature.{Signature}
use Rattle.gix_object.specs.Find.{FindsCommit}
use Rattle.gix_revwalk.specs.Either.{seconds_told}
use Rattle.gix_revwalk.specs.Reading.{ReadsSeconds}
use Rattle.gix_revwalk.proofs.Committer.{fault_unread}
use Rattle.gix_revwalk.proofs.ReadsWhole.{IsParentsFront, ended, faulty, parent, author, parents_front}

abbrev pub TellsTime : Option Commit → Result (List ℕ) DecodeError → Type 0
TellsTime (Some c) (Ok signature) = c.time ≡ seconds_of signature
TellsTime (Some c) (Err e) = ⊥
TellsTime None (Ok signature) = ⊥
TellsTime None (Err e) = Unit {0}

committer_tells : (n : ℕ) (k : Kind) (tree : ObjectId) (ps : List ObjectId) (bytes : List ℕ) → TellsTime (commit_of tree ps (items_within n k AtCommitter bytes)) (first_committer (items_within n k AtCommitter bytes))
committer_tells zero k tree ps bytes = tt
committer_tells (suc n) k tree ps [] = tt
committer_tells (suc n) k tree ps (b ∷ bs) = go _
  where
    go : (o : Option (List ℕ × List ℕ)) → TellsTime (commit_of tree ps (unfolded (committer_front o) (items_within n k))) (first_committer (unfolded (committer_front o) (items_within n k)))
    go None = tt
    go (Some r) = refl

parents_tells : (n : ℕ) (k : Kind) (tree : ObjectId) (ps : List ObjectId) (bytes : List ℕ) → TellsTime (commit_of tree ps (items_within n k AtParents bytes)) (first_committer (items_within n k AtParents bytes))
parents_tells zero k tree ps bytes = tt
parents_tells (suc n) k tree ps bytes = go (λ qs rest. parents_tells n k tree qs rest) (parents_front k bytes)
  where
    go : {f : Front} → ((qs : List ObjectId) (rest : List ℕ) → TellsTime (commit_of tree qs (items_within n k AtParents rest)) (first_committer (items_within n k AtParents rest))) → IsParentsFront f → TellsTime (commit_of tree ps (unfolded f (items_within n k))) (first_committer (unfolded f (items_within n k)))
    go r ended = tt
    go r faulty = tt
    go r (parent {i = i} {rest = rest}) = r (ps ++ i ∷ []) rest
    go r (author {rest = rest}) = committer_tells n k tree ps rest

tree_tells : (n : ℕ) (k : Kind) (bytes : List ℕ) → TellsTime (commit_of_items (items_within n k AtTree bytes)) (first_committer (items_within n k AtTree bytes))
tree_tells zero k bytes = tt
tree_tells (suc n) k [] = tt
tree_tells (suc n) k (b ∷ bs) = go _
  where
    go : (o : Option (ObjectId × List ℕ)) → TellsTime (commit_of_items (unfolded (tree_front o) (items_within n k))) (first_committer (unfolded (tree_front o) (items_within n k)))
    go None = tt
    go (Some r) = parents_tells n k r.0 [] r.1

pub tells : (k : Kind) (bytes : List ℕ) → TellsTime (read_commit k bytes) (first_committer (commit_items k bytes))
tells k bytes = tree_tells (length bytes) k bytes

module _ (objects : Objects) (i : ObjectId) (bytes : List ℕ) (there : get objects i ≡ Some (record { kind = object.Commit; bytes = bytes })) where
  at : commit_at objects i ≡ read_commit (kind_of i) bytes
  at = ap (commit_of_object i) there

  pub committer_read : (signature : List ℕ) → first_committer (commit_items (kind_of i) bytes) ≡ Ok signature → HasTime objects i (seconds_of signature)
  committer_read signature e = go (read_commit (kind_of i) bytes) refl (subst (TellsTime (read_commit (kind_of i) bytes)) e (tells (kind_of i) bytes))
    where
      go : (o : Option Commit) → read_commit (kind_of i) bytes ≡ o → TellsTime o (Ok signature) → HasTime objects i (seconds_of signature)
      go None r h = absurd h
      go (Some c) r h = record { commit = c; stored = at ∙ r; same = h }

  committer_unread : (e : DecodeError) → first_committer (commit_items (kind_of i) bytes) ≡ Err e → time_of objects i ≡ pos 0
  committer_unread fault e = ap time_in (at ∙ fault_unread (commit_items (kind_of i) bytes) fault e)

pub time_read : (objects : Objects) (i : ObjectId) (time : ℤ) → HasTime objects i time → time_of objects i ≡ time
time_read objects i time r = ap time_in r.stored ∙ r.same

-- what the committer of a commit that was found says
module _ (objects : Objects) (bad : ObjectId → Type 0) (i : ObjectId) (items : CommitRefIter) (found : FindsCommit objects bad i (Ok items)) (read : Result Signature DecodeError) (shown : signature_shown read ≡ first_committer (commit_items_left items)) where
  pub found_read : (signature : Signature) → read ≡ Ok signature → (time : ℤ) → time ≡ seconds_of signature.bytes.now → HasTime objects i time
  found_read signature e time t = subst (HasTime objects i) (sym t) (committer_read objects i found.0 found.1 signature.bytes.now (ap first_committer (sym found.2) ∙ sym shown ∙ ap signature_shown e))

abbrev pub SaysTime : Objects → ObjectId → Result ℤ DecodeError → Type 0
SaysTime objects i (Ok time) = HasTime objects i time
SaysTime objects i (Err fault) = time_of objects i ≡ pos 0

-- what a time that was read says
pub says_time : (objects : Objects) (i : ObjectId) (time : Result ℤ DecodeError) → ReadsSeconds objects i time → SaysTime objects i time
says_time objects i time h = subst (SaysTime objects i) (sym h.told) (go (first_committer (commit_items (kind_of i) h.bytes)) refl)
  where
    go : (r : Result (List ℕ) DecodeError) → first_committer (commit_items (kind_of i) h.bytes) ≡ r → SaysTime objects i (seconds_told r)
    go (Ok signature) e = committer_read objects i h.bytes h.stored signature e
    go (Err fault) e = committer_unread objects i h.bytes h.stored fault e

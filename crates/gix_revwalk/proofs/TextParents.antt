-- A commit that reads whole has the parents that its text names.
use Rattle.std.proofs.Common.{◌≡◌, ℕ, List, Option, Some, None, refl, sym, ap, ◌∙◌}
use Rattle.std.specs.FinMap as map_of
use Rattle.gix_revwalk.proofs.Common.{ObjectId, Commit, read_commit, kind_of, Object, Objects, ReadsWhole, parents_of, parents_in, commit_of_kind, commit_of_object, text_next, next_in}
use Rattle.gix_object.specs.declared.Kind.{Kind}
use Rattle.gix_object.specs.declared.Kind.TheVariants as object
use Rattle.gix_revwalk.specs.declared.Parents.TheVariants as mode
use Rattle.gix_revwalk.proofs.ReadsWhole.{scan_is}

abbrev pub IsStoredAs : Objects → ObjectId → Commit → Type 0
IsStoredAs objects i commit = (bytes : List ℕ) × (map_of.get objects i ≡ Some (record { kind = object.Commit; bytes = bytes })) × (read_commit (kind_of i) bytes ≡ Some commit)

-- it is stored as a commit
pub commit_stored : (objects : Objects) (i : ObjectId) (w : ReadsWhole objects i) → IsStoredAs objects i w.commit
commit_stored objects i w = go (map_of.get objects i) refl
  where
    go : (o : Option Object) → map_of.get objects i ≡ o → IsStoredAs objects i w.commit
    go None e = let bad : None ≡ Some w.commit = sym (ap (commit_of_object i) e) ∙ w.stored in cc
    go (Some thing) e = kinds thing.kind refl
      where
        read : (k : Kind) → thing.kind ≡ k → commit_of_kind i k thing.bytes ≡ Some w.commit
        read k q = sym (ap (λ k. commit_of_kind i k thing.bytes) q) ∙ sym (ap (commit_of_object i) e) ∙ w.stored

        kinds : (k : Kind) → thing.kind ≡ k → IsStoredAs objects i w.commit
        kinds object.Commit q = (thing.bytes, e ∙ ap (λ k. Some (record { kind = k; bytes = thing.bytes })) q, read object.Commit q)
        kinds object.Tree q = let bad : None ≡ Some w.commit = read object.Tree q in cc
        kinds object.Blob q = let bad : None ≡ Some w.commit = read object.Blob q in cc
        kinds object.Tag q = let bad : None ≡ Some w.commit = read object.Tag q in cc

pub text_whole : (objects : Objects) (i : ObjectId) → ReadsWhole objects i → parents_of objects i ≡ text_next objects i
text_whole objects i w = let t = commit_stored objects i w in ap parents_in w.stored ∙ sym (ap (next_in i) t.1 ∙ ap (λ r. r.0) (scan_is (kind_of i) t.0 w.commit t.2 mode.All))

-- What is kept of a commit is its header.
use Rattle.std.proofs.Common.{◌≡◌, Bool, true, false, cond, Option, Some, None, Result, Ok, Err, OnOk, OnErr, refl, sym, ap, subst, ◌∙◌}
use Rattle.std.specs.FinMap as map_of
use Rattle.std.specs.declared.alloc.AllocError.{AllocError}
use Rattle.std.proofs.lemmas.Option.{none-some}
use Rattle.gix_hash.specs.declared.ObjectId.{ObjectId}
use Rattle.gix_hash.specs.Id.{id_cmp, is_same}
use Rattle.gix_hash.proofs.Ids.Membership.{id_total, same_is}
use Rattle.gix_object.specs.Object.{Objects}
use Rattle.gix_revwalk.specs.declared.read.Header.{Header}
use Rattle.gix_revwalk.specs.Reading.{ReadsHeader}
use Rattle.gix_topo.specs.Inside.Reader.{AreKept}

module _ (objects : Objects) where
  -- at first nothing is kept
  pub none_kept : (kept : map_of.FinMap id_cmp Header) → kept ≡ map_of.empty → AreKept objects kept
  none_kept kept is i header e = absurd (none-some header (sym (ap (λ m. map_of.get m i) is ∙ map_of.get-empty id_cmp i) ∙ e))

  module _ (old new : map_of.FinMap id_cmp Header) (are : AreKept objects old) where
    -- a header is kept, or there was no memory for it
    pub also_kept : (i : ObjectId) (header : Header) → ReadsHeader objects i header → (r : Result (Option Header) AllocError) → OnOk r (new ≡ map_of.insert old i header) → OnErr r (new ≡ old) → AreKept objects new
    also_kept i header read (Err x) ok err j other e = are j other (ap (λ m. map_of.get m j) (sym err) ∙ e)
    also_kept i header read (Ok x) ok err j other e = go (is_same j i) refl (sym (ap (λ m. map_of.get m j) ok ∙ map_of.get-insert id_total old i header j) ∙ e)
      where
        go : (b : Bool) → is_same j i ≡ b → cond b (Some header) (map_of.get old j) ≡ Some other → ReadsHeader objects j other
        go false s f = are j other f
        go true s f = let it : header ≡ other = cc in subst (ReadsHeader objects j) it (subst (λ k. ReadsHeader objects k header) (sym (same_is j i s)) read)

    -- what was given away isn't kept any more
    pub others_kept : (i : ObjectId) → new ≡ map_of.remove old i → AreKept objects new
    others_kept i is j other e = go (is_same j i) (sym (ap (λ m. map_of.get m j) is ∙ map_of.get-remove id_total old i j) ∙ e)
      where
        go : (b : Bool) → cond b None (map_of.get old j) ≡ Some other → ReadsHeader objects j other
        go false f = are j other f
        go true f = absurd (none-some other f)

-- a copy of a header is the same
pub same_header : (objects : Objects) (i : ObjectId) (header copy : Header) → ReadsHeader objects i header → copy.parent_ids.items ≡ header.parent_ids.items → copy.time ≡ header.time → ReadsHeader objects i copy
same_header objects i header copy h parents time = record { bytes = h.bytes; stored = h.stored; parents = parents ∙ h.parents; time = time ∙ h.time }

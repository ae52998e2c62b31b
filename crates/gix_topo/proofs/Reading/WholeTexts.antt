-- Where all that is walked reads whole, texts name what is reached, and the walk gives the same by the texts.
use Rattle.std.proofs.Common.{◌≡◌, List, Contains, sym, ap, subst}
use Rattle.gix_topo.proofs.Common.{ObjectId, Objects, Reaches, start, step, Parents, ReadsWhole, by_mode, parents_of, walked_parents, TopoPlan, walked_of, text_walked, IsMember, IsTextMember, IsSound, text_whole}
use Rattle.gix_revwalk.specs.Texts.{text_next}
use Rattle.gix_topo.proofs.Reading.ReadsCommit.{text_has}

module _ (objects : Objects) (parents : Parents) (tips ends : List ObjectId) where
  abbrev walked : ObjectId → List ObjectId
  walked = walked_parents objects parents

  abbrev named : ObjectId → List ObjectId
  named i = by_mode parents (text_next objects i)

  -- of what tips reach
  module _ (tips_whole : (i : ObjectId) → Reaches walked tips i → ReadsWhole objects i) where
    pub tips_text : (i : ObjectId) → Reaches walked tips i → Reaches named tips i
    tips_text i (start m) = start m
    tips_text i (step {c = c} r m) = step (tips_text c r) (subst (λ ids. Contains (by_mode parents ids) i) (text_whole objects c (tips_whole c r)) m)

    pub text_tips : (i : ObjectId) → Reaches named tips i → Reaches walked tips i
    text_tips i (start m) = start m
    text_tips i (step {c = c} r m) = let h : Reaches walked tips c = text_tips c r in step h (subst (λ ids. Contains (by_mode parents ids) i) (sym (text_whole objects c (tips_whole c h))) m)

  -- and of what ends reach
  pub ends_text : (i : ObjectId) → Reaches (parents_of objects) ends i → Reaches (text_next objects) ends i
  ends_text i (start m) = start m
  ends_text i (step {c = c} r m) = step (ends_text c r) (text_has objects c i m)

  pub text_ends : ((i : ObjectId) → Reaches (parents_of objects) ends i → ReadsWhole objects i) → (i : ObjectId) → Reaches (text_next objects) ends i → Reaches (parents_of objects) ends i
  text_ends ends_whole i (start m) = start m
  text_ends ends_whole i (step {c = c} r m) = let h : Reaches (parents_of objects) ends c = text_ends ends_whole c r in step h (subst (λ ids. Contains ids i) (sym (text_whole objects c (ends_whole c h))) m)

module _ {F : Type 0} (objects : F → Objects) (faulty : F → ObjectId → Type 0) (plan : TopoPlan F) (sound : IsSound objects faulty plan) where
  -- the walk gives the same by the texts
  pub member_text : (i : ObjectId) → IsMember objects plan i → IsTextMember objects plan i
  member_text i m = record {
    reached = tips_text (objects plan.store) plan.parents plan.tips plan.ends sound.tips_whole i m.reached;
    outside = λ r. m.outside (text_ends (objects plan.store) plan.parents plan.tips plan.ends sound.ends_whole i r);
  }

  pub text_member : (i : ObjectId) → IsTextMember objects plan i → IsMember objects plan i
  text_member i m = record {
    reached = text_tips (objects plan.store) plan.parents plan.tips plan.ends sound.tips_whole i m.reached;
    outside = λ r. m.outside (ends_text (objects plan.store) plan.parents plan.tips plan.ends i r);
  }

  -- and its commits have the parents that their texts name
  pub member_names : (i : ObjectId) → IsTextMember objects plan i → parents_of (objects plan.store) i ≡ text_next (objects plan.store) i
  member_names i m = text_whole (objects plan.store) i (sound.tips_whole i (text_member i m).reached)

  pub member_walks : (i : ObjectId) → IsTextMember objects plan i → walked_of objects plan i ≡ text_walked objects plan i
  member_walks i m = ap (by_mode plan.parents) (member_names i m)

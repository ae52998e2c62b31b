-- The best common ancestors, by the parents that texts name and in the words of the statement.
use Rattle.std.proofs.Common.{◌≡◌, ◌↔◌, List, [], ◌∷◌, AllPairs, Contains, get_or, refl, subst, Less}
use Rattle.gix_commands.proofs.Common.{ObjectId, Objects, AreWhole, Contains-here, Contains-there, by_bytes, only_member, parents_of, text_next}
use Rattle.gix_hash.specs.Id.{id_cmp}
use Rattle.gix_hash.specs.Reach.{Reaches, start}
use Rattle.gix_hash.specs.declared.ObjectId.TheVariants.{Sha1, Sha256}
use Rattle.gix_merge_base.specs.Bases.{IsBest, IsCommon, AreBases}
use Rattle.gix_statement.specs.WholeStatement as page
use Rattle.gix_commands.specs.Pages.{page_objects}
use Rattle.gix_commands.proofs.SameReach.{all_met, back, is_there, there}

-- the order of ids
pub same_order : (i j : ObjectId) → id_cmp i j ≡ by_bytes i j
same_order (Sha1 a) (Sha1 b) = refl
same_order (Sha1 a) (Sha256 b) = refl
same_order (Sha256 a) (Sha1 b) = refl
same_order (Sha256 a) (Sha256 b) = refl

pub rising_so : (ids : List ObjectId) → AllPairs (λ i j. id_cmp i j ≡ Less) ids → AllPairs (λ i j. by_bytes i j ≡ Less) ids
rising_so ids rising k l d less within = subst (λ o. o ≡ Less) (same_order (get_or ids k d) (get_or ids l d)) (rising k l d less within)

-- where all that one and the others reach are whole commits
module _ (objects : Objects) (one : ObjectId) (others : List ObjectId) (whole : AreWhole objects (one ∷ others)) where
  abbrev Met : ObjectId → Type 0
  Met = Reaches (parents_of objects) (one ∷ others)

  by_one : (j : ObjectId) → Contains (one ∷ []) j → Met j
  by_one j m = start (subst (Contains (one ∷ others)) (only_member one j m) (Contains-here one others))

  by_others : (j : ObjectId) → Contains others j → Met j
  by_others j m = start (Contains-there j one others m)

  pub one_there : (i : ObjectId) → page.Reaches (text_next objects) (one ∷ []) i → page.IsThere (page_objects objects) [] i
  one_there = is_there objects (one ∷ others) whole (one ∷ []) by_one

  pub others_there : (i : ObjectId) → page.Reaches (text_next objects) others i → page.IsThere (page_objects objects) [] i
  others_there = is_there objects (one ∷ others) whole others by_others

  abbrev Common : ObjectId → Type 0
  Common = IsCommon (parents_of objects) one others

  abbrev Also : ObjectId → Type 0
  Also i = page.Reaches (text_next objects) (one ∷ []) i × page.Reaches (text_next objects) others i

  common_there : (i : ObjectId) → Common i → Also i
  common_there i k = (there objects (one ∷ others) whole (one ∷ []) by_one i k.of_one, there objects (one ∷ others) whole others by_others i k.of_others)

  common_back : (i : ObjectId) → Also i → Common i
  common_back i k = record { of_one = back objects (one ∷ others) whole (one ∷ []) by_one i k.0; of_others = back objects (one ∷ others) whole others by_others i k.1 }

  by_common : (j : ObjectId) → Common j → (i : ObjectId) → Contains (j ∷ []) i → Met i
  by_common j k i m = subst Met (only_member j i m) (all_met objects (one ∷ others) whole (one ∷ []) by_one j k.of_one)

  base_there : (i : ObjectId) → IsBest (parents_of objects) one others i → page.IsBase (text_next objects) one others i
  base_there i b = (common_there i b.common, λ j k r. let c = common_back j k in b.alone j c (back objects (one ∷ others) whole (j ∷ []) (by_common j c) i r))

  base_back : (i : ObjectId) → page.IsBase (text_next objects) one others i → IsBest (parents_of objects) one others i
  base_back i b = record { common = common_back i b.0; alone = λ j k r. b.1 j (common_there j k) (there objects (one ∷ others) whole (j ∷ []) (by_common j k) i r) }

  pub bases_so : (bases : List ObjectId) → AreBases (parents_of objects) one others bases → (i : ObjectId) → Contains bases i ↔ page.IsBase (text_next objects) one others i
  bases_so bases are i = (λ c. base_there i ((are.exact i).0 c), λ b. (are.exact i).1 (base_back i b))

-- Ids that are new are collected, and are old from then on.
use Rattle.std.proofs.Common.{◌≡◌, ◌||◌, List, [], ◌∷◌, ◌++◌, Bool, cond, not, sym, ap, subst, ◌∙◌, arith, append-nil}
use Rattle.std.specs.FinSet as set
use Rattle.gix_hash.specs.declared.ObjectId.{ObjectId}
use Rattle.gix_hash.specs.Id.{id_cmp, is_among}
use Rattle.gix_hash.proofs.Ids.Membership.{id_total, among-append, among-one}
use Rattle.gix_merge_base.specs.Inside.Steps.{Collects}
use Rattle.gix_revwalk.specs.Ids.{new_ids}
use Rattle.gix_revwalk.proofs.NewIds.{fresh-append}

-- these ids were put into a set
abbrev pub IsOldNow : set.FinSet id_cmp → List ObjectId → set.FinSet id_cmp → Type 0
IsOldNow first ids now = (j : ObjectId) → set.contains now j ≡ (is_among j ids || set.contains first j)

-- one more id is put into a set
pub collects_one : (ids : List ObjectId) (old : set.FinSet id_cmp) (i : ObjectId) → Collects ids old → Collects (ids ++ i ∷ []) (set.insert old i)
collects_one ids old i h = λ j.
    let here = h j in
    let put = set.contains-insert id_total old i j in
    let more = among-append j ids (i ∷ []) in
    let one = among-one j i in
    grind arith

pub old_one : (first : set.FinSet id_cmp) (ids : List ObjectId) (old : set.FinSet id_cmp) (i : ObjectId) → IsOldNow first ids old → IsOldNow first (ids ++ i ∷ []) (set.insert old i)
old_one first ids old i h = λ j.
    let here = h j in
    let put = set.contains-insert id_total old i j in
    let more = among-append j ids (i ∷ []) in
    let one = among-one j i in
    grind arith

-- a new id is appended, and an old one isn't
pub new_one : (first : set.FinSet id_cmp) (ids those : List ObjectId) (old : set.FinSet id_cmp) (i : ObjectId) → IsOldNow first ids old → those ≡ new_ids (set.contains first) ids
    → cond (not (set.contains old i)) (those ++ i ∷ []) those ≡ new_ids (set.contains first) (ids ++ i ∷ [])
new_one first ids those old i h is =
    let here = h i in
    let more = fresh-append (set.contains first) ids (i ∷ []) in
    let nothing = append-nil those in
    grind arith

pub record IsOneMore (first : set.FinSet id_cmp) (ids those : List ObjectId) (now : set.FinSet id_cmp) : Type 0 where
  pub those_are : those ≡ new_ids (set.contains first) ids
  pub old_now : IsOldNow first ids now

-- a turn of the loop
pub turn : (first : set.FinSet id_cmp) (ids those more later : List ObjectId) (old now : set.FinSet id_cmp) (i : ObjectId) (added : Bool) → later ≡ ids ++ i ∷ [] → those ≡ new_ids (set.contains first) ids → IsOldNow first ids old
    → added ≡ not (set.contains old i) → now ≡ set.insert old i → more ≡ cond added (those ++ i ∷ []) those → IsOneMore first later more now
turn first ids those more later old now i added l is h a n m = record {
  those_are = m ∙ ap (λ b. cond b (those ++ i ∷ []) those) a ∙ new_one first ids those old i h is ∙ ap (new_ids (set.contains first)) (sym l);
  old_now = subst (λ xs. IsOldNow first xs now) (sym l) (subst (IsOldNow first (ids ++ i ∷ [])) (sym n) (old_one first ids old i h));
}

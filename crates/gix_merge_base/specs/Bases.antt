-- The best common ancestors of a commit and of some others, and why they aren't known.
use Rattle.std.specs.Prelude.{◌≡◌, ◌≢◌, ◌↔◌, List, [], ◌∷◌, AllPairs, Contains}
use Rattle.std.specs.declared.cmp.Ordering.TheVariants.{Less}
use Rattle.gix_hash.specs.declared.ObjectId.{ObjectId}
use Rattle.gix_hash.specs.Id.{id_cmp}
use Rattle.gix_hash.specs.Reach.{Reaches}
use Rattle.gix_object.specs.Object.{Objects}
use Rattle.gix_commitgraph.specs.Rows.{GraphRow}
use Rattle.gix_paint.specs.declared.Hidden.{Hidden}
use Rattle.gix_paint.specs.Painting.{IsFaultAt}
use Rattle.gix_contained.specs.declared.Error.{Error}
use Rattle.gix_contained.specs.Contained.{error_of}
use Rattle.gix_revwalk.specs.Agreeing.{IsAgreeing}
use Rattle.gix_revwalk.specs.Commits.{ReadsWhole, parents_of}

module _ (parents : ObjectId → List ObjectId) (one : ObjectId) (others : List ObjectId) where
  -- one reaches it, and some of the others reaches it
  pub record IsCommon (i : ObjectId) : Type 0 where
    pub of_one : Reaches parents (one ∷ []) i
    pub of_others : Reaches parents others i

  -- it is a common ancestor, and no other common ancestor reaches it
  pub record IsBest (i : ObjectId) : Type 0 where
    pub common : IsCommon i
    pub alone : (j : ObjectId) → IsCommon j → Reaches parents (j ∷ []) i → j ≡ i

  -- exactly the best common ancestors, each once, in rising order
  pub record AreBases (bases : List ObjectId) : Type 0 where
    pub rising : AllPairs (λ i j. id_cmp i j ≡ Less) bases
    pub exact : (i : ObjectId) → Contains bases i ↔ IsBest i

-- What an answer says where the rows agree with the store, or there are none: it is exactly the best common ancestors, and all that one and
-- others reach was read, by a row or from the store.
pub record FindsBases (objects : Objects) (rows : List GraphRow) (one : ObjectId) (others bases : List ObjectId) : Type 0 where
  pub bases_are : IsAgreeing objects rows → AreBases (parents_of objects) one others bases
  pub read : IsAgreeing objects rows → others ≢ [] → (i : ObjectId) → Reaches (parents_of objects) (one ∷ others) i → ReadsWhole objects i

-- the error is that of a commit which one or the others reach, and which can't be read
pub record IsFaultOf (objects : Objects) (faulty : ObjectId → Type 0) (one : ObjectId) (others : List ObjectId) (e : Error) : Type 0 where
  pub why : Hidden
  pub is : e ≡ error_of why
  pub id : ObjectId
  pub fault : IsFaultAt objects faulty id why
  pub reached : Reaches (parents_of objects) (one ∷ others) id

-- it is one where the rows agree with the store, or there are none
abbrev pub FailsBy : Objects → (ObjectId → Type 0) → List GraphRow → ObjectId → List ObjectId → Error → Type 0
FailsBy objects faulty rows one others e = IsAgreeing objects rows → IsFaultOf objects faulty one others e

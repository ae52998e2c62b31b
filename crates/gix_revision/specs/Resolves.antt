-- What words mean. Nothing is said of the id that a ref or the first digits of an id mean: the object that it leads to is named by its hash.
use Rattle.std.specs.Prelude.{◌≡◌, ◌⊎◌, ℕ, ◌-◌, Bool, not, List, [], ◌∷◌, ◌++◌, slice_get, Option, Some, None, true, false}
use Rattle.gix_hash.specs.declared.ObjectId.{ObjectId}
use Rattle.gix_object.specs.declared.Kind.{Kind}
use Rattle.gix_object.specs.declared.Kind.TheVariants as kind
use Rattle.gix_revision.specs.declared.parse.Target.{Target}
use Rattle.gix_revision.specs.declared.parse.Target.TheVariants as target
use Rattle.gix_revision.specs.declared.parse.Base.{Base}
use Rattle.gix_revision.specs.declared.parse.Base.TheVariants as base
use Rattle.gix_revision.specs.declared.parse.Step.{Step}
use Rattle.gix_revision.specs.declared.parse.Rev.{Rev}
use Rattle.gix_revision.specs.declared.parse.Revision.{Revision}
use Rattle.gix_revision.specs.declared.parse.Revision.TheVariants as revision
use Rattle.gix_revision.specs.declared.meaning.Chosen.{Chosen}
use Rattle.gix_revision.specs.declared.meaning.Chosen.TheVariants as chosen
use Rattle.gix_revision.specs.declared.meaning.Resolved.{Resolved}
use Rattle.gix_revision.specs.Leads.{Leads, Peels, IsOf, HasLinks}

abbrev pub target_of : Kind → Target
target_of kind.Commit = target.Commit
target_of kind.Tree = target.Tree
target_of kind.Blob = target.Blob
target_of kind.Tag = target.Tag

-- an id that is written whole is itself
abbrev pub IsBase : Base → ObjectId → Type 0
IsBase (base.Id written) i = written ≡ i
IsBase (base.Name name) i = Unit {0}
IsBase (base.Upstream branch) i = Unit {0}

-- from a base, the steps lead to an object, and tags from there to what is wanted
abbrev pub Resolves : Base → List Step → Target → ObjectId → Type 0
Resolves from steps wanted found = (i : ObjectId) × (m : ObjectId) × IsBase from i × Leads i steps m × Peels wanted m found

abbrev pub IsFor : Target → Rev → ObjectId → Type 0
IsFor wanted rev found = Resolves rev.base rev.steps.items wanted found

-- one is added, which means this
abbrev pub IsPushed : Chosen → List Resolved → List Resolved → Type 0
IsPushed meant old new = (r : Resolved) × (r.chosen ≡ meant) × (new ≡ old ++ r ∷ [])

-- all these ids are added, in their order, all hidden or none
abbrev pub AddsAll : Bool → List ObjectId → List Resolved → List Resolved → Type 0
AddsAll hidden [] old new = old ≡ new
AddsAll hidden (i ∷ ids) old new = (middle : List Resolved) × IsPushed (chosen.One i hidden) old middle × AddsAll hidden ids middle new

-- of the parents of a commit, the one of this number, from 1 on, or all where there is no number
abbrev pub Excludes : Option ℕ → List ObjectId → List ObjectId → Type 0
Excludes None parents named = named ≡ parents
Excludes (Some n) parents named = (p : ObjectId) × (slice_get parents (n - 1) ≡ Some p) × (named ≡ p ∷ [])

-- what is added for a parsed word
abbrev pub IsChosen : Target → Revision → List Resolved → List Resolved → Type 0
IsChosen wanted (revision.One rev is_hidden) old new = (i : ObjectId) × IsFor wanted rev i × IsPushed (chosen.One i is_hidden) old new
IsChosen wanted (revision.Range hidden tip) old new =
    (i : ObjectId) × (j : ObjectId) × (middle : List Resolved) × IsFor wanted hidden i × IsFor wanted tip j
    × IsPushed (chosen.One i true) old middle × IsPushed (chosen.One j false) middle new
IsChosen wanted (revision.Symmetric one other) old new =
    (i : ObjectId) × (j : ObjectId) × IsFor wanted one i × IsFor wanted other j × IsPushed (chosen.Symmetric i j) old new
IsChosen wanted (revision.Neither one other) old new =
    (i : ObjectId) × (j : ObjectId) × (middle : List Resolved) × IsFor wanted one i × IsFor wanted other j
    × IsPushed (chosen.One i true) old middle × IsPushed (chosen.One j true) middle new
IsChosen wanted (revision.Parents rev are_hidden) old new =
    (i : ObjectId) × (tree : ObjectId) × (parents : List ObjectId) × IsFor target.Commit rev i × HasLinks i tree parents × AddsAll are_hidden parents old new
IsChosen wanted (revision.Without rev number is_hidden) old new =
    (i : ObjectId) × (tree : ObjectId) × (parents : List ObjectId) × (named : List ObjectId) × (middle : List Resolved) × IsFor target.Commit rev i
    × HasLinks i tree parents × Excludes number parents named × AddsAll (not is_hidden) named old middle × IsPushed (chosen.One i is_hidden) middle new

-- what is added for a word: what it means as one of the forms
abbrev pub Adds : Target → List Resolved → List Resolved → Type 0
Adds wanted old new = (word : Revision) × IsChosen wanted word old new

-- nothing is added, or a commit, which is hidden or not
abbrev pub AddsOne : Bool → List Resolved → List Resolved → Type 0
AddsOne hidden old new = (old ≡ new) ⊎ ((i : ObjectId) × IsOf kind.Commit i × IsPushed (chosen.One i hidden) old new)

-- commits are added, one after the other, all hidden or none
pub data AddsCommits (hidden : Bool) (old : List Resolved) : List Resolved → Type 0 where
  nothing : AddsCommits hidden old old
  more : {new then : List Resolved} → AddsCommits hidden old new → AddsOne hidden new then → AddsCommits hidden old then

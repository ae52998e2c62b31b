-- Worked examples of what steps lead to.
use Rattle.std.specs.Prelude.{◌≡◌, [], ◌∷◌, ◌++◌, List, ℕ, codes, Some, refl}
use Rattle.gix_hash.specs.declared.Kind.TheVariants as hash
use Rattle.gix_hash.specs.declared.ObjectId.{ObjectId}
use Rattle.gix_object.specs.declared.Kind.TheVariants as kind
use Rattle.gix_revision.specs.declared.parse.Target.TheVariants as target
use Rattle.gix_revision.specs.declared.parse.Step.TheVariants as step
use Rattle.gix_revision.specs.Leads.{IsOf, HasLinks, IsTagOf, itself, by_tag, none, one_more, Leads}
use Rattle.gix_names.specs.Named.{IsNamed}
use Rattle.gix_hash.specs.Id.{kind_of, id_of_hex}

-- `^2` of a merge is its second parent, and `^2^{}` is the same where this is a commit
pub second_parent : (merge tree one other : ObjectId) → HasLinks merge tree (one ∷ other ∷ []) → Leads merge (step.Parent 2 ∷ []) other
second_parent merge tree one other h = (other, (merge, tree, one ∷ other ∷ [], itself, h, refl), refl)

-- `~2` is the first parent of the first parent
pub grandparent : (tip tree tree' one two other : ObjectId) → IsOf kind.Commit tip → HasLinks tip tree (one ∷ other ∷ []) → HasLinks one tree' (two ∷ [])
    → Leads tip (step.Ancestor 2 ∷ []) two
grandparent tip tree tree' one two other c g h =
    (two, (tip, (itself, c), one_more (one_more none (tree, one ∷ other ∷ [], g, refl)) (tree', two ∷ [], h, refl)), refl)

-- `^{commit}` of a tag of a tag of a commit is the commit
pub tag_of_tag : (outer inner commit : ObjectId) (a b : List ℕ) → IsNamed outer kind.Tag a → IsTagOf (kind_of outer) a inner → IsNamed inner kind.Tag b
    → IsTagOf (kind_of inner) b commit → IsOf kind.Commit commit → Leads outer (step.Peel target.Commit ∷ []) commit
tag_of_tag outer inner commit a b n s m t c = (commit, (by_tag b (by_tag a itself n s) m t, c), refl)

-- what the first line of a tag names
pub tag_text : (digits rest : List ℕ) (i : ObjectId) → id_of_hex hash.Sha1 digits ≡ Some i → IsTagOf hash.Sha1 ((codes "object " ++ digits ++ codes "\n") ++ (codes "type commit\n" ++ rest)) i
tag_text digits rest i h = (codes "object " ++ digits ++ codes "\n", codes "type commit\n" ++ rest, (digits, h, refl), refl)

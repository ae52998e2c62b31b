-- Worked examples of what is hashed.
use Rattle.std.specs.Prelude.{◌≡◌, [], ◌∷◌, ◌++◌, codes, refl}
use Rattle.std.specs.Fmt.{digits}
use Rattle.gix_object.specs.declared.Kind.TheVariants as kind
use Rattle.gix_names.specs.Named.{name_text}

pub empty_tree : name_text kind.Tree [] ≡ codes "tree 0" ++ 0 ∷ []
unfolding digits
empty_tree = refl

pub blob_of_12_bytes : name_text kind.Blob (codes "Hello World!") ≡ codes "blob 12" ++ 0 ∷ codes "Hello World!"
unfolding digits
blob_of_12_bytes = refl

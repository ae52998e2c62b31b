-- The derived `==` of ids is true exactly where they are one.
use Rattle.std.proofs.Common.{◌≡◌, refl}
use Rattle.std.specs.Cmp.Lexicographic.{texts_ties}
use Rattle.gix_hash.specs.contracts.ObjectIdPartialEq.TheImpl.{eq-value}
use Rattle.gix_hash.specs.declared.ObjectId.{ObjectId}
use Rattle.gix_hash.specs.declared.ObjectId.TheVariants as id
use Rattle.gix_hash.specs.Id.{is_same}

at_each : (a b : ObjectId) → eq-value.it a b ≡ is_same a b
at_each (id.Sha1 a) (id.Sha1 b) = texts_ties a b
at_each (id.Sha1 a) (id.Sha256 b) = refl
at_each (id.Sha256 a) (id.Sha1 b) = refl
at_each (id.Sha256 a) (id.Sha256 b) = texts_ties a b

pub eq_is_same : eq-value.it ≡ is_same
eq_is_same = λ i a b. at_each a b i

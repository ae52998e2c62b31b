-- A store of objects is a finite map from ids to a kind and bytes.
use Rattle.std.specs.Prelude.{◌≡◌, ℕ, zero, suc, List, refl}
use Rattle.std.specs.Coded.{Coded, code_by, coded×, coded_ℕ, coded_list}
use Rattle.std.specs.FinMap.{FinMap}
use Rattle.gix_object.specs.declared.Kind.{Kind}
use Rattle.gix_object.specs.declared.Kind.TheVariants as kind
use Rattle.gix_hash.specs.Id.{id_cmp}

pub record Object : Type 0 where
  pub kind : Kind
  pub bytes : List ℕ

abbrev pub Objects : Type 0
Objects = FinMap id_cmp Object

-- a kind is stored as a number
abbrev pub number_of : Kind → ℕ
number_of kind.Tree = 0
number_of kind.Blob = 1
number_of kind.Commit = 2
number_of kind.Tag = 3

abbrev pub kind_numbered : ℕ → Kind
kind_numbered zero = kind.Tree
kind_numbered (suc zero) = kind.Blob
kind_numbered (suc (suc zero)) = kind.Commit
kind_numbered (suc (suc (suc n))) = kind.Tag

pub kind_back : (k : Kind) → kind_numbered (number_of k) ≡ k
kind_back kind.Tree = refl
kind_back kind.Blob = refl
kind_back kind.Commit = refl
kind_back kind.Tag = refl

-- an object is stored as the number of its kind, and its bytes
abbrev pub object_code : Coded Object
object_code =
    code_by (ℕ × List ℕ) (coded× coded_ℕ (coded_list coded_ℕ)) (λ o. (number_of o.kind, o.bytes)) (λ p. record { kind = kind_numbered p.0; bytes = p.1 })
    (λ o i. record { kind = kind_back o.kind i; bytes = o.bytes })

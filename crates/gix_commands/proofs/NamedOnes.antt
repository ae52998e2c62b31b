-- Objects that were compared with their ids are named by the page.
use Rattle.std.proofs.Common.{false, ◌≡◌, ◌∷◌, ◌++◌, length, Option, Some, None, IfSome, Contains, refl, subst, arith, option_map, decimal}
use Rattle.std.specs.Fmt.{digits}
use Rattle.std.specs.FinMap.{get}
use Rattle.std.proofs.lemmas.Option.{none-some, same_Some}
use Rattle.gix_hash.specs.declared.ObjectId.{ObjectId}
use Rattle.gix_hash.specs.declared.ObjectId.TheVariants as id
use Rattle.gix_names.specs.Named.{IsNamed, kind_word, name_text}
use Rattle.gix_object.specs.declared.Kind.{Kind}
use Rattle.gix_object.specs.declared.Kind.TheVariants as kind
use Rattle.gix_object.specs.Object.{Object, Objects}
use Rattle.gix_records.specs.Records as records
use Rattle.gix_records.specs.NamedRecords.{AreNamed}
use Rattle.gix_statement.specs.WholeStatement as page
use Rattle.gix_statement.specs.WholeStatement.{IsHash, kinds}
use Rattle.gix_commands.specs.Pages.{as_page, page_objects}

is_kind : (k : Kind) → Contains kinds (records.kind_word k)
is_kind kind.Tree = (0, omega arith, refl)
is_kind kind.Blob = (1, omega arith, refl)
is_kind kind.Commit = (2, omega arith, refl)
is_kind kind.Tag = (3, omega arith, refl)

same_word : (k : Kind) → kind_word k ≡ records.kind_word k
same_word kind.Tree = refl
same_word kind.Blob = refl
same_word kind.Commit = refl
same_word kind.Tag = refl

is_hash : (i : ObjectId) (o : Object) → IsNamed i o.kind o.bytes → IsHash i (name_text o.kind o.bytes)
is_hash (id.Sha1 bytes) o e = cc
is_hash (id.Sha256 bytes) o e = cc

-- the kind is one, and the id is the hash of what is hashed
abbrev IsNamedSo : ObjectId → page.Object → Type 0
IsNamedSo i o = Contains kinds o.kind × IsHash i (o.kind ++ 32 ∷ (digits 10 false (length o.bytes) ++ 0 ∷ o.bytes))

named_so : (i : ObjectId) (o : Object) → IsNamed i o.kind o.bytes → IsNamedSo i (as_page o)
named_so i o e = (is_kind o.kind, subst (λ word. IsHash i (word ++ 32 ∷ (decimal (length o.bytes) ++ 0 ∷ o.bytes))) (same_word o.kind) (is_hash i o e))

pub are_named : (objects : Objects) → AreNamed objects → page.AreNamed (page_objects objects)
are_named objects named i o e = go (get objects i) refl e
  where
    go : (found : Option Object) → get objects i ≡ found → option_map as_page found ≡ Some o → IsNamedSo i o
    go None at e = absurd (none-some _ e)
    go (Some object) at e =
        subst (IsNamedSo i) (same_Some (as_page object) o e) (named_so i object (subst (λ (found : Option Object). IfSome found (λ (o : Object). IsNamed i o.kind o.bytes)) at (named i)))

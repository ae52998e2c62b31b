-- The first line of a tag, from its parts.
use Rattle.std.proofs.Common.{◌≡◌, ℕ, List, [], ◌∷◌, ◌++◌, codes, Some, refl, sym, take, drop, append_assoc}
use Rattle.std.proofs.lemmas.List.{take-append-drop}
use Rattle.gix_hash.specs.declared.Kind.{Kind}
use Rattle.gix_hash.specs.declared.ObjectId.{ObjectId}
use Rattle.gix_hash.specs.Id.{id_of_hex}
use Rattle.gix_revision.specs.Leads.{IsTagOf}

joined : (k : Kind) (bytes line digits behind rest : List ℕ) (i : ObjectId) → bytes ≡ codes "object " ++ line → line ≡ digits ++ behind → behind ≡ 10 ∷ rest → id_of_hex k digits ≡ Some i → IsTagOf k bytes i
joined k bytes line digits behind rest i e f g h =
    (codes "object " ++ digits ++ 10 ∷ [], rest, (digits, h, refl), rw (e, f, g) (sym (simp append_assoc)))

pub tag_of : (k : Kind) (bytes line digits behind rest : List ℕ) (n : ℕ) (i : ObjectId) → bytes ≡ codes "object " ++ line → digits ≡ take n line → behind ≡ drop n line → behind ≡ 10 ∷ rest → id_of_hex k digits ≡ Some i → IsTagOf k bytes i
tag_of k bytes line digits behind rest n i e p q g h =
    let whole : take n line ++ drop n line ≡ line = take-append-drop n line in
    joined k bytes line digits behind rest i e (cc) g h

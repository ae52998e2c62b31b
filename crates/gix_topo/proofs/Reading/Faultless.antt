-- A commit's text that has no fault up to its committer has none.
use Rattle.std.proofs.Common.{ℕ, zero, suc, ◌≡◌, List, [], ◌∷◌, length, codes, Option, Some, None, Result, Ok, Err, Contains, ⊎_elim, ◌∙◌}
use Rattle.gix_hash.specs.declared.Kind.{Kind}
use Rattle.gix_topo.proofs.Common.{ObjectId, Item, Tree, Parent, Author, Committer, Rest, AtTree, AtParents, AtCommitter, AtRest, AtEnd, tree_front, author_front, parent_front, committer_front, unfolded, items_within, commit_items}
use Rattle.gix_topo.proofs.Common.{after_word, first_committer, Contains-cons_cases, no_member}
use Rattle.gix_object.specs.declared.decode.Error.{Error as DecodeError}
use Rattle.gix_object.specs.declared.decode.Error.TheVariants as fault

-- a fault among the items is the first committer's, and says that something is wrong
abbrev IsTold : List (Result Item DecodeError) → Type 0
IsTold items = (e : DecodeError) → Contains items (Err e) → (first_committer items ≡ Err e) × (e ≡ fault.Missing → ⊥)

told_none : IsTold []
told_none e m = absurd (no_member _ m)

told_fault : (d : DecodeError) → (d ≡ fault.Missing → ⊥) → IsTold (Err d ∷ [])
told_fault d h e m = ⊎_elim (λ s. let q : d ≡ e = cc in (cc, λ z. h (q ∙ z))) (λ t. absurd (no_member _ t)) (Contains-cons_cases (Err e) (Err d) [] m)

behind : (x : Item) (items : List (Result Item DecodeError)) (e : DecodeError) → Contains (Ok x ∷ items) (Err e) → Contains items (Err e)
behind x items e m = ⊎_elim (λ s. cc) (λ t. t) (Contains-cons_cases (Err e) (Ok x) items m)

end_faultless : (n : ℕ) (k : Kind) (bytes : List ℕ) (e : DecodeError) → Contains (items_within n k AtEnd bytes) (Err e) → ⊥
end_faultless zero k bytes e m = no_member _ m
end_faultless (suc n) k bytes e m = no_member _ m

rest_faultless : (n : ℕ) (k : Kind) (bytes : List ℕ) (e : DecodeError) → Contains (items_within n k AtRest bytes) (Err e) → ⊥
rest_faultless zero k bytes e m = no_member _ m
rest_faultless (suc n) k [] e m = no_member _ m
rest_faultless (suc n) k (b ∷ bs) e m = end_faultless n k [] e (behind (Rest (b ∷ bs)) (items_within n k AtEnd []) e m)

committer_told : (n : ℕ) (k : Kind) (bytes : List ℕ) → IsTold (items_within n k AtCommitter bytes)
committer_told zero k bytes = told_none
committer_told (suc n) k [] = told_none
committer_told (suc n) k (b ∷ bs) = go _
  where
    go : (o : Option (List ℕ × List ℕ)) → IsTold (unfolded (committer_front o) (items_within n k))
    go None = told_fault fault.Committer (λ h. cc)
    go (Some r) = λ e m. absurd (rest_faultless n k r.1 e (behind (Committer r.0) (items_within n k AtRest r.1) e m))

parents_told : (n : ℕ) (k : Kind) (bytes : List ℕ) → IsTold (items_within n k AtParents bytes)
parents_told zero k bytes = told_none
parents_told (suc n) k [] = told_none
parents_told (suc n) k (b ∷ bs) = go (λ rest. parents_told n k rest) (after_word (codes "parent ") (b ∷ bs)) _
  where
    author : (o : Option (List ℕ × List ℕ)) → IsTold (unfolded (author_front o) (items_within n k))
    author None = told_fault fault.Author (λ h. cc)
    author (Some r) = λ e m. committer_told n k r.1 e (behind (Author r.0) (items_within n k AtCommitter r.1) e m)

    go : ((rest : List ℕ) → IsTold (items_within n k AtParents rest)) → (word : Option (List ℕ)) (line : Option (ObjectId × List ℕ)) → IsTold (unfolded (parent_front k (b ∷ bs) word line) (items_within n k))
    go h None line = author _
    go h (Some rest) None = told_fault fault.Parent (λ h. cc)
    go h (Some rest) (Some r) = λ e m. h r.1 e (behind (Parent r.0) (items_within n k AtParents r.1) e m)

tree_told : (n : ℕ) (k : Kind) (bytes : List ℕ) → IsTold (items_within n k AtTree bytes)
tree_told zero k bytes = told_none
tree_told (suc n) k [] = told_none
tree_told (suc n) k (b ∷ bs) = go _
  where
    go : (o : Option (ObjectId × List ℕ)) → IsTold (unfolded (tree_front o) (items_within n k))
    go None = told_fault fault.Tree (λ h. cc)
    go (Some r) = λ e m. parents_told n k r.1 e (behind (Tree r.0) (items_within n k AtParents r.1) e m)

-- at most the committer is missing, so there is no fault
pub faultless : (k : Kind) (bytes : List ℕ) → ((e : DecodeError) → first_committer (commit_items k bytes) ≡ Err e → e ≡ fault.Missing) → (e : DecodeError) → Contains (commit_items k bytes) (Err e) → ⊥
faultless k bytes h e m = let t : (first_committer (commit_items k bytes) ≡ Err e) × (e ≡ fault.Missing → ⊥) = tree_told (length bytes) k bytes e m in t.1 (h e t.0)

-- The parents that the texts of commits name are those of the statement.
use Rattle.std.proofs.Common.{◌≡◌, ◌≢◌, ◌⊎◌, ◌≤◌, ℕ, zero, suc, List, [], ◌∷◌, ◌++◌, length, Some, codes, refl, sym, ap, subst, ◌∙◌, inl, inr, arith, length-append}
use Rattle.gix_hash.specs.declared.Kind.{Kind}
use Rattle.gix_commands.proofs.Common.{ObjectId, scanned, Spells}
use Rattle.gix_object.specs.CommitItems.{Tree, Parent, Author, AtTree, AtParents, AtCommitter, Front, Found, Faulty, Ended, tree_front, parent_front, front, unfolded, items_within, items_from, commit_items}
use Rattle.gix_object.proofs.Commits.Items.{Stands, ended, faulty, tree, parent, author, stands, items_from-step}
use Rattle.gix_object.proofs.Commits.Lines.{id_line_at-append}
use Rattle.gix_revwalk.specs.declared.Parents.TheVariants as mode
use Rattle.gix_commands.proofs.SameCommits.{HasNoMore}
use Rattle.gix_commands.proofs.TextLines.{AreParentLines}
use Rattle.gix_commands.proofs.SameNumbers.{spelled, spells_again, width_of}

-- a text names these parents, and the rest is behind them
abbrev pub IsNaming : ℕ → List ℕ → List ObjectId → List ℕ → Type 0
IsNaming width bytes parents rest =
    (t : ObjectId) × (id lines : List ℕ) × Spells width id t × AreParentLines width parents lines rest × (bytes ≡ codes "tree " ++ id ++ 10 ∷ lines)

-- these are the parents that a text names, or there are none, and it names none
abbrev pub AreNamed : ℕ → List ℕ → List ObjectId → Type 0
AreNamed width bytes parents =
    ((rest : List ℕ) × IsNaming width bytes parents rest) ⊎ (((ps : List ObjectId) (rest : List ℕ) → IsNaming width bytes ps rest → ⊥) × (parents ≡ []))

-- lines are read
front_tree : (k : Kind) (id more : List ℕ) (i : ObjectId) → Spells (width_of k) id i → front k AtTree (codes "tree " ++ id ++ 10 ∷ more) ≡ Found (Tree i) AtParents more
front_tree k id more i spells = ap tree_front (id_line_at-append k id more i (spells_again k id i spells))

front_parent : (k : Kind) (id more : List ℕ) (i : ObjectId) → Spells (width_of k) id i → front k AtParents (codes "parent " ++ id ++ 10 ∷ more) ≡ Found (Parent i) AtParents more
front_parent k id more i spells = ap (parent_front k (codes "parent " ++ id ++ 10 ∷ more) (Some (id ++ 10 ∷ more))) (id_line_at-append k id more i (spells_again k id i spells))

-- where no parent is read there is no further line of one
no_more : (k : Kind) (bytes : List ℕ) → ((p : ObjectId) (more : List ℕ) → front k AtParents bytes ≢ Found (Parent p) AtParents more) → HasNoMore (width_of k) bytes
no_more k bytes never p id more spells e = never p more (ap (front k AtParents) e ∙ front_parent k id more p spells)

-- the parents that are read from a place behind the tree on
abbrev parents_within : ℕ → Kind → List ℕ → List ObjectId
parents_within n k bytes = (scanned mode.All (items_within n k AtParents bytes)).0

named : (n : ℕ) (k : Kind) (bytes : List ℕ) → length bytes ≤ n → (rest : List ℕ) × AreParentLines (width_of k) (parents_within n k bytes) bytes rest
named zero k [] l = ([], (refl, no_more k [] (λ p more e. let bad : Ended ≡ Found (Parent p) AtParents more = e in cc)))
named zero k (b ∷ bs) l = absurd (omega (arith, l))
named (suc n) k bytes l = go (λ rest. named n k rest) refl (stands k AtParents bytes)
  where
    go : ((rest : List ℕ) → length rest ≤ n → (behind : List ℕ) × AreParentLines (width_of k) (parents_within n k rest) rest behind) → {f : Front} → front k AtParents bytes ≡ f → Stands k bytes AtParents f
        → (rest : List ℕ) × AreParentLines (width_of k) (scanned mode.All (unfolded f (items_within n k))).0 bytes rest
    go more is ended = (bytes, (refl, no_more k bytes (λ p behind e. let bad : Ended ≡ Found (Parent p) AtParents behind = sym is ∙ e in cc)))
    go more is (faulty {e = why}) = (bytes, (refl, no_more k bytes (λ p behind e. let bad : Faulty why ≡ Found (Parent p) AtParents behind = sym is ∙ e in cc)))
    go more is (author {line = line} {rest = rest} found) = (bytes, (refl, no_more k bytes (λ p behind e. let bad : Found (Author line) AtCommitter rest ≡ Found (Parent p) AtParents behind = sym is ∙ e in cc)))
    go more is (parent {i = p} {rest = rest} found) =
        let less : length rest ≤ n = omega (arith, l, ap length found.whole, length-append (codes "parent ") (found.digits ++ 10 ∷ rest), length-append found.digits (10 ∷ rest)) in
        let h = more rest less in
        (h.0, (found.digits, rest, (spelled k found.digits p found.spells).0, h.1, found.whole))

-- they are those that are read of it
pub texts : (k : Kind) (bytes : List ℕ) → AreNamed (width_of k) bytes (scanned mode.All (commit_items k bytes)).0
texts k bytes = subst (λ items. AreNamed (width_of k) bytes (scanned mode.All items).0) (sym (items_from-step k AtTree bytes)) (go refl (stands k AtTree bytes))
  where
    never : ((i : ObjectId) (more : List ℕ) → front k AtTree bytes ≢ Found (Tree i) AtParents more) → (ps : List ObjectId) (rest : List ℕ) → IsNaming (width_of k) bytes ps rest → ⊥
    never other ps rest (i, id, lines, spells, are, whole) = other i lines (ap (front k AtTree) whole ∙ front_tree k id lines i spells)

    go : {f : Front} → front k AtTree bytes ≡ f → Stands k bytes AtTree f → AreNamed (width_of k) bytes (scanned mode.All (unfolded f (items_from k))).0
    go is ended = inr (never (λ i more e. let bad : Ended ≡ Found (Tree i) AtParents more = sym is ∙ e in cc), refl)
    go is (faulty {e = why}) = inr (never (λ i more e. let bad : Faulty why ≡ Found (Tree i) AtParents more = sym is ∙ e in cc), refl)
    go is (tree {i = i} {rest = rest} found) =
        let h = named (length rest) k rest (omega arith) in
        inl (h.0, (i, found.digits, rest, (spelled k found.digits i found.spells).0, h.1, found.whole))

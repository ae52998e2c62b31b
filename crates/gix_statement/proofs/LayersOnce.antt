-- Of given files there are one list of rows.
use Rattle.std.proofs.Common.{◌≡◌, ◌⊎◌, ◌+◌, ◌-◌, ◌*◌, ℕ, zero, suc, List, [], ◌∷◌, ◌++◌, length, take, drop, map, slice_get, Some, codes, refl, sym, ap, subst, ◌∙◌, arith, ⊎_elim, inl, inr}
use Rattle.std.specs.Option.{option_map}
use Rattle.gix_hash.specs.declared.ObjectId.{ObjectId}
use Rattle.gix_statement.proofs.HaveHistory.{below}
use Rattle.gix_statement.proofs.OneCommit.{id_same}
use Rattle.gix_statement.specs.WholeStatement.{Row}
use Rattle.gix_statement.specs.CommitGraph.{AreLayers, IsLayer, IsRow, IsChunk, AreParents, none, single, pair, many, AreFurther, last, next, number_at, number_from, bytes_at, flag}

pub chunk_once : (file letters b c : List ℕ) → IsChunk file letters b → IsChunk file letters c → b ≡ c
chunk_once file letters b c (k, few, name, before, is) (j, least, called, behind, same) = ⊎_elim
    (λ l. absurd (behind k l name))
    (λ l. ⊎_elim (λ m. absurd (before j m called)) (λ m. let e : k ≡ j = omega (arith, l, m) in is ∙ ap (λ n. bytes_at (number_at (12 + 12 * n) 8 file) (number_at (24 + 12 * n) 8 file - number_at (12 + 12 * n) 8 file) file) e ∙ sym same) (below j k))
    (below k j)

further_once : (edges : List ℕ) (k : ℕ) (ns ms : List ℕ) → AreFurther edges k ns → AreFurther edges k ms → ns ≡ ms
further_once edges k ns ms (last n l) (last m r) = refl
further_once edges k ns ms (last n l) (next m r f) = absurd (omega (arith, l, r))
further_once edges k ns ms (next n l f) (last m r) = absurd (omega (arith, l, r))
further_once edges k ns ms (next n l f) (next m r g) = ap (λ xs. number_at (4 * k) 4 edges ∷ xs) (further_once edges (suc k) _ _ f g)

drop_nothing : (n : ℕ) → drop {A = ℕ} n [] ≡ []
drop_nothing zero = refl
drop_nothing (suc n) = refl

nothing_at : (n : ℕ) → number_at n 4 [] ≡ 0
nothing_at n = ap (λ xs. number_from 0 (take 4 xs)) (drop_nothing n)

pub no_further : (edges : List ℕ) (k : ℕ) (ns : List ℕ) → edges ≡ [] → AreFurther edges k ns → ⊥
no_further edges k ns e (last n l) = let z : number_at (4 * k) 4 edges ≡ 0 = ap (λ xs. number_at (4 * k) 4 xs) e ∙ nothing_at (4 * k) in omega (arith, l, z)
no_further edges k ns e (next n l f) = no_further edges (suc k) _ e f

-- the words of further parents are those of one chunk, or there are none
abbrev SameEdges : List ℕ → List ℕ → Type 0
SameEdges edges words = (edges ≡ words) ⊎ ((edges ≡ []) ⊎ (words ≡ []))

parents_once : (edges words : List ℕ) (one other : ℕ) (ns ms : List ℕ) → SameEdges edges words → AreParents edges one other ns → AreParents words one other ms → ns ≡ ms
parents_once edges words one other ns ms s (none a b) (none c d) = refl
parents_once edges words one other ns ms s (none a b) (single c d) = absurd (c a)
parents_once edges words one other ns ms s (none a b) (pair c d e) = absurd (c a)
parents_once edges words one other ns ms s (none a b) (many c d f) = absurd (c a)
parents_once edges words one other ns ms s (single a b) (none c d) = absurd (a c)
parents_once edges words one other ns ms s (single a b) (single c d) = refl
parents_once edges words one other ns ms s (single a b) (pair c d e) = absurd (d b)
parents_once edges words one other ns ms s (single a b) (many c d f) = absurd (omega (arith, b, d))
parents_once edges words one other ns ms s (pair a b l) (none c d) = absurd (a c)
parents_once edges words one other ns ms s (pair a b l) (single c d) = absurd (b d)
parents_once edges words one other ns ms s (pair a b l) (pair c d e) = refl
parents_once edges words one other ns ms s (pair a b l) (many c d f) = absurd (omega (arith, l, d))
parents_once edges words one other ns ms s (many a l f) (none c d) = absurd (a c)
parents_once edges words one other ns ms s (many a l f) (single c d) = absurd (omega (arith, l, d))
parents_once edges words one other ns ms s (many a l f) (pair c d e) = absurd (omega (arith, l, e))
parents_once edges words one other ns ms s (many {numbers = xs} a l f) (many {numbers = ys} c d g) = ap (λ xs. one ∷ xs) (⊎_elim
    (λ e. further_once edges (other - flag) xs ys f (subst (λ x. AreFurther x (other - flag) ys) (sym e) g))
    (λ t. ⊎_elim (λ e. absurd (no_further edges (other - flag) xs e f)) (λ e. absurd (no_further words (other - flag) ys e g)) t) s)

-- ROWS: their ids first
abbrev id_of : Row → ObjectId
id_of r = r.id

maps_once : {X Y : Type 0} (f : X → Y) (xs ys : List X) → length xs ≡ length ys → ((k : ℕ) (x y : X) → slice_get xs k ≡ Some x → slice_get ys k ≡ Some y → f x ≡ f y) → map f xs ≡ map f ys
maps_once f [] [] l h = refl
maps_once f [] (y ∷ ys) l h = absurd (omega (arith, l))
maps_once f (x ∷ xs) [] l h = absurd (omega (arith, l))
maps_once f (x ∷ xs) (y ∷ ys) l h =
    let head = h 0 x y refl refl in
    let tail = maps_once f xs ys (omega (arith, l)) (λ k a b p q. h (suc k) a b p q) in
    (λ i. head i ∷ tail i)

same_map : {X : Type 0} (xs : List X) → map (λ x. x) xs ≡ xs
same_map [] = refl
same_map (x ∷ xs) = ap (λ ys. x ∷ ys) (same_map xs)

got : {X Y : Type 0} (f : X → Y) (xs : List X) (n : ℕ) → option_map f (slice_get xs n) ≡ slice_get (map f xs) n
got f [] n = refl
got f (x ∷ xs) zero = refl
got f (x ∷ xs) (suc n) = got f xs n

map_joined : {X Y : Type 0} (f : X → Y) (xs ys : List X) → map f (xs ++ ys) ≡ map f xs ++ map f ys
map_joined f [] ys = refl
map_joined f (x ∷ xs) ys = ap (λ zs. f x ∷ zs) (map_joined f xs ys)

some_once : {X : Type 0} (xs ys : List X) → map Some xs ≡ map Some ys → xs ≡ ys
some_once [] [] e = refl
some_once [] (y ∷ ys) e = cc
some_once (x ∷ xs) [] e = cc
some_once (x ∷ xs) (y ∷ ys) e =
    let head : x ≡ y = cc in
    let tail : map Some xs ≡ map Some ys = cc in
    let more = some_once xs ys tail in
    (λ i. head i ∷ more i)

row_once : (width : ℕ) (ids data_of edges words : List ℕ) (all others : List Row) (k : ℕ) (r s : Row) → SameEdges edges words → map id_of all ≡ map id_of others → IsRow width ids data_of edges all k r → IsRow width ids data_of words others k s → r ≡ s
row_once width ids data_of edges words all others k r s same rows (ns, d, b, td, tb, ps, named, t) (ms, e, c, te, tc, qs, called, u) =
    let i = id_same r.id s.id (d ∙ sym e) (b ∙ sym c) in
    let j = id_same r.tree s.tree (td ∙ sym te) (tb ∙ sym tc) in
    let n = parents_once edges words _ _ ns ms same ps qs in
    let look : (λ n. option_map id_of (slice_get all n)) ≡ (λ n. option_map id_of (slice_get others n)) = (λ x n. (got id_of all n ∙ ap (λ l. slice_get l n) rows ∙ sym (got id_of others n)) x) in
    let p = some_once r.parents s.parents (named ∙ (λ x. map (look x) (n x)) ∙ sym called) in
    let time = t ∙ sym u in
    (λ x. record { id = i x; tree = j x; parents = p x; time = time x })

same_width : (n w v : ℕ) → ((n ≡ 1) × (w ≡ 20)) ⊎ ((n ≡ 2) × (w ≡ 32)) → ((n ≡ 1) × (v ≡ 20)) ⊎ ((n ≡ 2) × (v ≡ 32)) → w ≡ v
same_width n w v (inl a) (inl b) = a.1 ∙ sym b.1
same_width n w v (inl a) (inr b) = omega (arith, a.0, b.0)
same_width n w v (inr a) (inl b) = omega (arith, a.0, b.0)
same_width n w v (inr a) (inr b) = a.1 ∙ sym b.1

same_length : (n w a b : ℕ) → ((n ≡ 1) × (w ≡ 20)) ⊎ ((n ≡ 2) × (w ≡ 32)) → w * a ≡ w * b → a ≡ b
same_length n w a b (inl k) e = let h : 20 * a ≡ 20 * b = ap (λ x. x * a) (sym k.1) ∙ e ∙ ap (λ x. x * b) k.1 in omega (arith, h)
same_length n w a b (inr k) e = let h : 32 * a ≡ 32 * b = ap (λ x. x * a) (sym k.1) ∙ e ∙ ap (λ x. x * b) k.1 in omega (arith, h)

same_edges : (file letters a b : List ℕ) → IsChunk file letters a ⊎ (a ≡ []) → IsChunk file letters b ⊎ (b ≡ []) → SameEdges a b
same_edges file letters a b (inl x) (inl y) = inl (chunk_once file letters a b x y)
same_edges file letters a b (inr x) y = inr (inl x)
same_edges file letters a b (inl x) (inr y) = inr (inr y)

layer_once : (lower : List (List ℕ)) (file : List ℕ) (under rows others : List Row) → IsLayer lower file under rows → IsLayer lower file under others → rows ≡ others
layer_once lower file under rows others a b =
    let w = same_width (number_at 5 1 file) a.0 b.0 a.5 b.5 in
    let ids = chunk_once file (codes "OIDL") a.1 b.1 a.9 b.9 in
    let data_of = chunk_once file (codes "CDAT") a.2 b.2 a.10 b.10 in
    let long : length rows ≡ length others = same_length (number_at 5 1 file) a.0 (length rows) (length others) a.5 (sym a.12 ∙ ap length ids ∙ b.12 ∙ ap (λ x. x * length others) (sym w)) in
    let edges = same_edges file (codes "EDGE") a.3 b.3 a.11 b.11 in
    let there : (k : ℕ) (s : Row) → slice_get others k ≡ Some s → IsRow a.0 a.1 a.2 b.3 (under ++ others) k s =
    (λ k s e. subst (λ (T : Type 0). T) (λ x. IsRow (sym w x) (sym ids x) (sym data_of x) b.3 (under ++ others) k s) (b.14 k s e)) in
    let named : map id_of rows ≡ map id_of others = maps_once id_of rows others long (λ k r s e f. let p = a.14 k r e in let q = there k s f in id_same r.id s.id (p.1 ∙ sym q.1) (p.2 ∙ sym q.2)) in
    let all : map id_of (under ++ rows) ≡ map id_of (under ++ others) = map_joined id_of under rows ∙ ap (λ xs. map id_of under ++ xs) named ∙ sym (map_joined id_of under others) in
    sym (same_map rows) ∙ maps_once (λ x. x) rows others long (λ k r s e f. row_once a.0 a.1 a.2 a.3 b.3 (under ++ rows) (under ++ others) k r s edges all (a.14 k r e) (there k s f)) ∙ same_map others

pub layers_once : (lower files : List (List ℕ)) (under rows others : List Row) → AreLayers lower files under rows → AreLayers lower files under others → rows ≡ others
layers_once lower [] under rows others a b = a ∙ sym b
layers_once lower (file ∷ files) under rows others (more, layer, is) (left, too, are) =
    let e = layer_once lower file under more left layer too in
    layers_once (lower ++ file ∷ []) files (under ++ more) rows others is (subst (λ xs. AreLayers (lower ++ file ∷ []) files (under ++ xs) others) (sym e) are)

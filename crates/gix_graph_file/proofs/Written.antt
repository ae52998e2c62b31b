-- Rows written one after the other.
use Rattle.std.proofs.Common.{◌≡◌, ℕ, zero, suc, ◌+◌, ◌*◌, List, ◌++◌, take, drop, refl, sym, ap, subst, ◌∙◌, arith, append_assoc, add-one, append-nil}
use Rattle.std.proofs.lemmas.List.{take-take, drop-take, drop-drop}
use Rattle.gix_graph_file.proofs.Common.{Kind, id_len, row_packed}
use Rattle.gix_graph_file.specs.PackedParts.{rows_packed}

pub rows_packed-more : (k : Kind) (n left : ℕ) (ids commits : List ℕ)
    → rows_packed k n (left + 1) ids commits ≡ row_packed n (take (id_len k) ids) (take (id_len k) commits) (take 16 (drop (id_len k) commits)) ++ rows_packed k n left (drop (id_len k) ids) (drop 16 (drop (id_len k) commits))
unfolding rows_packed
rows_packed-more k n left ids commits = rw add-one refl

-- one more row
pub row_written : (k : Kind) (n left len : ℕ) (ids commits whole out next id tree numbers ids_left behind commits_left : List ℕ)
    → len ≡ id_len k → id ≡ take len ids → ids_left ≡ drop len ids → tree ≡ take len commits → behind ≡ drop len commits → numbers ≡ take 16 behind → commits_left ≡ drop 16 behind
    → next ≡ out ++ row_packed n id tree numbers → out ++ rows_packed k n (left + 1) ids commits ≡ whole
    → next ++ rows_packed k n left ids_left commits_left ≡ whole
row_written k n left len ids commits whole out next id tree numbers ids_left behind commits_left len_is id_is ids_left_is tree_is behind_is numbers_is commits_left_is next_is so_far =
    rw (next_is, numbers_is, commits_left_is, behind_is, tree_is, ids_left_is, id_is, len_is) (
    append_assoc out (row_packed n (take (id_len k) ids) (take (id_len k) commits) (take 16 (drop (id_len k) commits))) (rows_packed k n left (drop (id_len k) ids) (drop 16 (drop (id_len k) commits)))
    ∙ ap (λ (x : List ℕ). out ++ x) (sym (rows_packed-more k n left ids commits)) ∙ so_far)

-- all rows are written
pub no_rows : (k : Kind) (n left : ℕ) (ids commits whole out : List ℕ) → left ≡ 0 → out ++ rows_packed k n left ids commits ≡ whole → out ≡ whole
unfolding rows_packed
no_rows k n left ids commits whole out none so_far = sym (append-nil out) ∙ (rw none at so_far)

-- ---- what rows are written depends on their own bytes alone

begin-first : (a b : ℕ) (x y : List ℕ) → take (a + b) x ≡ take (a + b) y → take a x ≡ take a y
begin-first a b x y same = sym (take-take a (a + b) x (omega arith)) ∙ ap (take a) same ∙ take-take a (a + b) y (omega arith)

begin-rest : (a b : ℕ) (x y : List ℕ) → take (a + b) x ≡ take (a + b) y → take b (drop a x) ≡ take b (drop a y)
begin-rest a b x y same = sym (drop-take a b x) ∙ ap (drop a) same ∙ drop-take a b y

pub rows_packed-same : (k : Kind) (n left : ℕ) (ids commits other_ids other_commits : List ℕ)
    → take (id_len k * left) ids ≡ take (id_len k * left) other_ids → take (id_len k * left + 16 * left) commits ≡ take (id_len k * left + 16 * left) other_commits
    → rows_packed k n left ids commits ≡ rows_packed k n left other_ids other_commits
unfolding rows_packed
rows_packed-same k n zero ids commits other_ids other_commits same_ids same_commits = refl
rows_packed-same k n (suc left) ids commits other_ids other_commits same_ids same_commits =
    let len = id_len k in
    let rest = len * left + 16 * left in
    let ids_len : len * suc left ≡ len + len * left = omega arith in
    let commits_len : len * suc left + 16 * suc left ≡ len + (16 + rest) = omega arith in
    let ids_begin : take (len + len * left) ids ≡ take (len + len * left) other_ids = subst (λ (m : ℕ). take m ids ≡ take m other_ids) ids_len same_ids in
    let commits_begin : take (len + (16 + rest)) commits ≡ take (len + (16 + rest)) other_commits = subst (λ (m : ℕ). take m commits ≡ take m other_commits) commits_len same_commits in
    let behind : take (16 + rest) (drop len commits) ≡ take (16 + rest) (drop len other_commits) = begin-rest len (16 + rest) commits other_commits commits_begin in
    let id : take len ids ≡ take len other_ids = begin-first len (len * left) ids other_ids ids_begin in
    let tree : take len commits ≡ take len other_commits = begin-first len (16 + rest) commits other_commits commits_begin in
    let numbers : take 16 (drop len commits) ≡ take 16 (drop len other_commits) = begin-first 16 rest (drop len commits) (drop len other_commits) behind in
    let others = rows_packed-same k n left (drop len ids) (drop 16 (drop len commits)) (drop len other_ids) (drop 16 (drop len other_commits))
    (begin-rest len (len * left) ids other_ids ids_begin) (begin-rest 16 rest (drop len commits) (drop len other_commits) behind) in
    λ i. row_packed n (id i) (tree i) (numbers i) ++ others i

-- the first rows, and then the others
pub rows_packed-split : (k : Kind) (n a b : ℕ) (ids commits : List ℕ)
    → rows_packed k n (a + b) ids commits ≡ rows_packed k n a ids commits ++ rows_packed k n b (drop (id_len k * a) ids) (drop (id_len k * a + 16 * a) commits)
unfolding rows_packed
rows_packed-split k n zero b ids commits =
    let all : 0 + b ≡ b = omega arith in
    let ids_at : 0 ≡ id_len k * 0 = omega arith in
    let commits_at : 0 ≡ id_len k * 0 + 16 * 0 = omega arith in
    λ i. rows_packed k n (all i) (drop (ids_at i) ids) (drop (commits_at i) commits)
rows_packed-split k n (suc a) b ids commits =
    let len = id_len k in
    let here = row_packed n (take len ids) (take len commits) (take 16 (drop len commits)) in
    let more : suc a + b ≡ (a + b) + 1 = omega arith in
    let ids_len : len + len * a ≡ len * suc a = omega arith in
    let commits_len : len + (16 + (len * a + 16 * a)) ≡ len * suc a + 16 * suc a = omega arith in
    let ids_at : drop (len * a) (drop len ids) ≡ drop (len * suc a) ids = drop-drop (len * a) len ids ∙ ap (λ (m : ℕ). drop m ids) ids_len in
    let commits_at : drop (len * a + 16 * a) (drop 16 (drop len commits)) ≡ drop (len * suc a + 16 * suc a) commits =
    drop-drop (len * a + 16 * a) 16 (drop len commits) ∙ drop-drop (16 + (len * a + 16 * a)) len commits ∙ ap (λ (m : ℕ). drop m commits) commits_len in
    let first = rows_packed k n a (drop len ids) (drop 16 (drop len commits)) in
    ap (λ (m : ℕ). rows_packed k n m ids commits) more ∙ rows_packed-more k n (a + b) ids commits
    ∙ ap (λ (x : List ℕ). here ++ x) (rows_packed-split k n a b (drop len ids) (drop 16 (drop len commits)))
    ∙ sym (append_assoc here first (rows_packed k n b (drop (len * a) (drop len ids)) (drop (len * a + 16 * a) (drop 16 (drop len commits)))))
    ∙ (λ i. (here ++ first) ++ rows_packed k n b (ids_at i) (commits_at i))

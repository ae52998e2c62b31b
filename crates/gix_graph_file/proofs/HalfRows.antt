-- A file's rows, packed by halves.
use Rattle.std.proofs.Common.{◌≡◌, ℕ, ◌+◌, ◌-◌, ◌*◌, ◌/◌, ◌≤◌, List, [], ◌++◌, length, take, drop, sym, ap, ◌∙◌, arith, append_assoc, w32, flat_map, mul-le-mul_left}
use Rattle.std.proofs.lemmas.List.{take-take, drop-take}
use Rattle.gix_graph_file.proofs.Common.{id_len, to_be_bytes, layout_name, kind_packed, rows_packed, words_packed, IsWhole, seen}
use Rattle.gix_graph_file.specs.declared.halves.LowerHalf.{LowerHalf}
use Rattle.gix_graph_file.specs.declared.table.Layout.{Layout}
use Rattle.gix_graph_file.specs.PackedParts.{parts_packed}
use Rattle.gix_graph_file.specs.Halves.{LiesAt, HasOffsets, lower_half, commits_len, ids_len, lower_end, lower_packed, upper_packed, halves_packed}
use Rattle.gix_graph_file.proofs.Written.{rows_packed-same, rows_packed-split}

-- what is cut off a file is not missed before it
cut-within : (at count end : ℕ) (file : List ℕ) → at + count ≤ end → take count (drop at (take end file)) ≡ take count (drop at file)
cut-within at count end file within =
    let whole : end ≡ at + (end - at) = omega arith in
    ap (λ (n : ℕ). take count (drop at (take n file))) whole ∙ ap (take count) (drop-take at (end - at) file) ∙ take-take count (end - at) (drop at file) (omega arith)

pub lower-cut : (lower : LowerHalf) (file : List ℕ) → lower_packed lower (take (lower_end lower) file) ≡ lower_packed lower file
lower-cut lower file =
    let end = lower_end lower in
    rows_packed-same lower.kind lower.rows lower.count (drop lower.ids_at (take end file)) (drop lower.commits_at (take end file)) (drop lower.ids_at file) (drop lower.commits_at file)
    (cut-within lower.ids_at (ids_len lower) end file (omega arith)) (cut-within lower.commits_at (commits_len lower) end file (omega arith))

-- the head, the lower half and the rest, written one after the other
pub halves_appended : (p q r s head rows upper : List ℕ) → p ≡ [] → q ≡ p ++ head → r ≡ q ++ rows → s ≡ r ++ upper → s ≡ head ++ (rows ++ upper)
halves_appended p q r s head rows upper p_is q_is r_is s_is = rw (s_is, r_is, q_is, p_is) (append_assoc head rows upper)

-- bytes begin as those of the file from where they lie
begins : (file bytes : List ℕ) (at count : ℕ) → LiesAt file at bytes → count ≤ length bytes → take count (drop at file) ≡ take count bytes
begins file bytes at count lies few = sym (ap (take count) lies.same ∙ take-take count (length bytes) (drop at file) few)

half-within : (len n : ℕ) → len * (n / 2) ≤ len * n
half-within len n = mul-le-mul_left len (omega arith)

-- both halves are all rows
pub halves-whole : (layout : Layout) (file : List ℕ) → IsWhole (seen layout) → HasOffsets file layout → halves_packed (lower_half layout) file (upper_packed (seen layout)) ≡ parts_packed (seen layout)
unfolding parts_packed upper_packed
halves-whole layout file whole places =
    let k = layout.kind in
    let n = layout.rows in
    let below = n / 2 in
    let ids = layout.ids.now in
    let commits = layout.commits.now in
    let few = half-within (id_len k) n in
    let lower = rows_packed k n below ids commits in
    let upper = rows_packed k n (n - below) (drop (id_len k * below) ids) (drop (id_len k * below + 16 * below) commits) in
    let words = flat_map (to_be_bytes w32) (words_packed n layout.edges.now) in
    let name = layout_name (kind_packed k n) in
    let rows = to_be_bytes w32 n in
    let count = to_be_bytes w32 (length layout.edges.now / 4) in
    let first : lower_packed (lower_half layout) file ≡ lower =
    rows_packed-same k n below (drop layout.ids_at file) (drop layout.commits_at file) ids commits
    (begins file ids layout.ids_at (id_len k * below) places.ids (omega (arith, few, whole.ids))) (begins file commits layout.commits_at (id_len k * below + 16 * below) places.commits (omega (arith, few, whole.commits))) in
    let both : n ≡ below + (n - below) = omega arith in
    let all : rows_packed k n n ids commits ≡ lower ++ upper = ap (λ (m : ℕ). rows_packed k n m ids commits) both ∙ rows_packed-split k n below (n - below) ids commits in
    regrouped name rows count _ lower upper _ words first all
  where
    regrouped : (name rows count here lower upper all words : List ℕ) → here ≡ lower → all ≡ lower ++ upper → (name ++ (rows ++ count)) ++ (here ++ (upper ++ words)) ≡ name ++ (rows ++ (count ++ (all ++ words)))
    regrouped name rows count here lower upper all words here_is all_is = rw (here_is, all_is) (simp append_assoc)

-- what is packed by halves is what the parts are packed into
pub halves-file : (layout : Layout) (read file upper packed : List ℕ) (lower : LowerHalf) → IsWhole (seen layout) → HasOffsets read layout → read ≡ file
    → lower ≡ lower_half layout → upper ≡ upper_packed (seen layout) → packed ≡ halves_packed lower file upper → packed ≡ parts_packed (seen layout)
halves-file layout read file upper packed lower whole places read_is lower_is upper_is packed_is =
    packed_is ∙ (λ i. halves_packed (lower_is i) (sym read_is i) (upper_is i)) ∙ halves-whole layout read whole places

-- Lists of bytes are in the order of the numbers in their first four bytes, where these differ.
use Rattle.std.proofs.Common.{◌≡◌, ℕ, ◌<◌, ◌≤◌, List, length, get_or, sym, ap, ◌∙◌, arith, nat_cmp, Ordering, Less, Equal, Greater}
use Rattle.std.specs.Cmp.{nat_cmp_is}
use Rattle.std.specs.Cmp.Lexicographic.{slice_cmp}
use Rattle.std.specs.Ordering.{ordering_then, ordering_reverse}
use Rattle.std.proofs.lemmas.Cmp.{nat_list_cmp_total}
use Rattle.gix_commitgraph.proofs.Common.{AreBytes, word_at}
use Rattle.gix_commitgraph.proofs.Packed.Parents.{four_first}

less_first : (x y : ℕ) (more : Ordering) → x < y → ordering_then (nat_cmp x y) more ≡ Less
less_first x y more lt = ap (λ o. ordering_then o more) (sym (nat_cmp_is x y Less lt))

-- the first bytes are in order, or they are one byte and the rest is in order
step : (x y : ℕ) (more : Ordering) → x ≤ y → (x ≡ y → more ≡ Less) → ordering_then (nat_cmp x y) more ≡ Less
step x y more le rest = grind (arith, less_first x y more, rest, nat_cmp_is x y Equal)

pub first_less : (xs ys : List ℕ) → 4 ≤ length xs → 4 ≤ length ys → AreBytes xs → AreBytes ys → word_at 0 xs < word_at 0 ys → slice_cmp nat_cmp xs ys ≡ Less
first_less xs ys long_x long_y bytes_x bytes_y lt =
    let here = four_first xs long_x in
    let there = four_first ys long_y in
    let word_x = ap (word_at 0) here in
    let word_y = ap (word_at 0) there in
    (λ i. slice_cmp nat_cmp (here i) (there i))
    ∙ step (get_or xs 0 0) (get_or ys 0 0) _ (omega arith) (λ p. step (get_or xs 1 0) (get_or ys 1 0) _ (omega arith) (λ q. step (get_or xs 2 0) (get_or ys 2 0) _ (omega arith) (λ r. less_first (get_or xs 3 0) (get_or ys 3 0) _ (omega arith))))

pub first_greater : (xs ys : List ℕ) → 4 ≤ length xs → 4 ≤ length ys → AreBytes xs → AreBytes ys → word_at 0 ys < word_at 0 xs → slice_cmp nat_cmp xs ys ≡ Greater
first_greater xs ys long_x long_y bytes_x bytes_y lt =
    nat_list_cmp_total.antisymm xs ys ∙ ap ordering_reverse (first_less ys xs long_y long_x bytes_y bytes_x lt)

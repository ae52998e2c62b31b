-- Parts of a list of bytes.
use Rattle.std.proofs.Common.{◌≡◌, ◌≢◌, true, false, nat_eq, ℕ, ◌+◌, ◌-◌, ◌<◌, ◌≤◌, List, length, take, drop, sym, ap, ◌∙◌, arith, drop-drop, length-take, length-drop}
use Rattle.std.proofs.lemmas.List.{drop-take, take-take}
use Rattle.std.proofs.lemmas.Bool.{false≢true}
use Rattle.std.specs.Cmp.Lexicographic.{bytes_decides, same_text}
use Rattle.std.specs.List.{starts_with}
use Rattle.gix_statement.specs.CommitGraph.{bytes_at, number_at, number_from}

-- a part of a part
pub part : (place count from n : ℕ) (file : List ℕ) → from + n ≤ count → bytes_at from n (bytes_at place count file) ≡ bytes_at (place + from) n file
part place count from n file fits =
    let long : count ≡ from + (count - from) = omega (arith, fits) in
    ap (λ m. take n (drop from (take m (drop place file)))) long
    ∙ ap (take n) (drop-take from (count - from) (drop place file))
    ∙ take-take n (count - from) (drop from (drop place file)) (omega (arith, fits))
    ∙ ap (take n) (drop-drop from place file)

pub part_of : (place count from n at : ℕ) (file : List ℕ) → from + n ≤ count → at ≡ place + from → bytes_at from n (bytes_at place count file) ≡ bytes_at at n file
part_of place count from n at file fits is = part place count from n file fits ∙ ap (λ k. bytes_at k n file) (sym is)

pub number_of : (place count from n at : ℕ) (file : List ℕ) → from + n ≤ count → at ≡ place + from → number_at from n (bytes_at place count file) ≡ number_at at n file
number_of place count from n at file fits is = ap (number_from 0) (part_of place count from n at file fits is)

-- a part that has all its bytes is within
pub within : (place n : ℕ) (file : List ℕ) → 0 < n → length (bytes_at place n file) ≡ n → place + n ≤ length file
within place n file some long = omega (arith, length-take n (drop place file), length-drop place file)

-- a page's list begins with letters, or doesn't
pub begins : (entry letters : List ℕ) → starts_with nat_eq entry letters ≡ true → length letters ≡ 4 → bytes_at 0 4 entry ≡ letters
begins entry letters e four = ap (λ n. take n entry) (sym four) ∙ sym (same_text letters (take (length letters) entry) (sym e))

pub begins_not : (entry letters : List ℕ) → starts_with nat_eq entry letters ≡ false → length letters ≡ 4 → bytes_at 0 4 entry ≢ letters
begins_not entry letters e four same = false≢true (sym e ∙ (bytes_decides letters (take (length letters) entry)).1 (sym same ∙ ap (λ n. take n entry) (sym four)))

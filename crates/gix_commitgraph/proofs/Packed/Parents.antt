-- Which overflow words the reading of a row's parents leaves.
use Rattle.std.proofs.Common.{◌≡◌, ◌≢◌, ℕ, zero, suc, ◌-◌, ◌*◌, ◌+◌, ◌<◌, ◌≤◌, true, cond, List, [], ◌∷◌, length, get_or, take, drop, Option, Some, None, refl, ap, ◌∙◌, arith, is_some, option_map, w32, lt-ltb, le-ltb, ne_eqb, eq-eqb}
use Rattle.gix_commitgraph.proofs.Common.{from_be_bytes, take_rest, ParentPlace, flag, no_parent, Places, words_of, place_of, with_place, list_at, long_list_at, second_at, parents_at}
use Rattle.std.proofs.Math.Seq.{drop-cons}

-- the overflow words behind the places, where there are places
abbrev pub behind : Option Places → Option (List ℕ)
behind read = option_map (λ p. p.1) read

pub behind-with_place : (p : Option ParentPlace) (more : Option Places) → behind (with_place p more) ≡ cond (is_some p) (behind more) None
behind-with_place None more = refl
behind-with_place (Some p) None = refl
behind-with_place (Some p) (Some more) = refl

pub behind-list_on : (n word : ℕ) (words : List ℕ) → word < flag → is_some (place_of n word) ≡ true → behind (list_at n (word ∷ words)) ≡ behind (list_at n words)
behind-list_on n word words lt is = rw (lt-ltb word flag lt, behind-with_place (place_of n word) (list_at n words), is) refl

-- a list of four elements or more, by these
pub four_first : (xs : List ℕ) → 4 ≤ length xs → xs ≡ get_or xs 0 0 ∷ get_or xs 1 0 ∷ get_or xs 2 0 ∷ get_or xs 3 0 ∷ drop 4 xs
four_first xs h =
    drop-cons xs 0 0 (omega arith) ∙ ap (λ (x : List ℕ). get_or xs 0 0 ∷ x) (drop-cons xs 1 0 (omega arith) ∙ ap (λ (x : List ℕ). get_or xs 1 0 ∷ x) (drop-cons xs 2 0 (omega arith) ∙ ap (λ (x : List ℕ). get_or xs 2 0 ∷ x) (drop-cons xs 3 0 (omega arith))))

pub words_of-more : (bytes : List ℕ) → 4 ≤ length bytes → words_of bytes ≡ from_be_bytes w32 (get_or bytes 0 0 ∷ get_or bytes 1 0 ∷ get_or bytes 2 0 ∷ get_or bytes 3 0 ∷ []) ∷ words_of (drop 4 bytes)
words_of-more bytes h = ap words_of (four_first bytes h)

pub words_of-drop : (k : ℕ) (bytes : List ℕ) → words_of (drop (4 * k) bytes) ≡ drop k (words_of bytes)
words_of-drop zero bytes = let none : 4 * 0 ≡ 0 = omega arith in ap (λ (n : ℕ). words_of (drop n bytes)) none
words_of-drop (suc k) bytes =
    let step : 4 * suc k ≡ suc (suc (suc (suc (4 * k)))) = omega arith in
    ap (λ (n : ℕ). words_of (drop n bytes)) step ∙ by_cells (words_of-drop k) bytes
  where
    by_cells : ((bytes : List ℕ) → words_of (drop (4 * k) bytes) ≡ drop k (words_of bytes)) → (bytes : List ℕ) → words_of (drop (suc (suc (suc (suc (4 * k))))) bytes) ≡ drop (suc k) (words_of bytes)
    by_cells more [] = refl
    by_cells more (a ∷ []) = refl
    by_cells more (a ∷ b ∷ []) = refl
    by_cells more (a ∷ b ∷ c ∷ []) = refl
    by_cells more (a ∷ b ∷ c ∷ d ∷ bytes) = more bytes

-- one more word of an overflow list
pub list_goes_on : (n word : ℕ) (left : List ℕ) (total : Option (List ℕ)) → 4 ≤ length left
    → word ≡ from_be_bytes w32 (get_or left 0 0 ∷ get_or left 1 0 ∷ get_or left 2 0 ∷ get_or left 3 0 ∷ []) → word < flag → is_some (place_of n word) ≡ true
    → behind (list_at n (words_of left)) ≡ total → behind (list_at n (words_of (take (length left - 4) (drop 4 left)))) ≡ total
list_goes_on n word left total long e lt is so_far =
    grind (arith, words_of-more left long, take_rest left 4, behind-list_on n word (words_of (drop 4 left)) lt is)

-- a second parent word that names the overflow word from which the words are left
pub behind-second_list : (n k first second : ℕ) (words : List ℕ) → first ≢ no_parent → is_some (place_of n first) ≡ true → second ≢ no_parent → flag ≤ second → second ≡ flag + k
    → behind (parents_at n k first second words) ≡ behind (long_list_at n words)
behind-second_list n k first second words one place two le e =
    rw (ne_eqb first no_parent one, behind-with_place (place_of n first) (second_at n k second words), place, ne_eqb second no_parent two, le-ltb second flag le, eq-eqb second (flag + k) e) refl

-- The parents that words say are those of the packed words.
use Rattle.std.proofs.Common.{◌≡◌, ℕ, ◌+◌, ◌-◌, ◌<◌, ◌≤◌, Bool, true, false, cond, eqb, ltb, List, [], ◌∷◌, map, Option, Some, None, refl, ap, ◌∙◌, arith, lt-ltb, le-ltb, ltb-true, ltb-false, eqb-true, ne_eqb}
use Rattle.gix_graph_file.proofs.Common.{ParentPlace, fault_word, Places, place_of, with_place, list_at, long_list_at, second_at, parents_at, most_rows, no_parent, flag, place_named, Parents, with_parent, edge_list, long_edge_list}
use Rattle.gix_graph_file.proofs.Common.{second_said, parents_said, place_packed, first_packed, second_packed, edge_packed}
use Rattle.gix_commitgraph.specs.Packed as packed

-- parents, and the packed words behind theirs
abbrev pub packed_behind : ℕ → Option Parents → Option Places
packed_behind n None = None
packed_behind n (Some p) = Some (p.0, map (edge_packed n) p.1)

with_place-packed : (n : ℕ) (p : ParentPlace) (more : Option Parents) → with_place (Some p) (packed_behind n more) ≡ packed_behind n (with_parent p more)
with_place-packed n p None = refl
with_place-packed n p (Some more) = refl

pub place-below : (n word : ℕ) → n ≤ most_rows → place_packed n word < packed.no_parent
place-below n word few = go (ltb word n) refl
  where
    go : (b : Bool) → ltb word n ≡ b → place_packed n word < packed.no_parent
    go true e = let below = ltb-true word n e in rw e (omega arith)
    go false e = rw e (omega arith)

place-same : (n word : ℕ) → n ≤ most_rows → place_of n (place_packed n word) ≡ Some (place_named n word)
place-same n word few = go (ltb word n) refl
  where
    go : (b : Bool) → ltb word n ≡ b → place_of n (place_packed n word) ≡ Some (place_named n word)
    go true e = rw (e, e) refl
    go false e = rw (e, le-ltb fault_word n (omega arith)) refl

flag-same : (n word : ℕ) → n ≤ most_rows → ltb (edge_packed n word) flag ≡ ltb word flag
flag-same n word few = go (ltb word flag) refl
  where
    go : (b : Bool) → ltb word flag ≡ b → ltb (edge_packed n word) flag ≡ ltb word flag
    go true e = let below = place-below n word few in rw e (lt-ltb (place_packed n word) flag (omega arith))
    go false e = rw e (le-ltb (flag + place_packed n (word - flag)) flag (omega arith))

list-same : (n : ℕ) (words : List ℕ) → n ≤ most_rows → list_at n (map (edge_packed n) words) ≡ packed_behind n (edge_list n words)
list-same n [] few = refl
list-same n (word ∷ words) few = go (ltb word flag) refl (list-same n words few)
  where
    go : (b : Bool) → ltb word flag ≡ b → list_at n (map (edge_packed n) words) ≡ packed_behind n (edge_list n words) → list_at n (map (edge_packed n) (word ∷ words)) ≡ packed_behind n (edge_list n (word ∷ words))
    go true e more =
        let below = place-below n word few in
        rw (e, lt-ltb (place_packed n word) flag (omega arith), place-same n word few, more) (with_place-packed n (place_named n word) (edge_list n words))
    go false e more =
        let back : flag + place_packed n (word - flag) - flag ≡ place_packed n (word - flag) = omega arith in
        rw (e, le-ltb (flag + place_packed n (word - flag)) flag (omega arith), back, place-same n (word - flag) few) refl

long_list-same : (n : ℕ) (words : List ℕ) → n ≤ most_rows → long_list_at n (map (edge_packed n) words) ≡ packed_behind n (long_edge_list n words)
long_list-same n [] few = refl
long_list-same n (word ∷ words) few = go (ltb word flag) refl
  where
    by : (b : Bool) → cond b (list_at n (map (edge_packed n) (word ∷ words))) None ≡ packed_behind n (cond b (edge_list n (word ∷ words)) None)
    by true = list-same n (word ∷ words) few
    by false = refl

    go : (b : Bool) → ltb word flag ≡ b → cond (ltb (edge_packed n word) flag) (list_at n (map (edge_packed n) (word ∷ words))) None ≡ packed_behind n (cond (ltb word flag) (edge_list n (word ∷ words)) None)
    go b e = ap (λ (x : Bool). cond x (list_at n (map (edge_packed n) (word ∷ words))) None) (flag-same n word few) ∙ by (ltb word flag)

-- a second word says no parent where its packed word does
none-same : (n second : ℕ) → n ≤ most_rows → eqb (second_packed n second) packed.no_parent ≡ eqb second no_parent
none-same n second few = go (eqb second no_parent) refl (ltb second flag) refl
  where
    go : (b : Bool) → eqb second no_parent ≡ b → (f : Bool) → ltb second flag ≡ f → eqb (second_packed n second) packed.no_parent ≡ eqb second no_parent
    go true e f h = let is : second ≡ no_parent = eqb-true second no_parent e in rw is refl
    go false e true h = let below = place-below n second few in rw (h, e, ne_eqb (place_packed n second) packed.no_parent (λ same. omega arith)) refl
    go false e false h = let above = ltb-false second flag h in rw (h, e, ne_eqb second packed.no_parent (λ same. omega arith)) refl

second-same : (n k second : ℕ) (words : List ℕ) → n ≤ most_rows → second_at n k (second_packed n second) (map (edge_packed n) words) ≡ packed_behind n (second_said n k second words)
second-same n k second words few = go (eqb second no_parent) refl (ltb second flag) refl
  where
    by : (b : Bool) → cond b (long_list_at n (map (edge_packed n) words)) None ≡ packed_behind n (cond b (long_edge_list n words) None)
    by true = long_list-same n words few
    by false = refl

    go : (b : Bool) → eqb second no_parent ≡ b → (f : Bool) → ltb second flag ≡ f → second_at n k (second_packed n second) (map (edge_packed n) words) ≡ packed_behind n (second_said n k second words)
    go true e f h = let is : second ≡ no_parent = eqb-true second no_parent e in rw is refl
    go false e true h =
        let below = place-below n second few in
        rw (h, e, ne_eqb (place_packed n second) packed.no_parent (λ same. omega arith), lt-ltb (place_packed n second) flag (omega arith), place-same n second few) refl
    go false e false h =
        let above = ltb-false second flag h in
        rw (h, e, ne_eqb second packed.no_parent (λ same. omega arith), h) (by (eqb second (flag + k)))

pub parents-same : (n k first second : ℕ) (words : List ℕ) → n ≤ most_rows
    → parents_at n k (first_packed n first) (second_packed n second) (map (edge_packed n) words) ≡ packed_behind n (parents_said n k first second words)
parents-same n k first second words few = go (eqb first no_parent) refl
  where
    by : (b : Bool) → cond b (Some ([], map (edge_packed n) words)) None ≡ packed_behind n (cond b (Some ([], words)) None)
    by true = refl
    by false = refl

    go : (b : Bool) → eqb first no_parent ≡ b → parents_at n k (first_packed n first) (second_packed n second) (map (edge_packed n) words) ≡ packed_behind n (parents_said n k first second words)
    go true e = rw (e, none-same n second few) (by (eqb second no_parent))
    go false e =
        let below = place-below n first few in
        rw (e, ne_eqb (place_packed n first) packed.no_parent (λ same. omega arith), place-same n first few, second-same n k second words few) (with_place-packed n (place_named n first) (second_said n k second words))

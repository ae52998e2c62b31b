-- The parents that two words say are the page's, where each names a row.
use Rattle.std.proofs.Common.{◌≡◌, ◌≢◌, ℕ, suc, ◌+◌, ◌-◌, ◌*◌, ◌<◌, Bool, true, false, cond, eqb, ltb, List, [], ◌∷◌, take, drop, length, map, Option, Some, None, refl, sym, ap, subst, ◌∙◌, arith, ⊎_elim, eqb-true, ltb-true, ltb-false, drop-drop}
use Rattle.std.specs.List.{AllByRecursion}
use Rattle.gix_commitgraph.specs.declared.ParentPlace.{ParentPlace}
use Rattle.gix_commitgraph.specs.declared.ParentPlace.TheVariants.{At, Fault}
use Rattle.gix_commitgraph.specs.PackedReading.{words_of}
use Rattle.gix_commitgraph.proofs.Packed.Takes.{chosen}
use Rattle.gix_commitgraph.specs.Packed.{flag}
use Rattle.gix_graph_file.specs.FileRows.{no_parent, place_named, Parents, with_parent, edge_list, long_edge_list, second_said, parents_said}
use Rattle.gix_statement.specs.CommitGraph.{number_from, number_at, AreParents, none, single, pair, many, AreFurther, last, next}
use Rattle.gix_commands.proofs.FileNumbers.{four}
use Rattle.gix_commands.proofs.FileChunks.{eqb-false}

-- a place that names a row
abbrev pub IsAt : ParentPlace → Type 0
IsAt (At n) = Unit {0}
IsAt Fault = ⊥

abbrev pub NoFault : List ParentPlace → Type 0
NoFault places = AllByRecursion IsAt places

first_place : (n word : ℕ) (places : List ParentPlace) → NoFault (place_named n word ∷ places) → (place_named n word ≡ At word) × (word < n) × NoFault places
first_place n word places h = go (ltb word n) refl h
  where
    go : (b : Bool) → ltb word n ≡ b → NoFault (cond b (At word) Fault ∷ places) → (cond b (At word) Fault ≡ At word) × (word < n) × NoFault places
    go true e h = (refl, ltb-true word n e, h.1)
    go false e h = absurd h.0

-- the words of EDGE from a place on are left
pub record Left (m : ℕ) (edges words : List ℕ) : Type 0 where
  pub place : ℕ
  pub counted : place + length words ≡ m
  pub are : words ≡ words_of (drop (4 * place) edges)

first_word : (bytes : List ℕ) (word : ℕ) (words : List ℕ) → word ∷ words ≡ words_of bytes → (number_from 0 (take 4 bytes) ≡ word) × (words ≡ words_of (drop 4 bytes))
first_word [] word words e = absurd (let no : word ∷ words ≡ [] = e in cc)
first_word (a ∷ []) word words e = absurd (let no : word ∷ words ≡ [] = e in cc)
first_word (a ∷ b ∷ []) word words e = absurd (let no : word ∷ words ≡ [] = e in cc)
first_word (a ∷ b ∷ c ∷ []) word words e = absurd (let no : word ∷ words ≡ [] = e in cc)
first_word (a ∷ b ∷ c ∷ d ∷ bytes) word words e = (four (a ∷ b ∷ c ∷ d ∷ []) refl ∙ sym (ap (head 0) e), ap tail e)
  where
    head : ℕ → List ℕ → ℕ
    head d [] = d
    head d (x ∷ xs) = x

    tail : List ℕ → List ℕ
    tail [] = []
    tail (x ∷ xs) = xs

word_step : (k : ℕ) (edges : List ℕ) (word : ℕ) (words : List ℕ) → word ∷ words ≡ words_of (drop (4 * k) edges) → (number_at (4 * k) 4 edges ≡ word) × (words ≡ words_of (drop (4 * suc k) edges))
word_step k edges word words e =
    let here = first_word (drop (4 * k) edges) word words e in
    let more : 4 * k + 4 ≡ 4 * suc k = omega arith in
    (here.0, here.1 ∙ ap words_of (drop-drop 4 (4 * k) edges ∙ ap (λ n. drop n edges) more))

-- what a reading of parents says
pub record Reads (n m : ℕ) (edges : List ℕ) (Are : List ℕ → Type 0) (read : Parents) : Type 0 where
  pub numbers : List ℕ
  pub are : Are numbers
  pub places : read.0 ≡ map At numbers
  pub within : AllByRecursion (λ (i : ℕ). i < n) numbers
  pub left : Left m edges read.1

with_parent_is : (p : ParentPlace) (said : Option Parents) (read : Parents) → with_parent p said ≡ Some read → (more : Parents) × (said ≡ Some more) × ((p ∷ more.0, more.1) ≡ read)
with_parent_is p None read e = absurd (let no : ◌≡◌ {A = Option Parents} None (Some read) = e in cc)
with_parent_is p (Some more) read e = (more, refl, cc)

edges_say : (n m k : ℕ) (edges words : List ℕ) (read : Parents) → k + length words ≡ m → words ≡ words_of (drop (4 * k) edges) → edge_list n words ≡ Some read → NoFault read.0 → Reads n m edges (AreFurther edges k) read
edges_say n m k edges [] read counted are e sound = absurd (let no : ◌≡◌ {A = Option Parents} None (Some read) = e in cc)
edges_say n m k edges (word ∷ words) read counted are e sound =
    let step = word_step k edges word words are in
    ⊎_elim
    (λ h. let w = with_parent_is (place_named n word) (edge_list n words) read h.1 in
    let ok = first_place n word w.0.0 (subst (λ (r : Parents). NoFault r.0) (sym w.2) sound) in
    let more = edges_say n m (suc k) edges words w.0 (omega (arith, counted)) step.1 w.1 ok.2 in
    subst (Reads n m edges (AreFurther edges k)) w.2
    (record {
      numbers = word ∷ more.numbers;
      are = subst (λ (x : ℕ). AreFurther edges k (x ∷ more.numbers)) step.0 (next k (let l = ltb-true word flag h.0 in omega (arith, l, step.0)) more.are);
      places = (λ i. ok.0 i ∷ more.places i);
      within = (ok.1, more.within);
      left = more.left;
    }))
    (λ h. let is : (place_named n (word - flag) ∷ [], words) ≡ read = (let s = h.1 in cc) in
    let ok = first_place n (word - flag) [] (subst (λ (r : Parents). NoFault r.0) (sym is) sound) in
    subst (Reads n m edges (AreFurther edges k)) is
    (record {
      numbers = (word - flag) ∷ [];
      are = subst (λ (x : ℕ). AreFurther edges k ((x - flag) ∷ [])) step.0 (last k (let l = ltb-false word flag h.0 in omega (arith, l, step.0)));
      places = ap (λ (p : ParentPlace). p ∷ []) ok.0;
      within = (ok.1, tt);
      left = record { place = suc k; counted = omega (arith, counted); are = step.1 };
    }))
    (chosen (ltb word flag) (with_parent (place_named n word) (edge_list n words)) (Some (place_named n (word - flag) ∷ [], words)) (Some read) e)

long_is_list : (n : ℕ) (words : List ℕ) (read : Parents) → long_edge_list n words ≡ Some read → edge_list n words ≡ Some read
long_is_list n [] read e = e
long_is_list n (word ∷ words) read e = ⊎_elim (λ h. h.1) (λ h. absurd (let no : ◌≡◌ {A = Option Parents} None (Some read) = h.1 in cc)) (chosen (ltb word flag) (edge_list n (word ∷ words)) None (Some read) e)

-- the parents behind the first one
AreOthers : List ℕ → ℕ → List ℕ → Type 0
AreOthers edges other numbers = (one : ℕ) → one ≢ no_parent → AreParents edges one other (one ∷ numbers)

second_says : (n m second : ℕ) (edges words : List ℕ) (read : Parents) → Left m edges words → second_said n (m - length words) second words ≡ Some read → NoFault read.0 → Reads n m edges (AreOthers edges second) read
unfolding AreOthers
second_says n m second edges words read left e sound = ⊎_elim
    (λ h. let is : ([], words) ≡ read = (let s = h.1 in cc) in
    subst (Reads n m edges (AreOthers edges second)) is
    (record { numbers = []; are = λ one some. single some (eqb-true second no_parent h.0); places = refl; within = tt; left = left }))
    (λ h. ⊎_elim
    (λ g. let is : (place_named n second ∷ [], words) ≡ read = (let s = g.1 in cc) in
    let ok = first_place n second [] (subst (λ (r : Parents). NoFault r.0) (sym is) sound) in
    subst (Reads n m edges (AreOthers edges second)) is
    (record {
      numbers = second ∷ [];
      are = λ one some. pair some (eqb-false second no_parent h.0) (ltb-true second flag g.0);
      places = ap (λ (p : ParentPlace). p ∷ []) ok.0;
      within = (ok.1, tt);
      left = left;
    }))
    (λ g. ⊎_elim
    (λ f. let more = edges_say n m left.place edges words read left.counted left.are (long_is_list n words read f.1) sound in
    let high = ltb-false second flag g.0 in
    let is = eqb-true second (flag + (m - length words)) f.0 in
    let at : left.place ≡ second - flag = (let c = left.counted in omega (arith, c, is)) in
    record {
      numbers = more.numbers;
      are = λ one some. many some high (subst (λ (k : ℕ). AreFurther edges k more.numbers) at more.are);
      places = more.places;
      within = more.within;
      left = more.left;
    })
    (λ f. absurd (let no : ◌≡◌ {A = Option Parents} None (Some read) = f.1 in cc))
    (chosen (eqb second (flag + (m - length words))) (long_edge_list n words) None (Some read) g.1))
    (chosen (ltb second flag) (Some (place_named n second ∷ [], words)) _ (Some read) h.1))
    (chosen (eqb second no_parent) (Some ([], words)) _ (Some read) e)

pub parents_say : (n m first second : ℕ) (edges words : List ℕ) (read : Parents) → Left m edges words → parents_said n (m - length words) first second words ≡ Some read → NoFault read.0 → Reads n m edges (AreParents edges first second) read
unfolding AreOthers
parents_say n m first second edges words read left e sound = ⊎_elim
    (λ h. ⊎_elim
    (λ g. let is : ([], words) ≡ read = (let s = g.1 in cc) in
    subst (Reads n m edges (AreParents edges first second)) is
    (record { numbers = []; are = none (eqb-true first no_parent h.0) (eqb-true second no_parent g.0); places = refl; within = tt; left = left }))
    (λ g. absurd (let no : ◌≡◌ {A = Option Parents} None (Some read) = g.1 in cc))
    (chosen (eqb second no_parent) (Some ([], words)) None (Some read) h.1))
    (λ h. let w = with_parent_is (place_named n first) (second_said n (m - length words) second words) read h.1 in
    let ok = first_place n first w.0.0 (subst (λ (r : Parents). NoFault r.0) (sym w.2) sound) in
    let more = second_says n m second edges words w.0 left w.1 ok.2 in
    subst (Reads n m edges (AreParents edges first second)) w.2
    (record {
      numbers = first ∷ more.numbers;
      are = more.are first (eqb-false first no_parent h.0);
      places = (λ i. ok.0 i ∷ more.places i);
      within = (ok.1, more.within);
      left = more.left;
    }))
    (chosen (eqb first no_parent) _ (with_parent (place_named n first) (second_said n (m - length words) second words)) (Some read) e)

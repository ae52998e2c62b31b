-- Parent words and overflow words that are read are the words of the places that were read.
use Rattle.std.proofs.Common.{◌≡◌, ℕ, ◌+◌, ◌-◌, ◌<◌, ◌≤◌, Bool, true, false, cond, ltb, eqb, List, [], ◌∷◌, ◌++◌, Option, Some, None, refl, sym, ap, subst, ◌∙◌, arith, inl, inr, ◌⊎◌, ltb-true, ltb-false, eqb-true}
use Rattle.gix_commitgraph.proofs.Common.{AllByRecursion, nat_tests, ParentPlace, At, Fault, most, no_parent, flag, place_word, list_words, overflow_of, first_word, second_word, IsPlaceAmong, place_of, Places, with_place, list_at}
use Rattle.gix_commitgraph.proofs.Common.{long_list_at, second_at, parents_at}

-- which way a test went
pub chosen : {A : Type 0} (b : Bool) (x y z : A) → cond b x y ≡ z → ((b ≡ true) × (x ≡ z)) ⊎ ((b ≡ false) × (y ≡ z))
chosen true x y z e = inl (refl, e)
chosen false x y z e = inr (refl, e)

place_takes : (n word : ℕ) (p : ParentPlace) → place_of n word ≡ Some p → (place_word p ≡ word) × IsPlaceAmong n p
place_takes n word (At i) e = (grind (arith, nat_tests, e), grind (arith, nat_tests, e))
place_takes n word Fault e = (grind (arith, nat_tests, e), tt)

record TakesPlace (n word : ℕ) (more : Option Places) (read : Places) : Type 0 where
  place : ParentPlace
  others : Places
  word_is : place_word place ≡ word
  here_among : IsPlaceAmong n place
  more_is : more ≡ Some others
  read_is : read ≡ (place ∷ others.0, others.1)

with_place_takes : (n word : ℕ) (more : Option Places) (read : Places) → with_place (place_of n word) more ≡ Some read → TakesPlace n word more read
with_place_takes n word more read = go (place_of n word) more refl
  where
    go : (here : Option ParentPlace) (more : Option Places) → place_of n word ≡ here → with_place here more ≡ Some read → TakesPlace n word more read
    go None more is e = absurd cc
    go (Some p) None is e = absurd cc
    go (Some p) (Some others) is e = let here = place_takes n word p is in record { place = p; others = others; word_is = here.0; here_among = here.1; more_is = refl; read_is = cc }

record TakesList (n : ℕ) (words : List ℕ) (read : Places) : Type 0 where
  first : ParentPlace
  others : List ParentPlace
  read_is : read.0 ≡ first ∷ others
  words_is : words ≡ list_words first others ++ read.1
  first_among : IsPlaceAmong n first
  others_among : AllByRecursion (IsPlaceAmong n) others

list_takes : (n : ℕ) (words : List ℕ) (read : Places) → list_at n words ≡ Some read → TakesList n words read
list_takes n [] read e = absurd cc
list_takes n (word ∷ words) read e =
    elim (chosen (ltb word flag) (with_place (place_of n word) (list_at n words)) (with_place (place_of n (word - flag)) (Some ([], words))) (Some read) e) [
      | inl h ↦ (
          let t = with_place_takes n word (list_at n words) read h.1 in
          let l = list_takes n words t.others t.more_is in
          record {
            first = t.place;
            others = l.first ∷ l.others;
            read_is = ap (λ (x : Places). x.0) t.read_is ∙ ap (λ (ps : List ParentPlace). t.place ∷ ps) l.read_is;
            words_is = (λ i. sym t.word_is i ∷ l.words_is i) ∙ ap (λ (x : Places). place_word t.place ∷ (list_words l.first l.others ++ x.1)) (sym t.read_is);
            first_among = t.here_among;
            others_among = (l.first_among, l.others_among);
          })
      | inr h ↦ (
          let t = with_place_takes n (word - flag) (Some ([], words)) read h.1 in
          let ge : flag ≤ word = ltb-false word flag h.0 in
          let word_is : word ≡ flag + place_word t.place = omega (arith, t.word_is) in
          let none : t.others ≡ ([], words) = cc t.more_is in
          record {
            first = t.place;
            others = [];
            read_is = ap (λ (x : Places). x.0) t.read_is ∙ ap (λ (x : Places). t.place ∷ x.0) none;
            words_is = ap (λ (w : ℕ). w ∷ words) word_is ∙ ap (λ (x : Places). (flag + place_word t.place) ∷ x.1) (sym none) ∙ ap (λ (x : Places). (flag + place_word t.place) ∷ x.1) (sym t.read_is);
            first_among = t.here_among;
            others_among = tt;
          })
    ]

-- what is left of the places behind the first
record TakesSecond (n k second : ℕ) (words : List ℕ) (first : ParentPlace) (read : Places) : Type 0 where
  second_is : second ≡ second_word k (first ∷ read.0)
  words_is : words ≡ overflow_of (first ∷ read.0) ++ read.1
  among : AllByRecursion (IsPlaceAmong n) read.0

long_list_takes : (n k : ℕ) (words : List ℕ) (first : ParentPlace) (read : Places) → n ≤ most → long_list_at n words ≡ Some read → TakesSecond n k (flag + k) words first read
long_list_takes n k [] first read few e = absurd cc
long_list_takes n k (word ∷ words) first read few e =
    elim (chosen (ltb word flag) (list_at n (word ∷ words)) None (Some read) e) [
      | inl h ↦ (let l = list_takes n (word ∷ words) read h.1 in go l.first l.others l.read_is l.words_is (ltb-true word flag h.0) l.first_among l.others_among)
      | inr h ↦ absurd cc
    ]
  where
    go : (p : ParentPlace) (ps : List ParentPlace) → read.0 ≡ p ∷ ps → word ∷ words ≡ list_words p ps ++ read.1 → word < flag → IsPlaceAmong n p → AllByRecursion (IsPlaceAmong n) ps → TakesSecond n k (flag + k) (word ∷ words) first read
    go p [] e words_is lt here all = let head : word ≡ flag + place_word p = cc in absurd (omega arith)
    go p (q ∷ ps) e words_is lt here all =
        record {
          second_is = ap (λ (x : List ParentPlace). second_word k (first ∷ x)) (sym e);
          words_is = words_is ∙ ap (λ (x : List ParentPlace). overflow_of (first ∷ x) ++ read.1) (sym e);
          among = subst (AllByRecursion (IsPlaceAmong n)) (sym e) (here, all);
        }

second_takes : (n k second : ℕ) (words : List ℕ) (first : ParentPlace) (read : Places) → n ≤ most → second_at n k second words ≡ Some read → TakesSecond n k second words first read
second_takes n k second words first read few e =
    elim (chosen (eqb second no_parent) (Some ([], words)) (cond (ltb second flag) (with_place (place_of n second) (Some ([], words))) (cond (eqb second (flag + k)) (long_list_at n words) None)) (Some read) e) [
      | inl h ↦ (
          let same : ([], words) ≡ read = cc h.1 in
          subst (TakesSecond n k second words first) same (record { second_is = eqb-true second no_parent h.0; words_is = refl; among = tt }))
      | inr h ↦ elim (chosen (ltb second flag) (with_place (place_of n second) (Some ([], words))) (cond (eqb second (flag + k)) (long_list_at n words) None) (Some read) h.1) [
        | inl s ↦ (
            let t = with_place_takes n second (Some ([], words)) read s.1 in
            let same : (t.place ∷ [], words) ≡ read = cc (t.more_is, t.read_is) in
            subst (TakesSecond n k second words first) same (record { second_is = sym t.word_is; words_is = refl; among = (t.here_among, tt) }))
        | inr s ↦ elim (chosen (eqb second (flag + k)) (long_list_at n words) None (Some read) s.1) [
          | inl l ↦ subst (λ (x : ℕ). TakesSecond n k x words first read) (sym (eqb-true second (flag + k) l.0)) (long_list_takes n k words first read few l.1)
          | inr l ↦ absurd cc
        ]
      ]
    ]

-- the places that were read have these parent words and overflow words
pub record TakesParents (n k first second : ℕ) (words : List ℕ) (read : Places) : Type 0 where
  pub first_is : first ≡ first_word read.0
  pub second_is : second ≡ second_word k read.0
  pub words_is : words ≡ overflow_of read.0 ++ read.1
  pub among : AllByRecursion (IsPlaceAmong n) read.0

pub parents_take : (n k first second : ℕ) (words : List ℕ) (read : Places) → n ≤ most → parents_at n k first second words ≡ Some read → TakesParents n k first second words read
parents_take n k first second words read few e =
    elim (chosen (eqb first no_parent) (cond (eqb second no_parent) (Some ([], words)) None) (with_place (place_of n first) (second_at n k second words)) (Some read) e) [
      | inl h ↦ elim (chosen (eqb second no_parent) (Some ([], words)) None (Some read) h.1) [
        | inl s ↦ (
            let same : ([], words) ≡ read = cc s.1 in
            subst (TakesParents n k first second words) same (record { first_is = eqb-true first no_parent h.0; second_is = eqb-true second no_parent s.0; words_is = refl; among = tt }))
        | inr s ↦ absurd cc
      ]
      | inr h ↦ (
          let t = with_place_takes n first (second_at n k second words) read h.1 in
          let s = second_takes n k second words t.place t.others few t.more_is in
          subst (TakesParents n k first second words) (sym t.read_is) (record { first_is = sym t.word_is; second_is = s.second_is; words_is = s.words_is; among = (t.here_among, s.among) }))
    ]

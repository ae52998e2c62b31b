-- The page leaves no choice: in one history there is one right answer.
use Rattle.std.proofs.Common.{None, ◌≡◌, ◌≢◌, ◌⊎◌, ◌≤◌, ◌≤ℤ◌, ◌<◌, ◌+◌, ℕ, Bool, suc, ℤ, pos, List, [], ◌∷◌, ◌++◌, length, drop, zero, Option, int_le, nat_lt, nat_le, ◌&&◌, cond, reverse, flat_map, filter, not, int_lt, Some, true, false, All, AllPairs, Contains, codes, refl, sym, ap, subst, ◌∙◌, arith, ⊎_elim, inl, inr, append_assoc, append-nil, length-append}
use Rattle.std.proofs.lemmas.Grind.{flat_map-append}
use Rattle.std.proofs.lemmas.List.Elements.{All-contains, All-cons, All-nil, Contains-append_cases, Contains-append_left, Contains-append_right}
use Rattle.std.specs.Cmp.{IsTotalOrder, on_total, tied_itself}
use Rattle.std.specs.Cmp.Lexicographic.{nat_list_cmp_total}
use Rattle.std.specs.declared.cmp.Ordering.{Ordering}
use Rattle.std.specs.declared.cmp.Ordering.TheVariants.{Less, Equal}
use Rattle.std.proofs.Math.ListN.{get_or}
use Rattle.std.specs.Str.Parse.{AllDigits, digits_value}
use Rattle.gix_hash.proofs.Ids.Membership.{Contains-here, Contains-there, Contains-cons_cases, no_member}
use Rattle.gix_hash.specs.declared.ObjectId.{ObjectId}
use Rattle.gix_hash.specs.declared.ObjectId.TheVariants.{Sha1, Sha256}
use Rattle.gix_statement.specs.WholeStatement.{IsLimit, allowed, Objects, Row, IsPending, IsReady, IsFirst, IsBest, Keeps, empty, kept, passed, IsNext, breadth, newest, oldest, date, topo, AreMadeReady, by_time, Begins, IsWhole, Allows, AreTips, Follows, all, first, since, Spells, digits_in, bytes_in, Lists, lists, HasBegun, IsCutOff, OneAnswer, Serves, commits, ahead, contains, containing, bases, IsBase, by_bytes, files, Entry, Object, AreEntries, IsTree, Unfolds, whole, other, tree, Clash, Reaches, id_line, entry_line, IsNumberShown, Form, Choice, Chooses, everything, until, merges, no_merges, skip, at_most, reversed, counted, with_time, with_parents, says_more, with_format, with_subject, zero_ended, IsThere, chosen, commit_line, written, Lines, Reversed, Number}
use Rattle.gix_statement.proofs.OneCommit.{spelled_same, append_same, first_same, id_same}
use Rattle.gix_statement.proofs.Carried.{both_of, first_kept, same_object, second_kept}
use Rattle.gix_statement.proofs.SameLines.{same_texts, text_same}
use Rattle.gix_statement.proofs.Tests.{not_among, other_head}
use Rattle.std.specs.Fmt.{digits}
use Rattle.std.specs.Char.{digit_value}

first_at : {I : Type 0} (P : I → Type 0) (i j : I) (before after another behind names : List I) → names ≡ before ++ i ∷ after → names ≡ another ++ j ∷ behind
    → All (λ x. P x → ⊥) before → All (λ x. P x → ⊥) another → P i → P j → i ≡ j
first_at P i j [] after [] behind names is same n m p q = let e : i ∷ after ≡ j ∷ behind = sym is ∙ same in cc
first_at P i j [] after (y ∷ another) behind names is same n m p q =
    let e : i ∷ after ≡ y ∷ (another ++ j ∷ behind) = sym is ∙ same in
    let h : i ≡ y = cc in
    absurd (m 0 y (omega arith) (subst P h p))
first_at P i j (x ∷ before) after [] behind names is same n m p q =
    let e : x ∷ (before ++ i ∷ after) ≡ j ∷ behind = sym is ∙ same in
    let h : x ≡ j = cc in
    absurd (n 0 x (omega arith) (subst P (sym h) q))
first_at P i j (x ∷ before) after (y ∷ another) behind names is same n m p q =
    let e : x ∷ (before ++ i ∷ after) ≡ y ∷ (another ++ j ∷ behind) = sym is ∙ same in
    let h : before ++ i ∷ after ≡ another ++ j ∷ behind = cc in
    first_at P i j before after another behind (before ++ i ∷ after) refl h (λ k d below. n (suc k) d (omega (arith, below))) (λ k d below. m (suc k) d (omega (arith, below))) p q

pub first_once : {I : Type 0} (P : I → Type 0) (names : List I) (i j : I) → IsFirst P names i → IsFirst P names j → i ≡ j
first_once P names i j (before, after, is, none, p) (another, behind, same, none_there, q) = first_at P i j before after another behind names is same none none_there p q

keeps_once : {I : Type 0} (P : List I → I → List I → Type 0) {before names those others : List I} → Keeps P before names those → Keeps P before names others → those ≡ others
keeps_once P empty empty = refl
keeps_once P (kept {i = i} p k) (kept q l) = ap (λ xs. i ∷ xs) (keeps_once P k l)
keeps_once P (kept p k) (passed n l) = absurd (n p)
keeps_once P (passed n k) (kept p l) = absurd (n p)
keeps_once P (passed n k) (passed m l) = keeps_once P k l

filter_more : {I : Type 0} (p : I → Bool) (xs ys : List I) → filter p (xs ++ ys) ≡ filter p xs ++ filter p ys
filter_more p [] ys = refl
filter_more p (x ∷ xs) ys = go (p x) (filter_more p xs ys)
  where
    go : (b : Bool) → filter p (xs ++ ys) ≡ filter p xs ++ filter p ys → cond b (x ∷ filter p (xs ++ ys)) (filter p (xs ++ ys)) ≡ cond b (x ∷ filter p xs) (filter p xs) ++ filter p ys
    go true h = ap (λ zs. x ∷ zs) h
    go false h = h

drop_more : {I : Type 0} (n : ℕ) (xs ys : List I) → (rest : List I) × (drop n (xs ++ ys) ≡ drop n xs ++ rest)
drop_more zero xs ys = (ys, refl)
drop_more (suc n) [] ys = (drop (suc n) ys, refl)
drop_more (suc n) (x ∷ xs) ys = drop_more n xs ys

allows_less : (limit : Option ℕ) (n m : ℕ) → n ≤ m → Allows limit m → Allows limit n
allows_less None n m l few = tt
allows_less (Some most) n m l few = omega (arith, l, few)

module _ {I : Type 0} (parents followed : I → List I) (time : I → ℤ) (starts hidden : List I) where
  pub ready_once : (taken r s : List I) → AreMadeReady parents followed time starts hidden taken r → AreMadeReady parents followed time starts hidden taken s → r ≡ s
  ready_once [] r s (some, keeps, is) (others, keeps_too, same) = is ∙ ap (by_time parents followed time starts hidden) (keeps_once _ keeps keeps_too) ∙ sym same
  ready_once (c ∷ taken) r s (old, more, made, is, keeps) (older, others, made_too, same, keeps_too) =
      let o = ready_once taken old older made made_too in
      let m = keeps_once _ keeps keeps_too in
      is ∙ (λ k. o k ++ m k) ∙ sym same

  abbrev Pending : List I → I → Type 0
  Pending = IsPending parents followed time starts hidden

  abbrev Ready : List I → I → Type 0
  Ready = IsReady parents followed time starts hidden

  abbrev Newest : (I → Type 0) → I → Type 0
  Newest P = IsBest (λ a b. time b ≤ℤ time a) P

  abbrev Oldest : (I → Type 0) → I → Type 0
  Oldest P = IsBest (λ a b. time a ≤ℤ time b) P

  pub next_once : (taken : List I) (i j : I) (by : List ℕ) → IsNext parents followed time starts hidden taken i by → IsNext parents followed time starts hidden taken j by → i ≡ j
  next_once taken i j by (breadth f) (breadth g) = first_once (Pending taken) (starts ++ flat_map followed taken) i j f g
  next_once taken i j by (newest f) (newest g) = first_once (Newest (Pending taken)) (starts ++ flat_map followed taken) i j f g
  next_once taken i j by (oldest f) (oldest g) = first_once (Oldest (Pending taken)) (starts ++ flat_map followed taken) i j f g
  next_once taken i j by (date ready made f) (date another made_too g) =
      first_once (Newest (Ready taken)) ready i j f (subst (λ r. IsFirst (Newest (Ready taken)) r j) (ready_once (reverse taken) another ready made_too made) g)
  next_once taken i j by (topo ready made f) (topo another made_too g) =
      first_once (Ready taken) (reverse ready) i j f (subst (λ r. IsFirst (Ready taken) (reverse r) j) (ready_once (reverse taken) another ready made_too made) g)

  -- what is chosen of a beginning, and of one that goes on
  module _ (c : Choice) where
    abbrev left : List I → List I
    left ids = chosen parents time c ids

    left_more : (ids more : List I) → (rest : List I) × (left (ids ++ more) ≡ left ids ++ rest)
    left_more ids more =
        let kept = filter_more (λ i. c.keeps (length (parents i)) (time i)) ids more in
        let d = drop_more c.skip (filter (λ i. c.keeps (length (parents i)) (time i)) ids) (filter (λ i. c.keeps (length (parents i)) (time i)) more) in
        (d.0, ap (drop c.skip) kept ∙ d.1)

    -- a beginning that is as long as it may be
    abbrev Long : List ℕ → List I → Type 0
    Long by ids = Begins parents followed time starts hidden by ids × Allows c.limit (length (left ids)) × (Allows c.limit (suc (length (left ids))) → IsWhole parents followed time starts hidden by ids)

    -- nothing is chosen of what goes on behind it
    stops : (by : List ℕ) (ids others taken : List I) (y : I) (ys : List I) → Long by ids → Begins parents followed time starts hidden by others → Allows c.limit (length (left others)) → ids ≡ taken ++ [] → others ≡ taken ++ y ∷ ys → left others ≡ left ids
    stops by ids others taken y ys l m few is same =
        let e : ids ≡ taken = is ∙ append-nil taken in
        let d = left_more taken (y ∷ ys) in
        go e d.0 (ap left same ∙ d.1)
      where
        go : ids ≡ taken → (rest : List I) → left others ≡ left taken ++ rest → left others ≡ left ids
        go e [] h = h ∙ append-nil (left taken) ∙ ap left (sym e)
        go e (z ∷ rest) h =
            let longer : length (left others) ≡ length (left taken) + suc (length rest) = ap length h ∙ length-append (left taken) (z ∷ rest) in
            let short : length (left ids) ≡ length (left taken) = ap (λ xs. length (left xs)) e in
            absurd ((l.2 (allows_less c.limit (suc (length (left ids))) (length (left others)) (omega (arith, longer, short)) few)).0 y (subst (λ t. IsNext parents followed time starts hidden t y by) (sym e) (m.2 taken ys y same)))

    begun_once : (by : List ℕ) (ids others taken xs ys : List I) → Long by ids → Long by others → ids ≡ taken ++ xs → others ≡ taken ++ ys → left ids ≡ left others
    begun_once by ids others taken [] [] l m is same = ap left (is ∙ sym same)
    begun_once by ids others taken (x ∷ xs) (y ∷ ys) l m is same =
        let h : x ≡ y = next_once taken x y by (l.0.2 taken xs x is) (m.0.2 taken ys y same) in
        begun_once by ids others (taken ++ x ∷ []) xs ys l m (is ∙ sym (append_assoc taken (x ∷ []) xs)) (same ∙ ap (λ z. taken ++ z ∷ ys) (sym h) ∙ sym (append_assoc taken (x ∷ []) ys))
    begun_once by ids others taken [] (y ∷ ys) l m is same = sym (stops by ids others taken y ys l m.0 m.1 is same)
    begun_once by ids others taken (x ∷ xs) [] l m is same = stops by others ids taken x xs m l.0 l.1 same is

    -- a beginning, and one as long as it may be
    begun_before : (by : List ℕ) (ids others taken xs ys : List I) → Begins parents followed time starts hidden by ids → Allows c.limit (length (left ids)) → Long by others
        → ids ≡ taken ++ xs → others ≡ taken ++ ys → (more : List I) × (left others ≡ left ids ++ more)
    begun_before by ids others taken [] ys l few m is same =
        let d = left_more taken ys in
        (d.0, ap left same ∙ d.1 ∙ ap (λ xs. left xs ++ d.0) (sym (is ∙ append-nil taken)))
    begun_before by ids others taken (x ∷ xs) (y ∷ ys) l few m is same =
        let h : x ≡ y = next_once taken x y by (l.2 taken xs x is) (m.0.2 taken ys y same) in
        begun_before by ids others (taken ++ x ∷ []) xs ys l few m (is ∙ sym (append_assoc taken (x ∷ []) xs)) (same ∙ ap (λ z. taken ++ z ∷ ys) (sym h) ∙ sym (append_assoc taken (x ∷ []) ys))
    begun_before by ids others taken (x ∷ xs) [] l few m is same = ([], sym (append-nil (left ids) ∙ stops by others ids taken x xs m l few same is))

    -- two beginnings: what is chosen of one of them is a beginning of what is of the other
    begun_either : (by : List ℕ) (ids others taken xs ys : List I) → Begins parents followed time starts hidden by ids → Begins parents followed time starts hidden by others → ids ≡ taken ++ xs → others ≡ taken ++ ys
        → ((more : List I) × (left others ≡ left ids ++ more)) ⊎ ((more : List I) × (left ids ≡ left others ++ more))
    begun_either by ids others taken [] ys l m is same =
        let d = left_more taken ys in
        inl (d.0, ap left same ∙ d.1 ∙ ap (λ xs. left xs ++ d.0) (sym (is ∙ append-nil taken)))
    begun_either by ids others taken (x ∷ xs) [] l m is same =
        let d = left_more taken (x ∷ xs) in
        inr (d.0, ap left is ∙ d.1 ∙ ap (λ xs. left xs ++ d.0) (sym (same ∙ append-nil taken)))
    begun_either by ids others taken (x ∷ xs) (y ∷ ys) l m is same =
        let h : x ≡ y = next_once taken x y by (l.2 taken xs x is) (m.2 taken ys y same) in
        begun_either by ids others (taken ++ x ∷ []) xs ys l m (is ∙ sym (append_assoc taken (x ∷ []) xs)) (same ∙ ap (λ z. taken ++ z ∷ ys) (sym h) ∙ sym (append_assoc taken (x ∷ []) ys))

-- COUNTS: two lists without repeats that have the same members are as long as each another
pub split : {I : Type 0} (ys : List I) (x : I) → Contains ys x → (before after : List I) × (ys ≡ before ++ x ∷ after)
split [] x m = absurd (no_member x m)
split (y ∷ ys) x m = ⊎_elim
    (λ e. ([], ys, ap (λ z. z ∷ ys) e))
    (λ n. let s = split ys x n in (y ∷ s.0, s.1, ap (λ zs. y ∷ zs) s.2))
    (Contains-cons_cases x y ys m)

apart_tail : {I : Type 0} (x : I) (xs : List I) → AllPairs (λ i j. i ≢ j) (x ∷ xs) → AllPairs (λ i j. i ≢ j) xs
apart_tail x xs h i j d l below = h (suc i) (suc j) d (omega (arith, l)) (omega (arith, below))

apart_head : {I : Type 0} (x y : I) (xs : List I) → AllPairs (λ i j. i ≢ j) (x ∷ xs) → Contains xs y → x ≢ y
apart_head x y xs h (k, below, is) e = h 0 (suc k) y (omega arith) (omega (arith, below)) (e ∙ sym is)

others : {I : Type 0} (x : I) (before after : List I) (i : I) → x ≢ i → Contains (before ++ x ∷ after) i → Contains (before ++ after) i
others x before after i differ n = ⊎_elim
    (Contains-append_left before after i)
    (λ b. ⊎_elim (λ e. absurd (differ e)) (Contains-append_right before after i) (Contains-cons_cases i x after b))
    (Contains-append_cases before (x ∷ after) i n)

no_longer : {I : Type 0} (xs ys : List I) → AllPairs (λ i j. i ≢ j) xs → ((i : I) → Contains xs i → Contains ys i) → length xs ≤ length ys
no_longer [] ys apart are = omega arith
no_longer (x ∷ xs) ys apart are =
    let s = split ys x (are x (Contains-here x xs)) in
    let l : length ys ≡ length s.0 + suc (length s.1) = ap length s.2 ∙ length-append s.0 (x ∷ s.1) in
    let m : length (s.0 ++ s.1) ≡ length s.0 + length s.1 = length-append s.0 s.1 in
    let h = no_longer xs (s.0 ++ s.1) (apart_tail x xs apart) (λ i n. others x s.0 s.1 i (apart_head x i xs apart n) (subst (λ zs. Contains zs i) s.2 (are i (Contains-there i x xs n)))) in
    omega (arith, l, m, h)

counted_once : (parents followed : ObjectId → List ObjectId) (time : ObjectId → ℤ) (starts hidden : List ObjectId) (n m : ℕ) → IsNumberShown parents followed time starts hidden n → IsNumberShown parents followed time starts hidden m → n ≡ m
counted_once parents followed time starts hidden n m (ids, apart, exact, many) (others, distinct, same, count) =
    let up = no_longer ids others apart (λ i c. (same i).1 ((exact i).0 c)) in
    let down = no_longer others ids distinct (λ i c. (exact i).1 ((same i).0 c)) in
    omega (arith, up, down, many, count)

-- LISTS that rise and have the same members are the same.
module _ {I : Type 0} (order : I → I → Ordering) (total : IsTotalOrder order) where
  abbrev Rises : List I → Type 0
  Rises = AllPairs (λ i j. order i j ≡ Less)

  not_below_itself : (i : I) → order i i ≡ Less → ⊥
  not_below_itself i e = let no : Less ≡ Equal = sym e ∙ tied_itself total i in cc

  below_all : (i j : I) (is : List I) → Rises (i ∷ is) → Contains is j → order i j ≡ Less
  below_all i j is s (k, below, at) = subst (λ x. order i x ≡ Less) at (s 0 (suc k) j (omega arith) (omega (arith, below)))

  rises_behind : (i : I) (is : List I) → Rises (i ∷ is) → Rises is
  rises_behind i is s j k d l below = s (suc j) (suc k) d (omega (arith, l)) (omega (arith, below))

  behind : (i k : I) (is js : List I) → Rises (i ∷ is) → Contains is k → Contains (i ∷ js) k → Contains js k
  behind i k is js s m n = ⊎_elim (λ e. absurd (not_below_itself i (below_all i i is s (subst (Contains is) (sym e) m)))) (λ c. c) (Contains-cons_cases k i js n)

  -- the first of the one list is the first of the other
  same_first : (i j : I) (is js : List I) → Rises (i ∷ is) → Rises (j ∷ js) → Contains (j ∷ js) i → Contains (i ∷ is) j → j ≡ i
  same_first i j is js s t up down = ⊎_elim (λ e. e)
      (λ m. ⊎_elim (λ e. sym e) (λ n. absurd (not_below_itself i (total.trans i j i (below_all i j is s n) (below_all j i js t m)))) (Contains-cons_cases j i is down))
      (Contains-cons_cases i j js up)

  rising_once : (is js : List I) → Rises is → Rises js → ((k : I) → Contains is k → Contains js k) → ((k : I) → Contains js k → Contains is k) → is ≡ js
  rising_once [] [] s t up down = refl
  rising_once [] (j ∷ js) s t up down = absurd (no_member j (down j (Contains-here j js)))
  rising_once (i ∷ is) [] s t up down = absurd (no_member i (up i (Contains-here i is)))
  rising_once (i ∷ is) (j ∷ js) s t up down =
      let e : j ≡ i = same_first i j is js s t (up i (Contains-here i is)) (down j (Contains-here j js)) in
      let r : is ≡ js = rising_once is js (rises_behind i is s) (rises_behind j js t)
      (λ k m. behind i k is js s m (subst (λ x. Contains (x ∷ js) k) e (up k (Contains-there k i is m))))
      (λ k m. behind i k js is (subst (λ x. Rises (x ∷ js)) e t) m (down k (Contains-there k j js m))) in
      (λ d. sym e d ∷ r d)

-- WORDS
width : ObjectId → Type 0
width i = (digits_in i ≡ 40) ⊎ (digits_in i ≡ 64)

is_wide : (i : ObjectId) → (digits_in i ≡ 40) ⊎ (digits_in i ≡ 64)
is_wide (Sha1 x) = inl refl
is_wide (Sha256 x) = inr refl

pub spelled_once : (word : List ℕ) (i j : ObjectId) → Spells (digits_in i) word i → Spells (digits_in j) word j → i ≡ j
spelled_once word i j s t = spelled_same (digits_in i) word word i j refl s (subst (λ w. Spells w word j) (sym t.0 ∙ s.0) t)

no_id_behind : (word id : List ℕ) (i j : ObjectId) → Spells (digits_in i) word i → word ≡ 94 ∷ id → Spells (digits_in j) id j → ⊥
no_id_behind word id i j s is t =
    let l : digits_in i ≡ suc (digits_in j) = sym s.0 ∙ ap length is ∙ ap suc t.0 in
    ⊎_elim (λ (a : digits_in i ≡ 40). ⊎_elim (λ (b : digits_in j ≡ 40). omega (arith, l, a, b)) (λ (b : digits_in j ≡ 64). omega (arith, l, a, b)) (is_wide j))
    (λ (a : digits_in i ≡ 64). ⊎_elim (λ (b : digits_in j ≡ 40). omega (arith, l, a, b)) (λ (b : digits_in j ≡ 64). omega (arith, l, a, b)) (is_wide j)) (is_wide i)

tips_once : (words : List (List ℕ)) (tips hidden others below : List ObjectId) → AreTips words tips hidden → AreTips words others below → (tips ≡ others) × (hidden ≡ below)
tips_once [] tips hidden others below a b = (a.0 ∙ sym b.0, a.1 ∙ sym b.1)
tips_once (word ∷ words) tips hidden others below (inl (i, more, is, s, a)) (inl (j, rest, same, t, b)) =
    let h = tips_once words more hidden rest below a b in
    let e = spelled_once word i j s t in
    (is ∙ (λ k. e k ∷ h.0 k) ∙ sym same, h.1)
tips_once (word ∷ words) tips hidden others below (inl (i, more, is, s, a)) (inr (j, rest, same, id, w, t, b)) = absurd (no_id_behind word id i j s w t)
tips_once (word ∷ words) tips hidden others below (inr (j, rest, same, id, w, t, b)) (inl (i, more, is, s, a)) = absurd (no_id_behind word id i j s w t)
tips_once (word ∷ words) tips hidden others below (inr (i, more, is, id, v, s, a)) (inr (j, rest, same, id2, w, t, b)) =
    let h = tips_once words tips more others rest a b in
    let both : 94 ∷ id ≡ 94 ∷ id2 = sym v ∙ w in
    let one : id ≡ id2 = cc in
    let e = spelled_once id i j s (subst (λ x. Spells (digits_in j) x j) (sym one) t) in
    (h.0, is ∙ (λ k. e k ∷ h.1 k) ∙ sym same)

-- a word of tips is long
pub long_word : (word : List ℕ) (words : List (List ℕ)) (tips hidden : List ObjectId) → AreTips (word ∷ words) tips hidden → 40 ≤ length word
long_word word words tips hidden (inl (i, more, is, s, a)) = ⊎_elim (λ (e : digits_in i ≡ 40). omega (arith, e, s.0)) (λ (e : digits_in i ≡ 64). omega (arith, e, s.0)) (is_wide i)
long_word word words tips hidden (inr (i, more, is, id, w, s, a)) =
    let l : length word ≡ suc (length id) = ap length w in
    ⊎_elim (λ (e : digits_in i ≡ 40). omega (arith, e, s.0, l)) (λ (e : digits_in i ≡ 64). omega (arith, e, s.0, l)) (is_wide i)

-- no option is a word of tips
no_tip : (word : List ℕ) (words : List (List ℕ)) (tips hidden : List ObjectId) {A : Type 0} → length word < 40 → AreTips (word ∷ words) tips hidden → A
no_tip word words tips hidden short a = absurd (omega (arith, short, long_word word words tips hidden a))

-- a choice, and the ids behind it
abbrev IsOneChoice : (a b : Choice) (tips others hidden below : List ObjectId) → Type 0
IsOneChoice a b tips others hidden below = (a ≡ b) × (tips ≡ others) × (hidden ≡ below)

chosen_once : {tips hidden others below : List ObjectId} {p q : ℕ} (words : List (List ℕ)) (a b : Choice) → Chooses tips hidden p words a → Chooses others below q words b → IsOneChoice a b tips others hidden below
chosen_once {tips} {hidden} {others} {below} words a b (everything t) (everything u) = let h = tips_once words tips hidden others below t u in (refl, h.0, h.1)
chosen_once words a b (until n is late x) (until m same late_too y) =
    let e : n ≡ m = is.3 ∙ sym same.3 in
    let h = chosen_once _ _ _ x y in
    ((λ k. record (h.0 k) { keeps = λ parents time. int_le time (pos (e k)) && (h.0 k).keeps parents time }), h.1, h.2)
chosen_once words a b (merges late x) (merges late_too y) = let h = chosen_once _ _ _ x y in (ap (λ (c : Choice). record c { keeps = λ parents time. nat_lt 1 parents && c.keeps parents time }) h.0, h.1, h.2)
chosen_once words a b (no_merges late x) (no_merges late_too y) = let h = chosen_once _ _ _ x y in (ap (λ (c : Choice). record c { keeps = λ parents time. nat_le parents 1 && c.keeps parents time }) h.0, h.1, h.2)
chosen_once words a b (skip n is late x) (skip m same late_too y) =
    let e : n ≡ m = is.3 ∙ sym same.3 in
    let h = chosen_once _ _ _ x y in
    ((λ k. record (h.0 k) { skip = e k }), h.1, h.2)
chosen_once words a b (at_most n is late x) (at_most m same late_too y) =
    let e : n ≡ m = is.3 ∙ sym same.3 in
    let h = chosen_once _ _ _ x y in
    ((λ k. record (h.0 k) { limit = Some (e k) }), h.1, h.2)
chosen_once words a b (reversed late x) (reversed late_too y) = let h = chosen_once _ _ _ x y in (ap (λ (c : Choice). record c { form = Reversed }) h.0, h.1, h.2)
chosen_once words a b (counted late x) (counted late_too y) = let h = chosen_once _ _ _ x y in (ap (λ (c : Choice). record c { form = Number }) h.0, h.1, h.2)
chosen_once words a b (with_time late x) (with_time late_too y) = let h = chosen_once _ _ _ x y in (ap (λ (c : Choice). record c { line = record c.line { has_time = true } }) h.0, h.1, h.2)
chosen_once words a b (with_parents late x) (with_parents late_too y) = let h = chosen_once _ _ _ x y in (ap (λ (c : Choice). record c { line = record c.line { has_parents = true } }) h.0, h.1, h.2)
chosen_once words a b (with_format {format = format} is short late x) (with_format same brief late_too y) = let h = chosen_once _ _ _ x y in (ap (λ (c : Choice). record c { line = record c.line { has_id = false; format = format } }) h.0, h.1, h.2)
chosen_once words a b (with_subject late x) (with_subject late_too y) = let h = chosen_once _ _ _ x y in (ap (λ (c : Choice). record c { line = record c.line { format = codes " %s" } }) h.0, h.1, h.2)
chosen_once words a b (zero_ended late x) (zero_ended late_too y) = let h = chosen_once _ _ _ x y in (ap (λ (c : Choice). record c { line = record c.line { ending = 0 } }) h.0, h.1, h.2)
chosen_once {tips} {hidden} words a b (everything t) (until {number = number} {words = ws} n is late x) = no_tip (codes "--until") (number ∷ ws) tips hidden (omega arith) t
chosen_once {tips} {hidden} words a b (everything t) (merges {words = ws} late x) = no_tip (codes "--merges") ws tips hidden (omega arith) t
chosen_once {tips} {hidden} words a b (everything t) (no_merges {words = ws} late x) = no_tip (codes "--no-merges") ws tips hidden (omega arith) t
chosen_once {tips} {hidden} words a b (everything t) (skip {number = number} {words = ws} n is late x) = no_tip (codes "--skip") (number ∷ ws) tips hidden (omega arith) t
chosen_once {tips} {hidden} words a b (everything t) (at_most {number = number} {words = ws} n is late x) = no_tip (codes "-n") (number ∷ ws) tips hidden (omega arith) t
chosen_once {tips} {hidden} words a b (everything t) (reversed {words = ws} late x) = no_tip (codes "--reverse") ws tips hidden (omega arith) t
chosen_once {tips} {hidden} words a b (everything t) (counted {words = ws} late x) = no_tip (codes "--count") ws tips hidden (omega arith) t
chosen_once {tips} {hidden} words a b (everything t) (with_time {words = ws} late x) = no_tip (codes "--timestamp") ws tips hidden (omega arith) t
chosen_once {tips} {hidden} words a b (everything t) (with_parents {words = ws} late x) = no_tip (codes "--parents") ws tips hidden (omega arith) t
chosen_once {tips} {hidden} words a b (everything t) (with_format {format = format} {words = ws} is short late x) = no_tip (codes "--format") (format ∷ ws) tips hidden (omega arith) t
chosen_once {tips} {hidden} words a b (everything t) (with_subject {words = ws} late x) = no_tip (codes "--oneline") ws tips hidden (omega arith) t
chosen_once {tips} {hidden} words a b (everything t) (zero_ended {words = ws} late x) = no_tip (codes "-z") ws tips hidden (omega arith) t
chosen_once {others = others} {below = below} words a b (until {number = number} {words = ws} n is late x) (everything t) = no_tip (codes "--until") (number ∷ ws) others below (omega arith) t
chosen_once {others = others} {below = below} words a b (merges {words = ws} late x) (everything t) = no_tip (codes "--merges") ws others below (omega arith) t
chosen_once {others = others} {below = below} words a b (no_merges {words = ws} late x) (everything t) = no_tip (codes "--no-merges") ws others below (omega arith) t
chosen_once {others = others} {below = below} words a b (skip {number = number} {words = ws} n is late x) (everything t) = no_tip (codes "--skip") (number ∷ ws) others below (omega arith) t
chosen_once {others = others} {below = below} words a b (at_most {number = number} {words = ws} n is late x) (everything t) = no_tip (codes "-n") (number ∷ ws) others below (omega arith) t
chosen_once {others = others} {below = below} words a b (reversed {words = ws} late x) (everything t) = no_tip (codes "--reverse") ws others below (omega arith) t
chosen_once {others = others} {below = below} words a b (counted {words = ws} late x) (everything t) = no_tip (codes "--count") ws others below (omega arith) t
chosen_once {others = others} {below = below} words a b (with_time {words = ws} late x) (everything t) = no_tip (codes "--timestamp") ws others below (omega arith) t
chosen_once {others = others} {below = below} words a b (with_parents {words = ws} late x) (everything t) = no_tip (codes "--parents") ws others below (omega arith) t
chosen_once {others = others} {below = below} words a b (with_format {format = format} {words = ws} is short late x) (everything t) = no_tip (codes "--format") (format ∷ ws) others below (omega arith) t
chosen_once {others = others} {below = below} words a b (with_subject {words = ws} late x) (everything t) = no_tip (codes "--oneline") ws others below (omega arith) t
chosen_once {others = others} {below = below} words a b (zero_ended {words = ws} late x) (everything t) = no_tip (codes "-z") ws others below (omega arith) t

-- what is behind an option begins with no option of those that are followed
abbrev NoOption : List (List ℕ) → Type 0
NoOption rest = (more : List (List ℕ)) → (rest ≡ codes "--first-parent" ∷ more → ⊥) × (rest ≡ codes "--since" ∷ more → ⊥)

other_word : (word : List ℕ) (words : List (List ℕ)) → (word ≡ codes "--first-parent" → ⊥) → (word ≡ codes "--since" → ⊥) → NoOption (word ∷ words)
other_word word words a b more = (λ is. a (let e : word ≡ codes "--first-parent" = cc in e), λ is. b (let e : word ≡ codes "--since" = cc in e))

no_option : {tips hidden : List ObjectId} {p : ℕ} (words : List (List ℕ)) (c : Choice) → Chooses tips hidden p words c → NoOption words
no_option {tips} {hidden} words c (everything t) more = (λ is. no_tip _ more tips hidden (omega arith) (subst (λ x. AreTips x tips hidden) is t), λ is. no_tip _ more tips hidden (omega arith) (subst (λ x. AreTips x tips hidden) is t))
no_option words c (until n is late x) more = other_word (codes "--until") _ (λ e. let l : 7 ≡ 14 = ap length e in omega (arith, l)) (λ e. let l : 117 ≡ 115 = ap (λ w. get_or w 2 0) e in omega (arith, l)) more
no_option words c (merges late x) more = other_word (codes "--merges") _ (λ e. let l : 8 ≡ 14 = ap length e in omega (arith, l)) (λ e. let l : 8 ≡ 7 = ap length e in omega (arith, l)) more
no_option words c (no_merges late x) more = other_word (codes "--no-merges") _ (λ e. let l : 11 ≡ 14 = ap length e in omega (arith, l)) (λ e. let l : 11 ≡ 7 = ap length e in omega (arith, l)) more
no_option words c (skip n is late x) more = other_word (codes "--skip") _ (λ e. let l : 6 ≡ 14 = ap length e in omega (arith, l)) (λ e. let l : 6 ≡ 7 = ap length e in omega (arith, l)) more
no_option words c (at_most n is late x) more = other_word (codes "-n") _ (λ e. let l : 2 ≡ 14 = ap length e in omega (arith, l)) (λ e. let l : 2 ≡ 7 = ap length e in omega (arith, l)) more
no_option words c (reversed late x) more = other_word (codes "--reverse") _ (λ e. let l : 9 ≡ 14 = ap length e in omega (arith, l)) (λ e. let l : 9 ≡ 7 = ap length e in omega (arith, l)) more
no_option words c (counted late x) more = other_word (codes "--count") _ (λ e. let l : 7 ≡ 14 = ap length e in omega (arith, l)) (λ e. let l : 99 ≡ 115 = ap (λ w. get_or w 2 0) e in omega (arith, l)) more
no_option words c (with_time late x) more = other_word (codes "--timestamp") _ (λ e. let l : 11 ≡ 14 = ap length e in omega (arith, l)) (λ e. let l : 11 ≡ 7 = ap length e in omega (arith, l)) more
no_option words c (with_parents late x) more = other_word (codes "--parents") _ (λ e. let l : 9 ≡ 14 = ap length e in omega (arith, l)) (λ e. let l : 9 ≡ 7 = ap length e in omega (arith, l)) more
no_option words c (with_format is short late x) more = other_word (codes "--format") _ (λ e. let l : 8 ≡ 14 = ap length e in omega (arith, l)) (λ e. let l : 8 ≡ 7 = ap length e in omega (arith, l)) more
no_option words c (with_subject late x) more = other_word (codes "--oneline") _ (λ e. let l : 9 ≡ 14 = ap length e in omega (arith, l)) (λ e. let l : 9 ≡ 7 = ap length e in omega (arith, l)) more
no_option words c (zero_ended late x) more = other_word (codes "-z") _ (λ e. let l : 2 ≡ 14 = ap length e in omega (arith, l)) (λ e. let l : 2 ≡ 7 = ap length e in omega (arith, l)) more

-- an option of an order, or none
abbrev pub IsOption : List (List ℕ) → Type 0
IsOption option = (option ≡ []) ⊎ ((option ≡ codes "--first-parent" ∷ []) ⊎ ((number : List ℕ) × (option ≡ codes "--since" ∷ number ∷ [])))

split_option : (option another rest more : List (List ℕ)) → IsOption option → IsOption another → NoOption rest → NoOption more → option ++ rest ≡ another ++ more → (option ≡ another) × (rest ≡ more)
split_option option another rest more a b n m is = go a b
  where
    joined : (those others : List (List ℕ)) → option ≡ those → another ≡ others → those ++ rest ≡ others ++ more
    joined those others e f = ap (λ o. o ++ rest) (sym e) ∙ is ∙ ap (λ o. o ++ more) f

    go : IsOption option → IsOption another → (option ≡ another) × (rest ≡ more)
    go (inl e) (inl f) = (e ∙ sym f, joined [] [] e f)
    go (inl e) (inr (inl f)) = absurd ((n more).0 (joined [] (codes "--first-parent" ∷ []) e f))
    go (inl e) (inr (inr (number, f))) = absurd ((n (number ∷ more)).1 (joined [] (codes "--since" ∷ number ∷ []) e f))
    go (inr (inl e)) (inl f) = absurd ((m rest).0 (sym (joined (codes "--first-parent" ∷ []) [] e f)))
    go (inr (inr (number, e))) (inl f) = absurd ((m (number ∷ rest)).1 (sym (joined (codes "--since" ∷ number ∷ []) [] e f)))
    go (inr (inl e)) (inr (inl f)) =
        let h : codes "--first-parent" ∷ rest ≡ codes "--first-parent" ∷ more = joined (codes "--first-parent" ∷ []) (codes "--first-parent" ∷ []) e f in
        let same : rest ≡ more = cc in
        (e ∙ sym f, same)
    go (inr (inl e)) (inr (inr (number, f))) =
        let h : codes "--first-parent" ∷ rest ≡ codes "--since" ∷ number ∷ more = joined (codes "--first-parent" ∷ []) (codes "--since" ∷ number ∷ []) e f in
        let l : 14 ≡ 7 = ap length (let head : codes "--first-parent" ≡ codes "--since" = cc in head) in
        absurd (omega (arith, l))
    go (inr (inr (number, e))) (inr (inl f)) =
        let h : codes "--since" ∷ number ∷ rest ≡ codes "--first-parent" ∷ more = joined (codes "--since" ∷ number ∷ []) (codes "--first-parent" ∷ []) e f in
        let l : 7 ≡ 14 = ap length (let head : codes "--since" ≡ codes "--first-parent" = cc in head) in
        absurd (omega (arith, l))
    go (inr (inr (number, e))) (inr (inr (digits, f))) =
        let h : codes "--since" ∷ number ∷ rest ≡ codes "--since" ∷ digits ∷ more = joined (codes "--since" ∷ number ∷ []) (codes "--since" ∷ digits ∷ []) e f in
        let one : number ≡ digits = cc in
        let same : rest ≡ more = cc in
        (e ∙ ap (λ x. codes "--since" ∷ x ∷ []) one ∙ sym f, same)

-- words choose one thing, of the same ids
pub choice_once : {tips hidden others below : List ObjectId} {p q : ℕ} (by name : List ℕ) (option another rest more : List (List ℕ)) (c d : Choice) → IsOption option → IsOption another
    → Chooses tips hidden p rest c → Chooses others below q more d → by ∷ (option ++ rest) ≡ name ∷ (another ++ more) → (c ≡ d) × (tips ≡ others) × (hidden ≡ below)
choice_once {others = others} {below = below} {q = q} by name option another rest more c d a b chooses picks is =
    let both : option ++ rest ≡ another ++ more = cc in
    let o = split_option option another rest more a b (no_option rest c chooses) (no_option more d picks) both in
    chosen_once rest c d chooses (subst (λ x. Chooses others below q x d) (sym o.1) picks)

module _ (parents : ObjectId → List ObjectId) (time : ObjectId → ℤ) where
  pub is_option : {tips : List ObjectId} {by : List ℕ} (option : List (List ℕ)) {followed : ObjectId → List ObjectId} {starts : List ObjectId} → Follows parents time tips by option followed starts → IsOption option
  is_option option all = inl refl
  is_option option (first b) = inr (inl refl)
  is_option option (since {number = number} n named counts) = inr (inr (number, refl))

  follows_once : {tips : List ObjectId} {by : List ℕ} (option : List (List ℕ)) {followed names : ObjectId → List ObjectId} {starts from : List ObjectId}
      → Follows parents time tips by option followed starts → Follows parents time tips by option names from → (followed ≡ names) × (starts ≡ from)
  follows_once option all all = (refl, refl)
  follows_once option (first b) (first c) = (refl, refl)
  follows_once {tips = tips} option (since n named num) (since m name counts) =
      let same : n ≡ m = num.3 ∙ sym counts.3 in
      ((λ k i. filter (λ p. not (int_lt (time p) (pos (same k)))) (parents i)), (λ k. filter (λ i. not (int_lt (time i) (pos (same k)))) tips))

  -- lines of ids that go on
  lines_more : (line : ObjectId → List ℕ) (form : Form) (xs ys rest : List ObjectId) (some full : List ℕ) → form ≡ Lines → some ≡ written line form xs → full ≡ written line form ys → ys ≡ xs ++ rest → (left : List ℕ) × (full ≡ some ++ left)
  lines_more line form xs ys rest some full lines is same e =
      (flat_map line rest, same ∙ ap (λ f. written line f ys) lines ∙ ap (flat_map line) e ∙ flat_map-append line xs rest ∙ ap (λ x. x ++ flat_map line rest) (ap (λ f. written line f xs) (sym lines) ∙ sym is))

  -- LISTS: what is written of one of two is a beginning of what is of the other, and what is of one that has ended is a beginning of nothing else
  pub record AreOneList (bytes full : List ℕ) (ended end : Bool) : Type 0 where
    pub either : ((left : List ℕ) × (full ≡ bytes ++ left)) ⊎ ((left : List ℕ) × (bytes ≡ full ++ left))
    pub first : end ≡ true → (left : List ℕ) × (full ≡ bytes ++ left)
    pub second : ended ≡ true → (left : List ℕ) × (bytes ≡ full ++ left)
    pub both : ended ≡ true → end ≡ true → bytes ≡ full

  pub lists_are_one : (read objects : Objects) (clash : Clash read objects → ⊥) (rows more : List Row) (bytes full : List ℕ) (ended end : Bool) (asked words : List (List ℕ)) → Lists read rows parents time bytes ended asked
      → Lists objects more parents time full end words → asked ≡ words → AreOneList bytes full ended end
  lists_are_one read objects clash rows more bytes full end close asked words (lists {by = by} option ws c ids {tips = tips} {hidden = hidden} {starts = starts} {followed = followed} named chooses some follows there texts begins allows ended may bytes_written)
      (lists {by = name} {place = late} choice vs d others {tips = those} {hidden = below} {starts = from} {followed = names} called picks any goes are_there texts_too begun allowed stopped can full_written) is =
      let first_word : by ≡ name = cc in
      let others_too : option ++ ws ≡ choice ++ vs = cc in
      let o = split_option option choice ws vs (is_option option follows) (is_option choice goes) (no_option ws c chooses) (no_option vs d picks) others_too in
      let t = chosen_once ws c d chooses (subst (λ x. Chooses those below late x d) (sym o.1) picks) in
      let goes_too : Follows parents time tips by option names from = subst (λ (T : Type 0). T) (λ k. Follows parents time (sym t.1 k) (sym first_word k) (sym o.0 k) names from) goes in
      let f = follows_once option follows goes_too in
      let begun_too : Begins parents followed time starts hidden by others = subst (λ (T : Type 0). T) (λ k. Begins parents (sym f.0 k) time (sym f.1 k) (sym t.2 k) (sym first_word k) others) begun in
      let allowed_too : Allows c.limit (length (chosen parents time c others)) = subst (λ (x : Choice). Allows x.limit (length (chosen parents time x others))) (sym t.0) allowed in
      let can_too : (close ≡ true) ⊎ (c.form ≡ Lines) = subst (λ (x : Choice). (close ≡ true) ⊎ (x.form ≡ Lines)) (sym t.0) can in
      let whole_too : close ≡ true → Long parents followed time starts hidden c by others =
      (λ e. subst (λ (T : Type 0). T) (λ k. Long parents (sym f.0 k) time (sym f.1 k) (sym t.2 k) (sym t.0 k) (sym first_word k) others) (begun, allowed, stopped e)) in
      let line : ObjectId → List ℕ = commit_line (both_of read objects) parents time c.line in
      let is_written : bytes ≡ written line c.form (chosen parents time c ids) = bytes_written ∙ same_texts read (both_of read objects) parents time c ids (λ e i m. text_same read (both_of read objects) i (All-contains (IsThere read []) ids i (texts e) m) (first_kept read objects i)) in
      let full_so : full ≡ written line c.form (chosen parents time c others) =
      full_written ∙ ap (λ (x : Choice). written (commit_line objects parents time x.line) x.form (chosen parents time x others)) (sym t.0)
      ∙ same_texts objects (both_of read objects) parents time c others (λ e i m. text_same objects (both_of read objects) i (All-contains (IsThere objects []) others i (texts_too (ap (λ (x : Choice). says_more x.line.format) (sym t.0) ∙ e)) m) (second_kept read objects clash i)) in
      let same : end ≡ true → close ≡ true → bytes ≡ full =
      (λ e l. is_written ∙ ap (written line c.form) (begun_once parents followed time starts hidden c by ids others [] ids others (begins, allows, ended e) (whole_too l) refl refl) ∙ sym full_so) in
      let up : (r : List ObjectId) → c.form ≡ Lines → chosen parents time c others ≡ chosen parents time c ids ++ r → (left : List ℕ) × (full ≡ bytes ++ left) =
      (λ r lines e. lines_more line c.form (chosen parents time c ids) (chosen parents time c others) r bytes full lines is_written full_so e) in
      let down : (r : List ObjectId) → c.form ≡ Lines → chosen parents time c ids ≡ chosen parents time c others ++ r → (left : List ℕ) × (bytes ≡ full ++ left) =
      (λ r lines e. lines_more line c.form (chosen parents time c others) (chosen parents time c ids) r full bytes lines full_so is_written e) in
      let before : close ≡ true → (left : List ℕ) × (full ≡ bytes ++ left) =
      (λ l. ⊎_elim (λ e. ([], sym (append-nil bytes ∙ same e l)))
      (λ lines. let b = begun_before parents followed time starts hidden c by ids others [] ids others begins allows (whole_too l) refl refl in up b.0 lines b.1) may) in
      let behind : end ≡ true → (left : List ℕ) × (bytes ≡ full ++ left) =
      (λ e. ⊎_elim (λ l. ([], sym (append-nil full ∙ sym (same e l))))
      (λ lines. let b = begun_before parents followed time starts hidden c by others ids [] others ids begun_too allowed_too (begins, allows, ended e) refl refl in down b.0 lines b.1) can_too) in
      record {
        either = ⊎_elim (λ e. inr (behind e))
            (λ lines. ⊎_elim (λ b. inl (up b.0 lines b.1)) (λ b. inr (down b.0 lines b.1))
            (begun_either parents followed time starts hidden c by ids others [] ids others begins begun_too refl refl)) may;
        first = before;
        second = behind;
        both = same;
      }

  -- what is written of the first is a beginning of what is of the second; and if it has ended, it is that
  lists_before : (read objects : Objects) (clash : Clash read objects → ⊥) (rows more : List Row) (bytes full : List ℕ) (ended : Bool) (asked words : List (List ℕ)) → Lists read rows parents time bytes ended asked
      → Lists objects more parents time full true words → asked ≡ words → ((left : List ℕ) × (full ≡ bytes ++ left)) × (ended ≡ true → bytes ≡ full)
  lists_before read objects clash rows more bytes full end asked words l m is = let one = lists_are_one read objects clash rows more bytes full end true asked words l m is in (one.first refl, λ e. one.both e refl)

-- TREES
no_space : (mode : List ℕ) → AllDigits 8 mode → All (λ x. x ≢ 32) mode
no_space [] d = All-nil (λ x. x ≢ 32)
no_space (c ∷ cs) d = All-cons (λ x. x ≢ 32) c cs (λ e. let h : digit_value 32 < 8 = subst (λ x. digit_value x < 8) e d.0 in omega (arith, h)) (no_space cs d.1)

not_empty : (mode rest : List ℕ) → [] ≡ mode ++ 32 ∷ rest → ⊥
not_empty [] rest e = cc
not_empty (c ∷ mode) rest e = cc

entries_once : (width : ℕ) (entries others : List Entry) (text : List ℕ) → AreEntries width entries text → AreEntries width others text → entries ≡ others
entries_once width [] [] text a b = refl
entries_once width [] (f ∷ others) text a (mode, rest, number, some, plain, digits, long, more, is) = absurd (not_empty mode _ (sym a ∙ is))
entries_once width (e ∷ entries) [] text (mode, rest, number, some, plain, digits, long, more, is) b = absurd (not_empty mode _ (sym b ∙ is))
entries_once width (e ∷ entries) (f ∷ others) text (mode, rest, number, some, plain, digits, long, more, is) (octal, left, value, given, bare, wide, size, others_too, same) =
    let cut = first_same 32 mode octal (e.name ++ 0 ∷ (bytes_in e.id ++ rest)) (f.name ++ 0 ∷ (bytes_in f.id ++ left)) (no_space mode number.2) (no_space octal value.2) (sym is ∙ same) in
    let name = first_same 0 e.name f.name (bytes_in e.id ++ rest) (bytes_in f.id ++ left) (λ k d below. (plain k d below).0) (λ k d below. (bare k d below).0) cut.1 in
    let bytes = append_same (bytes_in e.id) (bytes_in f.id) rest left (omega (arith, long, size)) name.1 in
    let tail = entries_once width entries others rest more (subst (AreEntries width others) (sym bytes.1) others_too) in
    let m : e.mode ≡ f.mode = number.3 ∙ ap (digits_value 8) cut.0 ∙ sym value.3 in
    let i : e.id ≡ f.id = id_same e.id f.id (digits ∙ sym wide) bytes.0 in
    let one : e ≡ f = (λ k. record { mode = m k; name = name.0 k; id = i k }) in
    (λ k. one k ∷ tail k)

module _ (read objects : Objects) (clash : Clash read objects → ⊥) where
  tree_once : (i : ObjectId) (entries others : List Entry) → IsTree read i entries → IsTree objects i others → entries ≡ others
  tree_once i entries others (text, is, are) (another, same, too) =
      let e : record { kind = codes "tree"; bytes = text } ≡ record { kind = codes "tree"; bytes = another } = same_object _ _ (λ differ. clash (i, _, _, is, same, differ)) in
      let t : text ≡ another = ap (λ (o : Object). o.bytes) e in
      entries_once (digits_in i) entries others text are (subst (AreEntries (digits_in i) others) (sym t) too)

  unfolds_once : {path : List ℕ} {entries : List Entry} {placed those : List (List ℕ × Entry)} → Unfolds read path entries placed → Unfolds objects path entries those → placed ≡ those
  unfolds_once whole whole = refl
  unfolds_once (other {path = path} {e = e} n u) (other m v) = ap (λ xs. (path, e) ∷ xs) (unfolds_once u v)
  unfolds_once (other n u) (tree m is ins v) = absurd (n m)
  unfolds_once (tree m is ins v) (other n u) = absurd (n m)
  unfolds_once (tree {path = path} {e = e} {inner = inner} m is ins u) (tree {inner = found} {inside = inside} n too inner_too v) =
      let same : inner ≡ found = tree_once e.id inner found is too in
      let one = unfolds_once ins (subst (λ x. Unfolds objects (path ++ e.name ++ 47 ∷ []) x inside) (sym same) inner_too) in
      let two = unfolds_once u v in
      (λ k. (path, e) ∷ (one k ++ two k))

-- THE WORDS OF `files`
abbrev IsEndedBy : List (List ℕ) → ℕ → Type 0
IsEndedBy option ending = ((option ≡ []) × (ending ≡ 10)) ⊎ ((option ≡ codes "-z" ∷ []) × (ending ≡ 0))

ending_once : (option choice : List (List ℕ)) (x y : List ℕ) (ending end : ℕ) → IsEndedBy option ending → IsEndedBy choice end → option ++ x ∷ [] ≡ choice ++ y ∷ [] → (x ≡ y) × (ending ≡ end)
ending_once option choice x y ending end (inl e) (inl f) is = let h : x ∷ [] ≡ y ∷ [] = ap (λ o. o ++ x ∷ []) (sym e.0) ∙ is ∙ ap (λ o. o ++ y ∷ []) f.0 in let g : x ≡ y = cc in (g, e.1 ∙ sym f.1)
ending_once option choice x y ending end (inr e) (inr f) is = let h : codes "-z" ∷ x ∷ [] ≡ codes "-z" ∷ y ∷ [] = ap (λ o. o ++ x ∷ []) (sym e.0) ∙ is ∙ ap (λ o. o ++ y ∷ []) f.0 in let g : x ≡ y = cc in (g, e.1 ∙ sym f.1)
ending_once option choice x y ending end (inl e) (inr f) is = let h : x ∷ [] ≡ codes "-z" ∷ y ∷ [] = ap (λ o. o ++ x ∷ []) (sym e.0) ∙ is ∙ ap (λ o. o ++ y ∷ []) f.0 in let l : 1 ≡ 2 = ap length h in absurd (omega (arith, l))
ending_once option choice x y ending end (inr e) (inl f) is = let h : codes "-z" ∷ x ∷ [] ≡ y ∷ [] = ap (λ o. o ++ x ∷ []) (sym e.0) ∙ is ∙ ap (λ o. o ++ y ∷ []) f.0 in let l : 2 ≡ 1 = ap length h in absurd (omega (arith, l))

-- behind a limit there are one or two words, and so the words without one are fewer
abbrev AreFew : List (List ℕ) → Type 0
AreFew words = (1 ≤ length words) × (length words ≤ 2)

few_behind : (option : List (List ℕ)) (x : List ℕ) (ending : ℕ) → IsEndedBy option ending → AreFew (option ++ x ∷ [])
few_behind option x ending (inl e) = subst (λ o. AreFew (o ++ x ∷ [])) (sym e.0) (omega arith, omega arith)
few_behind option x ending (inr e) = subst (λ o. AreFew (o ++ x ∷ [])) (sym e.0) (omega arith, omega arith)

limit_once : (a b : List (List ℕ)) (most least : Option ℕ) → IsLimit a most → IsLimit b least → (words others : List (List ℕ)) → AreFew words → AreFew others → a ++ words ≡ b ++ others → (most ≡ least) × (words ≡ others)
limit_once a b None None e f words others few some is = (refl, ap (λ o. o ++ words) (sym e) ∙ is ∙ ap (λ o. o ++ others) f)
limit_once a b (Some n) (Some m) (number, e, k) (text, f, l) words others few some is =
    let h : codes "-n" ∷ number ∷ words ≡ codes "-n" ∷ text ∷ others = ap (λ o. o ++ words) (sym e) ∙ is ∙ ap (λ o. o ++ others) f in
    let same : number ≡ text = cc in
    let rest : words ≡ others = cc in
    (ap Some (k.3 ∙ ap (digits_value 10) same ∙ sym l.3), rest)
limit_once a b None (Some m) e (text, f, l) words others few some is =
    let h : length words ≡ suc (suc (length others)) = ap length (ap (λ o. o ++ words) (sym e) ∙ is ∙ ap (λ o. o ++ others) f) in
    absurd (omega (arith, h, few.1, some.0))
limit_once a b (Some n) None (number, e, k) f words others few some is =
    let h : suc (suc (length words)) ≡ length others = ap length (ap (λ o. o ++ words) (sym e) ∙ is ∙ ap (λ o. o ++ others) f) in
    absurd (omega (arith, h, few.0, some.1))

-- WHAT WAS WRITTEN
other_size : (word by : List ℕ) → (length word ≡ 5 → ⊥) × (length word < 8) → (length by ≡ 5) ⊎ (8 ≤ length by) → word ≡ by → ⊥
other_size word by n h e = let l : length word ≡ length by = ap length e in ⊎_elim (λ f. n.0 (l ∙ f)) (λ f. omega (arith, l, f, n.1)) h

pub no_list : (by : List ℕ) → (length by ≡ 5) ⊎ (8 ≤ length by) → Contains (codes "breadth" ∷ codes "newest" ∷ codes "oldest" ∷ codes "topo" ∷ codes "date" ∷ []) by → ⊥
no_list by h = not_among by (codes "breadth") (codes "newest" ∷ codes "oldest" ∷ codes "topo" ∷ codes "date" ∷ []) (other_size (codes "breadth") by (λ e. omega (arith, e), omega arith) h)
    (not_among by (codes "newest") (codes "oldest" ∷ codes "topo" ∷ codes "date" ∷ []) (other_size (codes "newest") by (λ e. omega (arith, e), omega arith) h)
    (not_among by (codes "oldest") (codes "topo" ∷ codes "date" ∷ []) (other_size (codes "oldest") by (λ e. omega (arith, e), omega arith) h)
    (not_among by (codes "topo") (codes "date" ∷ []) (other_size (codes "topo") by (λ e. omega (arith, e), omega arith) h)
    (not_among by (codes "date") [] (other_size (codes "date") by (λ e. omega (arith, e), omega arith) h) (no_member by)))))

module _ (read objects : Objects) (rows more : List Row) (parents : ObjectId → List ObjectId) (time : ObjectId → ℤ) (clash : Clash read objects → ⊥) (old a b : List ℕ) where
  abbrev One : List (List ℕ) → Type 0
  One = Serves read rows parents time (Some old) (Some a)

  abbrev Other : List (List ℕ) → Type 0
  Other = Serves objects more parents time (Some old) (Some b)

  not_listed : (by : List ℕ) (rest asked : List (List ℕ)) (bytes : List ℕ) (ended : Bool) (os : Objects) (rs : List Row) → (length by ≡ 5) ⊎ (8 ≤ length by) → Lists os rs parents time bytes ended asked → asked ≡ by ∷ rest → ⊥
  not_listed by rest asked bytes end os rs h (lists {by = name} option ws c ids named chooses some follows there texts begins allows ended may is_written) is =
      let e : name ≡ by = cc in
      no_list name (subst (λ x. (length x ≡ 5) ⊎ (8 ≤ length x)) (sym e) h) named

  -- both are of one command
  pub served_once : (asked words : List (List ℕ)) → One asked → Other words → asked ≡ words → a ≡ b
  served_once asked words (commits ids l w) (commits others m v) is =
      w ∙ ap (λ xs. old ++ xs) ((lists_before parents time read objects clash rows more ids others true asked words l m is).1 refl) ∙ sym v
  served_once asked words (commits ids l w) (ahead n m x y o p ns ms v) is = absurd (not_listed (codes "ahead") _ asked ids true read rows (inl refl) l is)
  served_once asked words (commits ids l w) (contains are some there keeps v) is = absurd (not_listed (codes "contains") _ asked ids true read rows (inr (omega arith)) l is)
  served_once asked words (commits ids l w) (containing are some there keeps v) is = absurd (not_listed (codes "containing") _ asked ids true read rows (inr (omega arith)) l is)
  served_once asked words (commits ids l w) (bases those are some there exact rising v) is = absurd (not_listed (codes "merge-base") _ asked ids true read rows (inr (omega arith)) l is)
  served_once asked words (commits ids l w) (files limit bound option x within ends spells t u v) is = absurd (not_listed (codes "files") _ asked ids true read rows (inl refl) l is)
  served_once asked words (ahead n m x y o p ns ms v) (commits ids l w) is = absurd (not_listed (codes "ahead") _ words ids true objects more (inl refl) l (sym is))
  served_once asked words (contains are some there keeps v) (commits ids l w) is = absurd (not_listed (codes "contains") _ words ids true objects more (inr (omega arith)) l (sym is))
  served_once asked words (containing are some there keeps v) (commits ids l w) is = absurd (not_listed (codes "containing") _ words ids true objects more (inr (omega arith)) l (sym is))
  served_once asked words (bases those are some there exact rising v) (commits ids l w) is = absurd (not_listed (codes "merge-base") _ words ids true objects more (inr (omega arith)) l (sym is))
  served_once asked words (files limit bound option x within ends spells t u v) (commits ids l w) is = absurd (not_listed (codes "files") _ words ids true objects more (inl refl) l (sym is))
  served_once asked words (ahead n m x y o p ns ms w) (contains are some there keeps v) is = let h : codes "ahead" ≡ codes "contains" = cc in let l : 5 ≡ 8 = ap length h in absurd (omega (arith, l))
  served_once asked words (contains are some there keeps v) (ahead n m x y o p ns ms w) is = let h : codes "contains" ≡ codes "ahead" = cc in let l : 8 ≡ 5 = ap length h in absurd (omega (arith, l))
  served_once asked words (files limit bound option x within ends spells t u w) (contains are some there keeps v) is = let h : codes "files" ≡ codes "contains" = cc in let l : 5 ≡ 8 = ap length h in absurd (omega (arith, l))
  served_once asked words (contains are some there keeps v) (files limit bound option x within ends spells t u w) is = let h : codes "contains" ≡ codes "files" = cc in let l : 8 ≡ 5 = ap length h in absurd (omega (arith, l))
  served_once asked words (ahead n m x y o p ns ms w) (bases those are some there exact rising v) is = let h : codes "ahead" ≡ codes "merge-base" = cc in let l : 5 ≡ 10 = ap length h in absurd (omega (arith, l))
  served_once asked words (bases those are some there exact rising v) (ahead n m x y o p ns ms w) is = let h : codes "merge-base" ≡ codes "ahead" = cc in let l : 10 ≡ 5 = ap length h in absurd (omega (arith, l))
  served_once asked words (contains are some there keeps w) (bases those are_too any here exact rising v) is = let h : codes "contains" ≡ codes "merge-base" = cc in let l : 8 ≡ 10 = ap length h in absurd (omega (arith, l))
  served_once asked words (bases those are_too any here exact rising v) (contains are some there keeps w) is = let h : codes "merge-base" ≡ codes "contains" = cc in let l : 10 ≡ 8 = ap length h in absurd (omega (arith, l))
  served_once asked words (files limit bound option x within ends spells t u w) (bases those are some there exact rising v) is = let h : codes "files" ≡ codes "merge-base" = cc in let l : 5 ≡ 10 = ap length h in absurd (omega (arith, l))
  served_once asked words (bases those are some there exact rising v) (files limit bound option x within ends spells t u w) is = let h : codes "merge-base" ≡ codes "files" = cc in let l : 10 ≡ 5 = ap length h in absurd (omega (arith, l))
  served_once asked words (ahead n m x y o p ns ms w) (containing are some there keeps v) is = let h : codes "ahead" ≡ codes "containing" = cc in let l : 5 ≡ 10 = ap length h in absurd (omega (arith, l))
  served_once asked words (containing are some there keeps v) (ahead n m x y o p ns ms w) is = let h : codes "containing" ≡ codes "ahead" = cc in let l : 10 ≡ 5 = ap length h in absurd (omega (arith, l))
  served_once asked words (contains are some there keeps w) (containing are_too any here keeps_too v) is = let h : codes "contains" ≡ codes "containing" = cc in let l : 8 ≡ 10 = ap length h in absurd (omega (arith, l))
  served_once asked words (containing are_too any here keeps_too v) (contains are some there keeps w) is = let h : codes "containing" ≡ codes "contains" = cc in let l : 10 ≡ 8 = ap length h in absurd (omega (arith, l))
  served_once asked words (bases those are some there exact rising w) (containing are_too any here keeps_too v) is = let h : codes "merge-base" ≡ codes "containing" = cc in absurd (other_head 109 99 _ _ refl h)
  served_once asked words (containing are_too any here keeps_too v) (bases those are some there exact rising w) is = let h : codes "containing" ≡ codes "merge-base" = cc in absurd (other_head 99 109 _ _ refl h)
  served_once asked words (files limit bound option x within ends spells t u w) (containing are some there keeps v) is = let h : codes "files" ≡ codes "containing" = cc in let l : 5 ≡ 10 = ap length h in absurd (omega (arith, l))
  served_once asked words (containing are some there keeps v) (files limit bound option x within ends spells t u w) is = let h : codes "containing" ≡ codes "files" = cc in let l : 10 ≡ 5 = ap length h in absurd (omega (arith, l))
  served_once asked words (ahead n m x y o p ns ms w) (files limit bound option z within ends spells t u v) is = let h : codes "ahead" ≡ codes "files" = cc in absurd (other_head 97 102 _ _ refl h)
  served_once asked words (files limit bound option z within ends spells t u v) (ahead n m x y o p ns ms w) is = let h : codes "files" ≡ codes "ahead" = cc in absurd (other_head 102 97 _ _ refl h)
  served_once asked words (ahead {a = x} {b = y} {one = one} {other = another} n m s t o p ns ms w) (ahead {a = u} {b = v} {one = left} {other = right} i j q r c d is js z) is_same =
      let e : x ≡ u = cc in
      let f : y ≡ v = cc in
      let g = spelled_once x one left s (subst (λ k. Spells (digits_in left) k left) (sym e) q) in
      let h = spelled_once y another right t (subst (λ k. Spells (digits_in right) k right) (sym f) r) in
      let nn = counted_once parents parents time (one ∷ []) (another ∷ []) n i ns (subst (λ (T : Type 0). T) (λ k. IsNumberShown parents parents time (sym g k ∷ []) (sym h k ∷ []) i) is) in
      let mm = counted_once parents parents time (another ∷ []) (one ∷ []) m j ms (subst (λ (T : Type 0). T) (λ k. IsNumberShown parents parents time (sym h k ∷ []) (sym g k ∷ []) j) js) in
      w ∙ (λ k. old ++ (digits 10 false (nn k) ++ 32 ∷ (digits 10 false (mm k) ++ 10 ∷ []))) ∙ sym z
  served_once asked words (contains {words = ws} {tip = tip} {ids = ids} are some there keeps w) (contains {words = vs} {tip = top} {ids = others} {those = those} too any all_there keeps_too v) is =
      let e : ws ≡ vs = cc in
      let t = (tips_once ws (tip ∷ ids) [] (top ∷ others) [] are (subst (λ x. AreTips x (top ∷ others) []) (sym e) too)).0 in
      let f : tip ≡ top = cc in
      let g : ids ≡ others = cc in
      let k = keeps_once (λ before i after. Reaches parents (tip ∷ []) i) keeps (subst (λ (T : Type 0). T) (λ k. Keeps (λ before i after. Reaches parents (sym f k ∷ []) i) [] (sym g k) those) keeps_too) in
      w ∙ ap (λ xs. old ++ flat_map id_line xs) k ∙ sym v
  served_once asked words (containing {words = ws} {target = target} {tips = tips} are some there keeps w) (containing {words = vs} {target = goal} {tips = others} {those = those} too any all_there keeps_too v) is =
      let e : ws ≡ vs = cc in
      let t = (tips_once ws (target ∷ tips) [] (goal ∷ others) [] are (subst (λ x. AreTips x (goal ∷ others) []) (sym e) too)).0 in
      let f : target ≡ goal = cc in
      let g : tips ≡ others = cc in
      let k = keeps_once (λ before i after. Reaches parents (i ∷ []) target) keeps (subst (λ (T : Type 0). T) (λ k. Keeps (λ before i after. Reaches parents (i ∷ []) (sym f k)) [] (sym g k) those) keeps_too) in
      w ∙ ap (λ xs. old ++ flat_map id_line xs) k ∙ sym v
  served_once asked words (bases {words = ws} {one = one} {others = ids} those are some there exact rising w) (bases {words = vs} {one = left} {others = others} found too any all_there exact_too rising_too v) is =
      let e : ws ≡ vs = cc in
      let t = (tips_once ws (one ∷ ids) [] (left ∷ others) [] are (subst (λ x. AreTips x (left ∷ others) []) (sym e) too)).0 in
      let f : one ≡ left = cc in
      let g : ids ≡ others = cc in
      let same : (i : ObjectId) → IsBase parents one ids i ≡ IsBase parents left others i = (λ i k. IsBase parents (f k) (g k) i) in
      let k = rising_once by_bytes (on_total (λ i. digits_in i ∷ bytes_in i) nat_list_cmp_total) those found rising rising_too
      (λ i c. (exact_too i).1 (subst (λ (T : Type 0). T) (same i) ((exact i).0 c)))
      (λ i c. (exact i).1 (subst (λ (T : Type 0). T) (sym (same i)) ((exact_too i).0 c))) in
      w ∙ ap (λ xs. old ++ flat_map id_line xs) k ∙ sym v
  served_once asked words (files most bound option x {ending = ending} {tree = t} {entries = entries} {placed = placed} within ends spells is_tree u w) (files least few choice y {ending = end} {tree = s} {entries = others} {placed = those} bounded finish spell too v z) is =
      let l = limit_once bound few most least within bounded _ _ (few_behind option x ending ends) (few_behind choice y end finish) (let e : bound ++ (option ++ x ∷ []) ≡ few ++ (choice ++ y ∷ []) = cc in e) in
      let h = ending_once option choice x y ending end ends finish l.1 in
      let g = spelled_once x t s spells (subst (λ k. Spells (digits_in s) k s) (sym h.0) spell) in
      let same : entries ≡ others = tree_once read objects clash t entries others is_tree (subst (λ i. IsTree objects i others) (sym g) too) in
      let p = unfolds_once read objects clash u (subst (λ xs. Unfolds objects [] xs those) (sym same) v) in
      w ∙ (λ k. old ++ flat_map (entry_line (h.1 k)) (allowed (l.0 k) (p k))) ∙ sym z

  pub begun_of : (asked words : List (List ℕ)) → HasBegun read rows parents time (Some old) (Some a) asked → Other words → asked ≡ words → (left : List ℕ) × (b ≡ a ++ left)
  begun_of asked words (ids, l, w) (commits others m v) is =
      let h = (lists_before parents time read objects clash rows more ids others false asked words l m is).0 in
      (h.0, v ∙ ap (λ xs. old ++ xs) h.1 ∙ sym (append_assoc old ids h.0) ∙ ap (λ xs. xs ++ h.0) (sym w))
  begun_of asked words (ids, l, w) (ahead n m x y o p ns ms v) is = absurd (not_listed (codes "ahead") _ asked ids false read rows (inl refl) l is)
  begun_of asked words (ids, l, w) (contains are some there keeps v) is = absurd (not_listed (codes "contains") _ asked ids false read rows (inr (omega arith)) l is)
  begun_of asked words (ids, l, w) (containing are some there keeps v) is = absurd (not_listed (codes "containing") _ asked ids false read rows (inr (omega arith)) l is)
  begun_of asked words (ids, l, w) (bases those are some there exact rising v) is = absurd (not_listed (codes "merge-base") _ asked ids false read rows (inr (omega arith)) l is)
  begun_of asked words (ids, l, w) (files limit bound option x within ends spells t u v) is = absurd (not_listed (codes "files") _ asked ids false read rows (inl refl) l is)

begun_or_cut : (read objects : Objects) (rows others : List Row) (parents : ObjectId → List ObjectId) (time : ObjectId → ℤ) (words : List (List ℕ)) (old a b : List ℕ) → (Clash read objects → ⊥)
    → Serves objects others parents time (Some old) (Some b) words → HasBegun read rows parents time (Some old) (Some a) words ⊎ IsCutOff read rows parents time (Some old) (Some a) words
    → (more : List ℕ) × (b ≡ a ++ more)
begun_or_cut read objects rows others parents time words old a b clash served (inl begun) = begun_of read objects rows others parents time clash old a b words words begun served refl
begun_or_cut read objects rows others parents time words old a b clash served (inr (None, some, more, is, never, wrote)) = absurd never
begun_or_cut read objects rows others parents time words old a b clash served (inr (Some full, some, more, is, appends, inl wrote)) =
    (more, sym (served_once read objects rows others parents time clash old full b words words wrote served refl) ∙ appends)
begun_or_cut read objects rows others parents time words old a b clash served (inr (Some full, some, more, is, appends, inr begun)) =
    let r = begun_of read objects rows others parents time clash old full b words words begun served refl in
    (more ++ r.0, r.1 ∙ ap (λ xs. xs ++ r.0) appends ∙ append_assoc a more r.0)

pub one_answer : OneAnswer
one_answer read objects rows others words old a b parents time history too clash right = (
  λ one. served_once read objects rows others parents time clash old a b words words (one parents time history) (right parents time too) refl,
  λ begun. begun_or_cut read objects rows others parents time words old a b clash (right parents time too) (begun parents time history),
)

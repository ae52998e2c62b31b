-- What the page refuses, whatever is given: lines that break off, words in a wrong place, layers that come twice or in another order.
use Rattle.std.proofs.Common.{◌≡◌, ◌≢◌, ◌<◌, ◌≤◌, ◌++◌, ℕ, ℤ, suc, List, [], ◌∷◌, length, Bool, Option, None, Some, Ok, Err, Contains, codes, flat_map, refl, sym, ap, subst, ◌∙◌, arith, ⊎_elim, inl, inr}
use Rattle.std.proofs.Math.ListN.{get_or}
use Rattle.gix_hash.specs.declared.ObjectId.{ObjectId}
use Rattle.gix_hash.specs.declared.ObjectId.TheVariants.{Sha1, Sha256}
use Rattle.gix_statement.proofs.HaveHistory.{have_history}
use Rattle.gix_statement.proofs.NamedClash.{clash_collides}
use Rattle.gix_statement.proofs.OneCommit.{one_commit}
use Rattle.gix_statement.proofs.OneOutput.{output_of_both}
use Rattle.gix_statement.proofs.Tests.{IsEnded, IsEnding, begun_lines}
use Rattle.gix_statement.specs.CommitGraph.{AreLayers}
use Rattle.gix_statement.specs.WholeStatement.{Objects, Row, Promises, HasBegun, Serves, commits, ahead, contains, containing, bases, files, Lists, lists, AreTips, Follows, all, first, since, digits_in, Agree, AreNamed, InEach, IsHash, IsText, Choice, Chooses, everything, until, merges, no_merges, skip, at_most, counted, reversed, with_time, with_parents, with_format, with_subject, zero_ended}

-- HALF A LINE is left only by a run whose writer failed.
abbrev last_of : ℕ → List ℕ → ℕ
last_of b [] = b
last_of b (x ∷ xs) = last_of x xs

last_of_both : (b : ℕ) (xs ys : List ℕ) → last_of b (xs ++ ys) ≡ last_of (last_of b xs) ys
last_of_both b [] ys = refl
last_of_both b (x ∷ xs) ys = last_of_both x xs ys

-- behind a line, whatever was before
line_ends : (b : ℕ) (line : List ℕ) → IsEnded line → IsEnding (last_of b line)
line_ends b line (text, c, ending, is) = subst IsEnding (sym (ap (last_of b) is ∙ last_of_both b text (c ∷ []))) ending

lines_end : (line : ObjectId → List ℕ) (b : ℕ) (ids : List ObjectId) → ((i : ObjectId) → IsEnded (line i)) → IsEnding b → IsEnding (last_of b (flat_map line ids))
lines_end line b [] each ends = ends
lines_end line b (i ∷ ids) each ends =
    subst IsEnding (sym (last_of_both b (line i) (flat_map line ids))) (lines_end line (last_of b (line i)) ids each (line_ends b (line i) (each i)))

no_half_line : {E : Type 0} (writer_failed e : E) (words : List (List ℕ)) (AreGiven : Objects → List Row → Type 0) (out : List ℕ) (b : ℕ)
    → e ≢ writer_failed → (IsEnding b → ⊥) → Promises writer_failed words AreGiven (Some []) (Err e) (Some (out ++ b ∷ [])) → ⊥
no_half_line writer_failed e words AreGiven out b other unlike (inl same) =
    let none : out ++ b ∷ [] ≡ [] = cc in
    unlike (inl (sym (last_of_both 10 out (b ∷ [])) ∙ ap (last_of 10) none))
no_half_line writer_failed e words AreGiven out b other unlike (inr (objects, rows, given, agree, right)) =
    let h = have_history objects rows agree in
    ⊎_elim (whole h.0 h.1) (λ c. other c.0) (right h.0 h.1 h.2)
  where
    whole : (parents : ObjectId → List ObjectId) (time : ObjectId → ℤ) → HasBegun objects rows parents time (Some []) (Some (out ++ b ∷ [])) words → ⊥
    whole parents time begun = let l = begun_lines objects rows parents time (Some []) (Some (out ++ b ∷ [])) words begun in unlike (subst IsEnding (ap (last_of 10) (sym l.3) ∙ last_of_both 10 out (b ∷ [])) (lines_end l.0 10 l.1 l.2 (inl refl)))

-- BEHIND A LIMIT come ids, or first how they are written: no second limit, and none of the options that stand before it.
wide : (i : ObjectId) → 40 ≤ digits_in i
wide (Sha1 x) = omega arith
wide (Sha256 x) = omega arith

no_short_tip : (word : List ℕ) (words : List (List ℕ)) (tips hidden : List ObjectId) → length word < 40 → AreTips (word ∷ words) tips hidden → ⊥
no_short_tip word words tips hidden short (inl (i, more, is, s, a)) = omega (arith, short, wide i, s.0)
no_short_tip word words tips hidden short (inr (i, more, is, id, w, s, a)) =
    let l : length word ≡ suc (length id) = ap length w in
    omega (arith, short, wide i, s.0, l)

module _ (by n word : List ℕ) (more : List (List ℕ)) (short : length word < 40) (uncounted : word ≢ codes "--count") (forward : word ≢ codes "--reverse") (timeless : word ≢ codes "--timestamp") (formless : word ≢ codes "--format") (alone : word ≢ codes "--parents") (untitled : word ≢ codes "--oneline") (newlines : word ≢ codes "-z") where
  abbrev Asked : List (List ℕ)
  Asked = by ∷ codes "-n" ∷ n ∷ word ∷ more

  none_late : {tips hidden : List ObjectId} {c : Choice} {place : ℕ} (words : List (List ℕ)) → 3 < place → Chooses tips hidden place words c → words ≡ word ∷ more → ⊥
  none_late {tips} {hidden} words late (everything are) is = no_short_tip word more tips hidden short (subst (λ x. AreTips x tips hidden) is are)
  none_late words late (until k counts before chooses) is = omega (arith, late)
  none_late words late (merges before chooses) is = omega (arith, late)
  none_late words late (no_merges before chooses) is = omega (arith, late)
  none_late words late (skip k counts before chooses) is = omega (arith, late)
  none_late words late (at_most k counts before chooses) is = omega (arith, late)
  none_late words late (counted before chooses) is = let head : codes "--count" ≡ word = cc in uncounted (sym head)
  none_late words late (reversed before chooses) is = let head : codes "--reverse" ≡ word = cc in forward (sym head)
  none_late words late (with_time before chooses) is = let head : codes "--timestamp" ≡ word = cc in timeless (sym head)
  none_late words late (with_parents before chooses) is = let head : codes "--parents" ≡ word = cc in alone (sym head)
  none_late words late (with_format right brief before chooses) is = let head : codes "--format" ≡ word = cc in formless (sym head)
  none_late words late (with_subject before chooses) is = let head : codes "--oneline" ≡ word = cc in untitled (sym head)
  none_late words late (zero_ended before chooses) is = let head : codes "-z" ≡ word = cc in newlines (sym head)

  no_words : {tips hidden : List ObjectId} {c : Choice} {place : ℕ} (words : List (List ℕ)) → Chooses tips hidden place words c → words ≡ codes "-n" ∷ n ∷ word ∷ more → ⊥
  no_words {tips} {hidden} words (everything are) is = no_short_tip (codes "-n") (n ∷ word ∷ more) tips hidden (omega arith) (subst (λ x. AreTips x tips hidden) is are)
  no_words words (until k counts before chooses) is = let head : codes "--until" ≡ codes "-n" = cc in let l : 7 ≡ 2 = ap length head in omega (arith, l)
  no_words words (merges before chooses) is = let head : codes "--merges" ≡ codes "-n" = cc in let l : 8 ≡ 2 = ap length head in omega (arith, l)
  no_words words (no_merges before chooses) is = let head : codes "--no-merges" ≡ codes "-n" = cc in let l : 11 ≡ 2 = ap length head in omega (arith, l)
  no_words words (skip k counts before chooses) is = let head : codes "--skip" ≡ codes "-n" = cc in let l : 6 ≡ 2 = ap length head in omega (arith, l)
  no_words words (at_most {words = rest} k counts late chooses) is = none_late rest late chooses (let e : rest ≡ word ∷ more = cc in e)
  no_words words (counted before chooses) is = let head : codes "--count" ≡ codes "-n" = cc in let l : 7 ≡ 2 = ap length head in omega (arith, l)
  no_words words (reversed before chooses) is = let head : codes "--reverse" ≡ codes "-n" = cc in let l : 9 ≡ 2 = ap length head in omega (arith, l)
  no_words words (with_time before chooses) is = let head : codes "--timestamp" ≡ codes "-n" = cc in let l : 11 ≡ 2 = ap length head in omega (arith, l)
  no_words words (with_parents before chooses) is = let head : codes "--parents" ≡ codes "-n" = cc in let l : 9 ≡ 2 = ap length head in omega (arith, l)
  no_words words (with_format right brief before chooses) is = let head : codes "--format" ≡ codes "-n" = cc in let l : 8 ≡ 2 = ap length head in omega (arith, l)
  no_words words (with_subject before chooses) is = let head : codes "--oneline" ≡ codes "-n" = cc in let l : 9 ≡ 2 = ap length head in omega (arith, l)
  no_words words (zero_ended before chooses) is = let head : codes "-z" ≡ codes "-n" = cc in let l : 122 ≡ 110 = ap (λ w. get_or w 1 0) head in omega (arith, l)

  module _ (objects : Objects) (rows : List Row) (parents : ObjectId → List ObjectId) (time : ObjectId → ℤ) where
    no_option : {tips those hidden starts : List ObjectId} {name : List ℕ} {followed : ObjectId → List ObjectId} {c : Choice} {place : ℕ} (option words : List (List ℕ))
        → Follows parents time tips name option followed starts → Chooses those hidden place words c → option ++ words ≡ codes "-n" ∷ n ∷ word ∷ more → ⊥
    no_option option words all chooses is = no_words words chooses is
    no_option option words (first b) chooses is =
        let head : codes "--first-parent" ≡ codes "-n" = cc in
        let l : 14 ≡ 2 = ap length head in
        omega (arith, l)
    no_option option words (since {number = number} m named counts) chooses is =
        let head : codes "--since" ≡ codes "-n" = cc in
        let l : 7 ≡ 2 = ap length head in
        omega (arith, l)

    not_listed : (bytes : List ℕ) (ended : Bool) (asked : List (List ℕ)) → asked ≡ Asked → Lists objects rows parents time bytes ended asked → ⊥
    not_listed bytes ended asked is (lists {by = name} option words c ids named chooses some follows there texts begins allows whole may is_written) =
        let rest : option ++ words ≡ codes "-n" ∷ n ∷ word ∷ more = cc in
        no_option option words follows chooses rest

    not_served : (old new : Option (List ℕ)) (asked : List (List ℕ)) → asked ≡ Asked → Serves objects rows parents time old new asked → ⊥
    not_served old new asked is (commits ids listed appends) = not_listed ids _ asked is listed
    not_served old new asked is (ahead k m a b one other x y appends) = cc
    not_served old new asked is (contains {words = words} {tip = tip} {ids = ids} are some there keeps appends) =
        let rest : words ≡ codes "-n" ∷ n ∷ word ∷ more = cc in
        no_short_tip (codes "-n") (n ∷ word ∷ more) (tip ∷ ids) [] (omega arith) (subst (λ x. AreTips x (tip ∷ ids) []) rest are)
    not_served old new asked is (containing {words = words} {target = target} {tips = tips} are some there keeps appends) =
        let rest : words ≡ codes "-n" ∷ n ∷ word ∷ more = cc in
        no_short_tip (codes "-n") (n ∷ word ∷ more) (target ∷ tips) [] (omega arith) (subst (λ x. AreTips x (target ∷ tips) []) rest are)
    not_served old new asked is (bases {words = words} {one = one} {others = others} those are some there exact rising appends) =
        let rest : words ≡ codes "-n" ∷ n ∷ word ∷ more = cc in
        no_short_tip (codes "-n") (n ∷ word ∷ more) (one ∷ others) [] (omega arith) (subst (λ x. AreTips x (one ∷ others) []) rest are)
    not_served old new asked is (files None bound option a none (inl e) spells tree unfolds appends) =
        let asked_too : codes "files" ∷ a ∷ [] ≡ Asked = (λ k. codes "files" ∷ (sym none k ++ (sym e.0 k ++ a ∷ []))) ∙ is in
        cc
    not_served old new asked is (files None bound option a none (inr e) spells tree unfolds appends) =
        let asked_too : codes "files" ∷ codes "-z" ∷ a ∷ [] ≡ Asked = (λ k. codes "files" ∷ (sym none k ++ (sym e.0 k ++ a ∷ []))) ∙ is in
        cc
    not_served old new asked is (files (Some n) bound option a {tree = i} (number, within, counts) (inl e) spells tree unfolds appends) =
        let asked_too : codes "files" ∷ codes "-n" ∷ number ∷ a ∷ [] ≡ Asked = (λ k. codes "files" ∷ (sym within k ++ (sym e.0 k ++ a ∷ []))) ∙ is in
        let same : a ≡ word = cc in
        omega (arith, short, wide i, spells.0, ap length same)
    not_served old new asked is (files (Some n) bound option a (number, within, counts) (inr e) spells tree unfolds appends) =
        let asked_too : codes "files" ∷ codes "-n" ∷ number ∷ codes "-z" ∷ a ∷ [] ≡ Asked = (λ k. codes "files" ∷ (sym within k ++ (sym e.0 k ++ a ∷ []))) ∙ is in
        let head : codes "-z" ≡ word = cc in
        newlines (sym head)

  nothing_behind_a_limit : {E : Type 0} (writer_failed : E) (AreGiven : Objects → List Row → Type 0) (old new : Option (List ℕ)) → Promises writer_failed Asked AreGiven old (Ok tt) new → ⊥
  nothing_behind_a_limit writer_failed AreGiven old new (objects, rows, given, agree, right) =
      let h = have_history objects rows agree in
      not_served objects rows h.0 h.1 old new Asked refl (right h.0 h.1 h.2)

no_second_limit : {E : Type 0} (writer_failed : E) (AreGiven : Objects → List Row → Type 0) (by n tip : List ℕ) (old new : Option (List ℕ))
    → Promises writer_failed (by ∷ codes "-n" ∷ n ∷ codes "-n" ∷ n ∷ tip ∷ []) AreGiven old (Ok tt) new → ⊥
no_second_limit writer_failed AreGiven by n tip = nothing_behind_a_limit by n (codes "-n") (n ∷ tip ∷ []) (omega arith) (λ e. cc) (λ e. cc) (λ e. cc) (λ e. cc) (λ e. cc) (λ e. cc) (λ e. let l : 110 ≡ 122 = ap (λ w. get_or w 1 0) e in omega (arith, l)) writer_failed AreGiven

-- LAYERS in another order, or one of them twice: each says how many are below it.
not_in_another_order : (a b : List ℕ) (rows others : List Row) → AreLayers [] (a ∷ b ∷ []) [] rows → AreLayers [] (b ∷ a ∷ []) [] others → ⊥
not_in_another_order a b rows others (x, lowest, above) (y, lower, (z, upper, end)) = let no : 0 ≡ 1 = sym lowest.6 ∙ upper.6 in omega (arith, no)

not_twice : (a : List ℕ) (rows : List Row) → AreLayers [] (a ∷ a ∷ []) [] rows → ⊥
not_twice a rows (x, lower, (y, upper, end)) = let no : 0 ≡ 1 = sym lower.6 ∙ upper.6 in omega (arith, no)

-- A ROW whose commit is at hand says what the text says, or the rows don't agree, and no run over them ends well.
no_row_against_its_text : (objects : Objects) (rows : List Row) (r s : Row) → Agree objects rows → Contains rows r → r.id ≡ s.id → IsText objects s
    → (r.parents ≡ s.parents) × (r.time ≡ s.time)
no_row_against_its_text objects rows r s agree row same (id, lines, rest, tree, names, time, is) =
    one_commit objects rows agree r s same (inl (agree.1 r row there)) (inl (id, lines, rest, tree, names, time, is))
  where
    there : objects r.id ≢ None
    there e = let no : None ≡ Some _ = sym e ∙ ap objects same ∙ is in cc

-- OTHER OBJECTS whose ids are hashes, be they of no repository at all, give the same output, or two texts have one hash.
abbrev Named : Objects → List Row → Type 0
Named objects rows = AreNamed objects × (rows ≡ [])

abbrev Collide : Type 0
Collide = (i : ObjectId) × (x y : List ℕ) × (x ≢ y) × IsHash i x × IsHash i y

no_other_objects : {E : Type 0} (writer_failed : E) (words : List (List ℕ)) (old a b : List ℕ) → (Collide → ⊥) → Promises writer_failed words Named (Some old) (Ok tt) (Some a)
    → Promises writer_failed words Named (Some old) (Ok tt) (Some b) → a ≡ b
no_other_objects writer_failed words old a b unlike (objects, rows, given, agree, right) (others, more, given_too, agree_too, right_too) =
    output_of_both objects others [] (subst (Agree objects) given.1 agree) (subst (Agree others) given_too.1 agree_too) (λ clash. unlike (clash_collides objects others given.0 given_too.0 clash)) words old a b
    (subst (λ rs. InEach objects rs (λ parents time. Serves objects rs parents time (Some old) (Some a) words)) given.1 right)
    (subst (λ rs. InEach others rs (λ parents time. Serves others rs parents time (Some old) (Some b) words)) given_too.1 right_too)

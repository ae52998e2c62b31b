-- Batches one behind another are one batch, and from one place there is one list.
use Rattle.std.proofs.Common.{◌≡◌, ◌⊎◌, ◌<◌, ◌+◌, ℕ, Bool, true, false, List, [], ◌∷◌, ◌++◌, map, flat_map, length, take, Option, Some, None, Contains, codes, refl, sym, ap, subst, ◌∙◌, inl, inr, ⊎_elim, arith, length-append, append_assoc, append-nil}
use Rattle.std.specs.List.{AllByRecursion}
use Rattle.gix_hash.specs.declared.ObjectId.{ObjectId}
use Rattle.gix_hash.proofs.Ids.Membership.{no_member}
use Rattle.gix_statement.specs.WholeStatement.{Agree, AreFed, Clash, Objects, Row, id_line}
use Rattle.gix_statement.proofs.FedOnce.{fed_once}
use Rattle.gix_statement.proofs.HaveHistory.{have_history}
use Rattle.gix_statement.proofs.LinesOnce.{IsSpelled, lines_front}
use Rattle.gix_statement.proofs.OneAnswer.{lists_are_one}
use Rattle.gix_statement.proofs.OneCommit.{one_commit}
use Rattle.gix_statement.proofs.OneOutput.{both, both_agree, commit_of_one, commit_of_other, text_of_one, text_of_other}
use Rattle.gix_statement.proofs.Tests.{not_among}
use Rattle.gix_batches.specs.declared.commit.Ending.{Ending}
use Rattle.gix_batches.specs.declared.commit.Ending.TheVariants.{Ended, More, Small, Failed}
use Rattle.gix_batches.specs.Batches.{IsNext, IsPart, IsTold, Says, Shows, breadth, first, has_ended, timed}
use Rattle.gix_batches.specs.Slices.{IsOver, Told}
use Rattle.gix_batches.specs.InRow.{AreInRow, EachIs, HasMore, IsOneBatch, IsOneList, NoneClash, before, last}
use Rattle.gix_batches.proofs.ToldWords.{says_id}

-- ONE COMMIT is told in one way
not_timed : (by : List ℕ) → codes "breadth" ≡ by → Contains (codes "newest" ∷ codes "oldest" ∷ codes "topo" ∷ codes "date" ∷ []) by → ⊥
not_timed by e =
    not_among by (codes "newest") (codes "oldest" ∷ codes "topo" ∷ codes "date" ∷ []) (λ s. let h : 6 ≡ 7 = ap length (s ∙ sym e) in omega (arith, h))
    (not_among by (codes "oldest") (codes "topo" ∷ codes "date" ∷ []) (λ s. let h : 6 ≡ 7 = ap length (s ∙ sym e) in omega (arith, h))
    (not_among by (codes "topo") (codes "date" ∷ []) (λ s. let h : 4 ≡ 7 = ap length (s ∙ sym e) in omega (arith, h))
    (not_among by (codes "date") [] (λ s. let h : 4 ≡ 7 = ap length (s ∙ sym e) in omega (arith, h)) (no_member by))))

module _ (r s : Row) (id : r.id ≡ s.id) (parents : r.parents ≡ s.parents) (time : r.time ≡ s.time) where
  says_once : (words asked : List (List ℕ)) (t u : Told) → Says r words t → Says s asked u → words ≡ asked → t ≡ u
  says_once words asked t u (breadth free) (breadth bare) e = (λ k. record { id = id k; parents = parents k; time = None; generation = None })
  says_once words asked t u (breadth {rest = rest} free) (first {rest = more}) e =
      let behind : rest ≡ codes "--first-parent" ∷ more = cc in
      absurd (free (ap (take 1) behind))
  says_once words asked t u (breadth free) (timed {by = by} c) e = let name : codes "breadth" ≡ by = cc in absurd (not_timed by name c)
  says_once words asked t u (first {rest = more}) (breadth {rest = rest} free) e =
      let behind : rest ≡ codes "--first-parent" ∷ more = cc in
      absurd (free (ap (take 1) behind))
  says_once words asked t u first first e = (λ k. record { id = id k; parents = take 1 (parents k); time = None; generation = None })
  says_once words asked t u first (timed {by = by} c) e = let name : codes "breadth" ≡ by = cc in absurd (not_timed by name c)
  says_once words asked t u (timed {by = by} c) (breadth free) e = let name : codes "breadth" ≡ by = cc in absurd (not_timed by name c)
  says_once words asked t u (timed {by = by} c) first e = let name : codes "breadth" ≡ by = cc in absurd (not_timed by name c)
  says_once words asked t u (timed c) (timed d) e = (λ k. record { id = id k; parents = parents k; time = Some (time k); generation = None })

no_rows : (objects : Objects) → Agree objects []
no_rows objects = (λ i j d l below. absurd (omega (arith, below)), λ r c n. absurd (no_member r c))

other_way : (objects others : Objects) → (Clash objects others → ⊥) → Clash others objects → ⊥
other_way objects others clash (i, a, b, is, same, differ) = clash (i, b, a, same, is, λ e. differ (sym e))

abbrev ids : List Told → List ObjectId
ids told = map (λ t. t.id) told

abbrev AreSpelled : List Told → Type 0
AreSpelled told = AllByRecursion (λ t. IsSpelled t.id) told

-- their lines
abbrev lines : List Told → List ℕ
lines told = flat_map (λ t. id_line t.id) told

lines_of_ids : (told : List Told) → flat_map id_line (ids told) ≡ lines told
lines_of_ids [] = refl
lines_of_ids (t ∷ told) = ap (λ xs. id_line t.id ++ xs) (lines_of_ids told)

ids_spelled : (told : List Told) → AreSpelled told → AllByRecursion IsSpelled (ids told)
ids_spelled [] s = tt
ids_spelled (t ∷ told) s = (s.0, ids_spelled told s.1)

-- those whose lines begin with the lines of others have ids that begin with theirs
ids_front : (told more : List Told) (left : List ℕ) → AreSpelled told → AreSpelled more → lines more ≡ lines told ++ left → (rest : List ObjectId) × (ids more ≡ ids told ++ rest)
ids_front told more left s t e =
    lines_front (ids told) (ids more) left (ids_spelled told s) (ids_spelled more t) (lines_of_ids more ∙ e ∙ ap (λ xs. xs ++ left) (sym (lines_of_ids told)))

-- COMMITS of two lots of objects that don't clash
module _ (objects others : Objects) (clash : Clash objects others → ⊥) (words : List (List ℕ)) where
  abbrev all : Objects
  all = both objects others [] (no_rows objects) (no_rows others)

  told_once : (t u : Told) → IsTold objects words t → IsTold others words u → t.id ≡ u.id → t ≡ u
  told_once t u (r, text, says) (s, text_too, says_too) e =
      let id : r.id ≡ s.id = sym (says_id r words t says) ∙ e ∙ says_id s words u says_too in
      let one = one_commit all [] (both_agree objects others [] (no_rows objects) (no_rows others) clash) r s id
      (inl (text_of_one objects others [] (no_rows objects) (no_rows others) r text))
      (inl (text_of_other objects others [] (no_rows objects) (no_rows others) clash s text_too)) in
      says_once r s id one.0 one.1 words words t u says says_too refl

  -- those whose ids begin with the ids of others begin with these
  told_front : (told more : List Told) (left : List ObjectId) → AllByRecursion (IsTold objects words) told → AllByRecursion (IsTold others words) more → ids more ≡ ids told ++ left → (rest : List Told) × (more ≡ told ++ rest)
  told_front [] more left x y e = (more, refl)
  told_front (t ∷ told) [] left x y e = let no : [] ≡ t.id ∷ (ids told ++ left) = e in cc
  told_front (t ∷ told) (u ∷ more) left x y e =
      let h : u.id ≡ t.id = cc in
      let behind : ids more ≡ ids told ++ left = cc in
      let r = told_front told more left x.1 y.1 behind in
      let one = told_once t u x.0 y.0 (sym h) in
      (r.0, (λ k. sym one k ∷ r.1 k))

-- two lists that the same words ask for
record AreOne (told others : List Told) (ended end : Bool) : Type 0 where
  either : ((rest : List Told) × (others ≡ told ++ rest)) ⊎ ((rest : List Told) × (told ≡ others ++ rest))
  first_of : end ≡ true → (rest : List Told) × (others ≡ told ++ rest)
  second_of : ended ≡ true → (rest : List Told) × (told ≡ others ++ rest)

are_one : (objects others : Objects) (clash : Clash objects others → ⊥) (words : List (List ℕ)) (told more : List Told) (ended end : Bool) → Shows objects words told ended → Shows others words more end → AreSpelled told → AreSpelled more → AreOne told more ended end
are_one objects others clash words told more ended end a b s t =
    let h = have_history (all objects others clash words) [] (both_agree objects others [] (no_rows objects) (no_rows others) clash) in
    let one = lists_are_one h.0 h.1 objects others clash [] [] (lines told) (lines more) ended end words words
    (a.lists h.0 h.1 (λ r c. h.2 r (commit_of_one objects others [] (no_rows objects) (no_rows others) clash r c)))
    (b.lists h.0 h.1 (λ r c. h.2 r (commit_of_other objects others [] (no_rows objects) (no_rows others) clash r c))) refl in
    let up : (left : List ℕ) → lines more ≡ lines told ++ left → (rest : List Told) × (more ≡ told ++ rest) = λ left e. let p = ids_front told more left s t e in told_front objects others clash words told more p.0 a.texts b.texts p.1 in
    let down : (left : List ℕ) → lines told ≡ lines more ++ left → (rest : List Told) × (told ≡ more ++ rest) = λ left e. let p = ids_front more told left t s e in told_front others objects (other_way objects others clash) words more told p.0 b.texts a.texts p.1 in
    record {
      either = ⊎_elim (λ p. inl (up p.0 p.1)) (λ p. inr (down p.0 p.1)) one.either;
      first_of = λ e. let p = one.first e in up p.0 p.1;
      second_of = λ e. let p = one.second e in down p.0 p.1;
    }

-- LISTS split at one place
cut_same : {A : Type 0} (xs ys zs ws : List A) → length xs ≡ length ys → xs ++ zs ≡ ys ++ ws → (xs ≡ ys) × (zs ≡ ws)
cut_same [] [] zs ws l e = (refl, e)
cut_same [] (y ∷ ys) zs ws l e = absurd (omega (arith, l))
cut_same (x ∷ xs) [] zs ws l e = absurd (omega (arith, l))
cut_same (x ∷ xs) (y ∷ ys) zs ws l e =
    let head : x ≡ y = cc in
    let more : xs ++ zs ≡ ys ++ ws = cc in
    let h = cut_same xs ys zs ws (omega (arith, l)) more in
    ((λ k. head k ∷ h.0 k), h.1)

empty_when_short : {A : Type 0} (xs ys : List A) → length (xs ++ ys) ≡ length xs → ys ≡ []
empty_when_short xs [] e = refl
empty_when_short xs (y ∷ ys) e = let l : length (xs ++ y ∷ ys) ≡ length xs + length (y ∷ ys) = length-append xs (y ∷ ys) in absurd (omega (arith, e, l))

-- TWO BATCHES, one behind the other
module _ (words : List (List ℕ)) (AreGiven : Objects → Type 0) (none_clash : NoneClash AreGiven) where
  abbrev Part : ℕ → List Told → Ending → Type 0
  Part = IsPart words AreGiven

  not_over : (full : Ending) → HasMore full → IsOver full → ⊥
  not_over Ended m o = m
  not_over More m o = o
  not_over (Small n) m o = o
  not_over (Failed e) m o = m

  not_ended : (full : Ending) → HasMore full → has_ended full ≡ false
  not_ended Ended m = absurd m
  not_ended More m = refl
  not_ended (Small n) m = refl
  not_ended (Failed e) m = absurd m

  -- all of those were skipped that it was to skip
  skipped_all : (skip : ℕ) (some : List Told) (full : Ending) (a : Part skip some full) → HasMore full → length a.skipped ≡ skip
  skipped_all skip some full a m = ⊎_elim (λ e. e) (λ h. absurd (not_over full m h.2)) a.passed

  module _ (skip : ℕ) (some rest : List Told) (full ending : Ending) (a : Part skip some full) (more : HasMore full) (b : Part (skip + length some) rest ending) where
    one : AreOne (a.skipped ++ some) (b.skipped ++ rest) (has_ended full) (has_ended ending)
    one = are_one a.objects b.objects (none_clash a.objects b.objects a.given b.given) words (a.skipped ++ some) (b.skipped ++ rest) (has_ended full) (has_ended ending) a.shows b.shows a.spelled b.spelled

    long : length (a.skipped ++ some) ≡ skip + length some
    long = length-append a.skipped some ∙ ap (λ n. n + length some) (skipped_all skip some full a more)

    same_front : length b.skipped ≡ skip + length some → b.skipped ≡ a.skipped ++ some
    same_front e = ⊎_elim
        (λ p. (cut_same b.skipped (a.skipped ++ some) rest p.0 (e ∙ sym long) p.1).0)
        (λ p. sym (cut_same (a.skipped ++ some) b.skipped [] (rest ++ p.0) (long ∙ sym e) (append-nil (a.skipped ++ some) ∙ p.1 ∙ append_assoc b.skipped rest p.0)).0)
        one.either

    -- the second skipped what the first told, and went on
    went_on : length b.skipped ≡ skip + length some → Part skip (some ++ rest) ending
    went_on e =
        let same : b.skipped ++ rest ≡ a.skipped ++ (some ++ rest) = ap (λ xs. xs ++ rest) (same_front e) ∙ append_assoc a.skipped some rest in
        record {
          objects = b.objects;
          given = b.given;
          skipped = a.skipped;
          shows = subst (λ told. Shows b.objects words told (has_ended ending)) same b.shows;
          spelled = subst AreSpelled same b.spelled;
          next = subst (λ told. IsNext b.objects words told ending) same b.next;
          passed = inl (skipped_all skip some full a more);
        }

    -- or it broke off among these
    broke_off : (other : Ending) → ending ≡ other → length b.skipped < skip + length some → rest ≡ [] → IsOver other → Part skip (some ++ rest) other
    broke_off Ended is less none over =
        let p = one.first_of (ap has_ended is) in
        let up : length (b.skipped ++ rest) ≡ length (a.skipped ++ some) + length p.0 = ap length p.1 ∙ length-append (a.skipped ++ some) p.0 in
        let down : length (b.skipped ++ rest) ≡ length b.skipped = ap (λ xs. length (b.skipped ++ xs)) none ∙ ap length (append-nil b.skipped) in
        absurd (omega (arith, up, down, long, less))
    broke_off More is less none over = absurd over
    broke_off (Small n) is less none over = absurd over
    broke_off (Failed e) is less none over =
        let same : a.skipped ++ some ≡ a.skipped ++ (some ++ rest) = ap (λ xs. a.skipped ++ xs) (sym (append-nil some) ∙ ap (λ xs. some ++ xs) (sym none)) in
        record {
          objects = a.objects;
          given = a.given;
          skipped = a.skipped;
          shows = subst (λ told. Shows a.objects words told false) same (subst (Shows a.objects words (a.skipped ++ some)) (not_ended full more) a.shows);
          spelled = subst AreSpelled same a.spelled;
          next = tt;
          passed = inl (skipped_all skip some full a more);
        }

    joined : Part skip (some ++ rest) ending
    joined = ⊎_elim went_on (λ h. broke_off ending refl h.0 h.1 h.2) b.passed

  in_row : (skip : ℕ) (told : List Told) (ending : Ending) → AreInRow words AreGiven skip told ending → Part skip told ending
  in_row skip told ending (last part) = part
  in_row skip told ending (before {told = some} {rest = rest} {full = full} part more row) =
      joined skip some rest full ending part more (in_row (skip + length some) rest ending row)

  -- ONE LIST from one place
  module _ (skip : ℕ) (told others : List Told) (ending : Ending) (a : Part skip told ending) (b : Part skip others Ended) where
    lists_one : AreOne (a.skipped ++ told) (b.skipped ++ others) (has_ended ending) true
    lists_one = are_one a.objects b.objects (none_clash a.objects b.objects a.given b.given) words (a.skipped ++ told) (b.skipped ++ others) (has_ended ending) true a.shows b.shows a.spelled b.spelled

    abbrev Beginning : Type 0
    Beginning = ((more : List Told) × (others ≡ told ++ more)) × (ending ≡ Ended → told ≡ others)

    -- how long both lists are
    long_one : length (a.skipped ++ told) ≡ length a.skipped + length told
    long_one = length-append a.skipped told

    long_other : length (b.skipped ++ others) ≡ length b.skipped + length others
    long_other = length-append b.skipped others

    -- the first is no longer than the second, and no shorter if it has ended
    no_longer : length (a.skipped ++ told) + length (lists_one.first_of refl).0 ≡ length (b.skipped ++ others)
    no_longer = sym (ap length (lists_one.first_of refl).1 ∙ length-append (a.skipped ++ told) (lists_one.first_of refl).0)

    no_shorter : (e : ending ≡ Ended) → length (b.skipped ++ others) + length (lists_one.second_of (ap has_ended e)).0 ≡ length (a.skipped ++ told)
    no_shorter e = let p = lists_one.second_of (ap has_ended e) in sym (ap length p.1 ∙ length-append (b.skipped ++ others) p.0)

    both_skipped : length a.skipped ≡ skip → length b.skipped ≡ skip → Beginning
    both_skipped x y =
        let p = lists_one.first_of refl in
        let c = cut_same b.skipped a.skipped others (told ++ p.0) (y ∙ sym x) (p.1 ∙ append_assoc a.skipped told p.0) in (
          (p.0, c.1),
          λ e.
              let up = no_longer in
              let down = no_shorter e in
              let none : length (told ++ p.0) ≡ length told = length-append told p.0 ∙ omega (arith, up, down) in
              sym (c.1 ∙ ap (λ xs. told ++ xs) (empty_when_short told p.0 none) ∙ append-nil told),
        )

    -- the first has skipped fewer
    one_skipped : length a.skipped < skip → told ≡ [] → Beginning
    one_skipped less none = (
      (others, ap (λ xs. xs ++ others) (sym none)),
      λ e. none ∙ sym (⊎_elim
          (λ y.
          let down = no_shorter e in
          let zero : length told ≡ 0 = ap length none in
          absurd (omega (arith, down, long_one, long_other, zero, less, y)))
          (λ (h : (length b.skipped < skip) × (others ≡ []) × IsOver Ended). h.1) b.passed),
    )

    -- the second has
    other_skipped : length a.skipped ≡ skip → length b.skipped < skip → others ≡ [] → Beginning
    other_skipped x less none =
        let up = no_longer in
        let zero : length others ≡ 0 = ap length none in
        absurd (omega (arith, up, long_one, long_other, zero, less, x))

    beginning : Beginning
    beginning = ⊎_elim (λ x. ⊎_elim (both_skipped x) (λ h. other_skipped x h.0 h.1) b.passed) (λ h. one_skipped h.0 h.1) a.passed

-- the objects of one input don't clash
fed_once_alone : (records : List ℕ) → NoneClash (AreFed (Some records))
fed_once_alone records objects others fed too (i, a, b, is, same, differ) =
    let one : ◌≡◌ {A = Option _} (Some a) (Some b) = sym is ∙ fed_once records objects others fed too i ∙ same in
    differ (let e : a ≡ b = cc in e)

pub are_one_batch : EachIs IsOneBatch
are_one_batch = (
  λ records words skip told ending row. in_row words (AreFed (Some records)) (fed_once_alone records) skip told ending row,
  λ each none_clash words skip told ending row. in_row words (Contains each) none_clash skip told ending row,
)

pub are_one_list : EachIs IsOneList
are_one_list = (
  λ records words skip told others ending a b. beginning words (AreFed (Some records)) (fed_once_alone records) skip told others ending a b,
  λ each none_clash words skip told others ending a b. beginning words (Contains each) none_clash skip told others ending a b,
)

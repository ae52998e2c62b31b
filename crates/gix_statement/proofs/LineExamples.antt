-- From bytes to bytes: a merge whose time is below 0, in a line with its time and its parents, and in one with its subject.
use Rattle.std.proofs.Common.{◌≡◌, ◌≢◌, ℕ, ℤ, pos, neg_ℤ, List, [], ◌∷◌, ◌++◌, Bool, true, false, Some, None, Ok, All, codes, cond, refl, sym, ap, subst, ◌∙◌, arith, inl, inr}
use Rattle.std.proofs.lemmas.Bool.{false≢true}
use Rattle.std.proofs.lemmas.List.Elements.{All-cons, All-nil}
use Rattle.std.proofs.lemmas.List.Kept.{AllPairs-cons}
use Rattle.std.specs.Fmt.{digits}
use Rattle.hex.proofs.OnLiterals.{hex_on_literals}
use Rattle.gix_hash.proofs.Ids.Membership.{Contains-here, no_member, same_from, same_is}
use Rattle.gix_hash.specs.declared.ObjectId.{ObjectId}
use Rattle.gix_hash.specs.Id.{is_same}
use Rattle.gix_statement.specs.WholeStatement as page
use Rattle.gix_statement.specs.WholeStatement.{Object, Objects, Row, AreFed, AreRecords, Begins, IsHistory, IsLast, IsNext, IsShown, IsNumber, IsText, IsThere, IsTime, Promises, Reaches, Serves, breadth, commits, lists, negative, start, parent}
use Rattle.gix_statement.proofs.Tests.{all_digits, not_among, other_head, without}
use Rattle.gix_statement.proofs.OrderExamples.{cut_end, cut_here}
use Rattle.gix_statement.proofs.RunExamples.{are_kinds, child, commit, id_of, root, root_spelled, row, spelled, tree_spelled}

abbrev text : List ℕ
text = codes "tree abababababababababababababababababababab\nparent 1111111111111111111111111111111111111111\nparent abababababababababababababababababababab\nauthor A <a> 0\ncommitter A <a> -5 +0000\n\nA merge \nof two\n\nBoth\n"

abbrev input : List ℕ
input = codes "commit 2222222222222222222222222222222222222222 205\n" ++ text ++ 10 ∷ []

abbrev records : List (ObjectId × Object)
records = (child, commit text) ∷ []

are_records : AreRecords records input
are_records = (codes "2222222222222222222222222222222222222222", codes "205", [], are_kinds, spelled, (omega arith, omega arith, all_digits 10 (codes "205") refl, refl), refl, refl)

abbrev read_in : Objects
read_in i = cond (is_same child i) (Some (commit text)) None

are_last : (i : ObjectId) → IsLast records i (read_in i)
are_last i = go (is_same child i) refl
  where
    go : (c : Bool) → is_same child i ≡ c → IsLast records i (cond c (Some (commit text)) None)
    go true e = subst (λ j. IsLast records j (Some (commit text))) (same_is child i e) ([], [], refl, λ o. no_member _)
    go false e = λ o. not_among (i, o) (child, commit text) [] (λ s. false≢true (sym e ∙ same_from child i (ap (λ p. p.0) s))) (no_member _)

fed : AreFed (Some input) read_in
fed = (input, inr refl, records, are_records, are_last)

abbrev merge : Row
merge = row child (root ∷ id_of 0xab ∷ []) (neg_ℤ (pos 5))

early : IsTime (codes "author A <a> 0\ncommitter A <a> -5 +0000\n\nA merge \nof two\n\nBoth\n") (neg_ℤ (pos 5))
early = negative (codes "A <a") (codes "5 +0000") 1 5
    (codes "A <a> 0", codes "\nA merge \nof two\n\nBoth\n", without 10 (codes "A <a> 0") refl, without 10 (codes "A <a> -5 +0000") refl, refl)
    (without 62 (codes "5 +0000") refl) (codes "5", codes " +0000", refl, all_digits 10 (codes "5") refl, (λ d. absurd (omega (arith, d.0))), refl)

is_text : IsText read_in merge
is_text = (
  codes "abababababababababababababababababababab",
  codes "parent 1111111111111111111111111111111111111111\nparent abababababababababababababababababababab\nauthor A <a> 0\ncommitter A <a> -5 +0000\n\nA merge \nof two\n\nBoth\n",
  codes "author A <a> 0\ncommitter A <a> -5 +0000\n\nA merge \nof two\n\nBoth\n",
  tree_spelled,
  (
    codes "1111111111111111111111111111111111111111",
    codes "parent abababababababababababababababababababab\nauthor A <a> 0\ncommitter A <a> -5 +0000\n\nA merge \nof two\n\nBoth\n",
    root_spelled,
    (codes "abababababababababababababababababababab", codes "author A <a> 0\ncommitter A <a> -5 +0000\n\nA merge \nof two\n\nBoth\n", tree_spelled, (refl, other_head 97 112 (codes "uthor ") (codes "arent ") refl), refl),
    refl,
  ),
  early,
  refl,
)

-- the options before the id, and the line
abbrev asked : List (List ℕ) → List (List ℕ)
asked options = codes "breadth" ∷ codes "-n" ∷ codes "1" ∷ (options ++ codes "2222222222222222222222222222222222222222" ∷ [])

module _ (parents : ObjectId → List ObjectId) (time : ObjectId → ℤ) (history : IsHistory read_in [] parents time) where
  names : parents child ≡ root ∷ id_of 0xab ∷ []
  names = (history merge (inl is_text)).0

  is_early : time child ≡ neg_ℤ (pos 5)
  is_early = (history merge (inl is_text)).1

  is_there : All (IsThere read_in []) (child ∷ [])
  is_there = All-cons (IsThere read_in []) child [] (merge, refl, inl is_text) (All-nil _)

  unhidden : (i : ObjectId) → Reaches parents [] i → ⊥
  unhidden i (start s) = no_member i s
  unhidden i (parent {child = c} r m) = unhidden c r

  abbrev Next : List ObjectId → ObjectId → Type 0
  Next taken i = IsNext parents parents time (child ∷ []) [] taken i (codes "breadth")

  first : Begins parents parents time (child ∷ []) [] (codes "breadth") (child ∷ [])
  first = (
    All-cons (IsShown parents parents time (child ∷ []) []) child [] (start (Contains-here child []), unhidden child) (All-nil _),
    AllPairs-cons (λ i j. i ≢ j) child [] (All-nil _) (λ i j d l m. absurd (omega (arith, m))),
    cut_here Next child [] (breadth ([], [], refl, All-nil _, (Contains-here child [], no_member child, unhidden child))) (cut_end (λ taken i. Next (child ∷ taken) i)),
  )

  number_one : IsNumber 10 9 (codes "1") 1
  number_one = (omega arith, omega arith, all_digits 10 (codes "1") refl, refl)

  -- WITH --timestamp and --parents
  abbrev whole_line : List ℕ
  whole_line = codes "-5 2222222222222222222222222222222222222222 1111111111111111111111111111111111111111 abababababababababababababababababababab\n"

  is_whole_line : page.commit_line read_in parents time (record { has_id = true; has_time = true; has_parents = true; format = []; ending = 10 }) child ++ [] ≡ whole_line
  unfolding digits hex_on_literals
  is_whole_line = (λ k. page.commit_line read_in (λ i. names k) (λ i. is_early k) (record { has_id = true; has_time = true; has_parents = true; format = []; ending = 10 }) child ++ [])

  whole_served : Serves read_in [] parents time (Some []) (Some whole_line) (asked (codes "--timestamp" ∷ codes "--parents" ∷ []))
  whole_served = commits whole_line
      (lists [] (codes "-n" ∷ codes "1" ∷ codes "--timestamp" ∷ codes "--parents" ∷ codes "2222222222222222222222222222222222222222" ∷ []) _ (child ∷ []) {hidden = []} (0, omega arith, refl)
      (page.at_most 1 number_one (omega arith) (page.with_time (omega arith) (page.with_parents (omega arith) (page.everything (inl (child, [], refl, spelled, (refl, refl))))))) (λ e. cc) page.all is_there (λ e. cc) first (omega arith)
      (λ ended more. absurd (omega (arith, more))) (inl refl) (sym is_whole_line))
      refl

  -- WITH --reverse and -z
  abbrev zero_line : List ℕ
  zero_line = codes "2222222222222222222222222222222222222222" ++ 0 ∷ []

  is_zero_line : page.commit_line read_in parents time (record { has_id = true; has_time = false; has_parents = false; format = []; ending = 0 }) child ++ [] ≡ zero_line
  unfolding hex_on_literals
  is_zero_line = refl

  zero_served : Serves read_in [] parents time (Some []) (Some zero_line) (asked (codes "--reverse" ∷ codes "-z" ∷ []))
  zero_served = commits zero_line
      (lists [] (codes "-n" ∷ codes "1" ∷ codes "--reverse" ∷ codes "-z" ∷ codes "2222222222222222222222222222222222222222" ∷ []) _ (child ∷ []) {hidden = []} (0, omega arith, refl)
      (page.at_most 1 number_one (omega arith) (page.reversed (omega arith) (page.zero_ended (omega arith) (page.everything (inl (child, [], refl, spelled, (refl, refl))))))) (λ e. cc) page.all is_there (λ e. cc) first (omega arith)
      (λ ended more. absurd (omega (arith, more))) (inl refl) (sym is_zero_line))
      refl

  -- WITH --oneline
  abbrev subject_line : List ℕ
  subject_line = codes "2222222222222222222222222222222222222222 A merge of two\n"

  is_subject_line : page.commit_line read_in parents time (record { has_id = true; has_time = false; has_parents = false; format = codes " %s"; ending = 10 }) child ++ [] ≡ subject_line
  unfolding hex_on_literals
  is_subject_line = refl

  subject_served : Serves read_in [] parents time (Some []) (Some subject_line) (asked (codes "--oneline" ∷ []))
  subject_served = commits subject_line
      (lists [] (codes "-n" ∷ codes "1" ∷ codes "--oneline" ∷ codes "2222222222222222222222222222222222222222" ∷ []) _ (child ∷ []) {hidden = []} (0, omega arith, refl)
      (page.at_most 1 number_one (omega arith) (page.with_subject (omega arith) (page.everything (inl (child, [], refl, spelled, (refl, refl)))))) (λ e. cc) page.all is_there (λ e. is_there) first (omega arith)
      (λ ended more. absurd (omega (arith, more))) (inl refl) (sym is_subject_line))
      refl

  -- WITH --format
  abbrev format_line : List ℕ
  format_line = codes "2222222222 2 parents: 1111111111111111111111111111111111111111 abababababababababababababababababababab%\n"

  is_format_line : page.commit_line read_in parents time (record { has_id = false; has_time = false; has_parents = false; format = codes "%h 2 parents: %P%%"; ending = 10 }) child ++ [] ≡ format_line
  unfolding hex_on_literals
  is_format_line = (λ k. page.commit_line read_in (λ i. names k) time (record { has_id = false; has_time = false; has_parents = false; format = codes "%h 2 parents: %P%%"; ending = 10 }) child ++ [])

  format_served : Serves read_in [] parents time (Some []) (Some format_line) (asked (codes "--format" ∷ codes "%h 2 parents: %P%%" ∷ []))
  format_served = commits format_line
      (lists [] (codes "-n" ∷ codes "1" ∷ codes "--format" ∷ codes "%h 2 parents: %P%%" ∷ codes "2222222222222222222222222222222222222222" ∷ []) _ (child ∷ []) {hidden = []} (0, omega arith, refl)
      (page.at_most 1 number_one (omega arith) (page.with_format refl (omega arith) (omega arith) (page.everything (inl (child, [], refl, spelled, (refl, refl)))))) (λ e. cc) page.all is_there (λ e. is_there) first (omega arith)
      (λ ended more. absurd (omega (arith, more))) (inl refl) (sym is_format_line))
      refl

line_of_merge : {E : Type 0} (e : E) → Promises e (asked (codes "--timestamp" ∷ codes "--parents" ∷ [])) (λ objects rows. AreFed (Some input) objects × (rows ≡ [])) (Some []) (Ok tt)
    (Some (codes "-5 2222222222222222222222222222222222222222 1111111111111111111111111111111111111111 abababababababababababababababababababab\n"))
line_of_merge e = (read_in, [], (fed, refl), ((λ i j d l m. absurd (omega (arith, m))), λ r c n. absurd (no_member r c)), whole_served)

subject_of_merge : {E : Type 0} (e : E) → Promises e (asked (codes "--oneline" ∷ [])) (λ objects rows. AreFed (Some input) objects × (rows ≡ [])) (Some []) (Ok tt)
    (Some (codes "2222222222222222222222222222222222222222 A merge of two\n"))
subject_of_merge e = (read_in, [], (fed, refl), ((λ i j d l m. absurd (omega (arith, m))), λ r c n. absurd (no_member r c)), subject_served)

format_of_merge : {E : Type 0} (e : E) → Promises e (asked (codes "--format" ∷ codes "%h 2 parents: %P%%" ∷ [])) (λ objects rows. AreFed (Some input) objects × (rows ≡ [])) (Some []) (Ok tt)
    (Some (codes "2222222222 2 parents: 1111111111111111111111111111111111111111 abababababababababababababababababababab%\n"))
format_of_merge e = (read_in, [], (fed, refl), ((λ i j d l m. absurd (omega (arith, m))), λ r c n. absurd (no_member r c)), format_served)

-- Worked runs, and texts.
use Rattle.std.proofs.Common.{◌≡◌, ◌≢◌, ℕ, ℤ, pos, neg_ℤ, List, [], ◌∷◌, ◌++◌, replicate, take, Bool, true, false, Some, None, Ok, Err, All, Contains, codes, flat_map, refl, sym, ap, subst, ◌∙◌, arith, inl, inr, ⊎_elim, suc, cond, append_assoc, append-nil}
use Rattle.std.proofs.lemmas.Bool.{false≢true}
use Rattle.std.proofs.lemmas.List.Elements.{All-cons, All-nil}
use Rattle.std.proofs.lemmas.List.Kept.{AllPairs-cons}
use Rattle.std.specs.Fmt.{digits}
use Rattle.hex.proofs.OnLiterals.{hex_on_literals}
use Rattle.gix_hash.proofs.Ids.Membership.{no_member, same_from, same_is}
use Rattle.gix_hash.specs.declared.ObjectId.{ObjectId}
use Rattle.gix_hash.specs.declared.ObjectId.TheVariants.{Sha1}
use Rattle.gix_hash.specs.Id.{is_same}
use Rattle.gix_statement.specs.WholeStatement as page
use Rattle.gix_statement.specs.WholeStatement.{Object, Objects, Row, AreNamed, Agree, Allows, AreFed, AreRecords, IsLast, negative, positive, unsigned, AreEntries, AreParentLines, Clash, Entry, Follows, IsCommit, IsThere, IsHistory, IsHash, IsNumber, IsTime, IsText, Promises, Serves, commits, Lists, lists, Spells, bytes_in, Begins, IsWhole, id_line, entry_line, Reaches, start, parent, HasBegun, InEach, HaveHistory}
use Rattle.gix_statement.proofs.Tests.{all_digits, is_hex, without, not_among, not_alone, other_head, begun_lines, IsEnded, IsEnding}
use Rattle.gix_statement.proofs.OrderExamples.{begun_one, newest_begun, newest_whole}

-- the id that is one byte twenty times
abbrev pub id_of : ℕ → ObjectId
id_of byte = Sha1 (replicate 20 byte)

abbrev pub child : ObjectId
child = id_of 0x22

abbrev pub root : ObjectId
root = id_of 0x11

differ : root ≢ child
differ e = false≢true (same_from root child e)

-- either case is read, and nothing shorter
lower : Spells 40 (codes "abababababababababababababababababababab") (id_of 0xab)
unfolding hex_on_literals
lower = (refl, refl, is_hex (codes "abababababababababababababababababababab") refl)

upper : Spells 40 (codes "ABababababababababababababababababababAB") (id_of 0xab)
unfolding hex_on_literals
upper = (refl, refl, is_hex (codes "ABababababababababababababababababababAB") refl)

too_short : (i : ObjectId) → Spells 40 (codes "abab") i → ⊥
too_short i s = omega (arith, s.0)

-- A GRAPH RUN: there are no objects at all, but rows of a child and its parent, which is newer.
abbrev nothing : Objects
nothing i = None

abbrev pub row : ObjectId → List ObjectId → ℤ → Row
row i parents time = record { id = i; tree = id_of 0xab; parents = parents; time = time }

abbrev rows : List Row
rows = row child (root ∷ []) (pos 5) ∷ row root [] (pos 9) ∷ []

child_row : IsCommit nothing rows (row child (root ∷ []) (pos 5))
child_row = inr (refl, (0, omega arith, refl))

root_row : IsCommit nothing rows (row root [] (pos 9))
root_row = inr (refl, (1, omega arith, refl))

agree : Agree nothing rows
agree = (
  AllPairs-cons (λ r s. r.id ≢ s.id) (row child (root ∷ []) (pos 5)) (row root [] (pos 9) ∷ [])
      (All-cons (λ s. child ≢ s.id) (row root [] (pos 9)) [] (λ e. differ (sym e)) (All-nil _))
      (AllPairs-cons (λ r s. r.id ≢ s.id) (row root [] (pos 9)) [] (All-nil _) (λ i j d l m. absurd (omega (arith, m)))),
  λ r c n. absurd (n refl),
)

pub spelled : Spells 40 (codes "2222222222222222222222222222222222222222") child
unfolding hex_on_literals
spelled = (refl, refl, is_hex (codes "2222222222222222222222222222222222222222") refl)

-- of both lines, and of the first alone
abbrev pub both_lines : List ℕ
both_lines = codes "2222222222222222222222222222222222222222\n1111111111111111111111111111111111111111\n"

abbrev pub one_line : List ℕ
one_line = codes "2222222222222222222222222222222222222222\n"

are_both : flat_map id_line (child ∷ root ∷ []) ≡ both_lines
unfolding hex_on_literals
are_both = refl

is_one : flat_map id_line (child ∷ []) ≡ one_line
unfolding hex_on_literals
is_one = refl

abbrev Given : Objects → List Row → Type 0
Given objects those = AreNamed objects × (those ≡ rows)

is_newest : Contains (codes "breadth" ∷ codes "newest" ∷ codes "oldest" ∷ codes "topo" ∷ codes "date" ∷ []) (codes "newest")
is_newest = (1, omega arith, refl)

named : AreNamed nothing
named i o e = let no : None ≡ Some o = e in cc

module _ (objects : Objects) (rows : List Row) (child_time root_time : ℤ) (is_child : IsCommit objects rows (row child (root ∷ []) child_time)) (is_root : IsCommit objects rows (row root [] root_time)) (parents : ObjectId → List ObjectId) (time : ObjectId → ℤ) (history : IsHistory objects rows parents time) where
  child_names : parents child ≡ root ∷ []
  child_names = (history (row child (root ∷ []) child_time) is_child).0

  root_names : parents root ≡ []
  root_names = (history (row root [] root_time) is_root).0

  child_there : IsThere objects rows child
  child_there = (row child (root ∷ []) child_time, refl, is_child)

  root_there : IsThere objects rows root
  root_there = (row root [] root_time, refl, is_root)

  are_there : All (IsThere objects rows) (child ∷ root ∷ [])
  are_there = All-cons (IsThere objects rows) child (root ∷ []) child_there (All-cons (IsThere objects rows) root [] root_there (All-nil _))

  is_there : All (IsThere objects rows) (child ∷ [])
  is_there = All-cons (IsThere objects rows) child [] child_there (All-nil _)

  newest_served : Serves objects rows parents time (Some []) (Some both_lines) (codes "newest" ∷ codes "2222222222222222222222222222222222222222" ∷ [])
  newest_served = commits both_lines
      (lists [] (codes "2222222222222222222222222222222222222222" ∷ []) _ (child ∷ root ∷ []) {hidden = []} is_newest
      (page.everything (inl (child, [], refl, spelled, (refl, refl)))) (λ e. cc) page.all are_there (λ e. cc) (newest_begun child root differ parents parents time child_names root_names) tt
      (λ ended more. newest_whole child root differ parents parents time child_names root_names) (inl refl) (sym are_both))
      refl

  number_one : IsNumber 10 9 (codes "1") 1
  number_one = (omega arith, omega arith, all_digits 10 (codes "1") refl, refl)

  -- WITH -n 1 the first line is all
  one_served : Serves objects rows parents time (Some []) (Some one_line) (codes "newest" ∷ codes "-n" ∷ codes "1" ∷ codes "2222222222222222222222222222222222222222" ∷ [])
  one_served = commits one_line
      (lists [] (codes "-n" ∷ codes "1" ∷ codes "2222222222222222222222222222222222222222" ∷ []) _ (child ∷ []) {hidden = []} is_newest
      (page.at_most 1 number_one (omega arith) (page.everything (inl (child, [], refl, spelled, (refl, refl))))) (λ e. cc) page.all is_there (λ e. cc) (begun_one child root differ parents parents time child_names root_names) (omega arith)
      (λ ended more. absurd (omega (arith, more))) (inl refl) (sym is_one))
      refl

  -- WITH --skip 1 the second line is all, and --count says so; with --reverse it comes first
  skipped_served : Serves objects rows parents time (Some []) (Some (id_line root)) (codes "newest" ∷ codes "--skip" ∷ codes "1" ∷ codes "2222222222222222222222222222222222222222" ∷ [])
  skipped_served = commits (id_line root)
      (lists [] (codes "--skip" ∷ codes "1" ∷ codes "2222222222222222222222222222222222222222" ∷ []) _ (child ∷ root ∷ []) {hidden = []} is_newest
      (page.skip 1 number_one (omega arith) (page.everything (inl (child, [], refl, spelled, (refl, refl))))) (λ e. cc) page.all are_there (λ e. cc) (newest_begun child root differ parents parents time child_names root_names) tt
      (λ ended more. newest_whole child root differ parents parents time child_names root_names) (inl refl) (sym (append-nil (id_line root))))
      refl

  counted_served : Serves objects rows parents time (Some []) (Some (codes "1\n")) (codes "newest" ∷ codes "--skip" ∷ codes "1" ∷ codes "--count" ∷ codes "2222222222222222222222222222222222222222" ∷ [])
  unfolding digits
  counted_served = commits (codes "1\n")
      (lists [] (codes "--skip" ∷ codes "1" ∷ codes "--count" ∷ codes "2222222222222222222222222222222222222222" ∷ []) _ (child ∷ root ∷ []) {hidden = []} is_newest
      (page.skip 1 number_one (omega arith) (page.counted (omega arith) (page.everything (inl (child, [], refl, spelled, (refl, refl)))))) (λ e. cc) page.all are_there (λ e. cc) (newest_begun child root differ parents parents time child_names root_names) tt
      (λ ended more. newest_whole child root differ parents parents time child_names root_names) (inl refl) refl)
      refl

  reversed_served : Serves objects rows parents time (Some []) (Some (id_line root ++ id_line child)) (codes "newest" ∷ codes "--reverse" ∷ codes "2222222222222222222222222222222222222222" ∷ [])
  reversed_served = commits (id_line root ++ id_line child)
      (lists [] (codes "--reverse" ∷ codes "2222222222222222222222222222222222222222" ∷ []) _ (child ∷ root ∷ []) {hidden = []} is_newest
      (page.reversed (omega arith) (page.everything (inl (child, [], refl, spelled, (refl, refl))))) (λ e. cc) page.all are_there (λ e. cc) (newest_begun child root differ parents parents time child_names root_names) tt
      (λ ended more. newest_whole child root differ parents parents time child_names root_names) (inl refl) (ap (λ bytes. id_line root ++ bytes) (sym (append-nil (id_line child)))))
      refl

  -- A FAULT may come behind the first line
  one_begun : HasBegun objects rows parents time (Some []) (Some one_line) (codes "newest" ∷ codes "2222222222222222222222222222222222222222" ∷ [])
  one_begun = (
    one_line,
    lists [] (codes "2222222222222222222222222222222222222222" ∷ []) _ (child ∷ []) {hidden = []} is_newest
        (page.everything (inl (child, [], refl, spelled, (refl, refl)))) (λ e. cc) page.all is_there (λ e. cc) (begun_one child root differ parents parents time child_names root_names) tt (λ ended. let no : false ≡ true = ended in cc)
        (inr refl) (sym is_one),
    refl,
  )

newest_of_rows : {E : Type 0} (e : E) → Promises e (codes "newest" ∷ codes "2222222222222222222222222222222222222222" ∷ []) Given (Some []) (Ok tt) (Some both_lines)
newest_of_rows e = (nothing, rows, (named, refl), agree, newest_served nothing rows (pos 5) (pos 9) child_row root_row)

first_of_rows : {E : Type 0} (e : E) → Promises e (codes "newest" ∷ codes "-n" ∷ codes "1" ∷ codes "2222222222222222222222222222222222222222" ∷ []) Given (Some []) (Ok tt) (Some one_line)
first_of_rows e = (nothing, rows, (named, refl), agree, one_served nothing rows (pos 5) (pos 9) child_row root_row)

-- AN ERR leaves nothing, or a beginning
err_without_a_line : {E : Type 0} (writer_failed e : E) → Promises writer_failed (codes "newest" ∷ codes "2222222222222222222222222222222222222222" ∷ []) Given (Some []) (Err e) (Some [])
err_without_a_line writer_failed e = inl refl

err_behind_a_line : {E : Type 0} (writer_failed e : E) → Promises writer_failed (codes "newest" ∷ codes "2222222222222222222222222222222222222222" ∷ []) Given (Some []) (Err e) (Some one_line)
err_behind_a_line writer_failed e = inr (nothing, rows, (named, refl), agree, λ parents time is. inl (one_begun nothing rows (pos 5) (pos 9) child_row root_row parents time is))

-- but no half of a line, unless the writer failed
half_a_line : {E : Type 0} (writer_failed e : E) (words : List (List ℕ)) → e ≢ writer_failed → HaveHistory → Promises writer_failed words Given (Some []) (Err e) (Some (codes "2222")) → ⊥
half_a_line writer_failed e words other have (inl same) = let no : codes "2222" ≡ [] = cc in cc
half_a_line writer_failed e words other have (inr (objects, those, given, agreeing, each)) =
    ⊎_elim (go history.0 history.1) (λ h. absurd (other h.0)) (each history.0 history.1 history.2)
  where
    history : (parents : ObjectId → List ObjectId) × (time : ObjectId → ℤ) × IsHistory objects those parents time
    history = have objects those agreeing

    ended : (c : ℕ) (before after : List ℕ) → All (λ b. b ≢ c) (before ++ c ∷ after) → ⊥
    ended c [] after h = h 0 c (omega arith) refl
    ended c (b ∷ before) after h = ended c before after (λ k d below. h (suc k) d (omega (arith, below)))

    none_ends : (b : ℕ) → IsEnding b → All (λ x. x ≢ b) (codes "2222")
    none_ends b (inl e) = subst (λ c. All (λ x. x ≢ c) (codes "2222")) (sym e) (without 10 (codes "2222") refl)
    none_ends b (inr e) = subst (λ c. All (λ x. x ≢ c) (codes "2222")) (sym e) (without 0 (codes "2222") refl)

    lines : (line : ObjectId → List ℕ) (ids : List ObjectId) → ((i : ObjectId) → IsEnded (line i)) → codes "2222" ≡ flat_map line ids → ⊥
    lines line [] each e = cc
    lines line (i ∷ ids) each e =
        let l = each i in
        let whole : codes "2222" ≡ l.0 ++ l.1 ∷ flat_map line ids = e ∙ ap (λ xs. xs ++ flat_map line ids) l.3 ∙ append_assoc l.0 (l.1 ∷ []) (flat_map line ids) in
        ended l.1 l.0 (flat_map line ids) (subst (All (λ x. x ≢ l.1)) whole (none_ends l.1 l.2))

    go : (parents : ObjectId → List ObjectId) (time : ObjectId → ℤ) → HasBegun objects those parents time (Some []) (Some (codes "2222")) words → ⊥
    go parents time begun = let b = begun_lines objects those parents time (Some []) (Some (codes "2222")) words begun in lines b.0 b.1 b.2 b.3

-- A COLLIDING PAIR: two objects of one id are a clash, of which the law says nothing
abbrev one_object : List ℕ → Objects
one_object bytes i = Some (record { kind = codes "blob"; bytes = bytes })

they_clash : Clash (one_object []) (one_object (codes "b"))
they_clash = (
  child,
  record { kind = codes "blob"; bytes = [] },
  record { kind = codes "blob"; bytes = codes "b" },
  refl,
  refl,
  λ e. let other : [] ≡ codes "b" = ap (λ o. o.bytes) e in cc,
)

-- a name with a slash is no name
no_slash : (e : Entry) (text : List ℕ) → e.name ≡ codes "x/y" → AreEntries 40 (e ∷ []) text → ⊥
no_slash e text is (mode, rest, number, some, all, width, bytes, more, same) = (subst (All (λ b. (b ≢ 0) × (b ≢ 47))) is all 1 0 (omega arith)).1 refl

-- a line that begins like one for a parent, and is none, makes a text no commit's
no_broken_parent : (rest : List ℕ) → AreParentLines 40 [] (codes "parent zz\nauthor") rest → ⊥
no_broken_parent rest (is, other) = other (ap (take 7) (sym is))

line_of_entry : entry_line 10 (codes "d/", record { mode = 0o644; name = codes "x"; id = id_of 0xab }) ≡ codes "000644 abababababababababababababababababababab d/x\n"
unfolding digits hex_on_literals
line_of_entry = refl

-- FROM BYTES TO BYTES: two records
abbrev root_text : List ℕ
root_text = codes "tree abababababababababababababababababababab\nauthor A <a> 0\ncommitter A <a> 5\n"

abbrev child_text : List ℕ
child_text = codes "tree abababababababababababababababababababab\nparent 1111111111111111111111111111111111111111\nauthor A <a> 0\ncommitter A <a> 7 +0000\n"

abbrev pub commit : List ℕ → Object
commit bytes = record { kind = codes "commit"; bytes = bytes }

abbrev records : List (ObjectId × Object)
records = (root, commit root_text) ∷ (child, commit child_text) ∷ []

abbrev pub input : List ℕ
input = codes "commit 1111111111111111111111111111111111111111 79\n" ++ root_text ++ codes "\ncommit 2222222222222222222222222222222222222222 133\n" ++ child_text ++ 10 ∷ []

pub root_spelled : Spells 40 (codes "1111111111111111111111111111111111111111") root
unfolding hex_on_literals
root_spelled = (refl, refl, is_hex (codes "1111111111111111111111111111111111111111") refl)

pub are_kinds : Contains (codes "tree" ∷ codes "blob" ∷ codes "commit" ∷ codes "tag" ∷ []) (codes "commit")
are_kinds = (2, omega arith, refl)

are_records : AreRecords records input
are_records = (
  codes "1111111111111111111111111111111111111111",
  codes "79",
  codes "commit 2222222222222222222222222222222222222222 133\n" ++ child_text ++ 10 ∷ [],
  are_kinds,
  root_spelled,
  (omega arith, omega arith, all_digits 10 (codes "79") refl, refl),
  (codes "2222222222222222222222222222222222222222", codes "133", [], are_kinds, spelled, (omega arith, omega arith, all_digits 10 (codes "133") refl, refl), refl, refl),
  refl,
)

abbrev read_in : Objects
read_in i = cond (is_same child i) (Some (commit child_text)) (cond (is_same root i) (Some (commit root_text)) None)

are_last : (i : ObjectId) → IsLast records i (read_in i)
are_last i = go (is_same child i) (is_same root i) refl refl
  where
    go : (c r : Bool) → is_same child i ≡ c → is_same root i ≡ r → IsLast records i (cond c (Some (commit child_text)) (cond r (Some (commit root_text)) None))
    go true r e f = subst (λ j. IsLast records j (Some (commit child_text))) (same_is child i e) ((root, commit root_text) ∷ [], [], refl, λ o. no_member _)
    go false true e f = subst (λ j. IsLast records j (Some (commit root_text))) (same_is root i f)
        ([], (child, commit child_text) ∷ [], refl, λ o. not_among (root, o) (child, commit child_text) [] (λ s. differ (sym (ap (λ p. p.0) s))) (no_member _))
    go false false e f = λ o. not_among (i, o) (root, commit root_text) ((child, commit child_text) ∷ []) (λ s. false≢true (sym f ∙ same_from root i (ap (λ p. p.0) s)))
        (not_among (i, o) (child, commit child_text) [] (λ s. false≢true (sym e ∙ same_from child i (ap (λ p. p.0) s))) (no_member _))

fed : AreFed (Some input) read_in
fed = (input, inr refl, records, are_records, are_last)

pub tree_spelled : Spells 40 (codes "abababababababababababababababababababab") (id_of 0xab)
tree_spelled = lower

root_time : IsTime (codes "author A <a> 0\ncommitter A <a> 5\n") (pos 5)
root_time = positive (codes "A <a") (codes "5") 1 5
    (codes "A <a> 0", [], without 10 (codes "A <a> 0") refl, without 10 (codes "A <a> 5") refl, refl)
    (without 62 (codes "5") refl) (codes "5", [], refl, all_digits 10 (codes "5") refl, (λ d. refl), refl) (not_alone 32 (codes "5") refl) (not_alone 45 (codes "5") refl)

child_time : IsTime (codes "author A <a> 0\ncommitter A <a> 7 +0000\n") (pos 7)
child_time = positive (codes "A <a") (codes "7 +0000") 1 7
    (codes "A <a> 0", [], without 10 (codes "A <a> 0") refl, without 10 (codes "A <a> 7 +0000") refl, refl)
    (without 62 (codes "7 +0000") refl) (codes "7", codes " +0000", refl, all_digits 10 (codes "7") refl, (λ d. absurd (omega (arith, d.0))), refl) (not_alone 32 (codes "7") refl) (not_alone 45 (codes "7") refl)

-- a time has a sign, none is 0, and so is what is out of 64 bits
early_time : IsTime (codes "author A <a> 0\ncommitter A <a@b>  -7\n") (neg_ℤ (pos 7))
early_time = negative (codes "A <a@b") (codes "7") 2 7
    (codes "A <a> 0", [], without 10 (codes "A <a> 0") refl, without 10 (codes "A <a@b>  -7") refl, refl)
    (without 62 (codes "7") refl) (codes "7", [], refl, all_digits 10 (codes "7") refl, (λ d. refl), refl)

no_time : IsTime (codes "author A <a> 0\ncommitter A <a@b>\n") (pos 0)
no_time = positive (codes "A <a@b") [] 0 0
    (codes "A <a> 0", [], without 10 (codes "A <a> 0") refl, without 10 (codes "A <a@b>") refl, refl)
    (without 62 [] refl) ([], [], refl, all_digits 10 [] refl, (λ d. refl), refl) (λ e. cc) (λ e. cc)

late_time : IsTime (codes "author A <a> 0\ncommitter A <a@b> 9223372036854775808 +0000\n") (pos 0)
late_time = positive (codes "A <a@b") (codes "9223372036854775808 +0000") 1 9223372036854775808
    (codes "A <a> 0", [], without 10 (codes "A <a> 0") refl, without 10 (codes "A <a@b> 9223372036854775808 +0000") refl, refl)
    (without 62 (codes "9223372036854775808 +0000") refl)
    (codes "9223372036854775808", codes " +0000", refl, all_digits 10 (codes "9223372036854775808") refl, (λ d. absurd (omega (arith, d.0))), refl)
    (not_alone 32 (codes "9") refl) (not_alone 45 (codes "9") refl)

root_is_text : IsText read_in (row root [] (pos 5))
root_is_text = (
  codes "abababababababababababababababababababab",
  codes "author A <a> 0\ncommitter A <a> 5\n",
  codes "author A <a> 0\ncommitter A <a> 5\n",
  tree_spelled,
  (refl, other_head 97 112 (codes "uthor ") (codes "arent ") refl),
  root_time,
  refl,
)

child_is_text : IsText read_in (row child (root ∷ []) (pos 7))
child_is_text = (
  codes "abababababababababababababababababababab",
  codes "parent 1111111111111111111111111111111111111111\nauthor A <a> 0\ncommitter A <a> 7 +0000\n",
  codes "author A <a> 0\ncommitter A <a> 7 +0000\n",
  tree_spelled,
  (codes "1111111111111111111111111111111111111111", codes "author A <a> 0\ncommitter A <a> 7 +0000\n", root_spelled, (refl, other_head 97 112 (codes "uthor ") (codes "arent ") refl), refl),
  child_time,
  refl,
)

-- a text that breaks off behind its parents names them, and has the time 0
abbrev broken_off : Objects
broken_off i = Some (record { kind = codes "commit"; bytes = codes "tree abababababababababababababababababababab\nparent 1111111111111111111111111111111111111111\n" })

broken_is_text : IsText broken_off (row child (root ∷ []) (pos 0))
broken_is_text = (
  codes "abababababababababababababababababababab",
  codes "parent 1111111111111111111111111111111111111111\n",
  [],
  tree_spelled,
  (codes "1111111111111111111111111111111111111111", [], root_spelled, (refl, λ e. cc), refl),
  unsigned (λ signature c s. let none : [] ≡ codes "author " ++ s.0 ++ 10 ∷ (codes "committer " ++ signature ++ 10 ∷ s.1) = s.4 in cc),
  refl,
)

pub newest_of_records : {E : Type 0} (e : E) → Promises e (codes "newest" ∷ codes "2222222222222222222222222222222222222222" ∷ []) (λ objects rows. AreFed (Some input) objects × (rows ≡ [])) (Some []) (Ok tt) (Some both_lines)
newest_of_records e = (
  read_in,
  [],
  (fed, refl),
  ((λ i j d l m. absurd (omega (arith, m))), λ r c n. absurd (no_member r c)),
  newest_served read_in [] (pos 7) (pos 5) (inl child_is_text) (inl root_is_text),
)

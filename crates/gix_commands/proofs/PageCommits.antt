-- What is stored as a whole commit is a commit of the statement, and what is stored is one history.
use Rattle.std.proofs.Common.{◌≡◌, ◌≢◌, ◌++◌, ℕ, ℤ, pos, List, [], ◌∷◌, take, Option, Some, None, All, Contains, codes, refl, sym, ap, subst, ◌∙◌, inl, inr, ⊎_elim, arith}
use Rattle.gix_commands.proofs.Common.{get, none-some, All-contains, Contains-get_or, ObjectId, kind_of, Commit, seconds_of, Object, Objects, kind_word, commit_at, commit_of_object, time_of, time_in, next_in, text_next, no_member}
use Rattle.gix_commands.proofs.Common.{parents_of, ReadsWhole, commit_stored, whole_from, Contains-here, reach_more, Contains-cons_cases, AreWhole, Spells, digits_in}
use Rattle.gix_object.specs.declared.Kind.TheVariants as kind
use Rattle.gix_object.proofs.Commits.Texts.{reads_texts}
use Rattle.gix_statement.proofs.OneCommit.{drop_word, line_same, one_commit, signed_same}
use Rattle.gix_statement.specs.WholeStatement as page
use Rattle.gix_statement.specs.WholeStatement.{Agree, IsHistory, IsText, IsThere, Reaches, Row}
use Rattle.gix_commands.specs.Pages.{page_objects}
use Rattle.gix_commands.proofs.TextLines as named
use Rattle.gix_commands.proofs.TextLines.{IsTime, unsigned, positive, negative}
use Rattle.gix_commands.proofs.SameNumbers.{width_of}
use Rattle.gix_commands.proofs.SameCommits.{IsTextOf, commit_text, commit_text_back, held, held_back, is_time, signed_rest}
use Rattle.gix_commands.proofs.SameCommits.{is_commit_kind}
use Rattle.gix_commands.proofs.SameNumbers.{own_width}
use Rattle.gix_commands.proofs.SameOrders.{reaches_back}
use Rattle.gix_commands.proofs.SameTexts.{texts}
use Rattle.gix_commands.proofs.TextNumbers.{by_commits}

-- PARENTS: lines that are followed by no further one
lines_end : (width : ℕ) (ps : List ObjectId) (text rest : List ℕ) → take 7 rest ≢ codes "parent " → named.AreParentLines width ps text rest → page.AreParentLines width ps text rest
lines_end width [] text rest none (same, no_more) = (same, none)
lines_end width (p ∷ ps) text rest none (id, more, spells, are, whole) = (id, more, spells, lines_end width ps more rest none are, whole)

lines_named : (width : ℕ) (ps : List ObjectId) (text rest : List ℕ) → page.AreParentLines width ps text rest → named.AreParentLines width ps text rest
lines_named width [] text rest (same, none) = (same, λ p id more spells e. none (ap (take 7) e))
lines_named width (p ∷ ps) text rest (id, more, spells, are, whole) = (id, more, spells, lines_named width ps more rest are, whole)

-- they are read in one way
parents_same : (width : ℕ) (ps qs : List ObjectId) (text other rest more : List ℕ) → text ≡ other → named.AreParentLines width ps text rest → named.AreParentLines width qs other more → ps ≡ qs
parents_same width [] [] text other rest more e (is, none) (same, none_there) = refl
parents_same width [] (q ∷ qs) text other rest more e (is, none) (id, behind, s, lines, same) = absurd (none q id behind s (sym is ∙ e ∙ same))
parents_same width (p ∷ ps) [] text other rest more e (id, behind, s, lines, same) (is, none) = absurd (none p id behind s (sym is ∙ sym e ∙ same))
parents_same width (p ∷ ps) (q ∷ qs) text other rest more e (id, behind, s, lines, same) (number, after, t, others, is) =
    let cut = drop_word (codes "parent ") (id ++ 10 ∷ behind) (number ++ 10 ∷ after) (sym same ∙ e ∙ is) in
    let l = line_same width id number behind after p q s t cut in
    (λ k. l.0 k ∷ parents_same width ps qs behind after rest more l.1 lines others k)

-- TIMES: those of a signature are those of the lines of author and committer
time_said : (author signature rest : List ℕ) (time : ℤ) → All (λ b. b ≢ 10) author → All (λ b. b ≢ 10) signature → IsTime signature time → page.IsTime (signed_rest author signature rest) time
time_said author signature rest time a s timed = go timed
  where
    signs : page.IsSigned (signed_rest author signature rest) signature
    signs = (author, rest, a, s, refl)

    go : {t : ℤ} → IsTime signature t → page.IsTime (signed_rest author signature rest) t
    go (unsigned none) = page.unsigned (λ other c h. let m = subst (λ x. Contains x 62) (signed_same (signed_rest author signature rest) other signature h signs) c in All-contains (λ b. b ≢ 62) signature 62 none m refl)
    go (positive before text spaces n whole none counts unspaced plus) = page.positive before text spaces n (subst (page.IsSigned (signed_rest author signature rest)) whole signs) none counts unspaced plus
    go (negative before text spaces n whole none counts) = page.negative before text spaces n (subst (page.IsSigned (signed_rest author signature rest)) whole signs) none counts

-- without a signature the time is 0
no_time : (rest : List ℕ) (time : ℤ) → ((signature : List ℕ) → page.IsSigned rest signature → ⊥) → page.IsTime rest time → time ≡ pos 0
no_time rest time none (page.unsigned h) = refl
no_time rest time none (page.positive before text spaces n s plain counts unspaced plus) = absurd (none _ s)
no_time rest time none (page.negative before text spaces n s plain counts) = absurd (none _ s)

no_parent_line : (author signature rest : List ℕ) → take 7 (signed_rest author signature rest) ≢ codes "parent "
no_parent_line author signature rest e = let same : ◌≡◌ {A = ℕ} 97 112 = cc in omega (arith, same)

module _ (objects : Objects) where
  -- a commit that is stored
  abbrev pub row_at : ObjectId → Commit → Row
  row_at i c = record { id = i; tree = c.tree; parents = c.parents; time = c.time }

  pub whole_text : (i : ObjectId) (c : Commit) → commit_at objects i ≡ Some c → IsText (page_objects objects) (row_at i c)
  whole_text i c e =
      let at = commit_stored objects i (record { commit = c; stored = e }) in
      let t = (reads_texts (kind_of i) at.0 c).0 at.2 in
      of_text at.0 at.1 t.0 t.2 (commit_text (kind_of i) at.0 c.tree c.parents t.0 t.1)
    where
      of_text : (bytes : List ℕ) → get objects i ≡ Some (record { kind = kind.Commit; bytes = bytes }) → (signature : List ℕ) → c.time ≡ seconds_of signature → IsTextOf c.tree (width_of (kind_of i)) bytes c.parents signature → IsText (page_objects objects) (row_at i c)
      of_text bytes at signature timed (id, lines, author, rest, spells, a, s, are, whole) = (
        id,
        lines,
        signed_rest author signature rest,
        subst (λ w. Spells w id c.tree) (own_width i) spells,
        subst (λ w. page.AreParentLines w c.parents lines (signed_rest author signature rest)) (own_width i) (lines_end (width_of (kind_of i)) c.parents lines (signed_rest author signature rest) (no_parent_line author signature rest) are),
        subst (page.IsTime (signed_rest author signature rest)) (sym timed) (time_said author signature rest (seconds_of signature) a s (is_time signature)),
        held objects i (record { kind = kind.Commit; bytes = bytes }) at ∙ ap (λ bs. Some (record { kind = codes "commit"; bytes = bs })) whole,
      )

  pub agree : Agree (page_objects objects) []
  agree = ((λ i j d l below. absurd (omega (arith, below))), λ r c. absurd (no_member r c))

  -- what a text says is what is read of it
  module _ (r : Row) (text : IsText (page_objects objects) r) where
    abbrev bytes : List ℕ
    bytes = codes "tree " ++ text.0 ++ 10 ∷ text.1

    found : (o : Object) × (get objects r.id ≡ Some o) × (kind_word o.kind ≡ codes "commit") × (o.bytes ≡ bytes)
    found = held_back objects r.id (codes "commit") bytes text.6

    is_stored_so : get objects r.id ≡ Some (record { kind = kind.Commit; bytes = bytes })
    is_stored_so = found.1 ∙ (λ k. Some (record { kind = is_commit_kind found.0.kind found.2 k; bytes = found.3 k }))

    width : digits_in r.id ≡ width_of (kind_of r.id)
    width = sym (own_width r.id)

    parents_said : text_next objects r.id ≡ r.parents
    parents_said = ap (next_in r.id) is_stored_so ∙ ⊎_elim
        (λ h. let l = line_same (width_of (kind_of r.id)) h.1.1 text.0 h.1.2 text.1 h.1.0 r.tree h.1.3 (subst (λ w. Spells w text.0 r.tree) width text.3) (drop_word (codes "tree ") (h.1.1 ++ 10 ∷ h.1.2) (text.0 ++ 10 ∷ text.1) (sym h.1.5)) in
        parents_same (width_of (kind_of r.id)) _ r.parents h.1.2 text.1 h.0 text.2 l.1 h.1.4 (subst (λ w. named.AreParentLines w r.parents text.1 text.2) width (lines_named (digits_in r.id) r.parents text.1 text.2 text.4)))
        (λ n. absurd (n.0 r.parents text.2 (r.tree, text.0, text.1, subst (λ w. Spells w text.0 r.tree) width text.3, subst (λ w. named.AreParentLines w r.parents text.1 text.2) width (lines_named (digits_in r.id) r.parents text.1 text.2 text.4), refl)))
        (texts (kind_of r.id) bytes)

    -- a text with a signature is that of a whole commit
    signed_whole : (signature : List ℕ) → page.IsSigned text.2 signature → (c : Commit) × (commit_at objects r.id ≡ Some c)
    signed_whole signature (author, rest, a, s, is) =
        let are : named.AreParentLines (width_of (kind_of r.id)) r.parents text.1 (signed_rest author signature rest) =
        subst (named.AreParentLines (width_of (kind_of r.id)) r.parents text.1) is (subst (λ w. named.AreParentLines w r.parents text.1 text.2) width (lines_named (digits_in r.id) r.parents text.1 text.2 text.4)) in
        let t = commit_text_back (kind_of r.id) bytes r.parents signature (r.tree, (text.0, text.1, author, rest, subst (λ w. Spells w text.0 r.tree) width text.3, a, s, are, refl)) in
        let c : Commit = record { tree = t.0; parents = r.parents; time = seconds_of signature } in
        (c, ap (commit_of_object r.id) is_stored_so ∙ (reads_texts (kind_of r.id) bytes c).1 signature t.1 refl)

    time_read : time_of objects r.id ≡ r.time
    time_read = go (commit_at objects r.id) refl
      where
        go : (o : Option Commit) → commit_at objects r.id ≡ o → time_of objects r.id ≡ r.time
        go (Some c) e = ap time_in e ∙ (one_commit (page_objects objects) [] agree (row_at r.id c) r refl (inl (whole_text r.id c e)) (inl text)).1
        go None e = ap time_in e ∙ sym (no_time text.2 r.time (λ signature s. let w = signed_whole signature s in none-some w.0 (sym e ∙ w.1)) text.5)

  -- ONE HISTORY: the parents that texts name, and the times of their committers
  pub fed_history : IsHistory (page_objects objects) [] (text_next objects) (time_of objects)
  fed_history r (inl text) = (parents_said r text, time_read r text)
  fed_history r (inr (none, row)) = absurd (no_member r row)

  -- a whole commit is there
  pub whole_there : (i : ObjectId) → ReadsWhole objects i → IsThere (page_objects objects) [] i
  whole_there i w = (row_at i w.commit, refl, inl (whole_text i w.commit w.stored))

  -- where all that ids reach are whole commits, each is there
  module _ (ids : List ObjectId) (whole : AreWhole objects ids) where
    pub reached_there : (tip : ObjectId) → Contains ids tip → (i : ObjectId) → Reaches (text_next objects) (tip ∷ []) i → IsThere (page_objects objects) [] i
    reached_there tip among i r =
        let back = by_commits objects ids whole tip among i (reaches_back (text_next objects) (tip ∷ []) i r) in
        whole_there i (whole_from objects i (whole i (reach_more (parents_of objects) (tip ∷ []) ids (λ j c. ⊎_elim (λ e. subst (Contains ids) e among) (λ n. absurd (no_member j n)) (Contains-cons_cases j tip [] c)) i back)))

    pub all_there : All (IsThere (page_objects objects) []) ids
    all_there k d below = let among = Contains-get_or ids k d below in reached_there _ among _ (page.start (Contains-here _ []))

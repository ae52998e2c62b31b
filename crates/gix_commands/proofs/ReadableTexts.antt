-- What is read of objects has the commits and the trees of the page that the objects have, and no other; and each of its commits has the
-- text of one, as far as it is asked for.
use Rattle.std.proofs.Common.{◌≡◌, ◌≢◌, ℕ, Bool, true, false, List, [], ◌∷◌, ◌++◌, Option, Some, None, codes, option_map, inl, inr, refl, sym, ap, subst, ◌∙◌}
use Rattle.gix_commands.proofs.Common.{get, no_member, none-some, same_Some, ObjectId, kind_of, Object, Objects, kind_word, scanned, Request}
use Rattle.gix_hash.specs.declared.Kind.{Kind as HashKind}
use Rattle.gix_object.specs.declared.Kind.{Kind}
use Rattle.gix_object.specs.declared.Kind.TheVariants as kind
use Rattle.gix_object.specs.declared.decode.Error.{Error as DecodeError}
use Rattle.gix_object.specs.CommitItems.{commit_items}
use Rattle.gix_revwalk.specs.declared.Parents.TheVariants as mode
use Rattle.gix_statement.specs.WholeStatement as page
use Rattle.gix_statement.specs.WholeStatement.{Entry, IsText, IsThere, IsTree, Row, text_in}
use Rattle.gix_commands.specs.Pages.{AreCommits, HaveTexts, as_page, page_objects}
use Rattle.gix_commands.specs.Readable.{is_faultless, is_text, or_zero, readable, readable_bytes, readable_object, reads_all_lines}
use Rattle.gix_commands.proofs.PageTexts.{text_there}
use Rattle.gix_commands.proofs.ReadableObjects.{get-readable}
use Rattle.gix_commands.proofs.SameCommits.{held_back}
use Rattle.gix_commands.proofs.SameCommits.{is_commit_kind}

-- an object of a kind, as it was, and what is read of it
record IsReadOf (all_lines : Bool) (objects : Objects) (i : ObjectId) (word bytes : List ℕ) : Type 0 where
  object : Object
  stored : get objects i ≡ Some object
  is_kind : kind_word object.kind ≡ word
  are_bytes : readable_bytes all_lines i object.kind object.bytes ≡ bytes

module _ (all_lines : Bool) (objects : Objects) where
  abbrev seen : Objects
  seen = readable all_lines objects

  -- what the page has of what is read
  found : (i : ObjectId) (word bytes : List ℕ) → page_objects seen i ≡ Some (record { kind = word; bytes = bytes }) → IsReadOf all_lines objects i word bytes
  found i word bytes e = go (get objects i) refl (sym (ap (option_map as_page) (get-readable all_lines objects i)) ∙ e)
    where
      go : (o : Option Object) → get objects i ≡ o → option_map as_page (option_map (readable_object all_lines i) o) ≡ Some (record { kind = word; bytes = bytes }) → IsReadOf all_lines objects i word bytes
      go None at e = absurd (none-some _ e)
      go (Some o) at e =
          let same : as_page (readable_object all_lines i o) ≡ record { kind = word; bytes = bytes } = same_Some _ _ e in
          record { object = o; stored = at; is_kind = ap (λ (x : page.Object). x.kind) same; are_bytes = ap (λ (x : page.Object). x.bytes) same }

  -- it was so, where the bytes weren't changed
  kept : (i : ObjectId) (word bytes : List ℕ) (r : IsReadOf all_lines objects i word bytes) → r.object.bytes ≡ bytes → page_objects objects i ≡ Some (record { kind = word; bytes = bytes })
  kept i word bytes r same = ap (option_map as_page) r.stored ∙ (λ k. Some (record { kind = r.is_kind k; bytes = same k }))

  -- bytes that don't begin with a byte 0 weren't
  unchanged : (i : ObjectId) (k : Kind) (b : ℕ) (text bytes : List ℕ) → b ≢ 0 → readable_bytes all_lines i k text ≡ b ∷ bytes → text ≡ b ∷ bytes
  unchanged i kind.Commit b text bytes other e = go (is_text all_lines (kind_of i) text) e
    where
      go : (t : Bool) → or_zero t text ≡ b ∷ bytes → text ≡ b ∷ bytes
      go true e = e
      go false e = let zero_first : 0 ≡ b = cc in absurd (other (sym zero_first))
  unchanged i kind.Tree b text bytes other e = e
  unchanged i kind.Blob b text bytes other e = e
  unchanged i kind.Tag b text bytes other e = e

  pub text_kept : (r : Row) → IsText (page_objects seen) r → IsText (page_objects objects) r
  text_kept r (id, lines, rest, spells, parents, time, is) =
      let o = found r.id (codes "commit") (codes "tree " ++ id ++ 10 ∷ lines) is in
      (id, lines, rest, spells, parents, time, kept r.id (codes "commit") (codes "tree " ++ id ++ 10 ∷ lines) o (unchanged r.id o.object.kind 116 o.object.bytes _ (λ e. let no : ◌≡◌ {A = ℕ} 116 0 = e in cc) o.are_bytes))

  -- a commit that is there by its text has the text that it had
  pub bytes_kept : (i : ObjectId) → IsThere (page_objects seen) [] i → IsThere (page_objects objects) [] i × (text_in (page_objects seen i) ≡ text_in (page_objects objects i))
  unfolding text_kept
  bytes_kept i (r, is, inr (none, row)) = absurd (no_member r row)
  bytes_kept i (r, is, inl text) =
      let before = text_kept r text in
      let seen_so = text.6 in
      let stored_so = before.6 in
      ((r, is, inl before), subst (λ j. text_in (page_objects seen j) ≡ text_in (page_objects objects j)) is (ap text_in (seen_so ∙ sym stored_so)))

  tree_bytes : (i : ObjectId) (k : Kind) (text : List ℕ) → kind_word k ≡ codes "tree" → readable_bytes all_lines i k text ≡ text
  tree_bytes i kind.Commit text e = cc
  tree_bytes i kind.Tree text e = refl
  tree_bytes i kind.Blob text e = cc
  tree_bytes i kind.Tag text e = cc

  pub tree_kept : (i : ObjectId) (entries : List Entry) → IsTree (page_objects seen) i entries → IsTree (page_objects objects) i entries
  tree_kept i entries (text, is, are) =
      let o = found i (codes "tree") text is in
      (text, kept i (codes "tree") text o (sym (tree_bytes i o.object.kind o.object.bytes o.is_kind) ∙ o.are_bytes), are)

  -- no commit is empty
  not_empty : (i : ObjectId) → page_objects seen i ≢ Some (record { kind = codes "commit"; bytes = [] })
  not_empty i e = let o = found i (codes "commit") [] e in go o.object.kind o.is_kind o.object.bytes o.are_bytes
    where
      zero_or_text : (t : Bool) (text : List ℕ) → is_text all_lines (kind_of i) text ≡ t → or_zero t text ≡ [] → ⊥
      zero_or_text false text s e = cc
      zero_or_text true [] s e = cc
      zero_or_text true (b ∷ bs) s e = cc

      go : (k : Kind) → kind_word k ≡ codes "commit" → (text : List ℕ) → readable_bytes all_lines i k text ≡ [] → ⊥
      go kind.Commit w text e = zero_or_text (is_text all_lines (kind_of i) text) text refl e
      go kind.Tree w text e = cc
      go kind.Blob w text e = cc
      go kind.Tag w text e = cc

-- the byte 0 is the text of no commit
zero_fails : (k : HashKind) → (scanned mode.First (commit_items k (0 ∷ []))).1 ≢ None
zero_fails k e = cc

faultless : (o : Option DecodeError) → is_faultless o ≡ true → o ≡ None
faultless None e = refl
faultless (Some why) e = cc

-- where all lines are asked for, a commit of which the first parent is read has the text of one
module _ (objects : Objects) (i : ObjectId) (bytes : List ℕ) (at : page_objects (readable true objects) i ≡ Some (record { kind = codes "commit"; bytes = bytes })) (first : (scanned mode.First (commit_items (kind_of i) bytes)).1 ≡ None) where
  read : (text : List ℕ) (t : Bool) → is_text true (kind_of i) text ≡ t → or_zero t text ≡ bytes → (bytes ≢ []) × ((scanned mode.All (commit_items (kind_of i) bytes)).1 ≡ None)
  read text false s e = absurd (zero_fails (kind_of i) (subst (λ bs. (scanned mode.First (commit_items (kind_of i) bs)).1 ≡ None) (sym e) first))
  read [] true s e = cc
  read (b ∷ bs) true s e = ((λ n. let no : b ∷ bs ≡ [] = e ∙ n in cc), subst (λ those. (scanned mode.All (commit_items (kind_of i) those)).1 ≡ None) e (faultless _ s))

  read_kind : (k : Kind) (text : List ℕ) → kind_word k ≡ codes "commit" → readable_bytes true i k text ≡ bytes → (bytes ≢ []) × ((scanned mode.All (commit_items (kind_of i) bytes)).1 ≡ None)
  read_kind kind.Commit text w e = read text (is_text true (kind_of i) text) refl e
  read_kind kind.Tree text w e = cc
  read_kind kind.Blob text w e = cc
  read_kind kind.Tag text w e = cc

  -- it is stored so
  stored_so : get (readable true objects) i ≡ Some (record { kind = kind.Commit; bytes = bytes })
  stored_so =
      let h = held_back (readable true objects) i (codes "commit") bytes at in
      h.1 ∙ (λ k. Some (record { kind = is_commit_kind h.0.kind h.2 k; bytes = h.3 k }))

  is_there : IsThere (page_objects (readable true objects)) [] i
  is_there =
      let o = found true objects i (codes "commit") bytes at in
      let r = read_kind o.object.kind o.object.bytes o.is_kind o.are_bytes in
      text_there (readable true objects) i bytes r.0 stored_so r.1

pub have_texts : (request : Request) (objects : Objects) → HaveTexts request (page_objects (readable (reads_all_lines request) objects))
have_texts request objects = (
  not_empty (reads_all_lines request) objects,
  λ by shown tips hidden is. subst (λ asked. AreCommits (page_objects (readable (reads_all_lines asked) objects))) (sym is) (λ i bytes at first. is_there objects i bytes at first),
)

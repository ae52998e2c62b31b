-- A text that isn't empty and that is read without a fault up to its parents is that of a commit of the statement.
use Rattle.std.proofs.Common.{◌≡◌, ◌≢◌, ◌≤◌, ℕ, zero, suc, List, [], ◌∷◌, ◌++◌, length, take, Option, Some, None, Result, Ok, Err, Contains, codes, refl, sym, ap, subst, ◌∙◌, inl, arith, length-append}
use Rattle.gix_commands.proofs.Common.{get, Contains-here, Contains-there, ObjectId, kind_of, Objects, scanned, Spells}
use Rattle.gix_hash.specs.declared.Kind.{Kind}
use Rattle.gix_object.specs.declared.Kind.TheVariants as kind
use Rattle.gix_object.specs.declared.decode.Error.{Error as DecodeError}
use Rattle.gix_object.specs.CommitItems.{Item, Tree, Parent, Author, Committer, Rest, AtTree, AtParents, Front, Ended, after_word, author_front, text_line_at, tree_front, parent_front, front, unfolded, items_within, items_from, commit_items}
use Rattle.gix_object.proofs.Commits.Items.{Stands, ended, faulty, tree, parent, author, stands, items_from-step}
use Rattle.gix_revwalk.specs.declared.Parents.TheVariants as mode
use Rattle.std.proofs.Math.ListN.{get_or}
use Rattle.gix_statement.proofs.HaveHistory.{a_time}
use Rattle.gix_statement.specs.WholeStatement.{AreParentLines, IsText, IsThere, Row}
use Rattle.gix_commands.specs.Pages.{page_objects}
use Rattle.gix_commands.proofs.SameCommits.{held}
use Rattle.gix_commands.proofs.SameNumbers.{own_width}
use Rattle.gix_commands.proofs.SameNumbers.{spelled, width_of}

-- a text that isn't empty has something at its front
parents_begin : (k : Kind) (bytes : List ℕ) (word : Option (List ℕ)) (o : Option (ObjectId × List ℕ)) → parent_front k bytes word o ≢ Ended
parents_begin k bytes None o e = lines (text_line_at (after_word (codes "author ") bytes)) e
  where
    lines : (found : Option (List ℕ × List ℕ)) → author_front found ≢ Ended
    lines None e = cc
    lines (Some r) e = cc
parents_begin k bytes (Some rest) None e = cc
parents_begin k bytes (Some rest) (Some r) e = cc

tree_begins : (o : Option (ObjectId × List ℕ)) → tree_front o ≢ Ended
tree_begins None e = cc
tree_begins (Some r) e = cc

-- the parents that are read from a place behind the tree on, and what is behind them
abbrev scan_of : ℕ → Kind → List ℕ → List ObjectId × Option DecodeError
scan_of n k bytes = scanned mode.All (items_within n k AtParents bytes)

parents_read : (n : ℕ) (k : Kind) (bytes : List ℕ) → length bytes ≤ n → (scan_of n k bytes).1 ≡ None → (rest : List ℕ) × AreParentLines (width_of k) (scan_of n k bytes).0 bytes rest
parents_read zero k [] l e = ([], (refl, λ s. cc))
parents_read zero k (b ∷ bs) l e = absurd (omega (arith, l))
parents_read (suc n) k [] l e = ([], (refl, λ s. cc))
parents_read (suc n) k (b ∷ bs) l e = go (parents_read n k) refl (stands k AtParents (b ∷ bs)) e
  where
    go : ((rest : List ℕ) → length rest ≤ n → (scan_of n k rest).1 ≡ None → (behind : List ℕ) × AreParentLines (width_of k) (scan_of n k rest).0 rest behind) → {f : Front} → front k AtParents (b ∷ bs) ≡ f → Stands k (b ∷ bs) AtParents f
        → (scanned mode.All (unfolded f (items_within n k))).1 ≡ None → (rest : List ℕ) × AreParentLines (width_of k) (scanned mode.All (unfolded f (items_within n k))).0 (b ∷ bs) rest
    go more is ended e = absurd (parents_begin k (b ∷ bs) _ _ is)
    go more is (faulty {e = why}) e = cc
    go more is (author {line = line} {rest = rest} found) e = (b ∷ bs, (refl, λ s. let h : ◌≡◌ {A = ℕ} 97 112 = ap (λ xs. get_or xs 0 0) (sym (ap (take 7) found.whole) ∙ s) in omega (arith, h)))
    go more is (parent {i = p} {rest = rest} found) e =
        let less : length rest ≤ n = omega (arith, l, ap length found.whole, length-append (codes "parent ") (found.digits ++ 10 ∷ rest), length-append found.digits (10 ∷ rest)) in
        let h = more rest less e in
        (h.0, (found.digits, rest, (spelled k found.digits p found.spells).0, h.1, found.whole))

module _ (objects : Objects) (i : ObjectId) (bytes : List ℕ) (some : bytes ≢ []) (at : get objects i ≡ Some (record { kind = kind.Commit; bytes = bytes })) where
  -- it is there
  pub text_there : (scanned mode.All (commit_items (kind_of i) bytes)).1 ≡ None → IsThere (page_objects objects) [] i
  text_there e = go refl (stands (kind_of i) AtTree bytes) (ap (λ items. (scanned mode.All items).1) (sym (items_from-step (kind_of i) AtTree bytes)) ∙ e)
    where
      not_ended : (text : List ℕ) → text ≢ [] → front (kind_of i) AtTree text ≢ Ended
      not_ended [] other s = other refl
      not_ended (b ∷ bs) other s = tree_begins _ s

      go : {f : Front} → front (kind_of i) AtTree bytes ≡ f → Stands (kind_of i) bytes AtTree f → (scanned mode.All (unfolded f (items_from (kind_of i)))).1 ≡ None → IsThere (page_objects objects) [] i
      go is ended e = absurd (not_ended bytes some is)
      go is (faulty {e = why}) e = cc
      go is (tree {i = t} {rest = rest} found) e =
          let h = parents_read (length rest) (kind_of i) rest (omega arith) e in
          let when = a_time h.0 in
          let row : Row = record { id = i; tree = t; parents = (scanned mode.All (items_from (kind_of i) AtParents rest)).0; time = when.0 } in
          let text : IsText (page_objects objects) row = (
            found.digits,
            rest,
            h.0,
            subst (λ w. Spells w found.digits t) (own_width i) (spelled (kind_of i) found.digits t found.spells).0,
            subst (λ w. AreParentLines w row.parents rest h.0) (own_width i) h.1,
            when.1,
            held objects i (record { kind = kind.Commit; bytes = bytes }) at ∙ ap (λ bs. Some (record { kind = codes "commit"; bytes = bs })) found.whole,
          )
          in
          (row, refl, inl text)

-- a text without a fault is read without one up to its parents
pub scan_faultless : (items : List (Result Item DecodeError)) → ((e : DecodeError) → Contains items (Err e) → ⊥) → (scanned mode.All items).1 ≡ None
scan_faultless [] none = refl
scan_faultless (Err e ∷ items) none = absurd (none e (Contains-here (Err e) items))
scan_faultless (Ok (Tree i) ∷ items) none = scan_faultless items (λ e c. none e (Contains-there (Err e) (Ok (Tree i)) items c))
scan_faultless (Ok (Parent i) ∷ items) none = scan_faultless items (λ e c. none e (Contains-there (Err e) (Ok (Parent i)) items c))
scan_faultless (Ok (Author line) ∷ items) none = refl
scan_faultless (Ok (Committer signature) ∷ items) none = refl
scan_faultless (Ok (Rest bytes) ∷ items) none = refl

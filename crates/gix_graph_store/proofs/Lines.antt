-- The lines of a text, written one after the other.
use Rattle.std.proofs.Common.{◌≡◌, ℕ, List, [], ◌∷◌, ◌++◌, Option, Some, None, Ok, Err, codes, refl, sym, ap, ◌∙◌, append_assoc, append-nil, slice_get, option_map}
use Rattle.gix_hash.specs.declared.ObjectId.{ObjectId}
use Rattle.gix_commitgraph.specs.declared.Position.{Position}
use Rattle.gix_commitgraph.specs.declared.ParentFault.{ParentFault}
use Rattle.gix_commitgraph.specs.Rows.{GraphRow, row_of}
use Rattle.gix_commitgraph.specs.Parents.{Answer}
use Rattle.gix_revwalk.specs.RowParents.{with_id, ids_at}
use Rattle.gix_revwalk.proofs.Rows.{answered_ids}
use Rattle.gix_graph_store.specs.RowText.{id_line, parent_lines, people_lines, commit_text, text_of_row, text_at}

-- the lines of parents behind others
abbrev pub behind_lines : List ℕ → Option (List ObjectId) → Option (List ℕ)
behind_lines text ids = option_map (λ ids. text ++ parent_lines ids) ids

one_more : (text : List ℕ) (row : GraphRow) (o : Option (List ObjectId)) → behind_lines (text ++ id_line (codes "parent ") row.id) o ≡ behind_lines text (with_id (Some row) o)
one_more text row None = refl
one_more text row (Some ids) = ap Some (append_assoc text (id_line (codes "parent ") row.id) (parent_lines ids))

module _ (rows : List GraphRow) (text : List ℕ) (places : List Answer) {whole : Option (List ℕ)} (invariant : behind_lines text (answered_ids rows places) ≡ whole) where
  -- one more parent
  pub lines_on : (more : List ℕ) (i : ObjectId) (row : GraphRow) (rest : List Answer) (place : Answer) (position : Position) → places ≡ place ∷ rest → place ≡ Ok position → slice_get rows position.0 ≡ Some row → i ≡ row.id
      → more ≡ text ++ id_line (codes "parent ") i → behind_lines more (answered_ids rows rest) ≡ whole
  lines_on more i row rest place position front is there same written =
      ap (λ xs. behind_lines xs (answered_ids rows rest)) (written ∙ ap (λ j. text ++ id_line (codes "parent ") j) same) ∙ one_more text row (answered_ids rows rest)
      ∙ ap (λ o. behind_lines text (with_id o (answered_ids rows rest))) (sym there) ∙ ap (λ p. behind_lines text (answered_ids rows (p ∷ rest))) (sym is) ∙ ap (λ ps. behind_lines text (answered_ids rows ps)) (sym front) ∙ invariant

  pub lines_fault : (rest : List Answer) (place : Answer) (fault : ParentFault) → places ≡ place ∷ rest → place ≡ Err fault → None ≡ whole
  lines_fault rest place fault front is = ap (λ p. behind_lines text (answered_ids rows (p ∷ rest))) (sym is) ∙ ap (λ ps. behind_lines text (answered_ids rows ps)) (sym front) ∙ invariant

  pub lines_end : places ≡ [] → Some text ≡ whole
  lines_end none = ap Some (sym (append-nil text)) ∙ ap (λ ps. behind_lines text (answered_ids rows ps)) (sym none) ∙ invariant

pub people_written : (old first second text front digits written rest : List ℕ) → first ≡ old ++ front → second ≡ first ++ written → written ≡ digits → text ≡ second ++ rest → text ≡ old ++ (front ++ (digits ++ rest))
people_written old first second text front digits written rest a b e c =
    c ∙ ap (λ xs. xs ++ rest) (b ∙ (λ k. a k ++ e k)) ∙ append_assoc (old ++ front) digits rest ∙ append_assoc old front (digits ++ rest)

-- ---- the text of a row

module _ (rows : List GraphRow) (i : ObjectId) (row : GraphRow) (there : Some row ≡ row_of rows i) (front : List ℕ) where
  pub whole-is_text : (held text : List ℕ) → Some held ≡ behind_lines front (ids_at rows row.parents) → front ≡ id_line (codes "tree ") row.tree → text ≡ held ++ people_lines row.time → Some text ≡ text_at rows i
  unfolding commit_text
  whole-is_text held text e tree people = go (ids_at rows row.parents) e ∙ ap (text_of_row rows) there
    where
      go : (o : Option (List ObjectId)) → Some held ≡ behind_lines front o → Some text ≡ option_map (λ ids. commit_text row.tree ids row.time) o
      go None e = cc
      go (Some ids) e =
          let same : held ≡ front ++ parent_lines ids = cc in
          ap Some (people ∙ ap (λ xs. xs ++ people_lines row.time) (same ∙ ap (λ xs. xs ++ parent_lines ids) tree) ∙ append_assoc (id_line (codes "tree ") row.tree) (parent_lines ids) (people_lines row.time))

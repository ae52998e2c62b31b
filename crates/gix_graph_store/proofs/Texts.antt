-- The text that a row writes is read as the commit that the row says.
use Rattle.std.proofs.Common.{◌≡◌, ◌≢◌, ℕ, zero, suc, ◌*◌, List, [], ◌∷◌, ◌++◌, length, codes, Option, Some, None, ℤ, FitsSigned, w64, refl, sym, ap, subst, ◌∙◌, arith, append_assoc, ◌==◌, slice_get, option_map, eq-eqb}
use Rattle.std.specs.List.{AllByRecursion}
use Rattle.std.specs.Fmt.{signed_decimal}
use Rattle.std.proofs.lemmas.Bool.{cond-true}
use Rattle.std.proofs.lemmas.List.Elements.{All-from_recursion}
use Rattle.hex.specs.Hex.{lower_digits}
use Rattle.hex.proofs.HexLemmas.{length-encode_with, decode_of-encode_lower}
use Rattle.gix_hash.specs.declared.Kind.{Kind}
use Rattle.gix_hash.specs.declared.ObjectId.{ObjectId}
use Rattle.gix_hash.specs.declared.ObjectId.TheVariants as id
use Rattle.gix_hash.specs.Id.{id_len, id_of, id_of_decoded, id_of_hex, hex_of, kind_of, bytes_of}
use Rattle.gix_object.specs.CommitText.{IsIdLine, AreParentLines, IsCommitText, read_commit}
use Rattle.gix_object.proofs.Commits.Texts.{reads_texts}
use Rattle.gix_commitgraph.specs.declared.ParentPlace.{ParentPlace}
use Rattle.gix_commitgraph.specs.declared.ParentPlace.TheVariants.{At, Fault}
use Rattle.gix_commitgraph.specs.Rows.{GraphRow, row_of}
use Rattle.gix_commitgraph.specs.Packed.{IsIdOf, IsRowAmong, AreGraphRows, kind_of_rows}
use Rattle.gix_revwalk.specs.Commits.{commit_of_object}
use Rattle.gix_revwalk.specs.RowParents.{with_id, ids_at}
use Rattle.gix_revwalk.proofs.ReadsWhole.{row_stands, place_of}
use Rattle.gix_graph_store.specs.RowText.{id_line, parent_lines, signature_of, commit_text, text_of_row, text_at}
use Rattle.gix_graph_store.specs.WithRows.{commit_object}
use Rattle.gix_graph_store.specs.Laws.{commit_said}
use Rattle.gix_graph_store.proofs.Seconds.{seconds-read, one_line-zone, one_line-signature}

-- ---- ids

own_id : (i : ObjectId) → id_of (kind_of i) (bytes_of i) ≡ i
own_id (id.Sha1 bytes) = refl
own_id (id.Sha256 bytes) = refl

id-read : (k : Kind) (i : ObjectId) → IsIdOf k i → id_of_hex k (hex_of i) ≡ Some i
id-read k i is =
    let long : length (hex_of i) ≡ 2 * id_len k = length-encode_with lower_digits (bytes_of i) ∙ ap (λ n. 2 * n) is.len in
    cond-true (length (hex_of i) == 2 * id_len k) _ _ (eq-eqb (length (hex_of i)) (2 * id_len k) long) ∙ ap (id_of_decoded k) (decode_of-encode_lower (bytes_of i) is.bytes)
    ∙ ap (λ x. Some (id_of x (bytes_of i))) (sym is.kind) ∙ ap Some (own_id i)

id_line-says : (k : Kind) (word : List ℕ) (i : ObjectId) → IsIdOf k i → IsIdLine word k i (id_line word i)
id_line-says k word i is = (hex_of i, id-read k i is, sym (append_assoc word (hex_of i) (10 ∷ [])))

parent_lines-say : (k : Kind) (ids : List ObjectId) → AllByRecursion (IsIdOf k) ids → AreParentLines k ids (parent_lines ids)
parent_lines-say k [] all = refl
parent_lines-say k (i ∷ ids) all = (id_line (codes "parent ") i, parent_lines ids, id_line-says k (codes "parent ") i all.0, parent_lines-say k ids all.1, refl)

-- ---- the whole text

people : (digits : List ℕ) → digits ++ codes " +0000\n\n" ≡ ((digits ++ codes " +0000") ++ 10 ∷ []) ++ 10 ∷ []
people digits = sym (append_assoc (digits ++ codes " +0000") (10 ∷ []) (10 ∷ []) ∙ append_assoc digits (codes " +0000") (10 ∷ 10 ∷ []))

five : (a b c d e : List ℕ) → a ++ (b ++ (c ++ (d ++ e))) ≡ (((a ++ b) ++ c) ++ d) ++ e
five a b c d e = simp append_assoc

text-read : (k : Kind) (tree : ObjectId) (ids : List ObjectId) (time : ℤ) → IsIdOf k tree → AllByRecursion (IsIdOf k) ids → FitsSigned w64 time
    → read_commit k (commit_text tree ids time) ≡ Some (record { tree = tree; parents = ids; time = time })
unfolding commit_text
text-read k tree ids time is_tree are_parents fits =
    (reads_texts k (commit_text tree ids time) (record { tree = tree; parents = ids; time = time })).1 (signature_of time) text (sym (seconds-read time fits))
  where
    text : IsCommitText k (commit_text tree ids time) tree ids (signature_of time)
    text = record {
      tree_line = id_line (codes "tree ") tree;
      parent_lines = parent_lines ids;
      author = codes "<> 0 +0000";
      author_line = codes "author <> 0 +0000\n";
      committer_line = codes "committer " ++ signature_of time ++ 10 ∷ [];
      rest = 10 ∷ [];
      is_tree_line = id_line-says k (codes "tree ") tree is_tree;
      are_parent_lines = parent_lines-say k ids are_parents;
      is_author_line = (All-from_recursion (λ b. b ≢ 10) (codes "<> 0 +0000") (λ e. omega arith, (λ e. omega arith, (λ e. omega arith, (λ e. omega arith, one_line-zone)))), refl);
      is_committer_line = (All-from_recursion (λ b. b ≢ 10) (signature_of time) (one_line-signature time fits), refl);
      whole =
          ap (λ rest. id_line (codes "tree ") tree ++ (parent_lines ids ++ (codes "author <> 0 +0000\ncommitter <> " ++ rest))) (people (signed_decimal time))
          ∙ five (id_line (codes "tree ") tree) (parent_lines ids) (codes "author <> 0 +0000\n") (codes "committer " ++ signature_of time ++ 10 ∷ []) (10 ∷ []);
    }

-- ---- the text of a row

pub element-at : {X : Type 0} (P : X → Type 0) (xs : List X) (n : ℕ) (x : X) → AllByRecursion P xs → slice_get xs n ≡ Some x → P x
element-at P [] n x all e = cc
element-at P (y ∷ xs) zero x all e = let same : y ≡ x = cc in subst P same all.0
element-at P (y ∷ xs) (suc n) x all e = element-at P xs n x all.1 e

-- the ids at places of rows are of the rows' kind
ids-of_kind : (k : Kind) (m : ℕ) (rows : List GraphRow) → AllByRecursion (IsRowAmong k m) rows → (places : List ParentPlace) (ids : List ObjectId) → ids_at rows places ≡ Some ids → AllByRecursion (IsIdOf k) ids
ids-of_kind k m rows each [] ids e = let same : [] ≡ ids = cc in subst (AllByRecursion (IsIdOf k)) same tt
ids-of_kind k m rows each (Fault ∷ places) ids e = cc
ids-of_kind k m rows each (At n ∷ places) ids e = go (slice_get rows n) refl (ids_at rows places) refl (ids-of_kind k m rows each places) e
  where
    go : (o : Option GraphRow) → slice_get rows n ≡ o → (r : Option (List ObjectId)) → ids_at rows places ≡ r → ((those : List ObjectId) → ids_at rows places ≡ Some those → AllByRecursion (IsIdOf k) those) → with_id o r ≡ Some ids → AllByRecursion (IsIdOf k) ids
    go None a r b rest e = cc
    go (Some row) a None b rest e = cc
    go (Some row) a (Some those) b rest e =
        let same : row.id ∷ those ≡ ids = cc in
        let one : IsRowAmong k m row = element-at (IsRowAmong k m) rows n row each a in
        subst (AllByRecursion (IsIdOf k)) same (one.id, rest those b)

module _ (rows : List GraphRow) (graph : AreGraphRows rows) where
  row-read : (row : GraphRow) → IsRowAmong (kind_of_rows rows) (length rows) row → (o : Option (List ObjectId)) → ids_at rows row.parents ≡ o
      → commit_of_object row.id (option_map commit_object (option_map (λ ids. commit_text row.tree ids row.time) o)) ≡ option_map (λ ids. record { tree = row.tree; parents = ids; time = row.time }) o
  row-read row among None e = refl
  row-read row among (Some ids) e =
      ap (λ k. read_commit k (commit_text row.tree ids row.time)) among.id.kind
      ∙ text-read (kind_of_rows rows) row.tree ids row.time among.tree (ids-of_kind (kind_of_rows rows) (length rows) rows graph.each row.parents ids e) among.time

  pub told-read : (i : ObjectId) → commit_of_object i (option_map commit_object (text_at rows i)) ≡ commit_said rows (row_of rows i)
  told-read i = go (row_of rows i) refl
    where
      go : (o : Option GraphRow) → row_of rows i ≡ o → commit_of_object i (option_map commit_object (text_of_row rows o)) ≡ commit_said rows o
      go None e = refl
      go (Some row) e =
          let stands = row_stands rows i row e in
          let at = place_of rows row stands.0 in
          ap (λ j. commit_of_object j (option_map commit_object (text_of_row rows (Some row)))) stands.1
          ∙ row-read row (element-at (IsRowAmong (kind_of_rows rows) (length rows)) rows at.0 row graph.each at.1) (ids_at rows row.parents) refl

-- Reading gives exactly the texts of commits.
use Rattle.std.proofs.Common.{ℕ, suc, zero, ◌≡◌, ◌≢◌, ◌++◌, List, [], ◌∷◌, length, codes, Some, refl, sym, ap, subst, ◌∙◌, append_assoc, append-nil}
use Rattle.std.specs.List.{AllByRecursion}
use Rattle.std.proofs.lemmas.List.Elements.{All-from_recursion, recursion_from_All}
use Rattle.gix_hash.specs.declared.Kind.{Kind}
use Rattle.gix_hash.specs.declared.ObjectId.{ObjectId}
use Rattle.gix_object.specs.CommitItems.{AtTree, AtParents, AtCommitter, Front, tree_front, author_front, committer_front, parent_front, unfolded, items_within, items_from}
use Rattle.gix_object.specs.CommitText.{AreParentLines, IsCommitText, seconds_of, Commit, commit_of, commit_of_items, read_commit, ReadsTexts}
use Rattle.gix_object.proofs.Commits.Lines.{line_at-append, id_line_at-append}
use Rattle.gix_object.proofs.Commits.Items.{Stands, ended, faulty, tree, parent, author, committer, stands, items_from-step}

-- a line in front
one_more : (word content lines tail : List ℕ) → (word ++ content ++ 10 ∷ []) ++ lines ++ tail ≡ word ++ (content ++ 10 ∷ (lines ++ tail))
one_more word content lines tail = simp append_assoc

-- the parts of a commit's text, grouped from the left and from the right
five : (a digits lines b line c signature rest : List ℕ) → (a ++ digits ++ 10 ∷ []) ++ lines ++ (b ++ line ++ 10 ∷ []) ++ (c ++ signature ++ 10 ∷ []) ++ rest ≡ a ++ (digits ++ 10 ∷ (lines ++ (b ++ (line ++ 10 ∷ (c ++ (signature ++ 10 ∷ rest))))))
five a digits lines b line c signature rest = simp append_assoc

-- a commit, read from the bytes at the committer's place
record ReadsCommitter (tree : ObjectId) (parents : List ObjectId) (bytes : List ℕ) (c : Commit) : Type 0 where
  signature : List ℕ
  rest : List ℕ
  one_line : AllByRecursion (λ b. b ≢ 10) signature
  whole : bytes ≡ codes "committer " ++ (signature ++ 10 ∷ rest)
  same : ◌≡◌ {A = Commit} (record { tree = tree; parents = parents; time = seconds_of signature }) c

reads_committer : (n : ℕ) (k : Kind) (i : ObjectId) (ps : List ObjectId) (bytes : List ℕ) (c : Commit) → commit_of i ps (items_within n k AtCommitter bytes) ≡ Some c → ReadsCommitter i ps bytes c
reads_committer zero k i ps bytes c e = cc
reads_committer (suc n) k i ps bytes c e = go (stands k AtCommitter bytes) e
  where
    go : {f : Front} → Stands k bytes AtCommitter f → commit_of i ps (unfolded f (items_within n k)) ≡ Some c → ReadsCommitter i ps bytes c
    go ended e = cc
    go faulty e = cc
    go (committer {line = line} {rest = rest} found) e = record { signature = line; rest = rest; one_line = found.one_line; whole = found.whole; same = cc }

-- the same from the parents' place on
record ReadsParents (k : Kind) (tree : ObjectId) (parents : List ObjectId) (bytes : List ℕ) (c : Commit) : Type 0 where
  left : List ObjectId
  lines : List ℕ
  line : List ℕ
  behind : List ℕ
  are_lines : AreParentLines k left lines
  one_line : AllByRecursion (λ b. b ≢ 10) line
  whole : bytes ≡ lines ++ (codes "author " ++ (line ++ 10 ∷ behind))
  rest : ReadsCommitter tree (parents ++ left) behind c

reads_parents : (n : ℕ) (k : Kind) (i : ObjectId) (ps : List ObjectId) (bytes : List ℕ) (c : Commit) → commit_of i ps (items_within n k AtParents bytes) ≡ Some c → ReadsParents k i ps bytes c
reads_parents zero k i ps bytes c e = cc
reads_parents (suc n) k i ps bytes c e = go (λ qs rest. reads_parents n k i qs rest c) (stands k AtParents bytes) e
  where
    go : ((qs : List ObjectId) (rest : List ℕ) → commit_of i qs (items_within n k AtParents rest) ≡ Some c → ReadsParents k i qs rest c) → {f : Front} → Stands k bytes AtParents f → commit_of i ps (unfolded f (items_within n k)) ≡ Some c → ReadsParents k i ps bytes c
    go more ended e = cc
    go more faulty e = cc
    go more (parent {i = p} {rest = rest} found) e =
        let h : ReadsParents k i (ps ++ p ∷ []) rest c = more (ps ++ p ∷ []) rest e in
        let line : List ℕ = codes "parent " ++ found.digits ++ 10 ∷ [] in
        let tail : List ℕ = codes "author " ++ (h.line ++ 10 ∷ h.behind) in
        record {
          left = p ∷ h.left;
          lines = line ++ h.lines;
          line = h.line;
          behind = h.behind;
          are_lines = (line, h.lines, (found.digits, found.spells, refl), h.are_lines, refl);
          one_line = h.one_line;
          whole = found.whole ∙ ap (λ x. codes "parent " ++ (found.digits ++ 10 ∷ x)) h.whole ∙ sym (one_more (codes "parent ") found.digits h.lines tail);
          rest = subst (λ x. ReadsCommitter i x h.behind c) (append_assoc ps (p ∷ []) h.left) h.rest;
        }
    go more (author {line = line} {rest = rest} found) e =
        record {
          left = [];
          lines = [];
          line = line;
          behind = rest;
          are_lines = refl;
          one_line = found.one_line;
          whole = found.whole;
          rest = subst (λ x. ReadsCommitter i x rest c) (sym (append-nil ps)) (reads_committer n k i ps rest c e);
        }

-- what is read is the text of a commit
text_read : (n : ℕ) (k : Kind) (bytes : List ℕ) (c : Commit) → commit_of_items (items_within n k AtTree bytes) ≡ Some c → (signature : List ℕ) × IsCommitText k bytes c.tree c.parents signature × (c.time ≡ seconds_of signature)
text_read zero k bytes c e = cc
text_read (suc n) k bytes c e = go (stands k AtTree bytes) e
  where
    go : {f : Front} → Stands k bytes AtTree f → commit_of_items (unfolded f (items_within n k)) ≡ Some c → (signature : List ℕ) × IsCommitText k bytes c.tree c.parents signature × (c.time ≡ seconds_of signature)
    go ended e = cc
    go faulty e = cc
    go (tree {i = i} {rest = rest} found) e =
        let h : ReadsParents k i [] rest c = reads_parents n k i [] rest c e in
        let end : ReadsCommitter i h.left h.behind c = h.rest in (
          end.signature,
          record {
            tree_line = codes "tree " ++ found.digits ++ 10 ∷ [];
            parent_lines = h.lines;
            author = h.line;
            author_line = codes "author " ++ h.line ++ 10 ∷ [];
            committer_line = codes "committer " ++ end.signature ++ 10 ∷ [];
            rest = end.rest;
            is_tree_line = (found.digits, found.spells ∙ ap (λ (x : Commit). Some x.tree) end.same, refl);
            are_parent_lines = subst (λ ps. AreParentLines k ps h.lines) (ap (λ (x : Commit). x.parents) end.same) h.are_lines;
            is_author_line = (All-from_recursion (λ b. b ≢ 10) h.line h.one_line, refl);
            is_committer_line = (All-from_recursion (λ b. b ≢ 10) end.signature end.one_line, refl);
            whole =
                found.whole
                ∙ ap (λ x. codes "tree " ++ (found.digits ++ 10 ∷ x)) (h.whole ∙ ap (λ x. h.lines ++ (codes "author " ++ (h.line ++ 10 ∷ x))) end.whole)
                ∙ sym (five (codes "tree ") found.digits h.lines (codes "author ") h.line (codes "committer ") end.signature end.rest);
          },
          ap (λ (x : Commit). x.time) (sym end.same),
        )

-- the text of a commit is read
read_committer : (k : Kind) (i : ObjectId) (ps : List ObjectId) (signature rest : List ℕ) → AllByRecursion (λ b. b ≢ 10) signature → commit_of i ps (items_from k AtCommitter (codes "committer " ++ (signature ++ 10 ∷ rest))) ≡ Some (record { tree = i; parents = ps; time = seconds_of signature })
read_committer k i ps signature rest h =
    ap (commit_of i ps) (items_from-step k AtCommitter (codes "committer " ++ (signature ++ 10 ∷ rest)))
    ∙ ap (λ o. commit_of i ps (unfolded (committer_front o) (items_from k))) (line_at-append signature rest h)

read_parents : (k : Kind) (i : ObjectId) (ps qs : List ObjectId) (lines line signature rest : List ℕ) → AreParentLines k qs lines → AllByRecursion (λ b. b ≢ 10) line → AllByRecursion (λ b. b ≢ 10) signature → commit_of i ps (items_from k AtParents (lines ++ (codes "author " ++ (line ++ 10 ∷ (codes "committer " ++ (signature ++ 10 ∷ rest)))))) ≡ Some (record { tree = i; parents = ps ++ qs; time = seconds_of signature })
read_parents k i ps [] lines line signature rest are one h =
    let tail : List ℕ = codes "committer " ++ (signature ++ 10 ∷ rest) in
    let all : List ℕ = codes "author " ++ (line ++ 10 ∷ tail) in
    ap (λ x. commit_of i ps (items_from k AtParents (x ++ all))) are
    ∙ ap (commit_of i ps) (items_from-step k AtParents all)
    ∙ ap (λ o. commit_of i ps (unfolded (author_front o) (items_from k))) (line_at-append line tail one)
    ∙ read_committer k i ps signature rest h
    ∙ ap (λ x. Some (record { tree = i; parents = x; time = seconds_of signature })) (sym (append-nil ps))
read_parents k i ps (q ∷ qs) lines line signature rest are one h =
    let tail : List ℕ = codes "author " ++ (line ++ 10 ∷ (codes "committer " ++ (signature ++ 10 ∷ rest))) in
    let digits : List ℕ = are.2.0 in
    let behind : List ℕ = are.1 ++ tail in
    let all : List ℕ = codes "parent " ++ (digits ++ 10 ∷ behind) in
    let whole : lines ++ tail ≡ all = ap (λ x. x ++ tail) (are.4 ∙ ap (λ x. x ++ are.1) are.2.2) ∙ one_more (codes "parent ") digits are.1 tail in
    ap (λ x. commit_of i ps (items_from k AtParents x)) whole
    ∙ ap (commit_of i ps) (items_from-step k AtParents all)
    ∙ ap (λ o. commit_of i ps (unfolded (parent_front k all (Some (digits ++ 10 ∷ behind)) o) (items_from k))) (id_line_at-append k digits behind q are.2.1)
    ∙ read_parents k i (ps ++ q ∷ []) qs are.1 line signature rest are.3 one h
    ∙ ap (λ x. Some (record { tree = i; parents = x; time = seconds_of signature })) (append_assoc ps (q ∷ []) qs)

read_text : (k : Kind) (bytes : List ℕ) (c : Commit) (signature : List ℕ) → IsCommitText k bytes c.tree c.parents signature → c.time ≡ seconds_of signature → read_commit k bytes ≡ Some c
read_text k bytes c signature text time =
    let digits : List ℕ = text.is_tree_line.0 in
    let tail : List ℕ = text.parent_lines ++ (codes "author " ++ (text.author ++ 10 ∷ (codes "committer " ++ (signature ++ 10 ∷ text.rest)))) in
    let all : List ℕ = codes "tree " ++ (digits ++ 10 ∷ tail) in
    let whole : bytes ≡ all =
    text.whole
    ∙ ap (λ x. x ++ text.parent_lines ++ text.author_line ++ text.committer_line ++ text.rest) text.is_tree_line.2
    ∙ ap (λ x. (codes "tree " ++ digits ++ 10 ∷ []) ++ text.parent_lines ++ x ++ text.committer_line ++ text.rest) text.is_author_line.1
    ∙ ap (λ x. (codes "tree " ++ digits ++ 10 ∷ []) ++ text.parent_lines ++ (codes "author " ++ text.author ++ 10 ∷ []) ++ x ++ text.rest) text.is_committer_line.1
    ∙ five (codes "tree ") digits text.parent_lines (codes "author ") text.author (codes "committer ") signature text.rest in
    let one : AllByRecursion (λ b. b ≢ 10) text.author = recursion_from_All (λ b. b ≢ 10) text.author text.is_author_line.0 in
    let line : AllByRecursion (λ b. b ≢ 10) signature = recursion_from_All (λ b. b ≢ 10) signature text.is_committer_line.0 in
    ap (λ x. commit_of_items (items_from k AtTree x)) whole
    ∙ ap commit_of_items (items_from-step k AtTree all)
    ∙ ap (λ o. commit_of_items (unfolded (tree_front o) (items_from k))) (id_line_at-append k digits tail c.tree text.is_tree_line.1)
    ∙ read_parents k c.tree [] c.parents text.parent_lines text.author signature text.rest text.are_parent_lines one line
    ∙ ap (λ x. Some (record { tree = c.tree; parents = c.parents; time = x })) (sym time)

pub reads_texts : ReadsTexts
reads_texts k bytes c = (text_read (length bytes) k bytes c, read_text k bytes c)

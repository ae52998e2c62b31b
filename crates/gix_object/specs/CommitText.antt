-- What a commit's bytes say: a tree, parents, and the committer's seconds.
use Rattle.std.specs.Prelude.{◌≡◌, ◌≢◌, ℕ, ℤ, pos, neg_ℤ, ◌+◌, ◌*◌, ◌-◌, ◌^◌, ◌==◌, nat_lt, nat_le, List, [], ◌∷◌, ◌++◌, All, codes, Option, Some, None, Result, Ok, Err, if◌then◌else◌}
use Rattle.std.specs.Char.{is_ascii_digit}
use Rattle.gix_hash.specs.declared.Kind.{Kind}
use Rattle.gix_hash.specs.declared.ObjectId.{ObjectId}
use Rattle.gix_object.specs.declared.decode.Error.{Error}
use Rattle.gix_hash.specs.Id.{id_of_hex}
use Rattle.gix_object.specs.CommitItems.{Item, Tree, Parent, Author, Committer, Rest, commit_items}

-- a line: a word, what it says, and a newline
abbrev pub IsLine : List ℕ → List ℕ → List ℕ → Type 0
IsLine word content line = All (λ b. b ≢ 10) content × (line ≡ word ++ content ++ 10 ∷ [])

-- a line that says an id, in hex digits of either case
abbrev pub IsIdLine : List ℕ → Kind → ObjectId → List ℕ → Type 0
IsIdLine word k i line = (digits : List ℕ) × (id_of_hex k digits ≡ Some i) × (line ≡ word ++ digits ++ 10 ∷ [])

-- one line for each parent, in order
abbrev pub AreParentLines : Kind → List ObjectId → List ℕ → Type 0
AreParentLines k [] lines = lines ≡ []
AreParentLines k (p ∷ ps) lines = (first rest : List ℕ) × IsIdLine (codes "parent ") k p first × AreParentLines k ps rest × (lines ≡ first ++ rest)

-- the text of a commit with this tree, these parents and this signature of its committer
pub record IsCommitText (k : Kind) (bytes : List ℕ) (tree : ObjectId) (parents : List ObjectId) (signature : List ℕ) : Type 0 where
  pub tree_line : List ℕ
  pub parent_lines : List ℕ
  pub author : List ℕ
  pub author_line : List ℕ
  pub committer_line : List ℕ
  pub rest : List ℕ
  pub is_tree_line : IsIdLine (codes "tree ") k tree tree_line
  pub are_parent_lines : AreParentLines k parents parent_lines
  pub is_author_line : IsLine (codes "author ") author author_line
  pub is_committer_line : IsLine (codes "committer ") signature committer_line
  pub whole : bytes ≡ tree_line ++ parent_lines ++ author_line ++ committer_line ++ rest

-- the bytes behind the last `>`, or what was found before where there is no `>`
abbrev pub behind_last : Option (List ℕ) → List ℕ → Option (List ℕ)
behind_last found [] = found
behind_last found (b ∷ bs) = behind_last (if b == 62 then Some bs else found) bs

-- without the spaces at the front
abbrev pub without_spaces : List ℕ → List ℕ
without_spaces [] = []
without_spaces (b ∷ bs) = if b == 32 then without_spaces bs else b ∷ bs

-- the number that the longest run of digits at the front says, behind digits that said n
abbrev pub digits_from : ℕ → List ℕ → ℕ
digits_from n [] = n
digits_from n (b ∷ bs) = if is_ascii_digit b then digits_from (10 * n + (b - 48)) bs else n

-- a number within the range of 64 bits, or else 0
abbrev pub positive_seconds : ℕ → ℤ
positive_seconds n = if nat_lt n (2 ^ 63) then pos n else pos 0

abbrev pub negative_seconds : ℕ → ℤ
negative_seconds n = if nat_le n (2 ^ 63) then neg_ℤ (pos n) else pos 0

abbrev pub signed_seconds : List ℕ → ℤ
signed_seconds [] = pos 0
signed_seconds (b ∷ bs) = if b == 45 then negative_seconds (digits_from 0 bs) else positive_seconds (digits_from 0 (b ∷ bs))

abbrev pub seconds_behind : Option (List ℕ) → ℤ
seconds_behind None = pos 0
seconds_behind (Some bytes) = signed_seconds (without_spaces bytes)

-- the seconds of a signature: behind the last `>` spaces, an optional `-` and digits; 0 where there are none or too many
abbrev pub seconds_of : List ℕ → ℤ
seconds_of signature = seconds_behind (behind_last None signature)

-- what a walk reads of a commit
pub record Commit : Type 0 where
  pub tree : ObjectId
  pub parents : List ObjectId
  pub time : ℤ

-- a commit of items from which a committer was read
abbrev pub commit_of : ObjectId → List ObjectId → List (Result Item Error) → Option Commit
commit_of tree parents [] = None
commit_of tree parents (Err e ∷ items) = None
commit_of tree parents (Ok (Tree i) ∷ items) = None
commit_of tree parents (Ok (Parent i) ∷ items) = commit_of tree (parents ++ i ∷ []) items
commit_of tree parents (Ok (Author line) ∷ items) = commit_of tree parents items
commit_of tree parents (Ok (Committer signature) ∷ items) = Some (record { tree = tree; parents = parents; time = seconds_of signature })
commit_of tree parents (Ok (Rest bytes) ∷ items) = None

abbrev pub commit_of_items : List (Result Item Error) → Option Commit
commit_of_items [] = None
commit_of_items (Err e ∷ items) = None
commit_of_items (Ok (Tree i) ∷ items) = commit_of i [] items
commit_of_items (Ok (Parent i) ∷ items) = None
commit_of_items (Ok (Author line) ∷ items) = None
commit_of_items (Ok (Committer signature) ∷ items) = None
commit_of_items (Ok (Rest bytes) ∷ items) = None

-- the commit that the bytes are the text of
abbrev pub read_commit : Kind → List ℕ → Option Commit
read_commit k bytes = commit_of_items (commit_items k bytes)

-- reading gives exactly the texts of commits
abbrev pub ReadsTexts : Type 0
ReadsTexts = (k : Kind) (bytes : List ℕ) (c : Commit) →
    (read_commit k bytes ≡ Some c → (signature : List ℕ) × IsCommitText k bytes c.tree c.parents signature × (c.time ≡ seconds_of signature))
    × ((signature : List ℕ) → IsCommitText k bytes c.tree c.parents signature → c.time ≡ seconds_of signature → read_commit k bytes ≡ Some c)

-- What differs, of a row that is sound and doesn't agree with its commit.
use Rattle.std.proofs.Common.{◌≡◌, ◌<◌, ◌-◌, ◌^◌, ℕ, List, Option, Some, None, sym, subst, ◌∙◌}
use Rattle.gix_hash.specs.declared.ObjectId.{ObjectId}
use Rattle.gix_object.specs.declared.Kind.{Kind}
use Rattle.gix_object.specs.declared.Kind.TheVariants as kind
use Rattle.gix_object.specs.CommitText.{Commit}
use Rattle.gix_names.specs.Named.{IsNamed}
use Rattle.gix_commitgraph.specs.Rows.{GraphRow}
use Rattle.gix_revwalk.specs.Commits.{commit_of_kind}
use Rattle.gix_graph_check.specs.StoredCommits.{AgreesWith}
use Rattle.gix_graph_verify.specs.Differences.{IsNamedCommit, IsDifference, IsRight, IsSaid, Differs}
use Rattle.gix_graph_verify.specs.declared.difference.Difference.{Difference}
use Rattle.gix_graph_verify.specs.declared.difference.Difference.TheVariants.{Hash, Unsound, Missing, Misnamed, NotACommit, Tree, Time, Parents}

module _ (rows : List GraphRow) (row : GraphRow) (commit : Commit) (own : ObjectId) (same : own ≡ row.id) (named : IsNamedCommit own commit) where
  named-at : (i : ObjectId) → i ≡ own → IsNamedCommit i commit
  named-at i e = subst (λ (j : ObjectId). IsNamedCommit j commit) (sym e) named

  pub differing : row.generation < 2 ^ 32 - 1 → ¬ AgreesWith rows row commit → (d : Difference) → Differs own row commit d → IsDifference rows row d
  differing finite bad (Hash n) h = h
  differing finite bad (Unsound i) h = absurd h
  differing finite bad (Missing i) h = absurd h
  differing finite bad (Misnamed i) h = absurd h
  differing finite bad (NotACommit i) h = absurd h
  differing finite bad (Tree i) h = (h.0 ∙ same, (commit, named-at i h.0, h.1))
  differing finite bad (Time i) h = (h.0 ∙ same, (commit, named-at i h.0, h.1))
  differing finite bad (Parents i) h =
      (h.0 ∙ same, (commit, named-at i h.0, λ places. bad (record { tree = h.1; time = h.2; places = places; finite = finite })))

-- what is said of a row is that it is right, or what is wrong
pub said-none : (rows lower : List GraphRow) (row : GraphRow) (o : Option Difference) → IsSaid rows lower row o → o ≡ None → IsRight rows lower row
said-none rows lower row o h e = subst (λ (x : Option Difference). IsSaid rows lower row x) e h

pub said-some : (rows lower : List GraphRow) (row : GraphRow) (o : Option Difference) (d : Difference) → IsSaid rows lower row o → o ≡ Some d → IsDifference rows row d
said-some rows lower row o d h e = subst (λ (x : Option Difference). IsSaid rows lower row x) e h

-- a text that says a commit, of an id
pub named-commit : (i : ObjectId) (k : Kind) (bytes : List ℕ) (commit : Commit) → IsNamed i k bytes → commit_of_kind i k bytes ≡ Some commit → IsNamedCommit i commit
named-commit i kind.Commit bytes commit named read = record { bytes = bytes; named = named; read = read }
named-commit i kind.Tree bytes commit named read = cc
named-commit i kind.Blob bytes commit named read = cc
named-commit i kind.Tag bytes commit named read = cc

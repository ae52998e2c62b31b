-- The words of the commands: a table.
use Rattle.std.specs.Prelude.{ℕ, List, codes}
use Rattle.gix_options.specs.declared.name.Name.{Name}
use Rattle.gix_options.specs.declared.name.Name.TheVariants as name

abbrev pub word_of : Name → List ℕ
word_of name.Breadth = codes "breadth"
word_of name.Newest = codes "newest"
word_of name.Oldest = codes "oldest"
word_of name.Topo = codes "topo"
word_of name.Date = codes "date"
word_of name.Ahead = codes "ahead"
word_of name.Contains = codes "contains"
word_of name.Containing = codes "containing"
word_of name.MergeBase = codes "merge-base"
word_of name.IsAncestor = codes "is-ancestor"
word_of name.Files = codes "files"
word_of name.Resolve = codes "resolve"
word_of name.CheckGraph = codes "check-graph"
word_of name.VerifyCertificate = codes "verify-certificate"

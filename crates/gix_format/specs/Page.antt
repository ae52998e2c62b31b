-- The commit of a call, as the definitions of formats have it.
use Rattle.gix_format.specs.declared.Commit.{Commit}
use Rattle.gix_statement.specs.Formats as formats

abbrev pub page_commit : Commit → formats.Commit
page_commit c = record { id = c.id; parents = c.parents.now; time = c.time; text = c.text.now }

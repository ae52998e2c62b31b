use Rattle.std.proofs.Common.{sym, ap, ◌∙◌, rules, option_map}
use Rattle.gix_revwalk.proofs.Common.{row_of_commit}
use Rattle.gix_revwalk.specs.Reading.{is_read, absent, corrupt}
use Rattle.gix_revwalk.proofs.row.read_row_of.Goals as goal

pub returns-in_default-clause-reads : goal.returns-in_default-clause-reads
returns-in_default-clause-reads c = absent (search rules)

pub returns-in_default-2-clause-reads : goal.returns-in_default-2-clause-reads
returns-in_default-2-clause-reads c =
    corrupt (search rules) (
      row_of_commit c.in-Some.commit,
      sym c.in-Some.ensures.row,
      sym c.in_ok-parent_ids.ensures.ok ∙ ap (option_map (λ ids. ids.items)) c.in_default-2.is,
    )

pub returns-clause-reads : goal.returns-clause-reads
returns-clause-reads c = is_read (search rules) (search rules)

use Rattle.std.proofs.Common.{sym, ap, ◌∙◌}
use Rattle.gix_statement.specs.WholeStatement.{says_more}
use Rattle.gix_words.specs.Formats.{format_bytes}
use Rattle.gix_options.proofs.OptionFacts.{subject_said}
use Rattle.gix_options.proofs.options.Options.subject.Goals as goal

pub returns-then-self : goal.returns-then-self
returns-then-self c = ap (λ f. says_more (format_bytes f)) c.subject.ensures ∙ subject_said ∙ sym c.if-self.true

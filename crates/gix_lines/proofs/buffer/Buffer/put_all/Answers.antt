use Rattle.std.proofs.Common.{Ok, sym, subst}
use Rattle.std.proofs.lemmas.List.{nil_from_length}
use Rattle.gix_lines.specs.Output.{Puts, put}
use Rattle.gix_lines.proofs.Putting.{puts_nothing}
use Rattle.gix_lines.proofs.buffer.Buffer.put_all.Goals as goal

pub returns-in-None : goal.returns-in-None
returns-in-None g c = subst (λ w. Puts (g.W.Write.contents c.args.writer.now) c.args.self.now w (Ok tt) (g.W.Write.contents c.args.writer.now) c.args.self.now) (sym (nil_from_length c.args.bytes.now c.in-None.ensures.cases)) (put (puts_nothing _ _))

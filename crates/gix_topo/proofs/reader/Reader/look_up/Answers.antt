use Rattle.std.proofs.Common.{inr}
use Rattle.gix_topo.proofs.Reading.OnceRead.{text_read}
use Rattle.gix_topo.proofs.reader.Reader.look_up.Goals as goal

pub returns-clause-known : goal.returns-clause-known
returns-clause-known g c = inr (text_read (g.F.Find.objects c.args.self.now.find) (g.F.Find.faulty c.args.self.now.find) c.args.id.now c.in_ok-read_text.field-0 c.in_ok-read_text.ensures.reads)

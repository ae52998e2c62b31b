use Rattle.gix_commands.proofs.LookedAt.{header_read, ok_unread}
use Rattle.gix_commands.proofs.chosen.look_at.Goals as goal

pub returns-in-Ok-clause-ok : goal.returns-in-Ok-clause-ok
returns-in-Ok-clause-ok c = header_read _ c.args.id.now c.in-Ok.header c.in-Ok.ensures.reads

pub returns-in-Err-clause-ok : goal.returns-in-Err-clause-ok
returns-in-Err-clause-ok c = ok_unread _ c.args.id.now c.in-Err.why c.no_header.result c.in-Err.ensures.fault c.no_header.ensures.ok

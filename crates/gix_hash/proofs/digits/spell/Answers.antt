use Rattle.gix_hash.proofs.HexDigits.Spelled.{spelled_next}
use Rattle.gix_hash.proofs.digits.spell.Goals as goal

pub returns-clause-spelled : goal.returns-clause-spelled
returns-clause-spelled c = spelled_next c.args.digits.now c.args.bytes.now _ c.args.at c.requires.room c.bytes_at.ensures.len c.requires.before c.bytes_at.ensures.bytes

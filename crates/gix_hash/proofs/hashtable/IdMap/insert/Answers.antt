use Rattle.gix_hash.proofs.Ids.Tables.{the_short, the_long, updated}
use Rattle.gix_hash.proofs.hashtable.IdMap.insert.Goals as goal

pub returns-in_ok-insert-in-Sha1-clause-ok : goal.returns-in_ok-insert-in-Sha1-clause-ok
returns-in_ok-insert-in-Sha1-clause-ok g c = updated (the_short c.self.inside.long.entries) _ _ _ _ _ _ c.self.view_is c.in-Sha1.is c.in_ok-insert-in-Sha1.ensures.updates.0

pub returns-in_ok-insert-in-Sha256-clause-ok : goal.returns-in_ok-insert-in-Sha256-clause-ok
returns-in_ok-insert-in-Sha256-clause-ok g c = updated (the_long c.self.inside.short.entries) _ _ _ _ _ _ c.self.view_is c.in-Sha256.is c.in_ok-insert-in-Sha256.ensures.updates.0

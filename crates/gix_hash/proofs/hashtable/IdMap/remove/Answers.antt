use Rattle.gix_hash.proofs.Ids.Tables.{the_short, the_long, taken}
use Rattle.gix_hash.proofs.hashtable.IdMap.remove.Goals as goal

pub returns-in-Sha1-clause-map : goal.returns-in-Sha1-clause-map
returns-in-Sha1-clause-map g c = taken (the_short c.self.inside.long.entries) _ _ _ _ _ c.self.view_is c.in-Sha1.is c.remove.ensures.updates.0

pub returns-in-Sha256-clause-map : goal.returns-in-Sha256-clause-map
returns-in-Sha256-clause-map g c = taken (the_long c.self.inside.short.entries) _ _ _ _ _ c.self.view_is c.in-Sha256.is c.remove-in-Sha256.ensures.updates.0

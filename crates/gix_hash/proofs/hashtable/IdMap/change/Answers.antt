use Rattle.std.proofs.Common.{◌≡◌, Option, Some, IsSome, is_some, ap, sym, arith, rules}
use Rattle.gix_hash.proofs.Ids.Tables.{in_short, in_long, the_short, the_long, updated}
use Rattle.gix_hash.proofs.hashtable.IdMap.change.Goals as goal

is_there : {X : Type 0} (x : X) (o : Option X) → Some x ≡ o → IsSome o
is_there x o e = ap is_some (sym e)

pub returns-in_ok-get_mut-in-Sha1-clause-some : goal.returns-in_ok-get_mut-in-Sha1-clause-some
returns-in_ok-get_mut-in-Sha1-clause-some g c =
    let written = c.get_mut.follows.holds c.change.new.arg2 in (
      c.in_ok-get_mut-in-Sha1.field-0.now,
      c.change.new.arg2,
      grind (arith, in_short),
      search rules,
      updated (the_short c.self.inside.long.entries) _ _ _ _ _ _ c.self.view_is c.in-Sha1.is (written.3 (is_there _ _ c.in_ok-get_mut-in-Sha1.ensures.value)).0,
    )

pub returns-in_ok-get_mut-in-Sha256-clause-some : goal.returns-in_ok-get_mut-in-Sha256-clause-some
returns-in_ok-get_mut-in-Sha256-clause-some g c =
    let written = c.get_mut-in-Sha256.follows.holds c.change-in-Sha256.new.arg2 in (
      c.in_ok-get_mut-in-Sha256.field-0.now,
      c.change-in-Sha256.new.arg2,
      grind (arith, in_long),
      search rules,
      updated (the_long c.self.inside.short.entries) _ _ _ _ _ _ c.self.view_is c.in-Sha256.is (written.3 (is_there _ _ c.in_ok-get_mut-in-Sha256.ensures.value)).0,
    )

use Rattle.std.proofs.Common.{◌≡◌, Result, Ok, Err, OnOk, OnErr, subst, sym}
use Rattle.std.specs.FinMap as map
use Rattle.gix_hash.specs.declared.ObjectId.{ObjectId}
use Rattle.gix_names.specs.Named.{IsNamed}
use Rattle.gix_object.specs.Object.{Object, Objects}
use Rattle.gix_records.specs.NamedRecords.{AreNamed}
use Rattle.gix_records.proofs.Naming.{named_put}
use Rattle.gix_records.proofs.objects.NamedObjects.insert.Goals as goal

named_after : {A E : Type 0} (result : Result A E) (before after : Objects) (i : ObjectId) (o : Object) → OnOk result (after ≡ map.insert before i o) → OnErr result (after ≡ before) → AreNamed before → IsNamed i o.kind o.bytes → AreNamed after
named_after (Ok _) before after i o put kept named is = subst AreNamed (sym put) (named_put before i o named is)
named_after (Err _) before after i o put kept named is = subst AreNamed (sym kept) named

pub invariant_of-self : goal.invariant_of-self
invariant_of-self c = named_after c.insert.result _ _ c.args.id (record { kind = c.args.kind; bytes = c.args.bytes.now }) c.insert.ensures.ok c.insert.ensures.err c.self.invariant c.requires

pub returns-clause-named : goal.returns-clause-named
returns-clause-named c = named_after c.insert.result _ _ c.args.id (record { kind = c.args.kind; bytes = c.args.bytes.now }) c.insert.ensures.ok c.insert.ensures.err c.self.invariant c.requires

use Rattle.std.proofs.Common.{◌≡◌, ℕ, Bool, List, Option, Some, None, Ok, subst}
use Rattle.gix_commands.proofs.Common.{get, ObjectId, Objects}
use Rattle.gix_object.specs.declared.Kind.{Kind}
use Rattle.gix_object.specs.Find.{FindsInto}
use Rattle.gix_commands.specs.Readable.{readable, readable_bytes}
use Rattle.gix_commands.proofs.ReadableObjects.{finds_none, finds_readable}
use Rattle.gix_commands.proofs.commits.LentFind.find_into.Goals as goal

module _ (all_lines : Bool) (objects lent : Objects) (i : ObjectId) (faulty : Type 0) (found : Option Kind) (held : List ℕ) (same : readable all_lines objects ≡ lent) (finds : FindsInto (get objects i) faulty (Ok found) held) where
  absent : found ≡ None → get lent i ≡ None
  absent none = subst (λ (o : Objects). get o i ≡ None) same (finds_none all_lines objects i (subst (λ (f : Option Kind). FindsInto (get objects i) faulty (Ok f) held) none finds))

  there : (k : Kind) (new : List ℕ) → found ≡ Some k → new ≡ readable_bytes all_lines i k held → get lent i ≡ Some (record { kind = k; bytes = new })
  there k new some is =
      subst (λ (o : Objects). get o i ≡ Some (record { kind = k; bytes = new })) same
      (finds_readable all_lines objects i faulty k held new (subst (λ (f : Option Kind). FindsInto (get objects i) faulty (Ok f) held) some finds) is)

pub returns-in_default : goal.returns-in_default
returns-in_default c = absent _ _ _ _ ⊥ _ _ c.self.view_is c.in_ok-kind.ensures c.in_default.is

pub returns : goal.returns
returns c = there _ _ _ _ ⊥ _ _ c.self.view_is c.in_ok-kind.ensures _ _ c.in-Some.is c.in_ok-make_readable.ensures.ok

use Rattle.std.proofs.Common.{◌≡◌, ◌+◌, length, ap, ap₂, arith, length-append, ◌∙◌, Result, Ok, Err, OnErr}
use Rattle.std.specs.Cow.{cow_slice_items}
use Rattle.std.specs.FinMap as map
use Rattle.gix_object.specs.MemoryStore.{objects_at}
use Rattle.gix_object.proofs.MemoryStore.{objects_kept, object_stored, within_stored}
use Rattle.gix_object.proofs.memory.MemoryStore.insert.Goals as goal

on_err_from : {A E P : Type 0} (r : Result A E) → P → OnErr r P
on_err_from (Ok x) p = tt
on_err_from (Err e) p = p

pub returns-in_err-insert-clause-err : goal.returns-in_err-insert-clause-err
returns-in_err-insert-clause-err c =
    on_err_from _ (ap₂ objects_at c.in_ok-extend.ensures.ok c.in_err-insert.ensures.err ∙ objects_kept (cow_slice_items c.self.inside.bytes) c.args.bytes.now c.self.inside.objects c.self.invariant ∙ c.self.view_is)

pub invariant_of-self-2 : goal.invariant_of-self-2
invariant_of-self-2 c =
    let buffer = cow_slice_items c.self.inside.bytes in
    let more = c.args.bytes.now in
    let end : c.len-end.result ≡ length buffer + length more = omega (arith, ap length c.in_ok-extend.ensures.ok, length-append buffer more) in
    let start : c.len-start.result ≡ length buffer = omega arith in
    let stored = within_stored buffer more c.self.inside.objects c.self.invariant c.args.id c.args.kind in
    rw (c.in_ok-extend.ensures.ok, c.in_ok-insert.ensures.ok, start, end) stored

pub returns-clause-ok : goal.returns-clause-ok
returns-clause-ok c =
    let buffer = cow_slice_items c.self.inside.bytes in
    let more = c.args.bytes.now in
    let end : c.len-end.result ≡ length buffer + length more = omega (arith, ap length c.in_ok-extend.ensures.ok, length-append buffer more) in
    let start : c.len-start.result ≡ length buffer = omega arith in
    let stored = object_stored buffer more c.self.inside.objects c.self.invariant c.args.id c.args.kind in
    rw (c.in_ok-extend.ensures.ok, c.in_ok-insert.ensures.ok, start, end) (stored ∙ ap (λ m. map.insert m c.args.id (record { kind = c.args.kind; bytes = more })) c.self.view_is)

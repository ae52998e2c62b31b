use Rattle.std.proofs.Common.{◌≡◌, ◌≤◌, ◌+◌, ◌++◌, [], ◌∷◌, List, Option, None, Some, Err, sym, ap, ◌∙◌, arith, rules, append_assoc, append-nil, length, length-append}
use Rattle.gix_revwalk.proofs.Common.{ObjectId, commit_items_left, scanned, with_parent}
use Rattle.gix_object.specs.declared.decode.Error.{Error}
use Rattle.gix_revwalk.proofs.NextParents.{IsFault, next_says, parent_said, last_said, all_said, some_parent}
use Rattle.gix_revwalk.proofs.read.read_parents.Goals as goal
use Rattle.gix_revwalk.proofs.read.read_parents.Invariants.{behind}

-- a parent that was read belongs behind those before
behind_one : (ids : List ObjectId) (i : ObjectId) (r : List ObjectId × Option Error) → behind (ids ++ i ∷ []) r ≡ behind ids (with_parent i r)
behind_one ids i r = ap (λ all. (all, r.1)) (append_assoc ids (i ∷ []) r.0)

pub loop-id-smaller : goal.loop-id-smaller
loop-id-smaller c = (parent_said (commit_items_left c.loop-id.items) (commit_items_left c.next_parent.new.self) c.in-Ok-Some.field-0 c.in-Ok-Some.id c.in-Ok-Some.field-0-is c.in-Ok-Some.ensures.parent c.in-Ok-Some.ensures.left).fewer

pub loop-id-preserved : goal.loop-id-preserved
loop-id-preserved c = record {
  shown =
      ap (λ ids. behind ids (scanned c.args.parents (commit_items_left c.next_parent.new.self))) c.in_ok-push-in-Ok-Some.ensures.ok
      ∙ behind_one c.loop-id.parent_ids.items c.in-Ok-Some.id _
      ∙ ap (behind c.loop-id.parent_ids.items) (sym (all_said c.args.parents (commit_items_left c.loop-id.items) c.in-Ok-Some.id (commit_items_left c.next_parent.new.self) c.in_default.is (parent_said (commit_items_left c.loop-id.items) (commit_items_left c.next_parent.new.self) c.in-Ok-Some.field-0 c.in-Ok-Some.id c.in-Ok-Some.field-0-is c.in-Ok-Some.ensures.parent c.in-Ok-Some.ensures.left)))
      ∙ c.loop-id.invariant.shown;
  committer =
      sym (parent_said (commit_items_left c.loop-id.items) (commit_items_left c.next_parent.new.self) c.in-Ok-Some.field-0 c.in-Ok-Some.id c.in-Ok-Some.field-0-is c.in-Ok-Some.ensures.parent c.in-Ok-Some.ensures.left).committer
      ∙ c.loop-id.invariant.committer;
  inline = omega (arith, c.in_ok-push-in-Ok-Some.ensures.capacity, c.loop-id.invariant.inline);
}

pub returns-in_err-push-in-Ok-Some-clause-succeeds : goal.returns-in_err-push-in-Ok-Some-clause-succeeds
returns-in_err-push-in-Ok-Some-clause-succeeds c =
    let all = scanned c.args.parents (commit_items_left c.loop-id.items) in
    let long : 1 + length c.loop-id.parent_ids.items ≤ length (scanned c.args.parents (commit_items_left c.args.items.now)).0 = omega (arith, ap (λ r. length r.0) c.loop-id.invariant.shown, length-append c.loop-id.parent_ids.items all.0, some_parent c.args.parents (commit_items_left c.loop-id.items) c.in-Ok-Some.id (commit_items_left c.next_parent.new.self) (parent_said (commit_items_left c.loop-id.items) (commit_items_left c.next_parent.new.self) c.in-Ok-Some.field-0 c.in-Ok-Some.id c.in-Ok-Some.field-0-is c.in-Ok-Some.ensures.parent c.in-Ok-Some.ensures.left)) in
    search rules

pub returns-in-First-clause-ok : goal.returns-in-First-clause-ok
returns-in-First-clause-ok c =
    ap (λ ids. (ids, None)) c.in_ok-push-in-Ok-Some.ensures.ok
    ∙ ap (behind c.loop-id.parent_ids.items) (sym (ap (λ m. scanned m (commit_items_left c.loop-id.items)) c.in-First.is ∙ (parent_said (commit_items_left c.loop-id.items) (commit_items_left c.next_parent.new.self) c.in-Ok-Some.field-0 c.in-Ok-Some.id c.in-Ok-Some.field-0-is c.in-Ok-Some.ensures.parent c.in-Ok-Some.ensures.left).first))
    ∙ c.loop-id.invariant.shown

pub returns-in-Ok-None-clause-ok : goal.returns-in-Ok-None-clause-ok
returns-in-Ok-None-clause-ok c =
    let last = last_said (commit_items_left c.loop-id.items) (commit_items_left c.next_parent.new.self) c.in-Ok-None.field-0 c.in-Ok-None.field-0-is c.in-Ok-None.ensures.parent c.in-Ok-None.ensures.left in
    ap (λ ids. (ids, None)) (sym (append-nil c.loop-id.parent_ids.items)) ∙ ap (behind c.loop-id.parent_ids.items) (sym (last.none c.args.parents)) ∙ c.loop-id.invariant.shown

pub returns-in-Err-clause-ok : goal.returns-in-Err-clause-ok
returns-in-Err-clause-ok c =
    let fault : IsFault (commit_items_left c.loop-id.items) c.in-Err.fault = next_says (commit_items_left c.loop-id.items) (commit_items_left c.next_parent.new.self) (Err c.in-Err.fault) c.in-Err.ensures.parent c.in-Err.ensures.left in
    ap (λ ids. (ids, Some c.in-Err.fault)) (sym (append-nil c.loop-id.parent_ids.items)) ∙ ap (behind c.loop-id.parent_ids.items) (sym (fault.fault c.args.parents)) ∙ c.loop-id.invariant.shown

pub returns-in-First-clause-left : goal.returns-in-First-clause-left
returns-in-First-clause-left c = λ none.
    sym (parent_said (commit_items_left c.loop-id.items) (commit_items_left c.next_parent.new.self) c.in-Ok-Some.field-0 c.in-Ok-Some.id c.in-Ok-Some.field-0-is c.in-Ok-Some.ensures.parent c.in-Ok-Some.ensures.left).committer
    ∙ c.loop-id.invariant.committer

pub returns-in-Ok-None-clause-left : goal.returns-in-Ok-None-clause-left
returns-in-Ok-None-clause-left c = λ none.
    let last = last_said (commit_items_left c.loop-id.items) (commit_items_left c.next_parent.new.self) c.in-Ok-None.field-0 c.in-Ok-None.field-0-is c.in-Ok-None.ensures.parent c.in-Ok-None.ensures.left in
    sym last.committer ∙ c.loop-id.invariant.committer

pub returns-in-Err-clause-fault : goal.returns-in-Err-clause-fault
returns-in-Err-clause-fault c =
    let fault : IsFault (commit_items_left c.loop-id.items) c.in-Err.fault = next_says (commit_items_left c.loop-id.items) (commit_items_left c.next_parent.new.self) (Err c.in-Err.fault) c.in-Err.ensures.parent c.in-Err.ensures.left in
    sym c.loop-id.invariant.committer ∙ fault.committer

use Rattle.std.proofs.Common.{subst, sym}
use Rattle.std.proofs.lemmas.Result.{on_ok_weaker}
use Rattle.gix_revision.specs.Resolves.{IsChosen}
use Rattle.gix_revision.proofs.meaning.resolve_parsed.Goals as goal

pub returns-in_ok-id-in-One : goal.returns-in_ok-id-in-One
returns-in_ok-id-in-One g c = on_ok_weaker c.push_one.result
    (λ pushed. subst (λ r. IsChosen c.args.wanted r c.args.found.now.items c.push_one.new.found.items) (sym c.in-One.is)
    (c.in_ok-id-in-One.id, c.in_ok-id-in-One.ensures, pushed))
    c.push_one.ensures

pub returns-in_ok-push_one-in-Range : goal.returns-in_ok-push_one-in-Range
returns-in_ok-push_one-in-Range g c = on_ok_weaker c.push_one-in-Range-2.result
    (λ pushed. subst (λ r. IsChosen c.args.wanted r c.args.found.now.items c.push_one-in-Range-2.new.found.items) (sym c.in-Range.is)
    (c.in_ok-first-in-Range.first, c.in_ok-second-in-Range.second, c.push_one-in-Range.new.found.items, c.in_ok-first-in-Range.ensures, c.in_ok-second-in-Range.ensures, c.in_ok-push_one-in-Range.ensures, pushed))
    c.push_one-in-Range-2.ensures

pub returns-in_ok-push-in-Symmetric : goal.returns-in_ok-push-in-Symmetric
returns-in_ok-push-in-Symmetric g c =
    subst (λ r. IsChosen c.args.wanted r c.args.found.now.items c.push.new.found.items) (sym c.in-Symmetric.is)
    (c.in_ok-one-in-Symmetric.one, c.in_ok-other-in-Symmetric.other, c.in_ok-one-in-Symmetric.ensures, c.in_ok-other-in-Symmetric.ensures, c.in_ok-push-in-Symmetric.ensures)

pub returns-in_ok-push_one-in-Neither : goal.returns-in_ok-push_one-in-Neither
returns-in_ok-push_one-in-Neither g c = on_ok_weaker c.push_one-in-Neither-2.result
    (λ pushed. subst (λ r. IsChosen c.args.wanted r c.args.found.now.items c.push_one-in-Neither-2.new.found.items) (sym c.in-Neither.is)
    (c.in_ok-first-in-Neither.first, c.in_ok-second-in-Neither.second, c.push_one-in-Neither.new.found.items, c.in_ok-first-in-Neither.ensures, c.in_ok-second-in-Neither.ensures, c.in_ok-push_one-in-Neither.ensures, pushed))
    c.push_one-in-Neither-2.ensures

pub returns-in_ok-push_excluded-in-Without : goal.returns-in_ok-push_excluded-in-Without
returns-in_ok-push_excluded-in-Without g c = on_ok_weaker c.push_one-in-Without.result
    (λ pushed.
    let commit = c.in_ok-commit-in-Without.commit in
    let named = c.in_ok-push_excluded-in-Without.ensures in
    subst (λ r. IsChosen c.args.wanted r c.args.found.now.items c.push_one-in-Without.new.found.items) (sym c.in-Without.is)
    (commit.id, commit.links.tree, commit.links.parents.items, named.0, c.push_excluded.new.found.items, c.in_ok-commit-in-Without.ensures.means, c.in_ok-commit-in-Without.ensures.links, named.1, named.2, pushed))
    c.push_one-in-Without.ensures

use Rattle.std.proofs.Common.{◌≡◌, ℕ, List, [], Bool, false, Option, Some, Err, sym, ap, subst, ◌∙◌}
use Rattle.std.specs.Bool.{OnFalse}
use Rattle.gix_commands.specs.PageObjects.{page_objects}
use Rattle.gix_commands.specs.Pages.{AreRows}
use Rattle.gix_commands.specs.StoredRuns.{RunsStored, without_memory}
use Rattle.gix_revwalk.specs.Agreeing.{rows_in}
use Rattle.gix_statement.specs.CommitGraph.{AreLayers}
use Rattle.gix_statement.specs.WholeStatement.{AreNamed, Objects, Promises, Row}
use Rattle.gix_words.specs.Words.{request_of_command}
use Rattle.gix_words.specs.declared.fault.Fault.TheVariants as fault
use Rattle.gix_repository_commands.proofs.run.answer.Goals as goal

on_false : {P : Type 0} (b : Bool) → OnFalse b P → b ≡ false → P
on_false {P} b p e = subst (λ (x : Bool). OnFalse x P) e p

-- the part has the objects that the run had, and the lines were none before it
pub returns-then-not-branch-clause-whole : goal.returns-then-not-branch-clause-whole
returns-then-not-branch-clause-whole g c = λ words layers asked from.
    let same = on_false _ c.in_ok-read_on.ensures c.if-not-branch.true in
    subst
    (λ held. Promises fault.Write words (λ (given : Objects) (rows : List Row). AreNamed given × (given ≡ page_objects held) × AreLayers [] layers [] rows) (Some []) c.answer-ended.result (Some c.answer-ended.new.writer.items))
    (c.objects.ensures.exact ∙ sym same)
    (subst
    (λ (old : Option (List ℕ)). Promises fault.Write words (λ (given : Objects) (rows : List Row). AreNamed given × (given ≡ page_objects c.objects.result.now) × AreLayers [] layers [] rows) old c.answer-ended.result (Some c.answer-ended.new.writer.items))
    (ap (λ (lines : List ℕ). Some lines) c.new-lines.ensures.items) (c.answer-ended.ensures.whole words layers asked from))

pub returns-then-not-branch-clause-named : goal.returns-then-not-branch-clause-named
returns-then-not-branch-clause-named g c = λ words asked none.
    let same = on_false _ c.in_ok-read_on.ensures c.if-not-branch.true in
    subst
    (λ held. Promises fault.Write words (λ (given : Objects) (rows : List Row). AreNamed given × (given ≡ page_objects held) × (rows ≡ [])) (Some []) c.answer-ended.result (Some c.answer-ended.new.writer.items))
    (c.objects.ensures.exact ∙ sym same)
    (subst
    (λ (old : Option (List ℕ)). Promises fault.Write words (λ (given : Objects) (rows : List Row). AreNamed given × (given ≡ page_objects c.objects.result.now) × (rows ≡ [])) old c.answer-ended.result (Some c.answer-ended.new.writer.items))
    (ap (λ (lines : List ℕ). Some lines) c.new-lines.ensures.items) (c.answer-ended.ensures.named words asked none))

pub returns-then-not-branch-clause-over : goal.returns-then-not-branch-clause-over
returns-then-not-branch-clause-over g c = λ words asked.
    let same = on_false _ c.in_ok-read_on.ensures c.if-not-branch.true in
    subst
    (λ held. Promises fault.Write words (λ (given : Objects) (rows : List Row). AreNamed given × (given ≡ page_objects held) × AreRows (rows_in c.args.graph) rows) (Some []) c.answer-ended.result (Some c.answer-ended.new.writer.items))
    (c.objects.ensures.exact ∙ sym same)
    (subst
    (λ (old : Option (List ℕ)). Promises fault.Write words (λ (given : Objects) (rows : List Row). AreNamed given × (given ≡ page_objects c.objects.result.now) × AreRows (rows_in c.args.graph) rows) old c.answer-ended.result (Some c.answer-ended.new.writer.items))
    (ap (λ (lines : List ℕ). Some lines) c.new-lines.ensures.items) (c.answer-ended.ensures.over words asked))

pub returns-clause-runs : goal.returns-clause-runs
returns-clause-runs g c =
    subst (λ (lines : List ℕ). RunsStored (request_of_command c.args.command.now) c.loop.part.gathering (rows_in c.args.graph) (Some []) (Err fault.Memory) (Some lines))
    (sym c.new.ensures.items) without_memory

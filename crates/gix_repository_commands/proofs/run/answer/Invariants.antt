use Rattle.gix_repository_commands.proofs.run.answer.Given as goal

-- each run is of its own
abbrev pub invariant-loop : goal.invariant-loop
invariant-loop g l = Unit {0}

-- What is known of an id, and the marks that say it.
use Rattle.std.specs.Prelude.{ℕ, ◌==◌, Bool, cond}
use Rattle.std.specs.Int.Bits.{bit_and}
use Rattle.gix_frontier.specs.declared.Side.{Side}
use Rattle.gix_frontier.specs.declared.Side.TheVariants.{Tips, Ends}
use Rattle.gix_frontier.specs.declared.Progress.{Progress}
use Rattle.gix_frontier.specs.declared.Progress.TheVariants.{Unseen, Queued, Done}

pub record Known : Type 0 where
  pub tips : Progress
  pub ends : Progress
  -- its indegree: how many commits that the tips' search has done, and that weren't taken, name it as a parent that is walked
  pub indegree : ℕ
  -- whether it was ready once
  pub was_ready : Bool

-- the mark of an id that a side met
abbrev pub met_mark : Side → ℕ
met_mark Tips = 1
met_mark Ends = 4

-- the mark of an id that a side has done
abbrev pub done_mark : Side → ℕ
done_mark Tips = 2
done_mark Ends = 8

-- whether a mark is among others
abbrev pub has : ℕ → ℕ → Bool
has marks mark = bit_and marks mark == mark

-- how far a side has come with an id of these marks
abbrev pub progress_by : ℕ → Side → Progress
progress_by marks side = cond (has marks (done_mark side)) Done (cond (has marks (met_mark side)) Queued Unseen)

abbrev pub known_by : ℕ → ℕ → Known
known_by marks indegree = record { tips = progress_by marks Tips; ends = progress_by marks Ends; indegree = indegree; was_ready = has marks 16 }

-- Faults have numbers of their own, and where lines don't fit the room is as it was.
use Rattle.std.proofs.Common.{◌≡◌, ◌≢◌, ◌≤◌, ℕ, nat_le, List, ◌++◌, length, drop, Bool, true, false, if◌then◌else◌, refl, arith}
use Rattle.gix_words.specs.declared.fault.Fault.{Fault}
use Rattle.gix_words.specs.declared.fault.Fault.TheVariants as fault
use Rattle.gix_memory_commands.specs.Answers.{of_fault}
use Rattle.gix_memory_commands.specs.FolderAnswers.{of_trouble}
use Rattle.gix_memory_commands.specs.Room.{answer_to, put_in, too_small, well}
use Rattle.gix_memory_commands.specs.declared.answer.Answer.{Answer}
use Rattle.gix_memory_commands.specs.declared.trouble.Trouble.{Trouble}
use Rattle.gix_memory_commands.specs.declared.trouble.Trouble.TheVariants as trouble

pub room_stays : (lines room : List ℕ) → (answer_to lines room).number ≢ 0 → put_in lines room ≡ room
room_stays lines room = go (nat_le (length lines) (length room))
  where
    chosen : Bool → Answer
    chosen fits = if fits then well (length lines) else too_small (length lines)

    go : (fits : Bool) → (chosen fits).number ≢ 0 → (if fits then lines ++ drop (length lines) room else room) ≡ room
    go true h = absurd (h refl)
    go false h = refl

-- each fault has another number than 0 and 1
pub numbered : (e : Fault) → (of_fault e).number ≤ 1 → ⊥
numbered fault.Usage = λ h. omega arith
numbered e = λ h. omega arith

pub trouble_numbered : (t : Trouble) → (of_trouble t).number ≤ 1 → ⊥
trouble_numbered (trouble.Command e) = numbered e
trouble_numbered (trouble.Steps n e) = numbered e
trouble_numbered t = λ h. omega arith

-- What one more mark says of an id.
use Rattle.std.proofs.Common.{◌≡◌, ℕ, ◌==◌, true, false, refl, ap, ◌∙◌, arith}
use Rattle.std.proofs.lemmas.Nat.{and_or_self, and_or_apart}
use Rattle.std.specs.Int.Bits.{bit_and, bit_or}
use Rattle.gix_frontier.specs.declared.Side.{Side}
use Rattle.gix_frontier.specs.declared.Side.TheVariants.{Tips, Ends}
use Rattle.gix_frontier.specs.declared.Progress.TheVariants.{Queued, Done}
use Rattle.gix_frontier.specs.Inside.Known.{met_mark, done_mark, has, known_by}
use Rattle.gix_frontier.specs.Inside.Frontier.{is_seen, progress_of, with_progress}

-- the mark is there
set : (marks mark : ℕ) → (mark == mark) ≡ true → has (bit_or marks mark) mark ≡ true
set marks mark same = ap (λ n. n == mark) (and_or_self mark marks) ∙ same

-- and others stay
stays : (marks mark other : ℕ) → bit_and mark other ≡ 0 → has (bit_or marks mark) other ≡ has marks other
stays marks mark other apart = ap (λ n. n == other) (and_or_apart other marks mark apart)

pub marked_met : (marks children : ℕ) (side : Side) → is_seen (progress_of side (known_by marks children)) ≡ false → known_by (bit_or marks (met_mark side)) children ≡ with_progress side Queued (known_by marks children)
marked_met marks children Tips unseen = grind (arith, set marks 1 refl, stays marks 1 2 refl, stays marks 1 4 refl, stays marks 1 8 refl, stays marks 1 16 refl)
marked_met marks children Ends unseen = grind (arith, set marks 4 refl, stays marks 4 1 refl, stays marks 4 2 refl, stays marks 4 8 refl, stays marks 4 16 refl)

pub marked_done : (marks children : ℕ) (side : Side) → known_by (bit_or marks (done_mark side)) children ≡ with_progress side Done (known_by marks children)
marked_done marks children Tips = grind (arith, set marks 2 refl, stays marks 2 1 refl, stays marks 2 4 refl, stays marks 2 8 refl, stays marks 2 16 refl)
marked_done marks children Ends = grind (arith, set marks 8 refl, stays marks 8 1 refl, stays marks 8 2 refl, stays marks 8 4 refl, stays marks 8 16 refl)

pub marked_was_ready : (marks children : ℕ) → known_by (bit_or marks 16) children ≡ record (known_by marks children) { was_ready = true }
marked_was_ready marks children = grind (arith, set marks 16 refl, stays marks 16 1 refl, stays marks 16 2 refl, stays marks 16 4 refl, stays marks 16 8 refl)

-- What waits to be read, and what comes first of it.
use Rattle.std.specs.Prelude.{◌≡◌, ◌≤◌, ℕ, List, ◌++◌, map, Bool, true, false, Contains}
use Rattle.gix_paint.specs.declared.queue.Generation.{Generation}
use Rattle.gix_paint.specs.declared.queue.Generation.TheVariants.{Told, Infinite}
use Rattle.gix_paint.specs.declared.queue.Entry.{Entry}

-- an entry that waits, by the generation in its row
abbrev pub QueueEntry : Type 0
QueueEntry = Generation × Entry

-- the entries without a row, and those with one
unfoldable pub queue_entries : List Entry → List (ℕ × Entry) → List QueueEntry
queue_entries unrowed rowed = map (λ entry. (Infinite, entry)) unrowed ++ map (λ q. (Told q.0, q.1)) rowed

abbrev pub is_told : Generation → Bool
is_told (Told n) = true
is_told Infinite = false

abbrev pub AreAllTold : List QueueEntry → Type 0
AreAllTold queue = (q : QueueEntry) → Contains queue q → is_told q.0 ≡ true

-- all that waits has a row, of no greater generation
abbrev pub AreAllBelow : List QueueEntry → ℕ → Type 0
AreAllBelow queue n = (q : QueueEntry) → Contains queue q → (m : ℕ) × (q.0 ≡ Told m) × (m ≤ n)

-- where a generation is a row's, nothing that waits is above it
abbrev pub IsNoneAbove : Generation → List QueueEntry → Type 0
IsNoneAbove top queue = (n : ℕ) → top ≡ Told n → AreAllBelow queue n

-- The layers of Git's commit-graph, opened as rows that can be used without a store.
use Rattle.std.specs.Prelude.{◌≡◌, ◌≢◌, ◌⊎◌, ℕ, List, All}
use Rattle.gix_hash.specs.declared.ObjectId.{ObjectId}
use Rattle.gix_commitgraph.specs.Packed.{AreBytes}
use Rattle.gix_commitgraph.specs.Rows.{GraphRow}
use Rattle.gix_graph_check.specs.Sound.{AreSound, IsFirstUnsound}
use Rattle.gix_graph_file.specs.declared.error.ChainError.{ChainError}
use Rattle.gix_graph_file.specs.declared.error.ChainError.TheVariants as chain
use Rattle.gix_graph_file.specs.Chain.{HasChain, RefusesChain}
use Rattle.gix_words.specs.declared.fault.Fault.{Fault}
use Rattle.gix_words.specs.declared.fault.Fault.TheVariants as fault

-- the layers are bytes, and a chain that reads as these rows
pub record AreReadFrom (layers : List (List ℕ)) (rows : List GraphRow) : Type 0 where
  pub bytes : All AreBytes layers
  pub chain : HasChain layers rows

-- and all of them are sound
pub record Opens (layers : List (List ℕ)) (rows : List GraphRow) : Type 0 where
  pub read : AreReadFrom layers rows
  pub sound : AreSound rows

-- why layers aren't opened: they are no chain, or a row is the first that isn't sound, or memory ran out
abbrev pub FailsToOpen : List (List ℕ) → Fault → Type 0
FailsToOpen layers (fault.Graph e) = (e ≢ chain.Memory) × RefusesChain layers e
FailsToOpen layers (fault.Row i) = (rows : List GraphRow) × HasChain layers rows × IsFirstUnsound rows i
FailsToOpen layers fault.Memory = Unit {0}
FailsToOpen layers e = ⊥

-- why layers aren't opened of which a chain's error says this
abbrev pub FailsAsRefused : ChainError → Fault → Type 0
FailsAsRefused error why = (layers : List (List ℕ)) → RefusesChain layers error → FailsToOpen layers why

-- a fault that only layers have that aren't opened
abbrev pub IsOpeningFault : Fault → Type 0
IsOpeningFault e = ((why : ChainError) × (e ≡ fault.Graph why)) ⊎ ((i : ObjectId) × (e ≡ fault.Row i))

mod Common
pub mod WalkFaults
pub mod MemoryFaults
pub mod OutputFacts
mod WrittenForms
mod ChosenFacts
mod LookedAt
mod ServedCalls
mod InternalFacts
mod TreeFacts
mod TopoInternalFacts
mod FileFacts
pub mod LostParents
mod RowedParents
pub mod CheckedWalks
mod CheckedSteps
mod StartFacts
pub mod RunFacts
pub mod GivenRuns
mod ListedCommits
mod KeptLists
pub mod SimpleRuns
mod OtherParents
pub mod CommitRuns
pub mod TopoRuns
mod GoesOn
pub mod SimpleBegins
pub mod TopoBegins
mod NamedTrees
mod FileRuns
mod SimpleFaults
mod AheadRuns
mod ContainedRuns
mod ContainingRuns
mod BasesRuns
mod TextNumbers
mod OverGraphs
mod OverStores
mod TextLines
pub mod FileNumbers
mod FileChunks
mod FileParents
mod FileRows
pub mod FileHeads
pub mod FileLayers
pub mod FileOrder
mod SameNumbers
pub mod SameCommits
mod SameTexts
pub mod SameOrders
pub mod SameDescents
mod SameTrees
pub mod SameWords
mod SameReach
mod SameContained
mod SameContaining
pub mod SameBases
pub mod SameLists
pub mod GivenObjects
mod RightTrees
mod Right
pub mod PageCommits
pub mod PageTexts
pub mod PageLists
pub mod OrderNames
pub mod WrittenBytes
pub mod RightSimple
pub mod RightTopo
pub mod RightRuns
pub mod ReadableObjects
pub mod ReadableTexts
pub mod ReachedIsRead
pub mod RowsAsTexts
pub mod NamedOnes
pub mod Promised
mod PromisedRuns
mod ServedPromises
mod StoredWell
-- What a walk gave and which bases were found is all that the statement means by these.
pub mod DrawnShown

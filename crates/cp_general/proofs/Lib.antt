pub mod DeletedStrands
pub mod DroppedPairs
pub mod FitInReportOrder
pub mod GivenByStrands
pub mod HomomorphismByStated
pub mod ProblemStrands
pub mod StatedWithoutStrand
pub mod StatedWithoutPair
pub mod SoundGeneralisations
pub mod Alike
pub mod Deleted
pub mod Ways
pub mod Covered
pub mod CoveringPairs
mod LedBelow
pub mod Listed
pub mod Dropped
pub mod FreePairs
pub mod Stepped
pub mod FitTests
pub mod AllPairs
pub mod NeededParts
mod SentTwice

-- A loader's own calls, and what they make of its blocks.
pub mod LoaderLemmas
pub mod ReplacedLemmas
pub mod LoaderAllocLemmas
pub mod LoaderSpaceLemmas
pub mod NamedRunLemmas
pub mod EmptyLemmas
pub mod FindingLemmas
pub mod ViewLemmas

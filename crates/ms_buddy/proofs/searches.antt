-- The leaf that covers an offset, the lowest free leaf of a level, and the free leaves that a walk has
-- still to give.
pub mod FoundLemmas
pub mod CoverLemmas
pub mod FromLemmas
pub mod StepLemmas
pub mod SeenLemmas
pub mod RowLemmas

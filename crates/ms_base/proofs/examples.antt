-- Worked examples, computed.
pub mod SizeExamples
pub mod PoolExamples
pub mod PolicyExamples
pub mod ClassExamples
pub mod AloneExamples
pub mod ArenaExamples
pub mod StepExamples
pub mod MachineExamples
pub mod EventExamples
pub mod SpreadExamples
pub mod FollowExamples
pub mod HistoryExamples
pub mod MomentExamples

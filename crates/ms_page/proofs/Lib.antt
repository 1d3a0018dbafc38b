pub mod ScaleLemmas
pub mod EscapeLemmas
pub mod AxisLemmas
pub mod PeakLemmas
pub mod LargestLemmas
pub mod RankLemmas
pub mod StayLemmas
pub mod CellLemmas

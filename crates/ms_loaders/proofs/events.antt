-- The calls of the pool as events of the machine; for `laws::pool_calls_are_events`.
pub mod TalliedLemmas
pub mod WholeCallLemmas
pub mod OpenCallLemmas
pub mod ChangedLemmas
pub mod TakeCallLemmas
pub mod GrowCallLemmas

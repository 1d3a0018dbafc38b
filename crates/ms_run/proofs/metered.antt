-- The words in use, as the meter counts them.
pub mod DealtUseLemmas
pub mod MeterMoveLemmas
pub mod MeterSumLemmas
pub mod StepUseLemmas
pub mod UseLemmas
pub mod AmountLemmas

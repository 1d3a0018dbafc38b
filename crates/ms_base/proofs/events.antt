-- Steps that are spread over events: their serial order is a run; for `laws::events` of ms_loaders.
-- By a walk: StageLemmas says how the serial order's machine differs from the other, name by name;
-- each kind of event is one lemma; SerialLemmas puts them together.
pub mod SeenEntryLemmas
pub mod KeptEventLemmas
pub mod GrownEventLemmas
pub mod HappenLemmas
pub mod EventCauseLemmas
pub mod StageLemmas
pub mod BackLemmas
pub mod AllocEventLemmas
pub mod AskLemmas
pub mod LocalLemmas
pub mod OwedLemmas
pub mod OpenEventLemmas
pub mod FirstLemmas
pub mod WholeLemmas
pub mod SeenLemmas
pub mod SerialLemmas
pub mod StageAtLemmas

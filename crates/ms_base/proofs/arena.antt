-- An arena stays sound.
pub mod BlockLemmas
pub mod KeptLemmas
pub mod FreeBlockLemmas
pub mod TopLemmas
pub mod RaisedLemmas
pub mod GrownLemmas

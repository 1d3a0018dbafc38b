-- A chunk that grows: in its place, or into its parent.
pub mod RaisedTreeLemmas
pub mod ParentLemmas
pub mod ReachLemmas
pub mod RaisedPartLemmas
pub mod GrowingLemmas
pub mod ReplacingLemmas

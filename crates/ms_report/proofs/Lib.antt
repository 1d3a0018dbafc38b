pub mod TextLemmas
pub mod PaddingLemmas
pub mod ColumnLemmas
pub mod KindLemmas
pub mod ReplyLemmas
pub mod DoneLemmas
mod SpaceLemmas
mod RunColumnLemmas

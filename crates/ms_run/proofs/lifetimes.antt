-- Loaders that come and go over the lock. For `new_loader` and `unload`.
pub mod LifetimeLemmas
pub mod LifetimeOpenLemmas
pub mod LifetimeCloseLemmas
pub mod LifetimeReplyLemmas

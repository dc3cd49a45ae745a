mod Examples
pub mod ByteLemmas
pub mod BlockLemmas
pub mod MemoryLemmas
pub mod GrowthLemmas
mod StartLemmas
mod CheckedLemmas

mod Examples
pub mod WordLemmas
pub mod SliceLemmas
pub mod RangeLemmas
pub mod ByteLemmas

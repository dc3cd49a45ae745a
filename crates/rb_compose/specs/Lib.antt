pub mod Counts
pub mod Subvalues
pub mod Making
pub mod inner

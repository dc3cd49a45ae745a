pub mod Checking
pub mod Ordering
pub mod Standing

pub mod Facts
pub mod Following
pub mod Moving
pub mod Stepping

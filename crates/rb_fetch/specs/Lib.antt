pub mod Fetching
pub mod Finding
pub mod Positions
pub mod Fields
pub mod Constructing
pub mod inner
pub mod Pruning

pub mod Building
pub mod Chains
pub mod Sharing

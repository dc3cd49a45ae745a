pub mod Shares
pub mod Addresses

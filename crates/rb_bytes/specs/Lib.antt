pub mod Memory
pub mod Starts
pub mod Laws
pub mod Growth

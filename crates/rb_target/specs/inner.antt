pub mod Checking
pub mod Fields
pub mod Reading

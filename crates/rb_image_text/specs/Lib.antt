pub mod Images
pub mod MemoryImages
pub mod Places
pub mod Refusals
pub mod Stopping
pub mod Text
pub mod inner

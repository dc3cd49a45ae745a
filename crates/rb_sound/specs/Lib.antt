pub mod Soundness
pub mod Words
pub mod inner

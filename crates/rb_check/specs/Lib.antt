pub mod Covering
pub mod inner

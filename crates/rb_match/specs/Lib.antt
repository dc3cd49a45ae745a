pub mod Bounding
pub mod Choosing
pub mod inner

pub mod Laws
pub mod Lines
pub mod Locations
pub mod Pieces
pub mod Short
pub mod inner
pub mod Refusals

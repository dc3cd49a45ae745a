pub mod Fitting
pub mod Laws
pub mod Linking
pub mod Nodes
pub mod Reading
pub mod Terms
pub mod Texts
pub mod inner

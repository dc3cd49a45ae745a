pub mod Copying
pub mod Evaluation
pub mod Order
pub mod Texts

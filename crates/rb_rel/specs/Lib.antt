pub mod Laws
pub mod Relation
pub mod Placing
pub mod Answers
pub mod Switches
pub mod Reading
pub mod Provenances
pub mod Storing

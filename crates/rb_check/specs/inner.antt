pub mod Answers
pub mod Below
pub mod Covering
pub mod Emptiness

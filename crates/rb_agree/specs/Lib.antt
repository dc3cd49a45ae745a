pub mod Answers
pub mod Written
pub mod Lists
pub mod Pointing
pub mod Graphs
pub mod inner

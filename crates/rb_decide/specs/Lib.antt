pub mod ClauseMatrices
pub mod Decisions
pub mod Graphs
pub mod Limits
pub mod Trees
pub mod inner

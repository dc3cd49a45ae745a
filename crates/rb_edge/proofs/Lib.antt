pub mod Files
pub mod Pieces
mod Examples
pub mod Histories
mod LeftLemmas
pub mod FaultLemmas

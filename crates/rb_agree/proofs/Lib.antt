pub mod Lists
pub mod PointerParts
pub mod Widths
pub mod Finding
pub mod Splitting
pub mod Testing
pub mod Covering
pub mod Writing
pub mod PartLists
pub mod Marking
pub mod Searching
pub mod Relating
mod Reaching
mod Holding
mod Falling
mod Alikeness
mod Apart
mod Halving
mod Gathering
mod Walking
mod Grouping
mod Reading
mod Ruling
mod Agreeing

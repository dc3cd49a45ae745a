mod FreeRanges
pub mod Leading
mod Leaves
mod Listed
mod Order
mod Parts
pub mod Texts
pub mod Words

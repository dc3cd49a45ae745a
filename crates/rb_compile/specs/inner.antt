pub mod Ready
pub mod Forms
pub mod Arms
pub mod Tails
pub mod Functions
pub mod Used
pub mod Shown

pub mod Combining
pub mod Ending
pub mod Gives
pub mod Reading
pub mod Starting
pub mod Tokens

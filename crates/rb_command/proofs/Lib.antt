pub mod Numbered
pub mod OneCommand
pub mod Paths
pub mod PathsRead
pub mod Stopping
pub mod Worded
pub mod WordsRead

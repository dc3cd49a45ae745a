mod Calls
pub mod Ends

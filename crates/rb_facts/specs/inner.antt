pub mod Knowing
pub mod Places
pub mod Saving
pub mod Threading

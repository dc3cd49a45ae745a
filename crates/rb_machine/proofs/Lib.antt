pub mod Modulo
pub mod Rest
pub mod Turns
pub mod Quiet
pub mod Stretches
pub mod Begins

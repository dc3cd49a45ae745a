pub mod Finishing
pub mod Printing
pub mod States
pub mod Typing

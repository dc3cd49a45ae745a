pub mod Defining
pub mod Deriving
pub mod Frames
pub mod Joining
pub mod Parts

pub mod Numbers
pub mod Skipping
pub mod Beside
pub mod Longer
pub mod Wholes
pub mod Running
pub mod Fits
pub mod Placing
mod Shapes
pub mod Leaves
pub mod Composing

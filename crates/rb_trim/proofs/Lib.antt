pub mod Facts
pub mod Outcomes
pub mod Slots
pub mod Acting
pub mod Walking
pub mod Whole
pub mod Fitting

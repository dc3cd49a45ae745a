pub mod Barring
pub mod Finding
pub mod Settling
pub mod Ends
pub mod Walking
pub mod Laying
pub mod Opening

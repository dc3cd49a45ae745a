pub mod Events
pub mod Left

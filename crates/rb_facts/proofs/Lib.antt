pub mod Composing
mod Deepness
pub mod Following
pub mod LinkForms
pub mod Mending
pub mod Numbers
pub mod Passing
pub mod Placing
pub mod SavedParts
pub mod Shown
pub mod Threads

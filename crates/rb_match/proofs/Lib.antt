mod Bindings
mod Bounds
mod Chosen
mod ClauseForms
mod Edges
mod FieldSources
mod Groups
mod Landing
mod LeafTests
mod Nodes
mod NumberTests
mod Opening
mod SavedBindings
pub mod Sharing
mod Testing
mod Threaded
mod Together
mod Unbound

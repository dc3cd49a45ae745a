pub mod Asking
pub mod Binding
pub mod Clauses
pub mod Flowing
pub mod Opening
pub mod Trees

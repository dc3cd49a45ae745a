pub mod Expressions
pub mod Forms
pub mod Programs
pub mod Scopes
pub mod Whole

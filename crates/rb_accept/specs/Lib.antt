pub mod Accepting
pub mod Arguments
pub mod Laws
pub mod Opening
pub mod Reading
pub mod View

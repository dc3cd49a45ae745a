pub mod Command
pub mod Laws
pub mod Path
pub mod View
pub mod inner

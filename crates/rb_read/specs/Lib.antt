pub mod Exact
pub mod Files
pub mod Limits
pub mod inner

pub mod Calling
pub mod Counting
pub mod Answering
pub mod inner

pub mod Plans
pub mod Refining
pub mod Thrift
pub mod inner

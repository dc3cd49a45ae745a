pub mod Arms
pub mod Decoding
pub mod Encoding
pub mod FewFields
pub mod Packing
pub mod inner

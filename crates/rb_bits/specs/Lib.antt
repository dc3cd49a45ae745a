pub mod Words
pub mod LittleEndian
pub mod Slices
pub mod Laws

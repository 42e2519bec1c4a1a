pub mod Masked
pub mod Present
pub mod Laws

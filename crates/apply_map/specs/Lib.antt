pub mod Values
pub mod Fields
pub mod Ready
pub mod Parts

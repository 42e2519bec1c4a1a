pub mod Causes
pub mod Folder
pub mod Held
pub mod Host
pub mod Memory
pub mod Outside
pub mod Store

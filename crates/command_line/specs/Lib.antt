pub mod Table
pub mod Items
pub mod Words
pub mod Views
pub mod FirstItem
pub mod Clap

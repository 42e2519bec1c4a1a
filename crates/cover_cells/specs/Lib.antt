pub mod Cells
pub mod Coverage
pub mod Sides
pub mod Splitting

pub mod Parts
pub mod Grammar
pub mod Answers
pub mod Placing
pub mod Header
pub mod Sound
pub mod Numbers
pub mod Written

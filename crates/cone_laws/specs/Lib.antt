pub mod Cone
pub mod Inside
pub mod Ring
pub mod Laws

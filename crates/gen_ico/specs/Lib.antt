pub mod Icosahedron
pub mod Icosahedral
pub mod Rows
pub mod Dual
pub mod Made
pub mod Holding

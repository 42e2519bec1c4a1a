pub mod Maps
pub mod MapFaults
pub mod Making

pub mod Trigonometry
pub mod LatitudeLongitude

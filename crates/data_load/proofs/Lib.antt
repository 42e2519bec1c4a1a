pub mod OneData

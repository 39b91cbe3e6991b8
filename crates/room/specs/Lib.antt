pub mod Stows
pub mod Room

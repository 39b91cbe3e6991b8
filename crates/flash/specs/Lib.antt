pub mod Meters
pub mod Did
pub mod Sector
pub mod Blank
pub mod Words
pub mod Toward
pub mod Began

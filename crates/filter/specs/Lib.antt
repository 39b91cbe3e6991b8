pub mod Hash
pub mod Table
pub mod Marks

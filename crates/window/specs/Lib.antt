pub mod Handed
pub mod Bytes
pub mod Build
pub mod File
pub mod Windows

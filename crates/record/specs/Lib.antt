pub mod Within
pub mod Flags
pub mod NameLaws
pub mod Digits
pub mod Readable
pub mod Filled
pub mod NameWords
pub mod FirstZero

pub mod Untouched
pub mod Copied
pub mod Copy
pub mod Clean
pub mod Close

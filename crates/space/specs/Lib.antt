pub mod Answers
pub mod Space
pub mod Strides

-- The cases that document 01 marks with *: what a case states, the table of them, and that all of it holds.
pub mod Case
pub mod Table
pub mod Proof
pub mod NameTable

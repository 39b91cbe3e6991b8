pub mod Answers
-- A file's length from headers and names alone (request K8). The files stand here lowest first.

-- ---- what a header says
pub mod Kinds
-- ---- on a settled image with its own head the length is get's
pub mod Named
pub mod Finished
pub mod FirstOne
pub mod Own
pub mod Settled
-- ---- two images that agree in all headers and names on the walk give one length
pub mod Twins
pub mod NameBytes
pub mod Agree
pub mod Alike
pub mod Seen
pub mod Theorem
-- ---- the code's walk
pub mod Fore
pub mod Sizes
pub mod Walk

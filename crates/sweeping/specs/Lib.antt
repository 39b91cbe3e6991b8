pub mod Moves
pub mod MoveSteps
pub mod Stuck
pub mod Planned
pub mod Handed
pub mod WholeMove
pub mod Sweeping

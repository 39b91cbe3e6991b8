-- Laws about spec's definitions alone, for the theorem and for the code. The files stand here lowest first.

-- ---- lists and tests, which know nothing of flash
pub mod Tests
pub mod Flag
pub mod Lists
pub mod Parts
-- ---- steps, and the sectors of a stretch
pub mod Steps
pub mod Sectors
-- ---- the name of a file
pub mod Names
pub mod Spaces
-- ---- reading an image: what stands at an address, the walk and the search, the chain
pub mod Length
pub mod Next
pub mod Fits
pub mod Ways
pub mod Walk
pub mod Head
pub mod Chain
-- ---- repairs and moves
pub mod Clean
pub mod Sweep
pub mod Settled
-- ---- answers: who is let in, and what is refused
pub mod Answer
pub mod Door
pub mod Refusing
pub mod Nameless
-- ---- planned steps
pub mod Planner

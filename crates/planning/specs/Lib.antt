-- The steps of a mount and of a sweep as functions of the first reading, and the laws that make them equal to those of the definitions, on
-- every image that the call accepts. The files stand here lowest first: each uses only those above it.

-- ---- the plans
pub mod Repairs
pub mod Planned
-- ---- what bytes say: the front of a list, the kinds of a header, places
pub mod Front
pub mod Kinds
pub mod Places
-- ---- an image by addresses: records one after another, what ends them, whole readings
pub mod Row
pub mod Frame
pub mod Spots
pub mod Stops
pub mod Reads
pub mod First
pub mod Known
pub mod Scattered
-- ---- what a list of steps does to one byte
pub mod Effect
pub mod Copy
pub mod Close
pub mod Ends
-- ---- readings after steps: the head goes on to Y, a free run is erased, records die
pub mod Led
pub mod Closing
pub mod Spared
pub mod Dropped
pub mod Voids
pub mod TornWrap
pub mod VoidReads
-- ---- mount: repairs 1 and 2 as a whole, what they leave, repairs 3 and 4 and the report from the first reading, all four
pub mod Started
pub mod Leads
pub mod Phase
pub mod Half
pub mod Rivals
pub mod Told
pub mod Mends
-- ---- sweep: a settled image, steps (b) to (f) of a move, step (a), all moves
pub mod Rested
pub mod Handing
pub mod NewCopy
pub mod Putting
pub mod PutRested
pub mod Copied
pub mod Moves
-- ---- the same sweep by the entry chain
pub mod Lone
pub mod Walked
-- ---- request K3: live, dead, free and lost bytes, their sum, and how they are counted from the first reading
pub mod Puts
pub mod Space
pub mod Spaces
pub mod MountCounts
pub mod Filed
pub mod Markers
pub mod LedMarkers
pub mod CallMarkers
pub mod SweepCounts
pub mod PutCounts
pub mod Walls
pub mod Strides

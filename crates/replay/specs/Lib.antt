-- The replay of a bus trace (02, K7). The files stand here lowest first; each uses only those above it.

-- ---- one entry, the replay turn by turn, the search for the first refused image, that its count is the least
pub mod Entry
pub mod Told
pub mod Watching
pub mod Least
-- ---- sound steps are a trace that replays to its end
pub mod Runs
-- ---- the steps of each call are sound, on every image that it takes: a new record, (c) to (f) of a move, the four repairs, the calls
pub mod Record
pub mod Placing
pub mod Closing
pub mod Mounting
pub mod Voiding
pub mod LastThing
pub mod Mounts
pub mod Puts
pub mod Sweeps
-- ---- the theorem
pub mod Theorem

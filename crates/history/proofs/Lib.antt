-- What rests on mount's bounds (specs/Mending.antt, Few): mount on every kind of image, and the theorems. They stand here, not in specs/,
-- since rt judges an edit of a definition (must-fail/) only where no theorem of specs/ rests on the theorem that it makes false.
-- The files stand lowest first.

-- ---- mount, on every kind of image
pub mod Mounts
-- ---- the plan of each call
pub mod Calls
-- ---- a call that is cut: put and remove, whose ledger changes at one byte
pub mod PutKeeps
pub mod RemoveKeeps
-- ---- the theorem
pub mod Theorem
-- ---- the promise of sweeps after a put
pub mod Progress
-- ---- the most steps of a mount
pub mod MountBound

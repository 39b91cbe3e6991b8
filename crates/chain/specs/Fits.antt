-- What stands at a cursor lies within its stretch.
use Rattle.std.specs.Prelude.{ℕ, ◌-◌, ◌≤◌, ◌≡◌, List, length}
use Rattle.std.proofs.Common.{arith, length-drop, length-take}
use Rattle.spec.specs.declared.Next.{Next}
use Rattle.spec.specs.Record.{size_of}
use Rattle.laws.specs.Fits.{Fits, allowed_fits}
use Rattle.chain.specs.declared.Cursor.{Cursor}
use Rattle.chain.specs.Cursor.{window, look}

pub look_fits : (image : List ℕ) (c : Cursor) → Fits (look image c) (length (window image c))
unfolding look
look_fits image c = allowed_fits c.pending (window image c)

window_length : (image : List ℕ) (c : Cursor) → length (window image c) ≤ c.end - c.at
window_length image c = rw (length-drop, length-take) (omega arith)

-- a record lies within its stretch
pub look_inside : (image : List ℕ) (c : Cursor) (n d : ℕ) → look image c ≡ Next.Record n d → size_of n d ≤ c.end - c.at
look_inside image c n d e =
    let f : size_of n d ≤ length (window image c) = rw e at (look_fits image c) in
    omega (arith, window_length image c)

-- A record reads the same where no byte of it is written, and where its status goes from F8 to 00.
use Rattle.std.specs.Prelude.{ℕ, ◌≤◌, ◌<◌, ◌≡◌, false, List, length, get_or}
use Rattle.std.proofs.Common.{arith}
use Rattle.spec.specs.declared.Next.{Next}
use Rattle.spec.specs.Record.{size_of}
use Rattle.spec.specs.Next.{next, next_at, kind}
use Rattle.laws.specs.Fits.{Fits, allowed_fits}
use Rattle.planning.specs.Front.{kind_of, next_like}
use Rattle.planning.specs.Kinds.{migrating_finished, kind_dead}

module _ (s t : List ℕ) (n d : ℕ) (len : length t ≡ length s) (same : (i : ℕ) → 4 ≤ i → i < size_of n d → get_or t i 0 ≡ get_or s i 0) where
  pub next_kept : (next_at (kind_of s) s ≡ Next.Record n d → kind_of t ≡ kind_of s) → next s ≡ Next.Record n d → next t ≡ Next.Record n d
  next_kept k h =
      let f : Fits (next s) (length s) = allowed_fits false s in
      let g : size_of n d ≤ length s = rw h at f in
      next_like s t n d (omega arith) (λ i a b. same i a (omega arith)) k h

-- F8 and 00 are both a finished record's
pub kind_dropped : (b c spare : ℕ) (s : List ℕ) {n d : ℕ} → next_at (kind b c 0xF8 spare) s ≡ Next.Record n d
    → kind b c 0x00 spare ≡ kind b c 0xF8 spare
kind_dropped b c spare s here = kind_dead b c 0xF8 spare s here migrating_finished

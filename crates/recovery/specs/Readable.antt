-- What every repair asks of the image that it reads, and of a low byte that it read there.
use Rattle.std.specs.Prelude.{ℕ, ◌<◌, ◌≡◌, Bool, length}
use Rattle.std.proofs.Common.{sym, ap, ◌∙◌}
use Rattle.spec.specs.Step.{Image}
use Rattle.spec.specs.Bytes.{is_clean}
use Rattle.laws.specs.Length.{Workable}

-- a head h inside an image whose length the code can work with
abbrev pub Readable : Image → ℕ → Type 0
Readable s h = (h < length s) × Workable s

-- what the code asks of a low byte that it read, and what its test says
pub clean_told : {low own : ℕ} {r t : Bool} → low ≡ own → r ≡ is_clean low → r ≡ t → is_clean own ≡ t
clean_told e f g = ap is_clean (sym e) ∙ sym f ∙ g

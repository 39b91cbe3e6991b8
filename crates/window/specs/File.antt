-- The file that is replaced lies in the image, so its address can be handed out.
use Rattle.std.specs.Prelude.{ℕ, ◌≤◌}
use Rattle.std.proofs.Common.{arith}
use Rattle.writing.specs.Answers.{Old}
use Rattle.std.specs.Prelude.{Some, None}
use Rattle.writing.specs.Old.{Lies}

pub lies_below : (o : Old) (N M : ℕ) → Lies o N → N ≤ M → Lies o M
lies_below None N M l h = tt
lies_below (Some f) N M l h = omega arith

-- A sector whose bytes were all made FF is erased.
use Rattle.std.specs.Prelude.{ℕ, ◌≡◌, List, ◌++◌, take, drop, replicate}
use Rattle.std.proofs.Common.{ap, ◌∙◌}
use borrow.Rule.Slice.PartMut.{put_mid}
use Rattle.spec.specs.Step.{Image, erase, sector, apply}

-- the part of k bytes from address a on holds n bytes of FF
pub filled_erased : (s : Image) (a k n : ℕ) {t : List ℕ} → k ≡ 4096 → n ≡ 4096 → t ≡ replicate n 0xFF → put_mid a k s t ≡ apply s (erase a)
unfolding sector
filled_erased s a k n {t} e f g =
    ap (λ (j : ℕ). take a s ++ (t ++ drop j (drop a s))) e
    ∙ ap (λ (u : List ℕ). take a s ++ (u ++ drop 4096 (drop a s))) (g ∙ ap (λ (j : ℕ). replicate j 0xFF) f)

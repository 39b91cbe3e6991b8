-- plain_header: the bytes are those of the word that is read.
use Prim.Native.Nat.{ℕ, ◌%◌}
use native.Mathlib.Omega.{arith}
use mathlib.Core.Path.{◌≡◌, ap, ◌∙◌}
use lib.Dec.{ltb}
use Rattle.chain.specs.Plain.{plain_if, header_bytes, magic_high}
use Rattle.chain.proofs.plain.plain_header.Goals as goal

pub returns-then-h-eq255 : goal.returns-then-h-eq255
returns-then-h-eq255 c =
    let magic = c.if-h-eq23205.true in
    let w = c.word_at-h in
    let h = w.result in
    let s = c.args.part.now in
    let b = header_bytes s h w.ensures.0 in
    let low : h % 256 ≡ 0xA5 = omega (arith, magic) in
    plain_if s _ (b.0 ∙ low) (b.1 ∙ magic_high h magic) (b.3 ∙ c.if-h-eq255.true) (ap (λ (x : ℕ). ltb x 0xFE) b.2)

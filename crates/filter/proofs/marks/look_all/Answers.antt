use Prim.Native.Nat.{◌+◌, ◌*◌, ◌/◌, ◌%◌, ℕ}
use mathlib.Core.List.{List, []}
use mathlib.Core.Path.{◌≡◌, ap, subst, ◌∙◌}
use lib.ListN.{length, take, get_or}
use native.Mathlib.Omega.{arith}
use Rattle.std.specs.Int.{from_le_bytes, w64}
use Rattle.filter.specs.Hash.{chunk_number}
use Rattle.filter.specs.Marks.{LookedAt, size, looked_first, looked_word}
use Rattle.filter.proofs.marks.look_all.Goals as goal

pub loop-word-init : goal.loop-word-init
loop-word-init c =
    let a = c.args in
    let e : length c.as_rchunks.result.0.now ≡ length (take a.n a.part.now) % 8 + 0 = omega (arith, c.as_rchunks.ensures.front_len) in
    subst (λ (i : ℕ). LookedAt (take a.n a.part.now) i c.look-x.result) e
    (looked_first a.part.now a.n (omega arith) _ c.look-x.result (omega (arith, e, size a.part.now a.n (omega arith))) c.look-x.ensures)

pub loop-word-preserved : goal.loop-word-preserved
loop-word-preserved c =
    let a = c.args in
    let l = c.loop-word in
    let s = take a.n a.part.now in
    let k = length s % 8 in
    let j = l.word-index in
    let long = size a.part.now a.n (omega arith) in
    let words = c.as_rchunks.ensures in
    let word = ap (λ (ws : List (List ℕ)). from_le_bytes w64 (get_or ws j [])) words.back
    ∙ chunk_number s k (length s / 8) j (omega (arith, words.back_len)) (omega arith) in
    let e : k + j * 8 + 8 ≡ k + (j + 1) * 8 = omega arith in
    subst (λ (i : ℕ). LookedAt s i c.with-x.result) e
    (looked_word a.part.now a.n (omega arith) (λ i. omega (arith, c.type_inv.part i)) (k + j * 8) c.from_le_bytes.result l.x c.with-x.result
    l.invariant (omega (arith, words.back_len, long)) (c.from_le_bytes.ensures ∙ word) c.with-x.ensures)

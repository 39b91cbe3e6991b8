use Prim.Native.Nat.{◌+◌, ◌*◌, ◌/◌, ◌%◌, ℕ}
use mathlib.Core.Path.{refl, ap, subst, ◌∙◌, ◌≡◌}
use mathlib.Core.List.{List, []}
use native.Mathlib.Nat.{add-zero}
use lib.ListN.{length, get_or}
use native.Mathlib.Omega.{arith}
use Rattle.std.specs.Int.{from_le_bytes, w64}
use Rattle.record.specs.Digits.{number}
use Rattle.filter.specs.Hash.{Hashed, mixed, hashed_first, hashed_next, hashed_all, chunk_number}
use Rattle.filter.proofs.hash.hash.Goals as goal

pub loop-word-init : goal.loop-word-init
loop-word-init c =
    let s = c.args.name.now in
    let m = c.mixed-h in
    let first = c.joined.ensures ∙ ap number c.as_rchunks.ensures.front in
    rw add-zero (hashed_first s (length s % 8) m.result refl (m.ensures.0 ∙ ap (mixed 0) first) m.ensures.1)

pub loop-word-preserved : goal.loop-word-preserved
loop-word-preserved c =
    let l = c.loop-word in
    let s = c.args.name.now in
    let k = length s % 8 in
    let j = l.word-index in
    let m = c.mixed-h-in-loop-word in
    let words = c.as_rchunks.ensures in
    let word = ap (λ (ws : List (List ℕ)). from_le_bytes w64 (get_or ws j [])) words.back
    ∙ chunk_number s k (length s / 8) j (omega (arith, words.back_len)) (omega arith) in
    let e : k + j * 8 + 8 ≡ k + (j + 1) * 8 = omega arith in
    subst (λ (i : ℕ). Hashed s i m.result) e
    (hashed_next s (k + j * 8) l.h m.result l.invariant (omega (arith, words.back_len))
    (m.ensures.0 ∙ ap (mixed l.h) (c.from_le_bytes.ensures ∙ word)) m.ensures.1)

pub returns : goal.returns
returns c =
    let l = c.loop-word in
    (hashed_all c.args.name.now _ l.h l.invariant (omega (arith, c.as_rchunks.ensures.back_len)), omega arith)

-- The library joins the eight bytes as one number.
use Rattle.std.specs.Prelude.{ℕ, ◌+◌, ◌-◌, ◌<◌, ◌≡◌, List, take, drop, eqb}
use Rattle.std.proofs.Common.{arith, ap, ◌∙◌, subst, sym, length-drop}
use Rattle.std.proofs.lemmas.List.{get_or-drop}
use Rattle.std.specs.Int.{from_le_bytes, w64}
use Rattle.flash.specs.Words.{first_blank}
use Rattle.flash.proofs.word_at.Goals as goal

pub returns : goal.returns
returns c =
    let s = c.args.part.now in
    let i = c.args.i in
    let m = rw c.unwrap.ensures at c.try_into.ensures in
    let n : i + 8 - i ≡ 8 = omega arith in
    let e : c.unwrap.result ≡ take 8 (drop i s) = m.1.same ∙ ap (λ (k : ℕ). take k (drop i s)) n in
    ap (λ (w : ℕ). eqb w 0xFFFF_FFFF_FFFF_FFFF) (c.from_le_bytes.ensures ∙ ap (λ (t : List ℕ). from_le_bytes w64 t) e)
    ∙ first_blank (drop i s) (λ j. subst (λ (x : ℕ). x < 256) (sym (get_or-drop i s j 0)) (omega (arith, c.type_inv.part (i + j))))
    (omega (arith, length-drop i s))

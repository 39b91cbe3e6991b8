-- word_at: the library joins the bytes as one number.
use Rattle.std.specs.Prelude.{ℕ, ◌+◌, ◌-◌, ◌≡◌, List, length, take, drop}
use Rattle.std.proofs.Common.{arith, ap, ◌∙◌, length-drop}
use Rattle.std.proofs.lemmas.List.{length-take-le}
use Rattle.record.specs.Digits.{number, digits, word_bytes, from_bytes}
use Rattle.record.proofs.words.word_at.Goals as goal

pub returns : goal.returns
returns c =
    let s = c.args.part.now in
    let i = c.args.i in
    let t : List ℕ = take 8 (drop i s) in
    let l : length t ≡ 8 = length-take-le 8 (drop i s) (omega (arith, length-drop i s)) in
    let m = rw c.unwrap.ensures at c.try_into.ensures in
    let n : i + 8 - i ≡ 8 = omega arith in
    let e : c.unwrap.result ≡ t = m.1.same ∙ ap (λ (k : ℕ). take k (drop i s)) n in
    let w : c.from_le_bytes.result ≡ number t = c.from_le_bytes.ensures ∙ from_bytes c.unwrap.result (ap length e ∙ l) ∙ ap number e in
    (ap (digits 8) w ∙ word_bytes s i (λ j. omega (arith, c.type_inv.part j)) l, w)

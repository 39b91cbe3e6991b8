-- Those before the window pass; of the others as many go into slots as there are left, and the last ones lie behind it.
use Rattle.std.proofs.Common.{arith, refl, sym, ◌∙◌, ℕ, List, ◌+◌, ◌-◌, ◌<◌, ◌≤◌, ◌≡◌, min, length, take, drop, length-drop}
use Rattle.spec.specs.Step.{bytes_at}
use Rattle.spec.specs.Planner.{shortest}
use Rattle.window.specs.Handed.{held}
use Rattle.window.specs.Bytes.{left_length, leads_skip}
use Rattle.window.specs.Windows.{into, bytes_handed}
use Rattle.window.proofs.Emitter.program_bytes.Goals as goal

pub returns : goal.returns
returns c =
    let a = c.args in
    let w = a.self.now in
    let k = c.min-skipped.result in
    let n = c.min-count.result in
    let src = a.source.now in
    let rest : List ℕ = drop k src in
    let before : 0 < k → w.passed + k ≤ w.first = omega arith in
    let inside : k ≤ length src = omega arith in
    let reached : 0 < length rest → w.first ≤ w.passed + k = omega (arith, length-drop k src) in
    let few : n ≡ min (length rest) (shortest (held w) - (w.passed + k - w.first)) = omega (arith, length-drop k src) in
    let slot : c.saturating_sub-slot.result ≡ w.passed + k - w.first = omega arith in
    let part : k + n - k ≡ n = omega arith in
    leads_skip w a.at src k inside before _ (record {
      slots =
          c.fill_slots.ensures
          ∙ (λ i. into (slot i) (bytes_at (a.at + k) (take (part i) rest)) (held w))
          ∙ sym (bytes_handed w.first (w.passed + k) (a.at + k) n rest (held w) reached few);
      count = omega (arith, left_length a.at src k inside);
      same = refl;
      lent = record { kinds = refl; addresses = refl; bytes = refl };
    })

-- Steps of which the later ones depend on bytes that the earlier ones wrote: they are all done and counted, or the
-- allowance ended among them and they were left off there.
use Rattle.std.specs.Prelude.{◌+◌, ◌-◌, ◌≤◌, ◌<◌, ◌≡◌, refl, List, ◌++◌, length, take}
use Rattle.std.proofs.Common.{arith, sym, ap, ◌∙◌, length-append}
use Rattle.std.proofs.lemmas.List.{take-append-le}
use Rattle.spec.specs.Step.{Image, Step, run}
use Rattle.flash.specs.declared.Meter.{Meter}
use Rattle.flash.specs.Did.{Did, did_both}
use Rattle.flash.specs.Meters.{Enough, UsedUp}

-- from the image s and the meter m, the steps ss were begun and gave the image t and the meter r
pub record Began (s : Image) (m : Meter) (ss : List Step) (t : Image) (r : Meter) : Type 0 where
  pub bytes : t ≡ run s (take (m.allowance - m.asked) ss)
  pub whole : Enough r → r.asked ≡ m.asked + length ss
  pub cut : UsedUp r → m.allowance < m.asked + length ss
  pub same : r.allowance ≡ m.allowance

pub began_did : {s t : Image} {m r : Meter} {ss : List Step} → Did s m ss t r → Began s m ss t r
began_did d = record { bytes = d.bytes; whole = λ h. d.count; cut = λ h. omega (arith, d.count, d.same); same = d.same }

module _ {s t : Image} {m r : Meter} {a : List Step} (w : Began s m a t r) where
  pub began_whole : Enough r → Did s m a t r
  began_whole h = record { bytes = w.bytes; count = w.whole h; same = w.same }

  -- all are done: others may be begun behind them
  pub began_both : {u : Image} {q : Meter} {b : List Step} → Enough r → Began t r b u q → Began s m (a ++ b) u q
  began_both {u} {q} {b} h v =
      let counted : Meter = record { allowance = r.allowance; asked = r.asked + length b } in
      let d : Did t r b u counted = record { bytes = v.bytes; count = refl; same = refl } in
      record {
        bytes = (did_both (began_whole h) d).bytes;
        whole = λ k. omega (arith, v.whole k, w.whole h, length-append a b);
        cut = λ k. omega (arith, v.cut k, w.whole h, w.same, length-append a b);
        same = v.same ∙ w.same;
      }

  -- the allowance ended among them: whatever were to follow is not begun
  pub began_cut : (b : List Step) → UsedUp r → Began s m (a ++ b) t r
  began_cut b h =
      let k : m.allowance - m.asked ≤ length a = omega (arith, w.cut h) in
      record {
        bytes = w.bytes ∙ ap (run s) (sym (take-append-le (m.allowance - m.asked) a b k));
        whole = λ n. absurd (omega arith);
        cut = λ n. omega (arith, w.cut h, length-append a b);
        same = w.same;
      }

use Prim.Native.Nat.{ℕ}
use Rattle.spec.specs.Record.{low_of, high_of}
use Rattle.spec.specs.Next.{is_torn_marker}
use mathlib.Core.Path.{ap, ◌∙◌}
use native.Mathlib.Omega.{arith}
use Rattle.laws.specs.Flag.{flag}
use Rattle.headers.specs.Fore.{few_untorn, torn_untorn, next_untorn}
use Rattle.headers.proofs.front.front_of.Goals as goal
use Rattle.headers.proofs.front.front_of.Goals.{else-part-ge8-via-then-part-ge8+else-is_torn_marker, else-part-ge8-via-else-part-ge8}

pub returns-then-is_torn_marker : goal.returns-then-is_torn_marker
returns-then-is_torn_marker c =
    let s = c.args.part.now in
    let e = c.is_torn_marker.ensures ∙ ap (λ (st : ℕ). is_torn_marker (low_of s) (high_of s) st) c.from_byte.ensures in
    (torn_untorn s (omega arith) (flag e c.if-is_torn_marker.true), tt)

pub returns : goal.returns
returns c =
    let s = c.args.part.now in
    let n = c.next_of.ensures in
    elim c.else-part-ge8.branch [
      | else-part-ge8-via-then-part-ge8+else-is_torn_marker w ↦
          let e = w.is_torn_marker.ensures ∙ ap (λ (st : ℕ). is_torn_marker (low_of s) (high_of s) st) w.from_byte.ensures in
          (n.0 ∙ next_untorn s w.if-part-ge8.true (flag e w.if-is_torn_marker.false), n.1)
      | else-part-ge8-via-else-part-ge8 w ↦ (n.0 ∙ few_untorn s w.if-part-ge8.false, n.1)
    ]

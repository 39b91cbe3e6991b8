-- head: START at 0, a marker at 0, or what the walk and the search lead to; the search begins behind the run of FF where the walk ended.
use Prim.Native.Nat.{ℕ, ◌+◌}
use mathlib.Core.Path.{ap, ◌∙◌}
use Rattle.laws.specs.Flag.{flag}
use Rattle.spec.specs.Bytes.{is_start, is_wrap, is_high}
use Rattle.spec.specs.Head.{sought, chosen, head}
use Rattle.chain.specs.HeadLaws.{headed}
use Rattle.chain.specs.HeadSkip.{sought_past, run_of_stretch}
use native.Mathlib.Omega.{arith}
use Rattle.chain.proofs.head.head.Goals as goal

pub returns-then-magic : goal.returns-then-magic
unfolding is_start is_high head
returns-then-magic c =
    let e = c.seen.ensures in (
      ap headed e.0 ∙ rw (flag c.magic.ensures c.if-magic.true, head),
      rw e.0 (omega arith),
      e.1,
    )

pub returns-then-magic-2 : goal.returns-then-magic-2
unfolding is_start is_high is_wrap head
returns-then-magic-2 c =
    let e = c.seen-then-magic-2.ensures in (
      ap headed e.0
          ∙ rw (
            flag c.magic.ensures c.if-magic.false,
            flag c.magic-2.ensures c.if-magic-2.true,
            head,
          ),
      rw e.0 tt,
      e.1,
    )

pub returns : goal.returns
unfolding is_start is_high is_wrap head
returns c =
    let s = c.args.image.now in
    let from = c.walk-from.result in
    let w = c.walk-from.ensures in
    let b = c.blank_from-run.ensures in
    let n = run_of_stretch s c.blank_from-run.result from b.0 b.1 in (
      c.chosen.ensures.0
          ∙ ap (chosen s)
          (c.search-found.ensures.0 ∙ ap (λ (k : ℕ). sought s (from + k)) c.up_8.ensures
          ∙ sought_past s from _ w.1 n (omega arith) ∙ ap (sought s) w.0)
          ∙ rw (flag c.magic.ensures c.if-magic.false, flag c.magic-2.ensures c.if-magic-2.false, head),
      c.chosen.ensures.1,
      b.0,
    )

-- chosen: by the magic at a and the CLEAN at 0; a magic that is there lies inside.
use Rattle.laws.specs.Flag.{flag}
use Rattle.spec.specs.Bytes.{is_start, is_high}
use Rattle.spec.specs.Head.{chosen}
use Rattle.laws.specs.Head.{start_inside, clean_inside}
use native.Mathlib.Nat.{le_of_lt}
use native.Mathlib.Omega.{arith}
use Rattle.chain.proofs.head.chosen.Goals as goal

pub returns-then-magic : goal.returns-then-magic
unfolding is_start is_high chosen
returns-then-magic c = (
  rw (flag c.magic.ensures c.if-magic.true, chosen),
  le_of_lt (start_inside _ _ (flag c.magic.ensures c.if-magic.true)),
)

pub returns-then-clean_magic-2 : goal.returns-then-clean_magic-2
unfolding is_start is_high chosen
returns-then-clean_magic-2 c = (
  rw (
    flag c.magic.ensures c.if-magic.false,
    flag c.clean_magic.ensures c.if-clean_magic.true,
    flag
        c.clean_magic-then-clean_magic.ensures c.if-clean_magic-2.true,
    chosen,
  ),
  tt,
)

pub returns-then-clean_magic : goal.returns-then-clean_magic
unfolding is_start is_high chosen
returns-then-clean_magic c = (
  rw (
    flag c.magic.ensures c.if-magic.false,
    flag c.clean_magic.ensures c.if-clean_magic.true,
    flag c.clean_magic-then-clean_magic.ensures c.if-clean_magic-2.false,
    chosen,
  ),
  le_of_lt (clean_inside _ _ (flag c.clean_magic.ensures c.if-clean_magic.true)),
)

pub returns-then-clean_magic-3 : goal.returns-then-clean_magic-3
unfolding is_start is_high chosen
returns-then-clean_magic-3 c = (
  rw (
    flag c.magic.ensures c.if-magic.false,
    flag c.clean_magic.ensures c.if-clean_magic.false,
    flag
        c.clean_magic-2.ensures c.if-clean_magic-3.true,
    chosen,
  ),
  omega arith,
)

pub returns : goal.returns
unfolding is_start is_high chosen
returns c = (
  rw (
    flag c.magic.ensures c.if-magic.false,
    flag c.clean_magic.ensures c.if-clean_magic.false,
    flag
        c.clean_magic-2.ensures c.if-clean_magic-3.false,
    chosen,
  ),
  tt,
)

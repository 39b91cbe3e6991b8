-- walked_here: byte against byte, as the code asks; CLEAN counts at 0 only.
use borrow.Author.Tests.{eq-eqb, ne_eqb}
use Rattle.laws.specs.Flag.{flag, unflag}
use Rattle.spec.specs.Bytes.{is_erased}
use Rattle.chain.proofs.head.walked_here.Goals as goal

pub returns-then-byte : goal.returns-then-byte
unfolding is_erased
returns-then-byte c = rw (eq-eqb _ _ (flag c.byte.ensures c.if-byte.true))

pub returns-then-record_magic : goal.returns-then-record_magic
unfolding is_erased
returns-then-record_magic c =
    rw (ne_eqb _ _ (unflag c.byte.ensures c.if-byte.false), flag c.record_magic.ensures c.if-record_magic.true) c.if-record_magic.true

pub returns-then-at-eq0 : goal.returns-then-at-eq0
unfolding is_erased
returns-then-at-eq0 c =
    rw (
      ne_eqb _ _ (unflag c.byte.ensures c.if-byte.false),
      flag c.record_magic.ensures c.if-record_magic.false,
      eq-eqb _ _ c.if-at-eq0.true,
      c.clean_magic.ensures,
    )

pub returns-else-at-eq0 : goal.returns-else-at-eq0
unfolding is_erased
returns-else-at-eq0 c =
    rw (
      ne_eqb _ _ (unflag c.byte.ensures c.if-byte.false),
      flag c.record_magic.ensures
          c.if-record_magic.false,
      ne_eqb _ _ c.if-at-eq0.false,
    )

-- check_name: the tests in their order.
use mathlib.Core.Path.{sym, ap, ◌∙◌}
use Prim.Native.Nat.{ℕ}
use native.Mathlib.Omega.{arith}
use Rattle.laws.specs.Flag.{flag}
use Rattle.laws.specs.Names.{check_empty, check_long, check_byte, check_last}
use Rattle.record.proofs.name.check_name.Goals as goal

pub returns-then-k-lt1 : goal.returns-then-k-lt1
returns-then-k-lt1 c =
    let n = c.args.name.now in
    sym (check_empty n c.if-k-lt1.true)

pub returns-then-k-gt63 : goal.returns-then-k-gt63
returns-then-k-gt63 c =
    let n = c.args.name.now in
    sym (check_long n (omega arith) c.if-k-gt63.true)

pub returns-then-bad-k : goal.returns-then-bad-k
returns-then-bad-k c =
    let n = c.args.name.now in
    let e = c.first_bad-bad.ensures in
    ap (λ (i : ℕ). record { reason = 3; place = i }) e
    ∙ sym (check_byte n (omega arith) (omega arith) (omega (arith, e)))

pub returns-then-last_is_slash : goal.returns-then-last_is_slash
returns-then-last_is_slash c =
    let n = c.args.name.now in
    let e = c.first_bad-bad.ensures in
    let slash = flag c.last_is_slash.ensures c.if-last_is_slash.true in
    sym (check_last n (omega arith) (omega arith) (omega (arith, e)) slash)

pub returns : goal.returns
returns c =
    let n = c.args.name.now in
    let e = c.first_bad-bad.ensures in
    let none = flag c.last_is_slash.ensures c.if-last_is_slash.false in
    sym (check_last n (omega arith) (omega arith) (omega (arith, e)) none)

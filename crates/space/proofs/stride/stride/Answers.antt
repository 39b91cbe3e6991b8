-- Nothing at the cursor; a live record; or a dead one.
use Rattle.std.proofs.Common.{ap}
use Rattle.laws.specs.Flag.{flag}
use Rattle.chain.specs.Rest.{Run, rest}
use Rattle.chain.specs.Fold.{passes, rest_done}
use Rattle.chain.proofs.Others.{other_step}
use Rattle.space.specs.Strides.{stride_none, stride_alive, stride_dead}
use Rattle.space.proofs.stride.stride.Goals as goal

pub returns-in_default : goal.returns-in_default
returns-in_default c =
    let a = c.args in
    let i = a.image.now in
    let none = rest_done i a.u.walk.cursor c.advance.result c.advance.ensures.0 (other_step c.advance.result c.in_default.not-Record) in
    stride_none i (rest i a.start).entries a.u (ap (λ (r : Run). r.entries) none)

pub returns-then-is_live : goal.returns-then-is_live
returns-then-is_live c =
    let a = c.args in
    let i = a.image.now in
    let t = passes c.advance.ensures c.in-Record.is in
    stride_alive i (rest i a.start).entries a.u c.in-Record.x c.in-Record.past (ap (λ (r : Run). r.entries) t.split)
    c.stride_live.result (flag c.is_live.ensures c.if-is_live.true) c.stride_live.ensures

pub returns : goal.returns
returns c =
    let a = c.args in
    let i = a.image.now in
    let t = passes c.advance.ensures c.in-Record.is in
    stride_dead i (rest i a.start).entries a.u c.in-Record.x c.in-Record.past (ap (λ (r : Run). r.entries) t.split)
    c.stride_over.result (flag c.is_live.ensures c.if-is_live.false) c.requires.1.place c.stride_over.ensures

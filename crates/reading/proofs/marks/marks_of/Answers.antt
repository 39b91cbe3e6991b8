-- marks_of: the part that is lent begins with the record's name.
use Prim.Native.Nat.{ℕ, ◌+◌, ◌-◌}
use native.Mathlib.Omega.{arith}
use mathlib.Core.Path.{sym, ap, subst, ◌∙◌}
use mathlib.Core.List.{List}
use lib.ListN.{length, take, drop}
use lib.Seq.{take-take, drop-drop}
use Rattle.filter.specs.Marks.{MarkedAs}
use Rattle.reading.proofs.marks.marks_of.Goals as goal

pub returns : goal.returns
returns c =
    let a = c.args in
    let n = a.e.n in
    let from = a.e.at + 8 in
    subst (λ (name : List ℕ). MarkedAs name c.marks.result)
    (take-take n (length a.image.now - from) (drop from a.image.now) (omega arith)
    ∙ ap (take n) (sym (drop-drop 8 a.e.at a.image.now)))
    c.marks.ensures

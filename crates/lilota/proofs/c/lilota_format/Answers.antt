-- The numbers of format's answer, through pointers.
use Rattle.std.proofs.Common.{refl}
use Rattle.laws.specs.Nameless.{format_nameless}
use Rattle.spec.specs.Numbers.{of_write, Numbers, Outcome, outcome_of}
use Rattle.calls.specs.Numbers.{written_given, nameless}
use Rattle.lilota.proofs.c.lilota_format.Goals as goal

pub returns : goal.returns
returns c =
    let n = c.from-n.result in
    let out : Numbers → Outcome = λ m. outcome_of m c.format.new.image in
    let e = written_given out _ _ c.from-n.ensures c.format.ensures.0 in
    nameless out (λ o. o.numbers.name) (λ m. refl) (of_write n.answer n.steps) _ e (format_nameless _ _)

-- The numbers of list's answer, through pointers.
use Rattle.std.proofs.Common.{refl}
use Rattle.laws.specs.Nameless.{list_nameless}
use Rattle.spec.specs.Numbers.{of_list, Numbers, Outcome, outcome_of}
use Rattle.calls.specs.Numbers.{listed_given, nameless}
use Rattle.lilota.proofs.c.lilota_list.Goals as goal

pub returns : goal.returns
returns c =
    let n = c.from-n.result in
    let out : Numbers → Outcome = λ m. outcome_of m c.args.image.now in
    let e = listed_given out _ _ c.from-n.ensures c.list_place.ensures.0 in
    nameless out (λ o. o.numbers.name) (λ m. refl) (of_list n.answer n.extent n.size) _ e (list_nameless _ _)

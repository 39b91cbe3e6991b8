-- name_ok: nothing is wrong.
use Rattle.std.specs.Prelude.{◌≡◌, eqb, is_ok, Result, Ok, Err, ⊤}
use Rattle.std.proofs.Common.{refl, sym, ap, ◌∙◌}
use Rattle.spec.specs.declared.NameFault.{NameFault}
use Rattle.spec.specs.Refusals.{FaultNumbers, name_told}
use Rattle.spec.specs.Record.{name_ok}
use Rattle.record.proofs.name.name_ok.Goals as goal

-- no fault is numbered 0
ok_is : (r : Result ⊤ NameFault) → is_ok r ≡ eqb (name_told r).reason 0
ok_is (Ok u) = refl
ok_is (Err NameFault.Empty) = refl
ok_is (Err NameFault.TooLong) = refl
ok_is (Err (NameFault.BadByte place)) = refl
ok_is (Err NameFault.FinalSlash) = refl

pub returns : goal.returns
unfolding name_ok
returns c = c.is_ok.ensures.value ∙ ok_is c.check_name.result ∙ ap (λ (f : FaultNumbers). eqb f.reason 0) c.check_name.ensures

-- A refusal in numbers, as "Numbers given back" and K5 have it, and the number of each case of the code's enums.
use Rattle.std.specs.Prelude.{ℕ, Option, Some, None, Result, Ok, Err, ⊤}
use Rattle.spec.specs.declared.NameFault.{NameFault}
use Rattle.spec.specs.declared.Refusal.{Refusal}

-- K5: "what is wrong: empty, too long, bad byte with the first one's place (from 0; else 0), or final slash (1 to 4 ..)"; zeros: nothing is
pub record FaultNumbers : Type 0 where
  pub reason : ℕ
  pub place : ℕ

-- the number; and what is wrong with the name, where that is the reason
pub record RefusalNumbers : Type 0 where
  pub number : ℕ
  pub name : FaultNumbers

-- nothing is wrong with the name
abbrev pub no_fault : FaultNumbers
no_fault = record { reason = 0; place = 0 }

-- the refusal that gives back no more than its number
abbrev pub numbered : ℕ → RefusalNumbers
numbered n = record { number = n; name = no_fault }

-- ---- the cases of the enums

abbrev pub fault_numbers : NameFault → FaultNumbers
fault_numbers NameFault.Empty = record { reason = 1; place = 0 }
fault_numbers NameFault.TooLong = record { reason = 2; place = 0 }
fault_numbers (NameFault.BadByte place) = record { reason = 3; place = place }
fault_numbers NameFault.FinalSlash = record { reason = 4; place = 0 }

abbrev pub fault_told : Option NameFault → FaultNumbers
fault_told None = no_fault
fault_told (Some f) = fault_numbers f

-- what the name check answers
abbrev pub name_told : Result ⊤ NameFault → FaultNumbers
name_told (Ok u) = no_fault
name_told (Err f) = fault_numbers f

abbrev pub refusal_numbers : Refusal → RefusalNumbers
refusal_numbers Refusal.NoFile = numbered 2
refusal_numbers Refusal.Broken = numbered 5
refusal_numbers Refusal.Headless = numbered 6
refusal_numbers Refusal.Unsettled = numbered 16
refusal_numbers Refusal.BadLength = numbered 22
refusal_numbers (Refusal.BadName f) = record { number = 22; name = fault_numbers f }
refusal_numbers Refusal.NoRoom = numbered 28

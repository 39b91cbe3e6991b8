-- What a meter says: how many steps it can still count, how many were asked for, and whether the allowance was enough for them.
use Rattle.std.specs.Prelude.{ℕ, ◌+◌, ◌≤◌, ◌<◌, ◌^◌}
use Rattle.flash.specs.declared.Meter.{Meter}

-- k steps more can be counted
abbrev pub CanCount : Meter → ℕ → Type 0
CanCount m k = m.asked + k ≤ 2 ^ 32

-- from m to r at most k steps were asked for
abbrev pub AskedMost : Meter → Meter → ℕ → Type 0
AskedMost m r k = r.asked ≤ m.asked + k

-- all that was asked for was done
abbrev pub Enough : Meter → Type 0
Enough m = m.asked ≤ m.allowance

-- some of it was not
abbrev pub UsedUp : Meter → Type 0
UsedUp m = m.allowance < m.asked

-- The invariant: the moves that are left end where all do.
use Rattle.std.proofs.Common.{◌-◌}
use Rattle.std.proofs.Math.Option.{none}
use Rattle.planning.specs.Strides.{strode}
use Rattle.chain.specs.Rest.{rest}
use Rattle.space.specs.Strides.{Striding}
use Rattle.space.proofs.stride.strides.Given as goal

abbrev pub invariant-loop : goal.invariant-loop
invariant-loop l =
    let all = (rest l.image l.start).entries in
    Striding l.image all (strode l.most all l.initial.u.walk.place l.wall all none) (l.most - l.counter) l.u

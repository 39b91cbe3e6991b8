-- What the repairs did is the defined plan, done or cut.
use Rattle.calls.specs.Mount.{mount_cut, mount_done}
use Rattle.calls.proofs.mount.mount_repaired.Goals as goal

pub returns-in-None : goal.returns-in-None
returns-in-None c = mount_cut _ _ _ _ c.requires.0 _ c.mend-w.ensures c.in-None.is

pub returns-in-Some : goal.returns-in-Some
returns-in-Some c = mount_done _ _ _ _ c.requires.0 _ c.mend-w.ensures c.in-Some.report c.args.space c.requires.1 c.in-Some.is

use Rattle.std.proofs.Common.{sym}
use Rattle.ice_chip_build.proofs.faults.clash_of.Goals as goal

pub returns-then-different : goal.returns-then-different
returns-then-different c = sym (c.requires c.if-different.true)

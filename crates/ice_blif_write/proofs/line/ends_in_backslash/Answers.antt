use Rattle.ice_blif_write.proofs.Joining.{last_ends}
use Rattle.ice_blif_write.proofs.line.ends_in_backslash.Goals as goal

pub returns-in-Some : goal.returns-in-Some
returns-in-Some c = last_ends c.args.line.now c.in-Some.last.now c.in-Some.ensures.value

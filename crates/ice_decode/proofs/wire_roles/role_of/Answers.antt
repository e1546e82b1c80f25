use Rattle.std.proofs.Common.{sym, ◌∙◌}
use Rattle.std.proofs.lemmas.List.{at_drop_all}
use Rattle.ice_decode.specs.Drivers.{first_role}
use Rattle.ice_decode.proofs.wire_roles.role_of.Goals as goal

pub returns : goal.returns
returns c = sym (c.loop-placed.invariant ∙ at_drop_all (first_role c.args.chip.now) c.names-placed-items.result.now c.loop-placed.placed-index c.loop-placed-test.false)

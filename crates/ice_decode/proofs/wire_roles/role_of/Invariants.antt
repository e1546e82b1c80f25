use Rattle.std.proofs.Common.{◌≡◌, drop}
use Rattle.ice_decode.specs.Drivers.{first_role, role_of}
use Rattle.ice_decode.proofs.wire_roles.role_of.Given as goal

abbrev pub invariant-loop-placed : goal.invariant-loop-placed
invariant-loop-placed l = role_of l.chip l.fn.wire.0 ≡ first_role l.chip (drop l.placed-index l.placed-items)

use Rattle.std.proofs.Common.{◌≡◌, drop}
use Rattle.std.specs.List.{list_any}
use Rattle.ice_back_laws.specs.Roots.{leads_from}
use Rattle.ice_back_points.proofs.heard.some_leads_from.Given as goal

abbrev pub invariant-loop-driver : goal.invariant-loop-driver
invariant-loop-driver l = list_any (leads_from l.wire.0) l.drivers ≡ list_any (leads_from l.wire.0) (drop l.driver-index l.drivers)

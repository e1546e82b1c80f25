use Rattle.std.proofs.Common.{◌≡◌, ◌++◌, drop}
use Rattle.std.specs.List.{zip}
use Rattle.ice_emit_nets.specs.Sides.{sides}
use Rattle.ice_emit_settings.specs.Ports.{port_gives}
use Rattle.ice_emit_settings.specs.Views.{views}
use Rattle.ice_emit_settings.proofs.ports.push_ports.Given as goal

abbrev pub invariant-loop-k : goal.invariant-loop-k
invariant-loop-k l = views l.made.items ++ sides (port_gives l.chip) (zip l.pads l.pullups) l.k (drop l.k l.ports) ≡ views l.initial.made.items ++ sides (port_gives l.chip) (zip l.pads l.pullups) 0 l.ports

use Rattle.std.proofs.Common.{◌≡◌, take}
use Rattle.std.specs.Prelude.{map}
use Rattle.ice_net.specs.declared.driver.SignalDriver.{SignalDriver}
use Rattle.ice_base_values.specs.System.{present}
use Rattle.ice_net.specs.Meaning.{reads}
use Rattle.ice_check.proofs.loops.graph_of_signals.Given as goal

abbrev pub invariant-loop-driver : goal.invariant-loop-driver
invariant-loop-driver l = l.graph ≡ map (λ (driver : SignalDriver). present (reads l.netlist driver)) (take l.driver-index l.drivers)

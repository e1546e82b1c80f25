use Rattle.std.proofs.Common.{List, ap, ◌∙◌}
use Rattle.ice_net.specs.declared.port.Port.{Port}
use Rattle.ice_net.specs.declared.port.Way.TheVariants.{Both}
use Rattle.ice_net.specs.NetlistData.{NetlistData, with_port}
use Rattle.ice_back_laws.specs.Numbers.{port_number, signal}
use Rattle.ice_back.proofs.Ports.{ports_next}
use Rattle.ice_back.proofs.logic.add_ports.Goals as goal

pub loop-number-preserved : goal.loop-number-preserved
loop-number-preserved c =
    c.in_ok-port.ensures.added
    ∙ ap (λ (n : NetlistData). record n { ports = with_port n.ports (signal (port_number c.loop-number.number)) Both }) c.loop-number.invariant
    ∙ ap (λ (ps : List Port). record c.args.netlist.now { ports = ps }) (ports_next c.loop-number.number)

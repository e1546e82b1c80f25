use Rattle.std.proofs.Common.{◌≡◌, ◌++◌, map, take, length}
use Rattle.std.specs.List.{zip}
use Rattle.ice_base.specs.Lines.{text_of_lines}
use Rattle.ice_chip.specs.Views.{package_view}
use Rattle.ice_report.specs.PinReport.{pin_line}
use Rattle.ice_report.proofs.pins.put_ports.Given as goal

abbrev pub invariant-loop-port : goal.invariant-loop-port
invariant-loop-port l = l.text.items ≡ l.fn.text.items ++ text_of_lines (map (pin_line l.netlist (package_view l.«package»)) (take (length l.yielded) (zip l.ports l.pads)))

use Rattle.std.proofs.Common.{◌≡◌, ◌++◌, take}
use Rattle.std.specs.List.{flat_map}
use Rattle.ice_blif_write.specs.Text.{behind_space, signal_words}
use Rattle.ice_blif_write.proofs.cells.put_signals.Given as goal

abbrev pub invariant-loop-signal : goal.invariant-loop-signal
invariant-loop-signal l = l.out.items ≡ l.fn.out.items ++ flat_map behind_space (flat_map (signal_words l.netlist.names) (take l.signal-index l.signals))

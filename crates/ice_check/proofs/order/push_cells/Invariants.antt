use Rattle.std.proofs.Common.{◌≡◌, ◌++◌, drop}
use Rattle.std.specs.Prelude.{slice_index_or}
use Rattle.ice_net.specs.declared.driver.SignalDriver.TheVariants.{Nothing}
use Rattle.ice_check.specs.Loops.{cells_at}
use Rattle.ice_check.proofs.order.push_cells.Given as goal

abbrev pub invariant-loop-signal : goal.invariant-loop-signal
invariant-loop-signal l =
    l.row.items ++ cells_at (λ s. slice_index_or l.drivers s Nothing) (drop l.signal-index l.signals)
    ≡ l.fn.row.items ++ cells_at (λ s. slice_index_or l.drivers s Nothing) l.signals

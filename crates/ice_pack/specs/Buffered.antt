-- The pads of ports, by a table of the SB_IO at each signal.
use Rattle.std.specs.Prelude.{ℕ, ◌+◌, List, [], ◌∷◌, Option, None, slice_index_or}
use Rattle.ice_net.specs.declared.cell.Cell.{Cell}
use Rattle.ice_net.specs.declared.port.Port.{Port}
use Rattle.ice_cells.specs.declared.design.DesignPad.{DesignPad}
use Rattle.ice_cells.specs.Packed.{PackPlan, pad_by}

-- the pads of ports, the first of which is port k
abbrev pub pads_by : PackPlan → List Cell → List (Option ℕ) → ℕ → List Port → List DesignPad
pads_by p cells buffers k [] = []
pads_by p cells buffers k (port ∷ ports) = pad_by p cells k port (slice_index_or buffers port.signal.0 None) ∷ pads_by p cells buffers (k + 1) ports

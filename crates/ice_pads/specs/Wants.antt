-- What the ports and the global buffers of a design need.
use Rattle.std.specs.Prelude.{ℕ, ◌==◌, Bool, false, ◌||◌, Option, None, Some, List, map, length, slice_get, slice_index_or}
use Rattle.std.specs.List.{list_any, range_with_len}
use Rattle.ice_net.specs.declared.kind.Reset.{Reset}
use Rattle.ice_chip.specs.declared.rows.Pad.{Pad}
use Rattle.ice_cells.specs.declared.root.Root.{Root}
use Rattle.ice_cells.specs.declared.root.Root.TheVariants.{PadIn, CellOut, GlobalOut, CarryOut}
use Rattle.ice_cells.specs.declared.cell.Control.{Control}
use Rattle.ice_cells.specs.declared.cell.LogicCell.{LogicCell}
use Rattle.ice_cells.specs.declared.design.DesignPad.{DesignPad}
use Rattle.ice_cells.specs.declared.design.Design.{Design}
use Rattle.ice_pads.specs.declared.want.Buffer.{Buffer}
use Rattle.ice_pads.specs.declared.want.Want.{Want}
use Rattle.ice_pads.specs.declared.want.Pins.{Pins}

-- ---- ports
-- a pad that is read needs its input, one that drives always or where it is enabled needs its output, and the last its enable
abbrev pub want_at : DesignPad → Want
want_at pad = record { input = pad.reads; output = (pad.pin_type == 25) || (pad.pin_type == 41); enable = pad.pin_type == 41; pullup = pad.pullup }

-- what each port needs
abbrev pub wants : Design → List Want
wants d = map want_at d.pads

-- ---- global buffers
abbrev pub is_of_global : ℕ → Option Root → Bool
is_of_global k None = false
is_of_global k (Some (PadIn port)) = false
is_of_global k (Some (CellOut cell)) = false
is_of_global k (Some (GlobalOut number)) = number == k
is_of_global k (Some (CarryOut cell)) = false

abbrev pub enables : ℕ → Option (Control × Reset) → Bool
enables k None = false
enables k (Some flop) = is_of_global k flop.0.enable

abbrev pub resets : ℕ → Option (Control × Reset) → Bool
resets k None = false
resets k (Some flop) = is_of_global k flop.0.reset

-- as what a global buffer is read by the flip-flops of a design
abbrev pub pins_of : List LogicCell → ℕ → Pins
pins_of cells k = record { enable = list_any (λ (c : LogicCell). enables k c.flop) cells; reset = list_any (λ (c : LogicCell). resets k c.flop) cells }

-- the pad whose level a root has, of these pads of ports
abbrev pub pad_of : List Pad → Option Root → Option Pad
pad_of ports None = None
pad_of ports (Some (PadIn port)) = slice_get ports port
pad_of ports (Some (CellOut cell)) = None
pad_of ports (Some (GlobalOut number)) = None
pad_of ports (Some (CarryOut cell)) = None

abbrev pub buffer_of : Design → List Pad → ℕ → Buffer
buffer_of d ports k = record { pad = pad_of ports (slice_index_or d.globals k None); pins = pins_of d.cells k }

-- the pad whose level each global buffer takes, and as what it is read
abbrev pub buffers : Design → List Pad → List Buffer
buffers d ports = map (buffer_of d ports) (range_with_len 0 (length d.globals))

-- What the ports of a netlist drive.
use Rattle.std.specs.Prelude.{ℕ, ◌==◌, Bool, true, false, List, Option, Some, None, if◌then◌else◌, slice_get, slice_index_or}
use Rattle.ice_base.specs.declared.number.SignalNo.{SignalNo}
use Rattle.ice_base_values.specs.System.{reading}
use Rattle.ice_net.specs.declared.cell.Cell.{Cell}
use Rattle.ice_net.specs.declared.driver.Drive.{Drive}
use Rattle.ice_net.specs.declared.driver.Drive.TheVariants.{Off, Low, High}
use Rattle.ice_net.specs.declared.kind.CellKind.{CellKind}
use Rattle.ice_net.specs.declared.kind.CellKind.TheVariants.{PadCell}
use Rattle.ice_net.specs.declared.port.Port.{Port}
use Rattle.ice_net.specs.declared.port.Way.{Way}
use Rattle.ice_net.specs.declared.port.Way.TheVariants.{Output}
use Rattle.ice_net.specs.Drivers.{buffer_at}

-- ---- pin types
-- an SB_IO that drives its pad: an output (011001), and an output with an enable (101001)
abbrev pub output_type : ℕ
output_type = 25

abbrev pub enabled_type : ℕ
enabled_type = 41

-- ---- inputs
-- what the input at a place reads, by the values of signals; a missing one reads `bare`
abbrev pub at_input : Bool → (ℕ → Bool) → List (Option SignalNo) → ℕ → Bool
at_input bare v ins k = reading bare (λ (signal : SignalNo). v signal.0) (slice_index_or ins k None)

-- ---- drives
-- a port that drives a level
abbrev pub level_drive : Bool → Drive
level_drive true = High
level_drive false = Low

-- what a pad is driven with through an SB_IO of a type, by the levels at D_OUT_0 and OUTPUT_ENABLE
abbrev pub pad_drive : ℕ → Bool → Bool → Drive
pad_drive pin_type level enable =
    if pin_type == output_type then level_drive level else (if pin_type == enabled_type then (if enable then level_drive level else Off) else Off)

-- what a port without an SB_IO drives: an Output port the level of its signal
abbrev pub bare_drive : Way → Bool → Drive
bare_drive Output level = level_drive level
bare_drive way level = Off

abbrev pub kind_drive : (ℕ → Bool) → CellKind → List (Option SignalNo) → Drive
kind_drive v (PadCell pin_type pullup) ins = pad_drive pin_type (at_input false v ins 1) (at_input false v ins 2)
kind_drive v kind ins = Off

abbrev pub buffer_drive : (ℕ → Bool) → Option Cell → Drive
buffer_drive v None = Off
buffer_drive v (Some cell) = kind_drive v cell.kind cell.ins

-- what a port drives, by the place of its first SB_IO, if it has one
abbrev pub drive_by : List Cell → (ℕ → Bool) → Port → Option ℕ → Drive
drive_by cells v port None = bare_drive port.way (v port.signal.0)
drive_by cells v port (Some i) = buffer_drive v (slice_get cells i)

-- what a port drives, by the values of signals
abbrev pub port_drive : List Cell → (ℕ → Bool) → Port → Drive
port_drive cells v port = drive_by cells v port (buffer_at cells port.signal.0)

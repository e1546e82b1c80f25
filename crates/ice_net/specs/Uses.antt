-- Which types an SB_IO may have, and which inputs of cells are in use.
use Rattle.std.specs.Prelude.{ℕ, ◌==◌, Bool, true, List, [], ◌∷◌, Option, None, if◌then◌else◌, slice_index_or}
use Rattle.ice_base.specs.declared.number.SignalNo.{SignalNo}
use Rattle.ice_net.specs.declared.kind.CellKind.{CellKind}
use Rattle.ice_net.specs.declared.kind.CellKind.TheVariants.{PadCell}
use Rattle.ice_net.specs.Drives.{output_type, enabled_type}

-- ---- pin types
-- the three types of an SB_IO: an input (000001), an output, and an output with an enable
abbrev pub input_type : ℕ
input_type = 1

abbrev pub is_type : ℕ → Bool
is_type pin_type = if pin_type == input_type then true else (if pin_type == output_type then true else pin_type == enabled_type)

-- ---- inputs
-- D_OUT_0 and OUTPUT_ENABLE of an SB_IO
abbrev pub data_of : List (Option SignalNo) → Option SignalNo
data_of ins = slice_index_or ins 1 None

abbrev pub enable_of : List (Option SignalNo) → Option SignalNo
enable_of ins = slice_index_or ins 2 None

-- the inputs of an SB_IO that are in use, by its type
abbrev pub pad_uses : ℕ → List (Option SignalNo) → List (Option SignalNo)
pad_uses pin_type ins = if pin_type == output_type then data_of ins ∷ [] else (if pin_type == enabled_type then data_of ins ∷ enable_of ins ∷ [] else [])

-- the inputs of a cell that are in use: all but some of an SB_IO
abbrev pub uses_by : CellKind → List (Option SignalNo) → List (Option SignalNo)
uses_by (PadCell pin_type pullup) ins = pad_uses pin_type ins
uses_by kind ins = ins

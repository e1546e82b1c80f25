-- Which pads are read, found in one pass over all that is read.
use Rattle.std.specs.Prelude.{ℕ, ◌<◌, Bool, true, false, List, Option, None, Some, slice_index_or}
use Rattle.ice_cells.specs.declared.design.DesignPad.{DesignPad}
use Rattle.ice_cells.specs.declared.root.Root.{Root}
use Rattle.ice_cells.specs.declared.root.Root.TheVariants.{PadIn, CellOut, GlobalOut, CarryOut}
use Rattle.ice_cells.specs.Tables.{scattered}

-- the port whose pad a root is
abbrev pub pad_at : Option Root → Option ℕ
pad_at None = None
pad_at (Some (PadIn k)) = Some k
pad_at (Some (CellOut c)) = None
pad_at (Some (GlobalOut g)) = None
pad_at (Some (CarryOut c)) = None

abbrev pub noted : Bool → Option Root → Bool
noted before root = true

-- the marks of ports after roots are read
abbrev pub marked : List Bool → List (Option Root) → List Bool
marked marks roots = scattered pad_at noted false marks roots

-- pads by the marks of their ports
abbrev pub marked_pad : List Bool → DesignPad → DesignPad
marked_pad marks pad = record { port = pad.port; pin_type = pad.pin_type; pullup = pad.pullup; drive = pad.drive; enable = pad.enable; reads = slice_index_or marks pad.port false }

-- the pad is that of one of so many ports
abbrev pub HasPort : ℕ → DesignPad → Type 0
HasPort n pad = pad.port < n

-- The report on pins: a line for each port, with the pin and the pad that it has.
use Rattle.std.specs.Prelude.{ℕ, List, [], ◌∷◌, ◌++◌, map, slice_index_or, codes, decimal}
use Rattle.std.specs.List.{zip}
use Rattle.ice_base.specs.Lines.{text_of_lines}
use Rattle.ice_net.specs.NetlistData.{NetlistData}
use Rattle.ice_net.specs.declared.port.Port.{Port}
use Rattle.ice_net.specs.declared.port.Way.{Way}
use Rattle.ice_net.specs.declared.port.Way.TheVariants.{Input, Output, Both}
use Rattle.ice_chip.specs.Database.{PackageRows}
use Rattle.ice_chip.specs.Listings.{first_pin}
use Rattle.ice_chip.specs.declared.rows.Pad.{Pad}
use Rattle.ice_report.specs.Lines.{line_of}

abbrev pub way_word : Way → List ℕ
way_word Input = codes "in"
way_word Output = codes "out"
way_word Both = codes "both"

-- a pad: its first pin, the column and the row of its tile, and which of the tile's two pads it is
abbrev pub pad_words : PackageRows → Pad → List (List ℕ)
pad_words bonded pad = first_pin bonded pad ∷ decimal pad.tile.x ∷ decimal pad.tile.y ∷ decimal pad.pio ∷ []

-- the line of a port: its name, its pad and its way
abbrev pub pin_line : NetlistData → PackageRows → Port × Pad → List ℕ
pin_line n bonded entry = line_of (slice_index_or n.names entry.0.signal.0 [] ∷ (pad_words bonded entry.1 ++ way_word entry.0.way ∷ []))

-- a line for each port in order, with these pads
abbrev pub pin_lines : NetlistData → PackageRows → List Pad → List (List ℕ)
pin_lines n bonded pads = map (pin_line n bonded) (zip n.ports pads)

abbrev pub pin_text : NetlistData → PackageRows → List Pad → List ℕ
pin_text n bonded pads = text_of_lines (pin_lines n bonded pads)

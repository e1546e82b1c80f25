-- What the points of a chip read. It depends on no level, whatever a table or a column buffer makes of what is read.
use Rattle.std.specs.Prelude.{ℕ, ◌+◌, Option, None, Some, List, [], ◌∷◌, length, option_map, if◌then◌else◌, codes}
use Rattle.std.proofs.Common.{zero, suc}
use Rattle.ice_base.specs.declared.number.TileAt.{TileAt}
use Rattle.ice_chip.specs.Database.{Parts}
use Rattle.ice_chip.specs.Lookups.{wire_named, global_of}
use Rattle.ice_bits.specs.Configuration.{Bits}
use Rattle.ice_base_values.specs.System.{present}
use Rattle.ice_decode.specs.declared.point.Point.{Point}
use Rattle.ice_decode.specs.declared.point.Point.TheVariants.{Wire, Carry}
use Rattle.ice_decode.specs.declared.driver.Driver.{Driver}
use Rattle.ice_decode.specs.declared.driver.Driver.TheVariants.{Nothing, By, Several}
use Rattle.ice_decode.specs.declared.role.Role.{Role}
use Rattle.ice_decode.specs.declared.role.Role.TheVariants.{Output, LookUp, CarryOut, Global}
use Rattle.ice_chip.specs.Names.{input_name}
use Rattle.ice_decode.specs.Drivers.{role_of, driver}
use Rattle.ice_decode.specs.Cells.{cells, has_carry, has_flop}
use Rattle.ice_decode.specs.Direct.{takes_pad}

-- ---- points
abbrev pub wire_point : ℕ → Point
wire_point w = Wire (record { 0 = w })

-- how many points there are: as many as wires, and eight for each logic tile
abbrev pub count_points : Parts → ℕ
count_points parts = parts.wires + length (cells parts)

-- ---- what is read
-- the wire of a name in a tile, where there is one
abbrev pub at_pin : Parts → TileAt → List ℕ → Option Point
at_pin parts t name = option_map wire_point (wire_named parts t name)

-- the wire of a name in a tile that may be missing
abbrev pub at_pin_of : Parts → Option TileAt → List ℕ → Option Point
at_pin_of parts None name = None
at_pin_of parts (Some t) name = at_pin parts t name

-- the four inputs of a cell
abbrev pub cell_inputs : Parts → TileAt → ℕ → List (Option Point)
cell_inputs parts t i =
    at_pin parts t (input_name i 0) ∷ at_pin parts t (input_name i 1) ∷ at_pin parts t (input_name i 2) ∷ at_pin parts t (input_name i 3) ∷ []

-- the carry into a cell: the wire below the first one, and the carry of the cell before for the others
abbrev pub carry_into : Parts → TileAt → ℕ → Option Point
carry_into parts t zero = at_pin parts t (codes "carry_in_mux")
carry_into parts t (suc i) = Some (Carry t i)

-- the second and the third input of a cell, and the carry into it
abbrev pub carry_inputs : Parts → TileAt → ℕ → List (Option Point)
carry_inputs parts t i = at_pin parts t (input_name i 1) ∷ at_pin parts t (input_name i 2) ∷ carry_into parts t i ∷ []

-- what feeds a global: `fabout` in its tile
abbrev pub global_feed : Parts → ℕ → Option Point
global_feed parts n = at_pin_of parts (global_of parts n) (codes "fabout")

-- what a wire without a row that is on reads, by its role; `extras` has the extra bits that are set
abbrev pub role_reads : Parts → Bits → List (ℕ × ℕ × ℕ) → Role → List (Option Point)
role_reads parts bits extras (Output t i) = if has_flop parts bits t i then [] else cell_inputs parts t i
role_reads parts bits extras (LookUp t i) = cell_inputs parts t i
role_reads parts bits extras (CarryOut t i) = Some (Carry t i) ∷ []
role_reads parts bits extras (Global n) = if takes_pad parts extras n then [] else global_feed parts n ∷ []
role_reads parts bits extras role = []

-- what a wire reads, by what drives it
abbrev pub driven_reads : Parts → Bits → List (ℕ × ℕ × ℕ) → Role → Driver → List (Option Point)
driven_reads parts bits extras role Nothing = role_reads parts bits extras role
driven_reads parts bits extras role (By s) = Some (Wire s.source) ∷ []
driven_reads parts bits extras role (Several first second) = []

-- What a point reads. A carry that isn't enabled reads nothing.
abbrev pub reads_at : Parts → Bits → List (ℕ × ℕ × ℕ) → Point → List (Option Point)
reads_at parts bits extras (Wire w) = driven_reads parts bits extras (role_of parts w.0) (driver parts bits w.0)
reads_at parts bits extras (Carry t i) = if has_carry parts bits t i then carry_inputs parts t i else []

-- the points that a point depends on
abbrev pub depends_on : Parts → Bits → List (ℕ × ℕ × ℕ) → Point → List Point
depends_on parts bits extras p = present (reads_at parts bits extras p)

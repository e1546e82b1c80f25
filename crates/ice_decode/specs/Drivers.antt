-- What a wire is: what drives it through the rows of switches that are on, and what it is at cells, pads and block RAMs by its names.
use Rattle.std.specs.Prelude.{ℕ, ◌-◌, ◌==◌, ◌&&◌, Option, None, Some, List, [], ◌∷◌, filter, filter_map, option_map, slice_get, codes, bytes_eq, if◌then◌else◌, slice_index_or}
use Rattle.std.specs.Option.{option_and_then, option_or}
use Rattle.ice_chip.specs.Database.{Parts, SwitchGroup, SwitchRow}
use Rattle.ice_bits.specs.Configuration.{Bits}
use Rattle.ice_bits.specs.Settings.{row_on}
use Rattle.ice_decode.specs.declared.driver.Switch.{Switch}
use Rattle.ice_decode.specs.declared.driver.Driver.{Driver}
use Rattle.ice_decode.specs.declared.driver.Driver.TheVariants.{Nothing, By, Several}
use Rattle.ice_base.specs.declared.number.TileAt.{TileAt}
use Rattle.ice_chip.specs.Lookups.{kind_at, names_of}
use Rattle.ice_chip.specs.Names.{is_global_name, cell_pin, in_out_enable_name}
use Rattle.ice_chip.specs.RamNames.{has_ram_wire, ram_number, is_read_out, is_clock_enable, pin_at}
use Rattle.ice_chip.specs.declared.rows.TileKind.{TileKind}
use Rattle.ice_chip.specs.declared.rows.TileKind.TheVariants.{Io, Logic}
use Rattle.ice_chip.specs.declared.placed.PlacedName.{PlacedName}
use Rattle.ice_decode.specs.declared.role.Role.{Role}
use Rattle.ice_decode.specs.declared.role.Role.TheVariants.{Plain, Output, LookUp, CarryOut, PadInput, RamOutput, Global, CarryIn, ClockEnable}

-- a row of a group as a switch
abbrev pub switch : SwitchGroup → ℕ → SwitchRow → Switch
switch g n r = record { row = record { 0 = n }; tile = g.tile; source = record { 0 = r.source }; target = record { 0 = g.wire } }

-- the row of number n of a group
abbrev pub switch_at : SwitchGroup → ℕ → Option Switch
switch_at g n = option_map (switch g n) (slice_get g.rows (n - g.first))

-- the row of a group that is on
abbrev pub switch_on : Bits → SwitchGroup → Option Switch
switch_on bits g = option_and_then (switch_at g) (row_on bits g)

-- the rows of these groups that are on, in the order of their numbers
abbrev pub switches_on : Bits → List SwitchGroup → List Switch
switches_on bits groups = filter_map (switch_on bits) groups

-- those of these rows that lead into a wire
abbrev pub into : ℕ → List Switch → List Switch
into w switches = filter (λ (s : Switch). s.target.0 == w) switches

abbrev pub driver_among : List Switch → Driver
driver_among [] = Nothing
driver_among (s ∷ []) = By s
driver_among (s ∷ r ∷ others) = Several s.row r.row

-- the driver of a wire: its one row that is on, or none, or the first two of several
abbrev pub driver : Parts → Bits → ℕ → Driver
driver parts bits w = driver_among (into w (switches_on bits parts.groups))

-- the number that the digit at a place of a name has
abbrev pub number_at : List ℕ → ℕ → ℕ
number_at name place = slice_index_or name place 48 - 48

-- a global, in every kind of tile: the digit of `glb_netwk_N` is at place 10
abbrev pub global_role : List ℕ → Option Role
global_role name = if is_global_name name then Some (Global (number_at name 10)) else None

-- an output of a cell, by the pin that its name has behind the stroke
abbrev pub output_role : TileAt → ℕ → List ℕ → Option Role
output_role t i pin =
    if bytes_eq pin (codes "out") then Some (Output t i)
    else (if bytes_eq pin (codes "lout") then Some (LookUp t i)
    else (if bytes_eq pin (codes "cout") then Some (CarryOut t i)
    else None))

abbrev pub or_global : Option Role → List ℕ → Option Role
or_global None name = global_role name
or_global (Some role) name = Some role

-- the role of a name in a logic tile: the digit of `lutff_I/` is at place 6
abbrev pub logic_role : TileAt → List ℕ → Option Role
logic_role t name =
    if bytes_eq name (codes "carry_in_mux") then Some (CarryIn t)
    else (if bytes_eq name (codes "lutff_global/cen") then Some ClockEnable
    else or_global (output_role t (number_at name 6) (cell_pin name)) name)

-- the role of a name in an IO tile
abbrev pub io_role : TileAt → List ℕ → Option Role
io_role t name =
    if bytes_eq name (codes "io_0/D_IN_0") then Some (PadInput (record { tile = t; pio = 0 }))
    else (if bytes_eq name (codes "io_1/D_IN_0") then Some (PadInput (record { tile = t; pio = 1 }))
    else (if bytes_eq name in_out_enable_name then Some ClockEnable
    else global_role name))

-- the role of the wire of this number of a block RAM in one of its two tiles
abbrev pub ram_wire_role : TileAt → TileKind → ℕ → Option Role
ram_wire_role t kind n =
    if has_ram_wire kind n && is_read_out n then Some (RamOutput (pin_at t n))
    else (if has_ram_wire kind n && is_clock_enable n then Some ClockEnable
    else None)

-- the role of a name in a tile of a block RAM
abbrev pub ram_role : TileAt → TileKind → List ℕ → Option Role
ram_role t kind name = option_or (option_and_then (ram_wire_role t kind) (ram_number name)) (global_role name)

-- the role of a name in a tile of a kind
abbrev pub role_in : TileAt → Option TileKind → List ℕ → Option Role
role_in t None name = None
role_in t (Some Io) name = io_role t name
role_in t (Some Logic) name = logic_role t name
role_in t (Some memory) name = ram_role t memory name

abbrev pub role_or : Option Role → Role → Role
role_or None other = other
role_or (Some role) other = role

-- the first role that these names have
abbrev pub first_role : Parts → List PlacedName → Role
first_role parts [] = Plain
first_role parts (n ∷ names) = role_or (role_in n.tile (kind_at parts n.tile) n.name) (first_role parts names)

-- What a wire is, by its names. In a chip no wire has two pins, so the first role is the one.
abbrev pub role_of : Parts → ℕ → Role
role_of parts w = first_role parts (names_of parts w)

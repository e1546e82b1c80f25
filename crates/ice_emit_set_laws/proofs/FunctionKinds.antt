-- The functions that are read, by their names: none is of a PLL, a pair of pads or a cascade, and each kind of tile has its own.
use Rattle.std.proofs.Common.{◌≡◌, ℕ, ◌<◌, true, false, Some, List, refl, ap, codes, arith}
use Rattle.std.specs.Prelude.{is_some}
use Rattle.ice_base.specs.declared.number.TileAt.{TileAt}
use Rattle.ice_chip.specs.Database.{Parts}
use Rattle.ice_chip.specs.FunctionNames.{function_name}
use Rattle.ice_chip.specs.Names.{cell_function, pin_type_function, column_buffer_function}
use Rattle.ice_chip.specs.Functions.{is_of_cascade, is_foreign, is_logic_cell, is_first_pin_type, is_second_pin_type, is_column_buffer}
use Rattle.ice_chip.specs.Lookups.{kind_at}
use Rattle.ice_chip_names.specs.declared.function_names.TileFunction.{TileFunction}
use Rattle.ice_chip_names.specs.declared.function_names.TileFunction.TheVariants.{Cell, FallingClock, CarrySet, PinType, InputEnable, PullUp, ColumnBuffer, PowerUp, RamMode}
use Rattle.ice_chip.specs.declared.rows.TileKind.{TileKind}
use Rattle.ice_chip.specs.declared.rows.TileKind.TheVariants.{Io, Logic, RamBottom, RamTop}
use Rattle.ice_chip_names.proofs.Prefixes.{number_behind_read}

-- the name is of no foreign function in the tile
abbrev pub IsOwn : Parts → TileAt → List ℕ → Type 0
IsOwn parts t name = (kind : TileKind) → kind_at parts t ≡ Some kind → is_foreign kind name ≡ false

own_io : (g : TileFunction) → (g ≡ FallingClock → ⊥) → is_foreign Io (function_name g) ≡ false
own_io (Cell i) other = refl
own_io FallingClock other = absurd (other refl)
own_io CarrySet other = refl
own_io (PinType pio place) other = refl
own_io (InputEnable pio) other = refl
own_io (PullUp pio) other = refl
own_io (ColumnBuffer n) other = refl
own_io PowerUp other = refl
own_io (RamMode place) other = refl

own_ram : (g : TileFunction) → is_of_cascade (function_name g) ≡ false
own_ram (Cell i) = refl
own_ram FallingClock = refl
own_ram CarrySet = refl
own_ram (PinType pio place) = refl
own_ram (InputEnable pio) = refl
own_ram (PullUp pio) = refl
own_ram (ColumnBuffer n) = refl
own_ram PowerUp = refl
own_ram (RamMode place) = refl

-- a function that is read, where the falling clock stands in no IO tile
pub own_name : (parts : Parts) (t : TileAt) (g : TileFunction) → (g ≡ FallingClock → kind_at parts t ≡ Some Io → ⊥) → IsOwn parts t (function_name g)
own_name parts t g clock Io known = own_io g (λ e. clock e known)
own_name parts t g clock Logic known = refl
own_name parts t g clock RamBottom known = own_ram g
own_name parts t g clock RamTop known = own_ram g

pub cell_named : (i : ℕ) → i < 8 → is_logic_cell (cell_function i) ≡ true
cell_named i lt = ap is_some (number_behind_read 8 (codes "LC_") i lt (omega arith))

pub first_named : (k : ℕ) → k < 6 → is_first_pin_type (pin_type_function 0 k) ≡ true
first_named k lt = ap is_some (number_behind_read 6 (codes "IOB_0.PINTYPE_") k lt (omega arith))

pub second_named : (k : ℕ) → k < 6 → is_second_pin_type (pin_type_function 1 k) ≡ true
second_named k lt = ap is_some (number_behind_read 6 (codes "IOB_1.PINTYPE_") k lt (omega arith))

pub buffer_named : (n : ℕ) → n < 8 → is_column_buffer (column_buffer_function n) ≡ true
buffer_named n lt = ap is_some (number_behind_read 8 (codes "ColBufCtrl.glb_netwk_") n lt (omega arith))

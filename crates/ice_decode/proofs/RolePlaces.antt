-- The cells, pads and globals that wires are of, are those of the chip; pins of block RAMs have numbers from 2 on.
use Rattle.std.proofs.Common.{◌≡◌, ◌⊎◌, ℕ, suc, ◌+◌, ◌*◌, ◌<◌, ◌≤◌, Bool, true, false, cond, List, [], ◌∷◌, Some, None, Option, inl, inr, refl, ap, sym, subst, filter, zero, arith}
use Rattle.std.specs.Prelude.{codes, bytes_eq, ◌&&◌}
use Rattle.std.specs.Map.{lookup}
use Rattle.std.proofs.lemmas.Bool.{cond_both}
use Rattle.std.proofs.lemmas.Option.{same_Some}
use Rattle.ice_base.specs.declared.number.TileAt.{TileAt}
use Rattle.ice_chip.specs.Database.{Parts, same_tile, tile_known}
use Rattle.ice_chip.specs.Lookups.{kind_at, names_of}
use Rattle.std.specs.Option.{option_and_then, option_or}
use Rattle.ice_chip.specs.Names.{cell_pin, is_global_name, in_out_enable_name}
use Rattle.ice_chip.specs.WireNames.{global_name}
use Rattle.ice_chip.specs.RamNames.{has_ram_wire, ram_number, is_read_out, is_clock_enable, pin_at}
use Rattle.ice_chip.specs.declared.rows.TileLine.{TileLine}
use Rattle.ice_chip.specs.declared.rows.TileKind.{TileKind}
use Rattle.ice_chip.specs.declared.rows.TileKind.TheVariants.{Io, Logic, RamBottom, RamTop}
use Rattle.ice_chip.specs.declared.placed.PlacedName.{PlacedName}
use Rattle.ice_base_values.specs.Order.{Has}
use Rattle.ice_decode.specs.declared.point.Point.TheVariants.{Carry}
use Rattle.ice_decode.specs.declared.role.Role.{Role}
use Rattle.ice_decode.specs.declared.role.Role.TheVariants.{Plain, Output, LookUp, CarryOut, PadInput, RamOutput, Global, CarryIn, ClockEnable}
use Rattle.ice_decode.specs.Cells.{is_logic, is_logic_tile, logic_tiles}
use Rattle.ice_decode.specs.Points.{points}
use Rattle.ice_decode.specs.Drivers.{number_at, global_role, output_role, or_global, logic_role, io_role, role_in, role_or, first_role, role_of, ram_wire_role, ram_role}
use Rattle.ice_decode.proofs.Members.{Has_filter, Has_map}
use Rattle.ice_base.proofs.Keys.{tile_same}
use Rattle.ice_base.proofs.Options.{option_map_some}
use Rattle.ice_decode.proofs.PointPlaces.{carry_at}
use Rattle.ice_decode.proofs.CellDigits.{digit_small}
use Rattle.ice_chip.specs.declared.rows.Pad.{Pad}
use Rattle.ice_chip_names.proofs.Prefixes.{set_number}

-- a cell of a logic tile
pub record IsCell (parts : Parts) (t : TileAt) (i : ℕ) : Type 0 where
  pub logic : kind_at parts t ≡ Some Logic
  pub below : i < 8

-- a pad of an IO tile
pub record IsIoPad (parts : Parts) (pad : Pad) : Type 0 where
  pub io : kind_at parts pad.tile ≡ Some Io
  pub pio : pad.pio < 2

module _ (parts : Parts) where
  -- the cell that a role names is one of the chip, and so is the pad or the global
  abbrev pub IsOfCell : Role → Type 0
  IsOfCell Plain = Unit {0}
  IsOfCell (Output t i) = IsCell parts t i
  IsOfCell (LookUp t i) = IsCell parts t i
  IsOfCell (CarryOut t i) = IsCell parts t i
  IsOfCell (PadInput pad) = IsIoPad parts pad
  IsOfCell (RamOutput pad) = 2 ≤ pad.pio
  IsOfCell (Global n) = n < 8
  IsOfCell (CarryIn t) = Unit {0}
  IsOfCell ClockEnable = Unit {0}

  abbrev IsOfCellIf : Option Role → Type 0
  IsOfCellIf None = Unit {0}
  IsOfCellIf (Some role) = IsOfCell role

-- a global has one of eight numbers
global_digit : (n : ℕ) → n < 8 → number_at (global_name n) 10 ≡ n
global_digit zero lt = refl
global_digit (suc zero) lt = refl
global_digit (suc (suc zero)) lt = refl
global_digit (suc (suc (suc zero))) lt = refl
global_digit (suc (suc (suc (suc zero)))) lt = refl
global_digit (suc (suc (suc (suc (suc zero))))) lt = refl
global_digit (suc (suc (suc (suc (suc (suc zero)))))) lt = refl
global_digit (suc (suc (suc (suc (suc (suc (suc zero))))))) lt = refl
global_digit (suc (suc (suc (suc (suc (suc (suc (suc n)))))))) lt = absurd (omega arith)

global_below : (name : List ℕ) → is_global_name name ≡ true → number_at name 10 < 8
global_below name e =
    let which = set_number 8 (codes "glb_netwk_") name (omega arith) e in
    let digit = global_digit which.0 which.1 in
    subst (λ (k : List ℕ). number_at k 10 < 8) (sym which.2) (subst (λ n. n < 8) (sym digit) which.1)

global_of_cell : (parts : Parts) (name : List ℕ) → IsOfCellIf parts (global_role name)
global_of_cell parts name = cond_both (is_global_name name) (Some (Global (number_at name 10))) None (IsOfCellIf parts) (λ e. global_below name e) (λ e. tt)

output_of_cell : (parts : Parts) (t : TileAt) (i : ℕ) (pin : List ℕ) → kind_at parts t ≡ Some Logic → (i < 8) ⊎ (pin ≡ []) → IsOfCellIf parts (output_role t i pin)
output_of_cell parts t i pin logic (inr e) = subst (λ (p : List ℕ). IsOfCellIf parts (output_role t i p)) (sym e) tt
output_of_cell parts t i pin logic (inl lt) =
    cond_both (bytes_eq pin (codes "out")) (Some (Output t i)) _ (IsOfCellIf parts) (λ e. record { logic = logic; below = lt })
    (λ e. cond_both (bytes_eq pin (codes "lout")) (Some (LookUp t i)) _ (IsOfCellIf parts) (λ f. record { logic = logic; below = lt })
    (λ f. cond_both (bytes_eq pin (codes "cout")) (Some (CarryOut t i)) None (IsOfCellIf parts) (λ g. record { logic = logic; below = lt }) (λ g. tt)))

or_of_cell : (parts : Parts) (role : Option Role) (name : List ℕ) → IsOfCellIf parts role → IsOfCellIf parts (or_global role name)
or_of_cell parts None name fits = global_of_cell parts name
or_of_cell parts (Some role) name fits = fits

logic_of_cell : (parts : Parts) (t : TileAt) (name : List ℕ) → kind_at parts t ≡ Some Logic → IsOfCellIf parts (logic_role t name)
logic_of_cell parts t name logic =
    cond_both (bytes_eq name (codes "carry_in_mux")) (Some (CarryIn t)) _ (IsOfCellIf parts) (λ e. tt)
    (λ e. cond_both (bytes_eq name (codes "lutff_global/cen")) (Some ClockEnable) _ (IsOfCellIf parts) (λ f. tt)
    (λ f. or_of_cell parts (output_role t (number_at name 6) (cell_pin name)) name (output_of_cell parts t (number_at name 6) (cell_pin name) logic (digit_small name))))

io_of_cell : (parts : Parts) (t : TileAt) (name : List ℕ) → kind_at parts t ≡ Some Io → IsOfCellIf parts (io_role t name)
io_of_cell parts t name io =
    cond_both (bytes_eq name (codes "io_0/D_IN_0")) (Some (PadInput (record { tile = t; pio = 0 }))) _ (IsOfCellIf parts) (λ e. record { io = io; pio = omega arith })
    (λ e. cond_both (bytes_eq name (codes "io_1/D_IN_0")) (Some (PadInput (record { tile = t; pio = 1 }))) _ (IsOfCellIf parts) (λ f. record { io = io; pio = omega arith })
    (λ f. cond_both (bytes_eq name in_out_enable_name) (Some ClockEnable) _ (IsOfCellIf parts) (λ g. tt) (λ g. global_of_cell parts name)))

either_role_of_cell : (parts : Parts) (role other : Option Role) → IsOfCellIf parts role → IsOfCellIf parts other → IsOfCellIf parts (option_or role other)
either_role_of_cell parts None other fits rest = rest
either_role_of_cell parts (Some role) other fits rest = fits

ram_of_cell : (parts : Parts) (t : TileAt) (kind : TileKind) (name : List ℕ) → IsOfCellIf parts (ram_role t kind name)
ram_of_cell parts t kind name = either_role_of_cell parts (option_and_then (ram_wire_role t kind) (ram_number name)) (global_role name) (by (ram_number name)) (global_of_cell parts name)
  where
    by : (o : Option ℕ) → IsOfCellIf parts (option_and_then (ram_wire_role t kind) o)
    by None = tt
    by (Some n) =
        cond_both (has_ram_wire kind n && is_read_out n) (Some (RamOutput (pin_at t n))) _ (IsOfCellIf parts) (λ e. omega arith)
        (λ e. cond_both (has_ram_wire kind n && is_clock_enable n) (Some ClockEnable) None (IsOfCellIf parts) (λ f. tt) (λ f. tt))

in_of_cell : (parts : Parts) (t : TileAt) (kind : Option TileKind) (name : List ℕ) → kind_at parts t ≡ kind → IsOfCellIf parts (role_in t kind name)
in_of_cell parts t None name e = tt
in_of_cell parts t (Some Io) name e = io_of_cell parts t name e
in_of_cell parts t (Some Logic) name e = logic_of_cell parts t name e
in_of_cell parts t (Some RamBottom) name e = ram_of_cell parts t RamBottom name
in_of_cell parts t (Some RamTop) name e = ram_of_cell parts t RamTop name

either_of_cell : (parts : Parts) (role : Option Role) (other : Role) → IsOfCellIf parts role → IsOfCell parts other → IsOfCell parts (role_or role other)
either_of_cell parts None other fits rest = rest
either_of_cell parts (Some role) other fits rest = fits

first_of_cell : (parts : Parts) (names : List PlacedName) → IsOfCell parts (first_role parts names)
first_of_cell parts [] = tt
first_of_cell parts (n ∷ names) =
    either_of_cell parts (role_in n.tile (kind_at parts n.tile) n.name) (first_role parts names) (in_of_cell parts n.tile (kind_at parts n.tile) n.name refl) (first_of_cell parts names)

pub role_of_cell : (parts : Parts) (w : ℕ) → IsOfCell parts (role_of parts w)
role_of_cell parts w = first_of_cell parts (names_of parts w)

-- ---- the cells are points
lookup_entry : {K V : Type 0} (test : K → Bool) (entries : List (K × V)) (v : V) → lookup test entries ≡ Some v → (k : K) × Has entries (k, v) × (test k ≡ true)
lookup_entry test [] v e = cc e
lookup_entry {K} {V} test (x ∷ entries) v e = by (test x.0) refl (λ f. lookup_entry test entries v f) e
  where
    by : (b : Bool) → test x.0 ≡ b → (lookup test entries ≡ Some v → (k : K) × Has entries (k, v) × (test k ≡ true))
        → cond b (Some x.1) (lookup test entries) ≡ Some v → (k : K) × Has (x ∷ entries) (k, v) × (test k ≡ true)
    by true is later f = (x.0, (0, ap (λ (y : V). Some (x.0, y)) (same_Some x.1 v f)), is)
    by false is later f = let found = later f in (found.0, (suc found.1.0, found.1.1), found.2)

pub logic_there : (parts : Parts) (t : TileAt) → kind_at parts t ≡ Some Logic → Has (logic_tiles parts) t
logic_there parts t e =
    let line = option_map_some (λ (known : TileLine). known.kind) (tile_known parts.tiles t) Logic e in
    let entry = lookup_entry (same_tile t) parts.tiles line.0 line.1 in
    let passes : is_logic_tile (entry.0, line.0) ≡ true = ap is_logic line.2 in
    subst (Has (logic_tiles parts)) (sym (tile_same t entry.0 entry.2))
    (Has_map (λ (tile : TileAt × TileLine). tile.0) (filter is_logic_tile parts.tiles) (entry.0, line.0) (Has_filter is_logic_tile parts.tiles (entry.0, line.0) passes entry.1))

pub cell_there : (parts : Parts) (t : TileAt) (i : ℕ) → IsCell parts t i → Has (points parts) (Carry t i)
cell_there parts t i cell =
    let has = logic_there parts t cell.logic in
    (parts.wires + 8 * has.0 + i, carry_at parts.wires (logic_tiles parts) has.0 i t has.1 cell.below)

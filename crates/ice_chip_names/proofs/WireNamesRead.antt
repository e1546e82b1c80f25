-- The names of the wires of a tile are read as these wires, and no other names are.
use Rattle.std.proofs.Common.{◌≡◌, ℕ, ◌<◌, None, Some, List, [], ◌∷◌, ◌++◌, codes, bytes_eq, refl, sym, ap, ◌∙◌, subst, arith, option_map, IfSome, Option, drop}
use Rattle.ice_chip_names.specs.Names.{digit, number_behind}
use Rattle.ice_chip_names.specs.NameReaders.{number_or, numbered_or}
use Rattle.ice_chip_names.specs.WireNames.{wire_name, IsTileWire, IsNamedWire, WireNamesAreRead, cell_wire, pad_wire, lone_wire, global_wire, outer_wire, tile_wire, global_name}
use Rattle.ice_chip_names.specs.declared.wire_names.TileWire.{TileWire}
use Rattle.ice_chip_names.specs.declared.wire_names.TileWire.TheVariants.{CellInput, CellOutput, CarryOut, LookUp, Clock, ClockEnable, SetReset, CarryIn, FirstCarry, PadInput, PadOutput, OutputEnable, InputClock, OutputClock, InOutEnable, Fabout, Global}
use Rattle.std.specs.Option.{option_or}
use Rattle.ice_chip_names.specs.WireNames.{ram_wire}
use Rattle.ice_chip_names.specs.declared.wire_names.TileWire.TheVariants.{Ram}
use Rattle.ice_base.proofs.Keys.{bytes_same}
use Rattle.ice_chip_names.specs.RamNames.{ram_name, ram_number}
use Rattle.ice_chip_names.proofs.RamNamesRead.{ram_name_begins, ram_name_read, ram_number_told}
use Rattle.ice_chip_names.proofs.Prefixes.{number_behind_read, number_within_read, if_meets, number_meets, number_or_meets, numbered_or_meets}

-- ---- each name is read
pub of_cell : (cell : ℕ) (pin : List ℕ) → cell < 8 → tile_wire (codes "lutff_" ++ digit cell ∷ pin) ≡ cell_wire cell pin
of_cell cell pin lt = ap (λ o. numbered_or cell_wire o (outer_wire (codes "lutff_" ++ digit cell ∷ pin))) (number_within_read 8 (codes "lutff_") cell pin lt (omega arith))

of_pad : (pio : ℕ) (pin : List ℕ) → pio < 2 → tile_wire (codes "io_" ++ digit pio ∷ pin) ≡ pad_wire pio pin
of_pad pio pin lt = ap (λ o. numbered_or pad_wire o (global_wire (codes "io_" ++ digit pio ∷ pin))) (number_within_read 2 (codes "io_") pio pin lt (omega arith))

-- no other name begins with `r`, which is 114
of_ram : (rest : List ℕ) → tile_wire (114 ∷ rest) ≡ ram_wire (114 ∷ rest)
of_ram rest = refl

names_read : (wire : TileWire) → IsTileWire wire → tile_wire (wire_name wire) ≡ Some wire
names_read (CellInput cell input) within =
    of_cell cell (codes "/in_" ++ digit input ∷ []) within.0
    ∙ ap (option_map (CellInput cell)) (number_behind_read 4 (codes "/in_") input within.1 (omega arith))
names_read (CellOutput cell) within = of_cell cell (codes "/out") within
names_read (CarryOut cell) within = of_cell cell (codes "/cout") within
names_read (LookUp cell) within = of_cell cell (codes "/lout") within
names_read Clock within = refl
names_read ClockEnable within = refl
names_read SetReset within = refl
names_read CarryIn within = refl
names_read FirstCarry within = refl
names_read (PadInput pio) within = of_pad pio (codes "/D_IN_0") within
names_read (PadOutput pio) within = of_pad pio (codes "/D_OUT_0") within
names_read (OutputEnable pio) within = of_pad pio (codes "/OUT_ENB") within
names_read InputClock within = refl
names_read OutputClock within = refl
names_read InOutEnable within = refl
names_read Fabout within = refl
names_read (Global n) within = ap (λ o. number_or Global o (option_or (lone_wire (global_name n)) (ram_wire (global_name n)))) (number_behind_read 8 (codes "glb_netwk_") n within (omega arith))
names_read (Ram n) within = ap tile_wire (ram_name_begins n within) ∙ of_ram (drop 1 (ram_name n)) ∙ ap (λ name. ram_wire name) (sym (ram_name_begins n within)) ∙ ap (option_map Ram) (ram_name_read n within)

-- ---- what is read is a name
cell_told : (cell : ℕ) (pin : List ℕ) → cell < 8 → IfSome (cell_wire cell pin) (IsNamedWire (codes "lutff_" ++ digit cell ∷ pin))
cell_told cell pin lt =
    let P = IsNamedWire (codes "lutff_" ++ digit cell ∷ pin) in
    let input : IfSome (option_map (CellInput cell) (number_behind 4 (codes "/in_") pin)) P =
    number_meets P 4 (omega arith) (codes "/in_") pin (CellInput cell) (λ n few e. record { within = (lt, few); named = ap (λ p. codes "lutff_" ++ digit cell ∷ p) e }) in
    if_meets P (bytes_eq pin (codes "/out")) (Some (CellOutput cell)) _ (λ is. record { within = lt; named = ap (λ p. codes "lutff_" ++ digit cell ∷ p) (bytes_same pin (codes "/out") is) })
    (if_meets P (bytes_eq pin (codes "/cout")) (Some (CarryOut cell)) _ (λ is. record { within = lt; named = ap (λ p. codes "lutff_" ++ digit cell ∷ p) (bytes_same pin (codes "/cout") is) })
    (if_meets P (bytes_eq pin (codes "/lout")) (Some (LookUp cell)) _ (λ is. record { within = lt; named = ap (λ p. codes "lutff_" ++ digit cell ∷ p) (bytes_same pin (codes "/lout") is) })
    input))

pad_told : (pio : ℕ) (pin : List ℕ) → pio < 2 → IfSome (pad_wire pio pin) (IsNamedWire (codes "io_" ++ digit pio ∷ pin))
pad_told pio pin lt =
    let P = IsNamedWire (codes "io_" ++ digit pio ∷ pin) in
    if_meets P (bytes_eq pin (codes "/D_IN_0")) (Some (PadInput pio)) _ (λ is. record { within = lt; named = ap (λ p. codes "io_" ++ digit pio ∷ p) (bytes_same pin (codes "/D_IN_0") is) })
    (if_meets P (bytes_eq pin (codes "/D_OUT_0")) (Some (PadOutput pio)) _ (λ is. record { within = lt; named = ap (λ p. codes "io_" ++ digit pio ∷ p) (bytes_same pin (codes "/D_OUT_0") is) })
    (if_meets P (bytes_eq pin (codes "/OUT_ENB")) (Some (OutputEnable pio)) None (λ is. record { within = lt; named = ap (λ p. codes "io_" ++ digit pio ∷ p) (bytes_same pin (codes "/OUT_ENB") is) })
    tt))

lone_told : (name : List ℕ) → IfSome (lone_wire name) (IsNamedWire name)
lone_told name =
    let P = IsNamedWire name in
    if_meets P (bytes_eq name (codes "lutff_global/clk")) (Some Clock) _ (λ is. record { within = tt; named = bytes_same name (codes "lutff_global/clk") is })
    (if_meets P (bytes_eq name (codes "lutff_global/cen")) (Some ClockEnable) _ (λ is. record { within = tt; named = bytes_same name (codes "lutff_global/cen") is })
    (if_meets P (bytes_eq name (codes "lutff_global/s_r")) (Some SetReset) _ (λ is. record { within = tt; named = bytes_same name (codes "lutff_global/s_r") is })
    (if_meets P (bytes_eq name (codes "carry_in")) (Some CarryIn) _ (λ is. record { within = tt; named = bytes_same name (codes "carry_in") is })
    (if_meets P (bytes_eq name (codes "carry_in_mux")) (Some FirstCarry) _ (λ is. record { within = tt; named = bytes_same name (codes "carry_in_mux") is })
    (if_meets P (bytes_eq name (codes "io_global/inclk")) (Some InputClock) _ (λ is. record { within = tt; named = bytes_same name (codes "io_global/inclk") is })
    (if_meets P (bytes_eq name (codes "io_global/outclk")) (Some OutputClock) _ (λ is. record { within = tt; named = bytes_same name (codes "io_global/outclk") is })
    (if_meets P (bytes_eq name (codes "io_global/cen")) (Some InOutEnable) _ (λ is. record { within = tt; named = bytes_same name (codes "io_global/cen") is })
    (if_meets P (bytes_eq name (codes "fabout")) (Some Fabout) None (λ is. record { within = tt; named = bytes_same name (codes "fabout") is })
    tt))))))))

ram_told : (name : List ℕ) → IfSome (ram_wire name) (IsNamedWire name)
ram_told name = by (ram_number name) refl
  where
    by : (o : Option ℕ) → ram_number name ≡ o → IfSome (option_map Ram o) (IsNamedWire name)
    by None e = tt
    by (Some n) e = let found = ram_number_told name n e in record { within = found.0; named = found.1 }

either_told : (P : TileWire → Type 0) (o other : Option TileWire) → IfSome o P → IfSome other P → IfSome (option_or o other) P
either_told P None other first second = second
either_told P (Some wire) other first second = first

told : (name : List ℕ) → IfSome (tile_wire name) (IsNamedWire name)
told name =
    let P = IsNamedWire name in
    numbered_or_meets P 8 (omega arith) (codes "lutff_") name cell_wire (outer_wire name) (λ n pin lt e. subst (λ k. IfSome (cell_wire n pin) (IsNamedWire k)) (sym e) (cell_told n pin lt))
    (numbered_or_meets P 2 (omega arith) (codes "io_") name pad_wire (global_wire name) (λ n pin lt e. subst (λ k. IfSome (pad_wire n pin) (IsNamedWire k)) (sym e) (pad_told n pin lt))
    (number_or_meets P 8 (omega arith) (codes "glb_netwk_") name Global (option_or (lone_wire name) (ram_wire name)) (λ n lt e. record { within = lt; named = e })
    (either_told P (lone_wire name) (ram_wire name) (lone_told name) (ram_told name))))

-- a name of a wire of a block RAM is that of this wire
pub ram_wire_named : (name : List ℕ) (n : ℕ) → ram_number name ≡ Some n → tile_wire name ≡ Some (Ram n)
ram_wire_named name n e = let found = ram_number_told name n e in ap tile_wire found.1 ∙ names_read (Ram n) found.0

pub wire_names_read : WireNamesAreRead
wire_names_read = record { read = names_read; told = told }

-- The names of the functions that are read are read as these functions, and no other names are.
use Rattle.std.proofs.Common.{◌≡◌, ℕ, ◌<◌, None, Some, List, [], ◌∷◌, ◌++◌, codes, bytes_eq, refl, sym, ap, ◌∙◌, subst, arith, option_map, IfSome}
use Rattle.ice_chip_names.specs.Names.{digit, number_behind, cell_function, pin_type_function, input_enable_function, column_buffer_function}
use Rattle.ice_chip_names.specs.NameReaders.{number_or, numbered_or}
use Rattle.ice_chip_names.specs.FunctionNames.{function_name, IsTileFunction, IsNamedFunction, FunctionNamesAreRead, pad_function, lone_function, buffer_function, enable_function, outer_function, tile_function, pull_up_function, ram_mode_function, mode_function}
use Rattle.ice_chip_names.specs.declared.function_names.TileFunction.{TileFunction}
use Rattle.ice_chip_names.specs.declared.function_names.TileFunction.TheVariants.{Cell, FallingClock, CarrySet, PinType, InputEnable, PullUp, ColumnBuffer, PowerUp, RamMode}
use Rattle.ice_base.proofs.Keys.{bytes_same}
use Rattle.ice_chip_names.proofs.Prefixes.{number_behind_read, number_within_read, if_meets, number_meets, number_or_meets, numbered_or_meets}

names_read : (function : TileFunction) → IsTileFunction function → tile_function (function_name function) ≡ Some function
names_read (Cell cell) within = ap (λ o. number_or Cell o (outer_function (cell_function cell))) (number_behind_read 8 (codes "LC_") cell within (omega arith))
names_read FallingClock within = refl
names_read CarrySet within = refl
names_read (PinType pio place) within =
    ap (λ o. numbered_or pad_function o (enable_function (pin_type_function pio place))) (number_within_read 2 (codes "IOB_") pio (codes ".PINTYPE_" ++ digit place ∷ []) within.0 (omega arith))
    ∙ ap (option_map (PinType pio)) (number_behind_read 6 (codes ".PINTYPE_") place within.1 (omega arith))
names_read (InputEnable pio) within =
    ap (λ o. number_or InputEnable o (number_or PullUp (number_behind 2 (codes "IoCtrl.REN_") (input_enable_function pio)) (buffer_function (input_enable_function pio)))) (number_behind_read 2 (codes "IoCtrl.IE_") pio within (omega arith))
names_read (PullUp pio) within = ap (λ o. number_or PullUp o (buffer_function (pull_up_function pio))) (number_behind_read 2 (codes "IoCtrl.REN_") pio within (omega arith))
names_read (ColumnBuffer n) within = ap (λ o. number_or ColumnBuffer o (mode_function (column_buffer_function n))) (number_behind_read 8 (codes "ColBufCtrl.glb_netwk_") n within (omega arith))
names_read PowerUp within = refl
names_read (RamMode place) within = ap (λ o. number_or RamMode o (lone_function (ram_mode_function place))) (number_behind_read 4 (codes "RamConfig.CBIT_") place within (omega arith))

pad_told : (pio : ℕ) (rest : List ℕ) → pio < 2 → IfSome (pad_function pio rest) (IsNamedFunction (codes "IOB_" ++ digit pio ∷ rest))
pad_told pio rest lt =
    number_meets (IsNamedFunction (codes "IOB_" ++ digit pio ∷ rest)) 6 (omega arith) (codes ".PINTYPE_") rest (PinType pio)
    (λ n few e. record { within = (lt, few); named = ap (λ p. codes "IOB_" ++ digit pio ∷ p) e })

lone_told : (name : List ℕ) → IfSome (lone_function name) (IsNamedFunction name)
lone_told name =
    let P = IsNamedFunction name in
    if_meets P (bytes_eq name (codes "NegClk")) (Some FallingClock) _ (λ is. record { within = tt; named = bytes_same name (codes "NegClk") is })
    (if_meets P (bytes_eq name (codes "CarryInSet")) (Some CarrySet) _ (λ is. record { within = tt; named = bytes_same name (codes "CarryInSet") is })
    (if_meets P (bytes_eq name (codes "RamConfig.PowerUp")) (Some PowerUp) None (λ is. record { within = tt; named = bytes_same name (codes "RamConfig.PowerUp") is })
    tt))

told : (name : List ℕ) → IfSome (tile_function name) (IsNamedFunction name)
told name =
    let P = IsNamedFunction name in
    number_or_meets P 8 (omega arith) (codes "LC_") name Cell (outer_function name) (λ n lt e. record { within = lt; named = e })
    (numbered_or_meets P 2 (omega arith) (codes "IOB_") name pad_function (enable_function name) (λ n rest lt e. subst (λ k. IfSome (pad_function n rest) (IsNamedFunction k)) (sym e) (pad_told n rest lt))
    (number_or_meets P 2 (omega arith) (codes "IoCtrl.IE_") name InputEnable _ (λ n lt e. record { within = lt; named = e })
    (number_or_meets P 2 (omega arith) (codes "IoCtrl.REN_") name PullUp (buffer_function name) (λ n lt e. record { within = lt; named = e })
    (number_or_meets P 8 (omega arith) (codes "ColBufCtrl.glb_netwk_") name ColumnBuffer (mode_function name) (λ n lt e. record { within = lt; named = e })
    (number_or_meets P 4 (omega arith) (codes "RamConfig.CBIT_") name RamMode (lone_function name) (λ n lt e. record { within = lt; named = e })
    (lone_told name))))))

pub function_names_read : FunctionNamesAreRead
function_names_read = record { read = names_read; told = told }

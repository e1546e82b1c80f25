use Rattle.std.proofs.Common.{◌++◌, codes, refl}
use Rattle.ice_sample.specs.Bits.{TileFunction, function_row, function_rows, function_series, lone_function, logic_functions}
use Rattle.ice_base.proofs.Pieces.{further}
use Rattle.ice_sample.proofs.Numbering.{further_on_ok, rows_join, head_join}
use Rattle.ice_sample.proofs.bits.put_logic_functions.Goals as goal

pub returns : goal.returns
unfolding logic_functions
returns c =
    let head = codes ".logic_tile_bits 54 16" in
    let size = λ (f : TileFunction). f.size in
    let row = function_row 54 in
    let cells = function_series (codes "LC_") 8 20 in
    let edge = lone_function (codes "NegClk") in
    let carry = lone_function (codes "CarryInSet") in
    let buffers = function_series (codes "ColBufCtrl.glb_netwk_") 8 1 in
    let first = further _ _ _ _ _ _ c.in_ok-put_line.ensures c.in_ok-put_functions.ensures (head_join head (function_rows 54 0 cells)) in
    let second = further _ _ _ _ _ _ first c.in_ok-put_function.ensures (rows_join head size row 0 cells edge 160 refl) in
    let third = further _ _ _ _ _ _ second c.in_ok-put_function-2.ensures (rows_join head size row 0 (cells ++ edge) carry 161 refl) in
    further_on_ok c.put_functions-2.result _ _ c.put_functions-2.new.text.items _ _ _ third c.put_functions-2.ensures (rows_join head size row 0 (cells ++ edge ++ carry) buffers 162 refl)

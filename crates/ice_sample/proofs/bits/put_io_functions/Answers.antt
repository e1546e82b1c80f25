use Rattle.std.proofs.Common.{◌++◌, codes, refl}
use Rattle.ice_sample.specs.Bits.{TileFunction, function_row, function_rows, function_series, lone_function, io_functions}
use Rattle.ice_base.proofs.Pieces.{further}
use Rattle.ice_sample.proofs.Numbering.{further_on_ok, rows_join, head_join}
use Rattle.ice_sample.proofs.bits.put_io_functions.Goals as goal

pub returns : goal.returns
unfolding io_functions
returns c =
    let head = codes ".io_tile_bits 18 16" in
    let size = λ (f : TileFunction). f.size in
    let row = function_row 18 in
    let types = function_series (codes "IOB_0.PINTYPE_") 6 1 in
    let more_types = function_series (codes "IOB_1.PINTYPE_") 6 1 in
    let ie = lone_function (codes "IoCtrl.IE_0") in
    let ren = lone_function (codes "IoCtrl.REN_0") in
    let more_ie = lone_function (codes "IoCtrl.IE_1") in
    let more_ren = lone_function (codes "IoCtrl.REN_1") in
    let first = further _ _ _ _ _ _ c.in_ok-put_line.ensures c.in_ok-put_functions.ensures (head_join head (function_rows 18 0 types)) in
    let second = further _ _ _ _ _ _ first c.in_ok-put_functions-2.ensures (rows_join head size row 0 types more_types 6 refl) in
    let third = further _ _ _ _ _ _ second c.in_ok-put_function.ensures (rows_join head size row 0 (types ++ more_types) ie 12 refl) in
    let fourth = further _ _ _ _ _ _ third c.in_ok-put_function-2.ensures (rows_join head size row 0 (types ++ more_types ++ ie) ren 13 refl) in
    let fifth = further _ _ _ _ _ _ fourth c.in_ok-put_function-3.ensures (rows_join head size row 0 (types ++ more_types ++ ie ++ ren) more_ie 14 refl) in
    further_on_ok c.put_function-4.result _ _ c.put_function-4.new.text.items _ _ _ fifth c.put_function-4.ensures (rows_join head size row 0 (types ++ more_types ++ ie ++ ren ++ more_ie) more_ren 15 refl)

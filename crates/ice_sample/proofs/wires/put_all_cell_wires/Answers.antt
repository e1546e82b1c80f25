use Rattle.std.proofs.Common.{◌≡◌, ◌+◌, ◌*◌, ◌++◌, map, refl, subst, arith}
use Rattle.std.specs.List.{flat_map, range_with_len}
use Rattle.ice_base.specs.Lines.{text_of_lines}
use Rattle.ice_sample.specs.Wires.{wire_lines, named_wires, cell_name, cell_pins, cell_names}
use Rattle.ice_base.proofs.Pieces.{further}
use Rattle.ice_sample.proofs.Numbering.{lists_more, nothing_more}
use Rattle.ice_sample.proofs.wires.put_all_cell_wires.Goals as goal

pub loop-cell-init : goal.loop-cell-init
loop-cell-init c = nothing_more c.args.text.now.items

pub loop-cell-preserved : goal.loop-cell-preserved
unfolding cell_pins
loop-cell-preserved c =
    further _ _ _ _ _ _ c.loop-cell.invariant c.in_ok-put_cell_wires.ensures
    (lists_more (λ _. 1) (wire_lines c.args.at) c.args.first (λ i. map (cell_name i) cell_pins) 6 c.loop-cell.cell (c.args.first + 6 * c.loop-cell.cell) (λ j. refl) refl)

pub returns : goal.returns
unfolding cell_names
returns c =
    let all : c.loop-cell.cell ≡ 8 = omega arith in
    subst (λ n. c.loop-cell.text.items ≡ c.args.text.now.items ++ text_of_lines (named_wires c.args.at c.args.first (flat_map (λ i. map (cell_name i) cell_pins) (range_with_len 0 n)))) all c.loop-cell.invariant

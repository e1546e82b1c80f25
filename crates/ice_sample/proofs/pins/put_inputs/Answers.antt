use Rattle.std.proofs.Common.{◌≡◌, ◌+◌, ◌*◌, ◌++◌, refl, subst, arith}
use Rattle.std.specs.List.{flat_map, range_with_len}
use Rattle.ice_base.specs.Lines.{text_of_lines}
use Rattle.ice_sample.specs.Groups.{SampleGroup, group_lines, groups_from, cell_groups, input_groups}
use Rattle.ice_base.proofs.Pieces.{further}
use Rattle.ice_sample.proofs.Numbering.{lists_more, nothing_more}
use Rattle.ice_sample.proofs.pins.put_inputs.Goals as goal

pub loop-cell-init : goal.loop-cell-init
loop-cell-init c = nothing_more c.args.text.now.items

pub loop-cell-preserved : goal.loop-cell-preserved
loop-cell-preserved c =
    let t = c.args.tile in
    further _ _ _ _ _ _ c.loop-cell.invariant c.in_ok-put_cell.ensures
    (lists_more (λ (x : SampleGroup). x.size) (group_lines t.kind t.at) c.args.bit (cell_groups c.args.first) 16 c.loop-cell.cell (c.args.bit + 16 * c.loop-cell.cell) (λ j. refl) refl)

pub returns : goal.returns
unfolding input_groups
returns c =
    let t = c.args.tile in
    let all : c.loop-cell.cell ≡ 8 = omega arith in
    subst (λ n. c.loop-cell.text.items ≡ c.args.text.now.items ++ text_of_lines (groups_from t.kind t.at c.args.bit (flat_map (cell_groups c.args.first) (range_with_len 0 n)))) all c.loop-cell.invariant

use Rattle.std.proofs.Common.{◌≡◌, ◌+◌, ◌*◌, ◌++◌, map, refl, subst, arith}
use Rattle.std.specs.List.{range_with_len}
use Rattle.ice_base.specs.Lines.{text_of_lines}
use Rattle.ice_sample.specs.Groups.{SampleGroup, group_lines, groups_from, input_group}
use Rattle.ice_base.proofs.Pieces.{further}
use Rattle.ice_sample.proofs.Numbering.{series_more, nothing_more}
use Rattle.ice_sample.proofs.pins.put_cell.Goals as goal

pub loop-input-init : goal.loop-input-init
loop-input-init c = nothing_more c.args.text.now.items

pub loop-input-preserved : goal.loop-input-preserved
loop-input-preserved c =
    let t = c.args.tile in
    further _ _ _ _ _ _ c.loop-input.invariant c.in_ok-put_input.ensures
    (series_more (λ (x : SampleGroup). x.size) (group_lines t.kind t.at) c.args.bit (input_group c.args.first c.args.cell) 4 c.loop-input.input (c.args.bit + 4 * c.loop-input.input) (λ j. refl) refl)

pub returns : goal.returns
returns c =
    let t = c.args.tile in
    let all : c.loop-input.input ≡ 4 = omega arith in
    subst (λ n. c.loop-input.text.items ≡ c.args.text.now.items ++ text_of_lines (groups_from t.kind t.at c.args.bit (map (input_group c.args.first c.args.cell) (range_with_len 0 n)))) all c.loop-input.invariant

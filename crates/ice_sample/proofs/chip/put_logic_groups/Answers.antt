use Rattle.std.proofs.Common.{◌++◌, refl}
use Rattle.ice_sample.specs.declared.grid.TileKind.TheVariants.{Logic}
use Rattle.ice_sample.specs.Bits.{logic_functions}
use Rattle.ice_sample.specs.Groups.{SampleGroup, group_lines, track_groups, input_groups, control_groups, carry_groups, carry_in}
use Rattle.ice_base.proofs.Pieces.{further}
use Rattle.ice_sample.proofs.Numbering.{lists_join}
use Rattle.ice_sample.proofs.chip.put_logic_groups.Goals as goal

pub returns : goal.returns
unfolding logic_functions track_groups input_groups
returns c =
    let g = c.args.grid.now in
    let t = c.args.at in
    let size = λ (x : SampleGroup). x.size in
    let lines = group_lines Logic t in
    let tracks = track_groups g.width g.height Logic t in
    let inputs = input_groups c.args.first in
    let controls = control_groups c.args.first in
    let carry = carry_groups c.args.first (carry_in g.width g.height t) in
    let first = further _ _ _ _ _ _ c.in_ok-put_inputs.ensures c.in_ok-put_controls.ensures (lists_join size lines 426 inputs controls 554 refl) in
    let second = further _ _ _ _ _ _ first c.in_ok-put_carry.ensures (lists_join size lines 426 (inputs ++ controls) carry 569 refl) in
    further _ _ _ _ _ _ c.in_ok-put_tracks.ensures second (lists_join size lines 170 tracks (inputs ++ controls ++ carry) 426 refl)

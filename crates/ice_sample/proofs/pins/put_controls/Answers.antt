use Rattle.std.proofs.Common.{◌+◌, ◌∷◌, [], List, refl, arith}
use Rattle.ice_sample.specs.Groups.{SampleGroup, group_lines, control_group}
use Rattle.ice_base.proofs.Pieces.{further}
use Rattle.ice_sample.proofs.Numbering.{further_on_ok, thing_join, nothing_more}
use Rattle.ice_sample.proofs.pins.put_controls.Goals as goal

pub returns : goal.returns
returns c =
    let size = λ (x : SampleGroup). x.size in
    let lines = group_lines c.args.tile.kind c.args.tile.at in
    let none : List SampleGroup = [] in
    let clock = control_group c.args.first 0 (0 ∷ 1 ∷ 2 ∷ 3 ∷ 4 ∷ 5 ∷ 6 ∷ 7 ∷ []) in
    let enable = control_group c.args.first 1 (1 ∷ 3 ∷ 5 ∷ 7 ∷ []) in
    let reset = control_group c.args.first 2 (0 ∷ 2 ∷ 4 ∷ 6 ∷ []) in
    let first = further _ _ _ _ _ _ (nothing_more c.args.text.now.items) c.in_ok-put_control.ensures (thing_join size lines c.args.bit none clock c.args.bit (omega arith)) in
    let second = further _ _ _ _ _ _ first c.in_ok-put_control-2.ensures (thing_join size lines c.args.bit (clock ∷ []) enable (c.args.bit + 5) refl) in
    further_on_ok c.put_control-3.result _ _ c.put_control-3.new.text.items _ _ _ second c.put_control-3.ensures (thing_join size lines c.args.bit (clock ∷ enable ∷ []) reset (c.args.bit + 10) refl)

use Rattle.std.proofs.Common.{◌+◌, ◌∷◌, [], List, refl, arith}
use Rattle.ice_sample.specs.Groups.{SampleGroup, group_lines, io_pin_group}
use Rattle.ice_base.proofs.Pieces.{further}
use Rattle.ice_sample.proofs.Numbering.{further_on_ok, thing_join, nothing_more}
use Rattle.ice_sample.proofs.pins.put_io_pins.Goals as goal

pub returns : goal.returns
returns c =
    let size = λ (x : SampleGroup). x.size in
    let lines = group_lines c.args.tile.kind c.args.tile.at in
    let none : List SampleGroup = [] in
    let pin = io_pin_group c.args.first in
    let bit = c.args.bit in
    let first = further _ _ _ _ _ _ (nothing_more c.args.text.now.items) c.in_ok-put_io_pin.ensures (thing_join size lines bit none (pin 1 0) bit (omega arith)) in
    let second = further _ _ _ _ _ _ first c.in_ok-put_io_pin-2.ensures (thing_join size lines bit (pin 1 0 ∷ []) (pin 2 1) (bit + 4) refl) in
    let third = further _ _ _ _ _ _ second c.in_ok-put_io_pin-3.ensures (thing_join size lines bit (pin 1 0 ∷ pin 2 1 ∷ []) (pin 4 2) (bit + 8) refl) in
    let fourth = further _ _ _ _ _ _ third c.in_ok-put_io_pin-4.ensures (thing_join size lines bit (pin 1 0 ∷ pin 2 1 ∷ pin 4 2 ∷ []) (pin 5 3) (bit + 12) refl) in
    further_on_ok c.put_io_pin-5.result _ _ c.put_io_pin-5.new.text.items _ _ _ fourth c.put_io_pin-5.ensures (thing_join size lines bit (pin 1 0 ∷ pin 2 1 ∷ pin 4 2 ∷ pin 5 3 ∷ []) (pin 6 4) (bit + 16) refl)

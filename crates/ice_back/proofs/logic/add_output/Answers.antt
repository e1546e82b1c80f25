use Rattle.std.proofs.Common.{◌≡◌, true, List, [], ◌∷◌, sym, ap, ◌∙◌, subst}
use Rattle.std.specs.Prelude.{OnOk}
use Rattle.ice_chip.specs.Database.{Parts}
use Rattle.ice_bits.specs.Configuration.{Configuration, bits_of}
use Rattle.ice_net.specs.declared.cell.Cell.{Cell}
use Rattle.ice_decode.specs.Pads.{has_output_register}
use Rattle.ice_back_laws.specs.Back.{output_cell, output_cells}
use Rattle.ice_back.specs.Adding.{with_cells, HasRoomForCells}
use Rattle.ice_back.proofs.Rooms.{one_made}
use Rattle.ice_back.proofs.logic.add_output.Goals as goal
use Rattle.ice_back.proofs.logic.add_output.Goals.{In_ok-made}

has : (c : In_ok-made) → has_output_register c.args.configured.now.parts (bits_of c.args.configured.now.configuration) c.args.pad ≡ true
has c =
    sym (c.has_output_register.ensures
    ∙ ap (λ (parts : Parts). has_output_register parts (bits_of c.bits.result.now) c.args.pad) c.chip.ensures
    ∙ ap (λ (k : Configuration). has_output_register c.args.configured.now.parts (bits_of k) c.args.pad) c.bits.ensures)
    ∙ c.if-not-has_output_register.false

made : (c : In_ok-made) → output_cells c.args.configured.now.parts (bits_of c.args.configured.now.configuration) c.args.configured.now.configuration.extras c.args.configured.now.bonded.pads (c.args.number, c.args.pad) ≡ c.in_ok-made.made ∷ []
made c =
    one_made (has_output_register c.args.configured.now.parts (bits_of c.args.configured.now.configuration) c.args.pad)
    (output_cell c.args.configured.now.parts (bits_of c.args.configured.now.configuration) c.args.configured.now.configuration.extras c.args.configured.now.bonded.pads (c.args.number, c.args.pad)) c.in_ok-made.made
    (has c) c.in_ok-made.ensures

pub add_cell-requires : goal.add_cell-requires
add_cell-requires c = subst (HasRoomForCells c.args.netlist.now) (made (goal.at.add_cell-requires c).In_ok-made) c.requires.room

pub returns : goal.returns
returns c =
    let a = (goal.at.returns c).In_ok-made in
    subst (λ (cells : List Cell). OnOk c.add_cell.result (c.add_cell.new.netlist ≡ with_cells c.args.netlist.now cells)) (sym (made a)) c.add_cell.ensures

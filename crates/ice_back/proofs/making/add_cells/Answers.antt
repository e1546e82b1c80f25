use Rattle.std.proofs.Common.{◌≡◌, ℕ, ◌≤◌, List, length, map, arith, sym, ap, ◌∙◌, subst}
use Rattle.std.specs.List.{flat_map}
use Rattle.ice_base.specs.declared.number.TileAt.{TileAt}
use Rattle.ice_chip.specs.declared.rows.Pad.{Pad}
use Rattle.ice_bits.specs.Configuration.{bits_of}
use Rattle.ice_back_laws.specs.Back.{pad_cell, side_cells, logic_cells, numbered_pads}
use Rattle.ice_back.specs.Adding.{with_cells, HasRoomForCells}
use Rattle.ice_back.proofs.Named.{fixed_fit, pad_cells_fit, sides_fit, logic_fits, all_made}
use Rattle.ice_back_points.proofs.ConfiguredFacts.{pads_few}
use Rattle.ice_back.proofs.Fits.{cells_stand}
use Rattle.ice_back.proofs.making.add_cells.Goals as goal
use Rattle.ice_back.proofs.making.add_cells.Goals.{In_ok-add_pads, In_ok-add_sides}

pub add_fixed-requires : goal.add_fixed-requires
add_fixed-requires c = fixed_fit c.args.configured.now c.pads-pads.ensures.configured c.args.netlist.now c.requires.named

pub add_pads-requires-clause-room : goal.add_pads-requires-clause-room
add_pads-requires-clause-room c =
    subst (λ (ps : List Pad). HasRoomForCells c.add_fixed.new.netlist (map (pad_cell c.args.configured.now.parts (bits_of c.args.configured.now.configuration) c.args.configured.now.configuration.extras c.args.configured.now.bonded.pads) (numbered_pads ps)))
    (sym c.pads-pads.ensures.pads)
    (pad_cells_fit c.args.configured.now c.pads-pads.ensures.configured c.args.netlist.now c.requires.named c.add_fixed.new.netlist c.in_ok-add_fixed.ensures)

pub add_pads-requires-clause-few : goal.add_pads-requires-clause-few
add_pads-requires-clause-few c =
    let few : length c.pads-pads.result.now ≤ 131072 = subst (λ (ps : List Pad). length ps ≤ 131072) (sym c.pads-pads.ensures.pads) (pads_few c.args.configured.now c.pads-pads.ensures.configured) in
    omega (arith, few)

pub add_all_logic-requires-clause-stand : goal.add_all_logic-requires-clause-stand
add_all_logic-requires-clause-stand c = cells_stand c.args.configured.now.parts c.args.all_cells.now c.requires.cells

pads_are : (c : In_ok-add_pads) → c.add_pads.new.netlist ≡ with_cells c.add_fixed.new.netlist (map (pad_cell c.args.configured.now.parts (bits_of c.args.configured.now.configuration) c.args.configured.now.configuration.extras c.args.configured.now.bonded.pads) (numbered_pads c.args.configured.now.bonded.pads))
pads_are c =
    c.in_ok-add_pads.ensures
    ∙ ap (λ (ps : List Pad). with_cells c.add_fixed.new.netlist (map (pad_cell c.args.configured.now.parts (bits_of c.args.configured.now.configuration) c.args.configured.now.configuration.extras c.args.configured.now.bonded.pads) (numbered_pads ps))) c.pads-pads.ensures.pads

pub add_sides-requires-clause-room : goal.add_sides-requires-clause-room
add_sides-requires-clause-room c =
    subst (λ (ps : List Pad). HasRoomForCells c.add_pads.new.netlist (flat_map (side_cells c.args.configured.now.parts (bits_of c.args.configured.now.configuration) c.args.configured.now.configuration.extras c.args.configured.now.bonded.pads) (numbered_pads ps))) (sym c.pads-pads.ensures.pads)
    (sides_fit c.args.configured.now c.pads-pads.ensures.configured c.args.netlist.now c.requires.named c.add_fixed.new.netlist c.in_ok-add_fixed.ensures c.add_pads.new.netlist (pads_are ((goal.at.add_sides-requires-clause-room c).In_ok-add_pads)))

pub add_sides-requires-clause-few : goal.add_sides-requires-clause-few
add_sides-requires-clause-few c =
    let few : length c.pads-pads.result.now ≤ 131072 = subst (λ (ps : List Pad). length ps ≤ 131072) (sym c.pads-pads.ensures.pads) (pads_few c.args.configured.now c.pads-pads.ensures.configured) in
    omega (arith, few)

sides_are : (c : In_ok-add_sides) → c.add_sides.new.netlist ≡ with_cells c.add_pads.new.netlist (flat_map (side_cells c.args.configured.now.parts (bits_of c.args.configured.now.configuration) c.args.configured.now.configuration.extras c.args.configured.now.bonded.pads) (numbered_pads c.args.configured.now.bonded.pads))
sides_are c =
    c.in_ok-add_sides.ensures ∙ ap (λ (ps : List Pad). with_cells c.add_pads.new.netlist (flat_map (side_cells c.args.configured.now.parts (bits_of c.args.configured.now.configuration) c.args.configured.now.configuration.extras c.args.configured.now.bonded.pads) (numbered_pads ps))) c.pads-pads.ensures.pads

pub add_all_logic-requires-clause-room : goal.add_all_logic-requires-clause-room
add_all_logic-requires-clause-room c =
    let a = goal.at.add_all_logic-requires-clause-room c in
    subst (λ (all : List (TileAt × ℕ)). HasRoomForCells c.add_sides.new.netlist (flat_map (logic_cells c.args.configured.now.parts (bits_of c.args.configured.now.configuration) c.args.configured.now.configuration.extras c.args.configured.now.bonded.pads) all)) (sym c.requires.cells)
    (logic_fits c.args.configured.now c.pads-pads.ensures.configured c.args.netlist.now c.requires.named c.add_fixed.new.netlist c.in_ok-add_fixed.ensures c.add_pads.new.netlist (pads_are a.In_ok-add_pads) c.add_sides.new.netlist
    (sides_are a.In_ok-add_sides))

pub returns : goal.returns
returns c =
    let a = goal.at.returns c in
    all_made c.args.configured.now c.pads-pads.ensures.configured c.args.netlist.now c.requires.named c.add_fixed.new.netlist c.in_ok-add_fixed.ensures c.add_pads.new.netlist (pads_are a.In_ok-add_pads) c.add_sides.new.netlist
    (sides_are a.In_ok-add_sides) c.add_all_logic.new.netlist
    (c.in_ok-add_all_logic.ensures ∙ ap (λ (all : List (TileAt × ℕ)). with_cells c.add_sides.new.netlist (flat_map (logic_cells c.args.configured.now.parts (bits_of c.args.configured.now.configuration) c.args.configured.now.configuration.extras c.args.configured.now.bonded.pads) all)) c.requires.cells)

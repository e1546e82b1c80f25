use Rattle.std.proofs.Common.{◌≡◌, ℕ, ◌≤◌, List, [], length, map, arith, sym, ap, ◌∙◌, subst}
use Rattle.std.specs.List.{flat_map, range_with_len}
use Rattle.ice_base.specs.declared.number.TileAt.{TileAt}
use Rattle.ice_chip.specs.Database.{PackageRows}
use Rattle.ice_chip.specs.Within.{different_pads}
use Rattle.ice_chip.specs.declared.rows.Pad.{Pad}
use Rattle.ice_net.specs.NetlistData.{NetlistData}
use Rattle.ice_back_laws.specs.Back.{pad_port}
use Rattle.ice_back_laws.specs.Numbers.{pad_names, cell_names, back_names}
use Rattle.ice_back.specs.Adding.{with_names, HasRoomForNames}
use Rattle.ice_back.proofs.Named.{zero_fits, one_fits, pads_fit, cell_names_fit, all_named}
use Rattle.ice_back_points.proofs.ConfiguredFacts.{pads_few}
use Rattle.ice_back.proofs.Fits.{pads_different, ports_fit}
use Rattle.ice_back.proofs.making.add_signals.Goals as goal
use Rattle.ice_back.proofs.making.add_signals.Goals.{In_ok-add_cell_names}

pub add_name-requires : goal.add_name-requires
add_name-requires c = zero_fits c.args.configured.now c.pads-pads.ensures.configured c.args.netlist.now c.requires.empty

pub add_name-requires-2 : goal.add_name-requires-2
add_name-requires-2 c = one_fits c.args.configured.now c.pads-pads.ensures.configured c.args.netlist.now c.requires.empty c.add_name.new.netlist c.in_ok-add_name.ensures

pub add_pad_names-requires-clause-room : goal.add_pad_names-requires-clause-room
add_pad_names-requires-clause-room c =
    subst (λ (rows : PackageRows). HasRoomForNames c.add_name-2.new.netlist (flat_map (pad_names rows) rows.pads)) (sym c.«package».ensures)
    (pads_fit c.args.configured.now c.pads-pads.ensures.configured c.args.netlist.now c.requires.empty c.add_name.new.netlist c.in_ok-add_name.ensures c.add_name-2.new.netlist c.in_ok-add_name-2.ensures)

pub add_pad_names-requires-clause-pads : goal.add_pad_names-requires-clause-pads
add_pad_names-requires-clause-pads c =
    subst (λ (rows : PackageRows). rows.pads ≡ different_pads rows.pins) (sym c.«package».ensures) (pads_different c.args.configured.now c.pads-pads.ensures.configured)

pub add_cell_names-requires : goal.add_cell_names-requires
add_cell_names-requires c =
    subst (λ (all : List (TileAt × ℕ)). HasRoomForNames c.add_pad_names.new.netlist (flat_map cell_names all)) (sym c.requires.cells)
    (cell_names_fit c.args.configured.now c.pads-pads.ensures.configured c.args.netlist.now c.requires.empty c.add_name.new.netlist c.in_ok-add_name.ensures c.add_name-2.new.netlist c.in_ok-add_name-2.ensures
    c.add_pad_names.new.netlist (c.in_ok-add_pad_names.ensures ∙ ap (λ (rows : PackageRows). with_names c.add_name-2.new.netlist (flat_map (pad_names rows) rows.pads)) c.«package».ensures))

names_are : (c : In_ok-add_cell_names) → c.add_cell_names.new.netlist ≡ record { names = back_names c.args.configured.now.parts c.args.configured.now.bonded; ports = []; cells = [] }
names_are c =
    all_named c.args.configured.now c.pads-pads.ensures.configured c.args.netlist.now c.requires.empty c.add_name.new.netlist c.in_ok-add_name.ensures c.add_name-2.new.netlist c.in_ok-add_name-2.ensures
    c.add_pad_names.new.netlist (c.in_ok-add_pad_names.ensures ∙ ap (λ (rows : PackageRows). with_names c.add_name-2.new.netlist (flat_map (pad_names rows) rows.pads)) c.«package».ensures)
    c.add_cell_names.new.netlist (c.in_ok-add_cell_names.ensures ∙ ap (λ (all : List (TileAt × ℕ)). with_names c.add_pad_names.new.netlist (flat_map cell_names all)) c.requires.cells)

few : (c : In_ok-add_cell_names) → length c.pads-pads.result.now ≤ 131072
few c = subst (λ (ps : List Pad). length ps ≤ 131072) (sym c.pads-pads.ensures.pads) (pads_few c.args.configured.now c.pads-pads.ensures.configured)

pub overflow_cast-pads : goal.overflow_cast-pads
overflow_cast-pads c = let least = few ((goal.at.overflow_cast-pads c).In_ok-add_cell_names) in omega (arith, least)

pub add_ports-requires-clause-named : goal.add_ports-requires-clause-named
add_ports-requires-clause-named c =
    let long : length c.pads-pads.result.now ≡ length c.args.configured.now.bonded.pads = ap (λ (ps : List Pad). length ps) c.pads-pads.ensures.pads in
    let named : length c.add_cell_names.new.netlist.names ≡ length (back_names c.args.configured.now.parts c.args.configured.now.bonded) = ap (λ (n : NetlistData). length n.names) (names_are ((goal.at.add_ports-requires-clause-named c).In_ok-add_cell_names)) in
    let fit = ports_fit c.args.configured.now c.pads-pads.ensures.configured in
    omega (arith, long, named, fit)

pub add_ports-requires-clause-few : goal.add_ports-requires-clause-few
add_ports-requires-clause-few c = let least = few ((goal.at.add_ports-requires-clause-few c).In_ok-add_cell_names) in omega (arith, least)

pub add_ports-requires-clause-none : goal.add_ports-requires-clause-none
add_ports-requires-clause-none c = ap (λ (n : NetlistData). n.ports) (names_are ((goal.at.add_ports-requires-clause-none c).In_ok-add_cell_names))

pub returns : goal.returns
returns c =
    let a = (goal.at.returns c).In_ok-add_cell_names in
    c.in_ok-add_ports.ensures
    ∙ ap (λ (n : NetlistData). record n { ports = map pad_port (range_with_len 0 (length c.pads-pads.result.now)) }) (names_are a)
    ∙ ap (λ (ps : List Pad). record { names = back_names c.args.configured.now.parts c.args.configured.now.bonded; ports = map pad_port (range_with_len 0 (length ps)); cells = [] }) c.pads-pads.ensures.pads

use Rattle.std.proofs.Common.{◌≡◌, ◌∙◌, ◌<◌, ◌≤◌, None, Some, sym, ap, length, subst, arith, rules}
use Rattle.std.specs.Prelude.{option_map}
use Rattle.ice_net.specs.declared.cell.Cell.{Cell}
use Rattle.ice_check.specs.Faults.{port_is, is_shared, is_bare, cell_is, is_type_out, is_portless, pad_shared, pin_type_out, pin_not_port}
use Rattle.ice_net.specs.Drivers.{pin_of}
use Rattle.ice_check.specs.Refusals.{pin_type_by}
use Rattle.ice_check.proofs.Faulty.{first_within, cell_found}
use Rattle.ice_check.proofs.checking.check_pads.Goals as goal

pub port_name-requires : goal.port_name-requires
port_name-requires c =
    let n = c.args.netlist.now in
    first_within (port_is n (is_shared n.cells)) (length n.ports) c.in-Some.place (sym c.in_ok-place.ensures ∙ c.in-Some.is)

pub bounds-cells-place : goal.bounds-cells-place
bounds-cells-place c =
    let n = c.args.netlist.now in
    subst (λ cells. c.in-Some-pin_type_out.place < length cells) (sym c.cells.ensures.cells)
    (first_within (cell_is n (λ (cell : Cell). is_type_out cell.kind)) (length n.cells) c.in-Some-pin_type_out.place (sym c.pin_type_out.ensures ∙ c.in-Some-pin_type_out.is))

pub offset_bounds-cells-place : goal.offset_bounds-cells-place
offset_bounds-cells-place c =
    let n = c.args.netlist.now in
    let lt : c.in-Some-pin_type_out.place < length n.cells = first_within (cell_is n (λ (cell : Cell). is_type_out cell.kind)) (length n.cells) c.in-Some-pin_type_out.place (sym c.pin_type_out.ensures ∙ c.in-Some-pin_type_out.is) in
    let few : length n.cells ≤ 1073741823 = c.cells.ensures.formed.few_cells in
    omega arith

pub returns-in-Some-pin_type_out-clause-fault : goal.returns-in-Some-pin_type_out-clause-fault
returns-in-Some-pin_type_out-clause-fault c =
    let n = c.args.netlist.now in
    let apart : pad_shared n ≡ None = search rules in
    let lt : c.in-Some-pin_type_out.place < length c.cells.result.now
    = subst (λ cells. c.in-Some-pin_type_out.place < length cells) (sym c.cells.ensures.cells)
    (first_within (cell_is n (λ (cell : Cell). is_type_out cell.kind)) (length n.cells) c.in-Some-pin_type_out.place (sym c.pin_type_out.ensures ∙ c.in-Some-pin_type_out.is)) in
    let found = cell_found n (pin_type_out n) c.in-Some-pin_type_out.place c.cells.result.now c.index-cells-place.result (sym c.pin_type_out.ensures ∙ c.in-Some-pin_type_out.is) c.cells.ensures.cells lt c.index-cells-place.is in
    record {
      signals = c.requires;
      pads_apart = apart;
      first = ap (option_map (λ (cell : Cell). cell.line)) found;
      value = ap (option_map (λ (cell : Cell). pin_type_by cell.kind)) found ∙ ap Some (sym c.pin_type_by.ensures);
    }

pub bounds-cells-place-in-Some-pin_not_port : goal.bounds-cells-place-in-Some-pin_not_port
bounds-cells-place-in-Some-pin_not_port c =
    let n = c.args.netlist.now in
    subst (λ cells. c.in-Some-pin_not_port.place < length cells) (sym c.cells-in-Some-pin_not_port.ensures.cells)
    (first_within (cell_is n (λ (cell : Cell). is_portless n.ports cell.kind (pin_of cell))) (length n.cells) c.in-Some-pin_not_port.place (sym c.pin_not_port.ensures ∙ c.in-Some-pin_not_port.is))

pub offset_bounds-cells-place-in-Some-pin_not_port : goal.offset_bounds-cells-place-in-Some-pin_not_port
offset_bounds-cells-place-in-Some-pin_not_port c =
    let n = c.args.netlist.now in
    let lt : c.in-Some-pin_not_port.place < length n.cells = first_within (cell_is n (λ (cell : Cell). is_portless n.ports cell.kind (pin_of cell))) (length n.cells) c.in-Some-pin_not_port.place (sym c.pin_not_port.ensures ∙ c.in-Some-pin_not_port.is) in
    let few : length n.cells ≤ 1073741823 = c.cells-in-Some-pin_not_port.ensures.formed.few_cells in
    omega arith

pub returns-in-Some-pin_not_port-clause-fault : goal.returns-in-Some-pin_not_port-clause-fault
returns-in-Some-pin_not_port-clause-fault c =
    let n = c.args.netlist.now in
    let apart : pad_shared n ≡ None = search rules in
    let types : pin_type_out n ≡ None = search rules in
    let lt : c.in-Some-pin_not_port.place < length c.cells-in-Some-pin_not_port.result.now
    = subst (λ cells. c.in-Some-pin_not_port.place < length cells) (sym c.cells-in-Some-pin_not_port.ensures.cells)
    (first_within (cell_is n (λ (cell : Cell). is_portless n.ports cell.kind (pin_of cell))) (length n.cells) c.in-Some-pin_not_port.place (sym c.pin_not_port.ensures ∙ c.in-Some-pin_not_port.is)) in
    let found = cell_found n (pin_not_port n) c.in-Some-pin_not_port.place c.cells-in-Some-pin_not_port.result.now c.index-cells-place-in-Some-pin_not_port.result (sym c.pin_not_port.ensures ∙ c.in-Some-pin_not_port.is) c.cells-in-Some-pin_not_port.ensures.cells lt c.index-cells-place-in-Some-pin_not_port.is in
    record {
      signals = c.requires;
      pads_apart = apart;
      pin_types = types;
      first = ap (option_map (λ (cell : Cell). cell.line)) found;
    }

pub port_name-requires-in-Some-2 : goal.port_name-requires-in-Some-2
port_name-requires-in-Some-2 c =
    let n = c.args.netlist.now in
    first_within (port_is n (is_bare n.cells)) (length n.ports) c.in-Some-2.place (sym c.in_ok-place-2.ensures ∙ c.in-Some-2.is)

use Rattle.std.proofs.Common.{length, ap, ◌∙◌}
use Rattle.ice_sim.proofs.Compiling.{counted}
use Rattle.ice_sim.proofs.configured.ConfiguredChip.new.Goals as goal

pub invariant_of-result : goal.invariant_of-result
invariant_of-result c = record {
  chip = c.wires.ensures.chip;
  circuit = c.requires.circuit;
  wires = c.wires.ensures.wires;
  logic_places = c.in_ok-logic_places.ensures;
  io_places = c.in_ok-io_places.ensures;
  pad_places = c.in_ok-pad_places.ensures;
  cells = c.in_ok-cells.ensures ∙ c.len.ensures ∙ c.args.stores.now.cells.ok.0 ∙ ap length c.requires.stores.cells;
  stores = c.in_ok-stores.ensures ∙ counted c.args.chip.now c.args.stores.now c.requires.stores;
}

use Rattle.ice_back_points.proofs.configured.ConfiguredChip.new.Goals as goal

pub invariant_of-result : goal.invariant_of-result
invariant_of-result c = record {
  configured = record {
    chip = c.is_chip.ensures;
    names = (c.lookups_are_lawful.ensures c.args.chip.now c.is_chip.ensures).names;
    faultless = c.requires.circuit.faultless;
    listed = c.requires.listed;
  };
  circuit = c.requires.circuit;
  tiles = c.in_ok-tiles.ensures;
  roots = c.in_ok-roots.ensures;
}

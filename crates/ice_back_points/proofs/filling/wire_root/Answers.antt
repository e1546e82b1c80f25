use Rattle.ice_back_points.proofs.filling.wire_root.Goals as goal

pub driver-requires-clause-drivers : goal.driver-requires-clause-drivers
driver-requires-clause-drivers c = c.requires.circuit.driven_by

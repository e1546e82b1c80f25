use Rattle.std.proofs.Common.{◌≡◌, map, take}
use Rattle.ice_pads.specs.declared.given.Chosen.{Chosen}
use Rattle.ice_pads.proofs.assigning.pads_with.Given as goal

abbrev pub invariant-loop-port : goal.invariant-loop-port
invariant-loop-port l = record {
  ports : l.ports.items ≡ map (λ (c : Chosen). c.pad) (take l.port-index l.chosen);
  pullups : l.pullups.items ≡ map (λ (c : Chosen). c.pullup) (take l.port-index l.chosen);
}

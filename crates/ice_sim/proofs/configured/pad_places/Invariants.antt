use Rattle.std.proofs.Common.{◌≡◌, [], drop}
use Rattle.ice_chip.specs.Database.{same_pad}
use Rattle.ice_sim.specs.ConfiguredChips.{with_places}
use Rattle.ice_sim.proofs.configured.pad_places.Given as goal

abbrev pub invariant-loop-k : goal.invariant-loop-k
invariant-loop-k l = with_places same_pad 0 l.pads [] ≡ with_places same_pad l.k (drop l.k l.pads) l.places.entries

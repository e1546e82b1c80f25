use Rattle.std.proofs.Common.{◌≡◌, take}
use Rattle.ice_sample.specs.Sections.{pads_at}
use Rattle.ice_sample.proofs.pads.pads_at.Given as goal

abbrev pub invariant-loop-at : goal.invariant-loop-at
invariant-loop-at l = l.pads.items ≡ pads_at (take l.at-index l.places)

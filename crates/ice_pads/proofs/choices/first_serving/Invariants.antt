use Rattle.std.proofs.Common.{◌≡◌, drop}
use Rattle.std.specs.List.{find}
use Rattle.ice_pads.specs.Globals.{serves}
use Rattle.ice_pads.proofs.choices.first_serving.Given as goal

abbrev pub invariant-loop-number : goal.invariant-loop-number
invariant-loop-number l = find (serves l.fn.index.chip.now l.pins) l.free ≡ find (serves l.fn.index.chip.now l.pins) (drop l.number-index l.free)

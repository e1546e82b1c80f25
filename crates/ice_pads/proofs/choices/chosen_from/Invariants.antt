use Rattle.std.proofs.Common.{◌≡◌, [], drop}
use Rattle.ice_pads.specs.Globals.{first_choices}
use Rattle.ice_pads.proofs.choices.chosen_from.Given as goal

abbrev pub invariant-loop-buffer : goal.invariant-loop-buffer
invariant-loop-buffer l =
    first_choices l.fn.index.chip.now (record { taken = l.taken.items; free = l.free.items }) (drop l.buffer-index l.pins) ≡ first_choices l.fn.index.chip.now (record { taken = []; free = l.fn.free.items }) l.pins

use Rattle.std.proofs.Common.{◌≡◌, ◌++◌, [], drop}
use Rattle.ice_pads.specs.Globals.{direct_choices}
use Rattle.ice_pads.proofs.direct.direct_choices.Given as goal

abbrev pub invariant-loop-buffer : goal.invariant-loop-buffer
invariant-loop-buffer l = l.taken.items ++ direct_choices l.fn.index.chip.now l.taken.items (drop l.buffer-index l.buffers) ≡ direct_choices l.fn.index.chip.now [] l.buffers

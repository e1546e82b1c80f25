use Rattle.std.proofs.Common.{◌≡◌, drop}
use Rattle.std.specs.List.{find}
use Rattle.ice_pads.specs.Globals.{is_free_for}
use Rattle.ice_pads.proofs.direct.first_direct.Given as goal

abbrev pub invariant-loop-number : goal.invariant-loop-number
invariant-loop-number l = find (is_free_for l.fn.index.chip.now l.taken l.pins l.pad) l.numbers ≡ find (is_free_for l.fn.index.chip.now l.taken l.pins l.pad) (drop l.number-index l.numbers)

use Rattle.std.proofs.Common.{◌≡◌, false, take}
use Rattle.std.specs.List.{list_any}
use Rattle.ice_pads.specs.Ports.{is_fit}
use Rattle.ice_pads.proofs.choosing.first_fit.Given as goal

abbrev pub invariant-loop-place : goal.invariant-loop-place
invariant-loop-place l = list_any (is_fit l.chip l.tables.given.items l.progress.chosen.items l.want) (take l.place l.pads) ≡ false

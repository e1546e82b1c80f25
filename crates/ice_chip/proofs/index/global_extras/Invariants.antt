use Rattle.std.proofs.Common.{◌≡◌, [], drop, nat_eq}
use Rattle.ice_chip.specs.Indices.{firsts}
use Rattle.ice_chip.specs.Views.{parts_view}
use Rattle.ice_chip.proofs.index.global_extras.Given as goal

abbrev pub invariant-loop-row : goal.invariant-loop-row
invariant-loop-row l = firsts nat_eq [] (parts_view l.parts).padin ≡ firsts nat_eq l.extras.entries (drop l.row-index l.parts.padin.items)

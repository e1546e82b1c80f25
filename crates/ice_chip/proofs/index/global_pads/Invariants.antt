use Rattle.std.proofs.Common.{◌≡◌, [], drop, map, nat_eq}
use Rattle.ice_chip.specs.Lookups.{fed_pad}
use Rattle.ice_chip.specs.Indices.{firsts}
use Rattle.ice_chip.specs.Views.{parts_view}
use Rattle.ice_chip.proofs.index.global_pads.Given as goal

abbrev pub invariant-loop-row : goal.invariant-loop-row
invariant-loop-row l = firsts nat_eq [] (map fed_pad (parts_view l.parts).gbufpin) ≡ firsts nat_eq l.pads.entries (map fed_pad (drop l.row-index l.parts.gbufpin.items))

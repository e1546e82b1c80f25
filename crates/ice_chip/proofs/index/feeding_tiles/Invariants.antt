use Rattle.std.proofs.Common.{◌≡◌, [], drop, map, nat_eq}
use Rattle.ice_chip.specs.Lookups.{global_tile}
use Rattle.ice_chip.specs.Indices.{firsts}
use Rattle.ice_chip.specs.Views.{parts_view}
use Rattle.ice_chip.proofs.index.feeding_tiles.Given as goal

abbrev pub invariant-loop-row : goal.invariant-loop-row
invariant-loop-row l = firsts nat_eq [] (map global_tile (parts_view l.parts).gbufin) ≡ firsts nat_eq l.tiles.entries (map global_tile (drop l.row-index l.parts.gbufin.items))

use Rattle.std.proofs.Common.{◌≡◌, [], drop, filter}
use Rattle.ice_chip.specs.Database.{same_pad}
use Rattle.ice_chip.specs.Lookups.{enable_counts}
use Rattle.ice_chip.specs.Indices.{firsts}
use Rattle.ice_chip.specs.Views.{parts_view}
use Rattle.ice_chip.proofs.index.input_enables.Given as goal

abbrev pub invariant-loop-row : goal.invariant-loop-row
invariant-loop-row l = firsts same_pad [] (filter (enable_counts (parts_view l.parts).tiles) (parts_view l.parts).ieren) ≡ firsts same_pad l.enables.entries (filter (enable_counts (parts_view l.parts).tiles) (drop l.row-index l.parts.ieren.items))

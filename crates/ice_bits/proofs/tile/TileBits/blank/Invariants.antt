use Rattle.std.proofs.Common.{◌≡◌, false, replicate}
use Rattle.ice_bits.specs.TileRows.{rows_view}
use Rattle.ice_bits.proofs.tile.TileBits.blank.Given as goal

abbrev pub invariant-loop-row : goal.invariant-loop-row
invariant-loop-row l = rows_view l.rows.items ≡ replicate l._row (replicate l.columns false)

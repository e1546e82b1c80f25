use Rattle.std.proofs.Common.{◌≡◌}
use Rattle.ice_cells.specs.Pairs.{takes, lut_of}
use Rattle.ice_pack_share.specs.Turns.{AreCounted}
use Rattle.ice_cells.specs.Tables.{table}
use Rattle.ice_pack_share.proofs.pairing.take_luts.Given as goal

abbrev pub invariant-loop-c : goal.invariant-loop-c
invariant-loop-c l = (l.luts.items ≡ table (lut_of l.roles) l.c) × AreCounted takes l.roles l.c l.counts.entries

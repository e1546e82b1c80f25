use Rattle.std.proofs.Common.{◌≡◌, drop}
use Rattle.ice_blif.specs.Covers.{covers}
use Rattle.ice_blif.proofs.cover.covers.Given as goal

abbrev pub invariant-loop-i : goal.invariant-loop-i
invariant-loop-i l = covers l.row l.levels ≡ covers (drop l.i l.row) l.left

use Rattle.ice_cells.specs.Pairs.{gives}
use Rattle.ice_pack_share.specs.Turns.{AreByTurn, AreCounted}
use Rattle.ice_pack_share.proofs.pairing.luts_by_turn.Given as goal

abbrev pub invariant-loop-j : goal.invariant-loop-j
invariant-loop-j l = AreByTurn l.roles l.j l.luts.entries × AreCounted gives l.roles l.j l.counts.entries

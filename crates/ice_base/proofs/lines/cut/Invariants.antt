use Rattle.std.proofs.Common.{◌≡◌, take, drop}
use Rattle.ice_base.specs.Text.{lines}
use Rattle.ice_base.proofs.Cuts.{join_front}
use Rattle.ice_base.proofs.lines.cut.Given as goal

abbrev pub invariant-loop-i : goal.invariant-loop-i
invariant-loop-i l = lines l.text ≡ join_front (take l.i l.text) (lines (drop l.i l.text))

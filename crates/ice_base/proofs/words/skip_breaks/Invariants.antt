use Rattle.std.proofs.Common.{◌≡◌, drop}
use Rattle.ice_base.specs.Text.{words}
use Rattle.ice_base.proofs.words.skip_breaks.Given as goal

abbrev pub invariant-loop-i : goal.invariant-loop-i
invariant-loop-i l = words l.text ≡ words (drop l.i l.text)

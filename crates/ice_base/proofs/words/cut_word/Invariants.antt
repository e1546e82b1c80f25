use Rattle.std.proofs.Common.{◌≡◌, take, drop}
use Rattle.ice_base.specs.Text.{pieces}
use Rattle.ice_base.proofs.Cuts.{join_front}
use Rattle.ice_base.proofs.words.cut_word.Given as goal

abbrev pub invariant-loop-i : goal.invariant-loop-i
invariant-loop-i l = pieces l.text ≡ join_front (take l.i l.text) (pieces (drop l.i l.text))

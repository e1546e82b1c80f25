use Rattle.std.proofs.Common.{◌≡◌, false}
use Rattle.ice_emit_meaning_laws.specs.Feeds.{some_fed_below}
use Rattle.ice_emit_meaning_laws.proofs.feeds.some_fed_below.Given as goal

abbrev pub invariant-loop-lower : goal.invariant-loop-lower
invariant-loop-lower l = some_fed_below l.chip l.lower ≡ false

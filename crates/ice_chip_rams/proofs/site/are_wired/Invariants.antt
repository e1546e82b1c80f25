use Rattle.std.proofs.Common.{◌≡◌, true}
use Rattle.ice_chip_rams.specs.Sites.{is_wired, each_below}
use Rattle.ice_chip_rams.proofs.site.are_wired.Given as goal

abbrev pub invariant-loop-wire : goal.invariant-loop-wire
invariant-loop-wire l = each_below (is_wired l.chip l.site) l.wire ≡ true

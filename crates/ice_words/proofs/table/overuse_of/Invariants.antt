use Rattle.std.proofs.Common.{◌≡◌, ◌*◌, ◌≤◌, take}
use Rattle.ice_core.specs.Routes.{overuse}
use Rattle.ice_words.proofs.table.overuse_of.Given as goal

abbrev pub invariant-loop-count : goal.invariant-loop-count
invariant-loop-count l = (l.overuse ≡ overuse (take l.count-index l.counts)) × (l.overuse ≤ 65536 * l.count-index)
